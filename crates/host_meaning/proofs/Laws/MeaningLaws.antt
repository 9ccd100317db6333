-- Laws: a small number as a byte in two's complement, and the ways out of the call.
use Prim.Native.Nat.{ℕ, ◌+◌, ◌-◌, ◌%◌, ◌<◌, ◌≤◌}
use mathlib.Core.Bool.{true, false}
use mathlib.Core.List.{List, [], ◌∷◌}
use mathlib.Core.Path.{◌≡◌, refl, sym, ap, ◌∙◌}
use native.Mathlib.Omega.{arith}
use borrow.Author.Tests.{lt-ltb, le-ltb, ltb-true, ltb-false}
use lib.Dec.{eqb, ltb}
use lib.IntN.{sub_ℕ}
use lib.ListN.{length}
use Rattle.base_rules.specs.Answers.{reads, refusal}
use Rattle.base_rules.proofs.Laws.Tests.{by_test}
use Rattle.base_numbers.specs.TwosComplement.{binary_bytes}
use Rattle.base_numbers.specs.Numbers.{bytes_of}
use Rattle.mbus_rules.specs.declared.UnitRow.{UnitRow}
use Rattle.mbus_rules.specs.Quantities.{row_of, quantity_of, unit_of, power_of, unknown}
use Rattle.base_lent.specs.Copying.{copied}
use Rattle.base_lent.specs.Lent.{done, Leaves}
use Rattle.base_lent.proofs.Laws.LentLaws.{leaves_all, leaves_copied, none_copied}
use Rattle.host_meaning.specs.Meanings.{meant, meaning_bytes, meaning_for}

-- ---- a number less another, each a byte

byte_below : (n by : ℕ) → n < by → by < 256 → binary_bytes 1 (sub_ℕ n by) ≡ ((n + (256 - by)) % 256) ∷ []
unfolding bytes_of
byte_below n by h f = rw (lt-ltb n by h) (ap (λ (x : ℕ). x ∷ []) (omega arith))

byte_from : (n by : ℕ) → by ≤ n → n < 256 → binary_bytes 1 (sub_ℕ n by) ≡ ((n + (256 - by)) % 256) ∷ []
unfolding bytes_of
byte_from n by h f = rw (le-ltb n by h) (ap (λ (x : ℕ). x ∷ []) (omega arith))

pub byte_less : (n by : ℕ) → n < 256 → by < 256 → binary_bytes 1 (sub_ℕ n by) ≡ ((n + (256 - by)) % 256) ∷ []
byte_less n by h f =
    by_test (ltb n by) (λ t. byte_below n by (ltb-true n by t) f) (λ t. byte_from n by (ltb-false n by t) h)

-- ---- the ways out

module _ (u : ℕ) (out : List ℕ) {r : UnitRow} (row : r ≡ row_of u) where
  abbrev Meant : List ℕ → ℕ → Type 0
  Meant after n = Leaves done meaning_bytes (meaning_for u out) out after n

  quantity : quantity_of u ≡ r.quantity
  unfolding quantity_of
  quantity = ap (λ (x : UnitRow). x.quantity) (sym row)

  measure : unit_of u ≡ r.unit
  unfolding unit_of
  measure = ap (λ (x : UnitRow). x.unit) (sym row)

  pub in_no_row : eqb r.quantity unknown ≡ true → Meant out (256 + 11)
  in_no_row e =
      let a : meaning_for u out ≡ refusal 11 = rw (quantity, e) in
      leaves_all meaning_bytes out done a

  module _ (e : eqb r.quantity unknown ≡ false) {power : ℕ} (p : binary_bytes 1 (power_of u) ≡ power ∷ []) {after : List ℕ}
      (l : after ≡ copied out 0 (r.quantity ∷ r.unit ∷ power ∷ 0 ∷ [])) where
    known : eqb (quantity_of u) unknown ≡ false
    known = rw quantity e

    pub no_place : ltb (length out) 4 ≡ true → Meant after (256 + 21)
    no_place s =
        let a : meaning_for u out ≡ refusal 21 = rw (known, s) in
        rw (l ∙ none_copied out (r.quantity ∷ r.unit ∷ power ∷ 0 ∷ []) s) (leaves_all meaning_bytes out done a)

    pub in_place_lem : ltb (length out) 4 ≡ false → Meant after 0
    in_place_lem s =
        let a : meaning_for u out ≡ reads (meant (quantity_of u) (unit_of u) (power_of u)) = rw (known, s) in
        let w : r.quantity ∷ r.unit ∷ power ∷ 0 ∷ [] ≡ meaning_bytes (meant (quantity_of u) (unit_of u) (power_of u)) = rw (p, quantity, measure) in
        leaves_copied meaning_bytes out done a w (ltb-false (length out) 4 s) l refl
