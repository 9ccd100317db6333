-- Laws of `specs/Rows`.
use Prim.Native.Nat.{ℕ, ◌+◌, ◌^◌, ◌≤◌, ◌<◌}
use mathlib.Core.Bool.{true, false}
use mathlib.Core.List.{List}
use mathlib.Core.Path.{◌≡◌, refl, ap}
use native.Mathlib.Omega.{arith}
use borrow.Author.Tests.{ltb-false}
use lib.Dec.{ltb}
use lib.ListN.{length, take, drop}
use Rattle.base_rules.specs.Lists.{at}
use Rattle.base_rules.specs.Answers.{Answer, reads, refusal}
use Rattle.base_numbers.specs.Numbers.{number, bytes_of}
use Rattle.base_numbers.proofs.Laws.Numbers.{number_bytes}
use Rattle.base_lent.specs.Copying.{copied}
use Rattle.base_lent.specs.Lent.{done, needs}
use Rattle.base_lent.proofs.Laws.LentLaws.{leaves_all, leaves_copied}
use Rattle.bundle_rows.specs.declared.Row.{Row}
use Rattle.std.specs.Prelude.{Result, Ok, Err}
use Rattle.base_rules.specs.declared.refusals.Refusal.{Refusal}
use Rattle.base_rules.specs.Shown.{shown, refused_by}
use Rattle.host_bundle.specs.Rows.{row_record, row_found, GivesRow}

-- Laws: the record's size; too little room, and the two cases of the row.
pub length_record : (r : Row) → length (row_record r) ≡ 12
unfolding bytes_of
length_record r = refl

-- What C reads at the places of struct skarrowith_row are the row's fields.
pub record FieldsRead (r : Row) (s : List ℕ) : Type 0 where
  pub time : number (take 4 s) ≡ r.time
  pub offset : number (take 4 (drop 4 s)) ≡ r.offset
  pub size : number (take 2 (drop 8 s)) ≡ r.length
  pub position : at s 10 ≡ r.position
  pub direction : at s 11 ≡ r.direction

pub fields_read : (r : Row) → r.time < 256 ^ 4 → r.offset < 256 ^ 4 → r.length < 256 ^ 2 → FieldsRead r (row_record r)
unfolding bytes_of
fields_read r t o l = record {
  time = number_bytes 4 r.time t;
  offset = number_bytes 4 r.offset o;
  size = number_bytes 2 r.length l;
  position = refl;
  direction = refl;
}

-- what was found is what the rule gives
pub found_row : (a : Answer Row) → row_found (shown a) ≡ a
found_row (reads r) = refl
found_row (refusal n) = refl

module _ (found : Result Row Refusal) (out : List ℕ) where
  pub row_short : ltb (length out) 12 ≡ true → GivesRow (needs 12 out (row_found found)) out (256 + 21) out
  row_short e = rw e (leaves_all row_record out done refl)

  module _ (e : ltb (length out) 12 ≡ false) where
    pub row_number : {n : ℕ} → found ≡ Err (refused_by n) → GivesRow (needs 12 out (row_found found)) out (256 + n) out
    row_number g = rw e (leaves_all row_record out done (ap row_found g))

    pub row_value : {r : Row} {x after : List ℕ} → found ≡ Ok r → x ≡ row_record r → after ≡ copied out 0 x
        → GivesRow (needs 12 out (row_found found)) out 0 after
    row_value {r} {x} g h k =
        let room : length x ≤ length out = omega (arith, ap length h, length_record r, ltb-false (length out) 12 e) in
        rw e (leaves_copied row_record out done (ap row_found g) h room k refl)
