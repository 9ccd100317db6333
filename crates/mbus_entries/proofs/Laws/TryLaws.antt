-- What the tests and calls about one entry tell of it.
use Prim.Native.Nat.{ℕ, ◌+◌, ◌-◌, ◌≤◌, ◌<◌}
use mathlib.Core.Bool.{Bool, true, false, not, ◌&&◌, ◌||◌, true≢false, or-true, or-false, and-false}
use mathlib.Core.List.{List, [], ◌∷◌}
use mathlib.Core.Path.{◌≡◌, refl, sym, ap, ◌∙◌}
use native.Mathlib.Nat.{add-sub_cancel_left}
use native.Mathlib.Omega.{arith}
use borrow.Author.Tests.{eqb-true, eqb-false, ne_eqb, le-ltb, lt-ltb, ltb-false, leb-true, leb-false, not-false}
use lib.Dec.{ltb, leb, eqb}
use lib.ListN.{length, get_or, take, drop, length-take, length-drop}
use Rattle.mbus_rules.specs.declared.Value.{Value}
use Rattle.base_rules.specs.Lists.{at}
use Rattle.base_rules.specs.Answers.{Answer, reads, refusal, within, follow}
use Rattle.mbus_rules.specs.Quantities.{quantity_of, width_of, paired, is_time, is_packed, is_binary, time, unknown}
use Rattle.mbus_rules.specs.Entries.{value_bytes, unfit}
use Rattle.base_rules.specs.Bytes.{Bytes}
use Rattle.base_rules.proofs.Laws.ByteLaws.{bytes_take, bytes_drop}
use Rattle.mbus_rules.proofs.Laws.RowLaws.{time_quantity, quantity_few, width_most, low_packed, high_binary}
use Rattle.base_rules.proofs.Laws.Tests.{by_test, neither, passed}
use Rattle.base_rules.proofs.Laws.TestLaws.{every, not_refused, within_reads}
use Rattle.base_numbers.specs.Numbers.{number}
use Rattle.mbus_fields.specs.declared.digits.Signed.{Signed}
use Rattle.mbus_fields.specs.declared.digits.Wide.{Wide}
use Rattle.mbus_fields.specs.Fields.{signed_by, signed_in, goes_with, wide_of}
use Rattle.mbus_fields.proofs.Laws.MarkLaws.{signed_by_lem}
use Rattle.mbus_fields.proofs.Laws.TableLaws.{goes_paired}
use Rattle.std.proofs.Common.{Result, Ok, Err, Some, None}
use Rattle.base_rules.specs.declared.refusals.Refusal.{Refusal}
use Rattle.base_rules.specs.Shown.{shown, refused_by}
use Rattle.base_rules.proofs.Laws.AnswerLaws.{shown_ok, shown_err}
use Rattle.mbus_entries.specs.declared.entry.Taken.{Taken}
use Rattle.mbus_entries.specs.Trying.{Long, Led, low_valued, digits_valued, valued, taken_with}
use Rattle.mbus_entries.specs.Trying.{taken_of, tried, next_of}

-- ---- the structure

-- what a structure below 8 is paired with is a point in time or binary
low_valued_lem : (st unit : ℕ) (b : List ℕ) → st < 8 → paired st unit ≡ true → low_valued unit b ≡ valued st unit b
unfolding paired
low_valued_lem st unit b h p =
    by_test (is_time unit) (λ i. rw i) λ i.
    rw (i, (every (is_binary st) (ltb (quantity_of unit) unknown ∷ []) (rw (i, low_packed st h) at p)).0)

-- and from 8 on digits
high_valued : (st unit : ℕ) (b : List ℕ) → 8 ≤ st → is_time unit ≡ false → digits_valued unit (signed_in b) ≡ valued st unit b
high_valued st unit b h i = rw (i, high_binary st h)

known_row : (q : ℕ) → eqb q time ≡ false → ltb q unknown ≡ not (leb time q)
known_row q n =
    by_test (leb time q) (λ t. rw t (le-ltb q unknown (omega (arith, leb-true time q t, eqb-false q time n))))
    (λ t. rw t (lt-ltb q unknown (omega (arith, leb-false time q t))))

high_paired : (st u : ℕ) → 8 ≤ st → paired st u ≡ (is_packed st && not (leb time (quantity_of u)))
unfolding paired
high_paired st u h =
    by_test (is_time u)
    (λ i. rw (i, ne_eqb st 0x06 (λ e. omega arith), eqb-true (quantity_of u) time (time_quantity u ∙ i)) (sym (and-false (is_packed st))))
    (λ i. rw (i, high_binary st h, or-false, known_row (quantity_of u) (time_quantity u ∙ i)))

-- ---- the entry

pub one_left : (s : List ℕ) → length s < 2 → Err (refused_by 11) ≡ shown (tried s)
one_left s h = rw (lt-ltb (length s) 2 h)

-- past 11 the answer is the value's
module _ {s : List ℕ} {q w : ℕ} {x : Result Value Refusal} (l : Led s q) (f : unfit s ≡ false) (e : w ≡ width_of (at s 0))
    (h : x ≡ shown (valued (at s 0) (at s 1) (value_bytes s))) where
  led_refused : {n : Refusal} → x ≡ Err n → Err n ≡ shown (tried s)
  led_refused {n} i = rw (f, shown_err (valued (at s 0) (at s 1) (value_bytes s)) n.0 (sym h ∙ i))

  led_taken : {v : Value} → x ≡ Ok v → Ok (taken_with (at s 0) (at s 1) q w v) ≡ shown (tried s)
  led_taken {v} i = rw (f, shown_ok (valued (at s 0) (at s 1) (value_bytes s)) v (sym h ∙ i), l.quantity, e)

-- what was read of an entry whose structure is below 8
pub record Told (s : List ℕ) (q w : ℕ) (p : Bool) : Type 0 where
  pub led : Led s q
  pub below : at s 0 < 8
  pub width : w ≡ width_of (at s 0)
  pub pair : p ≡ goes_with (at s 0) q

module _ {s : List ℕ} {q w : ℕ} {p : Bool} (t : Told s q w p) where
  paired_told : paired (at s 0) (at s 1) ≡ p
  paired_told = sym (t.pair ∙ ap (goes_with (at s 0)) t.led.quantity ∙ goes_paired (at s 0) (at s 1))

  unfit_told : unfit s ≡ (not p || ltb (length s) (2 + w))
  unfit_told = rw (le-ltb (length s) 2 t.led.two, paired_told) (rw t.width)

  pub told_unfit : (not p || ltb (length s) (2 + w)) ≡ true → Err (refused_by 11) ≡ shown (tried s)
  told_unfit e = rw (unfit_told ∙ e)

  pub told_narrow : w ≤ 8
  told_narrow = omega (arith, t.width, width_most (at s 0))

  -- 11 has let the entry pass
  module _ (f : (not p || ltb (length s) (2 + w)) ≡ false) where
    fit_pair : p ≡ true
    fit_pair = not-false p (neither (not p) (ltb (length s) (2 + w)) f).0

    fit_width : w ≡ width_of (at s 0)
    fit_width = t.width

    pub told_inside : 2 + w ≤ length s
    told_inside = ltb-false (length s) (2 + w) (neither (not p) (ltb (length s) (2 + w)) f).1

    cut : take (2 + w - 2) (drop 2 s) ≡ value_bytes s
    cut = ap (λ (n : ℕ). take n (drop 2 s)) (add-sub_cancel_left 2 w ∙ fit_width)

    time_wide : is_time (at s 1) ≡ true → w ≡ 6
    unfolding paired width_of
    time_wide i =
        let pair : paired (at s 0) (at s 1) ≡ true = paired_told ∙ fit_pair in
        fit_width ∙ ap width_of (eqb-true (at s 0) 0x06 (rw i at pair))

    pub told_long : Long (at s 1) (take (2 + w - 2) (drop 2 s))
    told_long = record {
      most = omega (arith, fit_width, width_most (at s 0), length-take (2 + w - 2) (drop 2 s));
      time = λ i. omega (arith, time_wide i, told_inside, length-take (2 + w - 2) (drop 2 s), length-drop 2 s);
    }

    module _ {x : Result Value Refusal} (e : x ≡ shown (low_valued (at s 1) (take (2 + w - 2) (drop 2 s)))) where
      told_value : x ≡ shown (valued (at s 0) (at s 1) (value_bytes s))
      told_value =
          e ∙ ap (λ (b : List ℕ). shown (low_valued (at s 1) b)) cut
          ∙ ap shown (low_valued_lem (at s 0) (at s 1) (value_bytes s) t.below (paired_told ∙ fit_pair))

      pub told_refused : {n : Refusal} → x ≡ Err n → Err n ≡ shown (tried s)
      told_refused = led_refused t.led (unfit_told ∙ f) fit_width told_value

      pub told_taken : {v : Value} → x ≡ Ok v → Ok (taken_with (at s 0) (at s 1) q w v) ≡ shown (tried s)
      told_taken = led_taken t.led (unfit_told ∙ f) fit_width told_value

-- what was read of an entry whose structure is 8 or more
module _ {s : List ℕ} {q : ℕ} (l : Led s q) (h : 8 ≤ at s 0) where
  unfit_wide : unfit s ≡ (not (is_packed (at s 0) && not (leb time q)) || ltb (length s) (2 + width_of (at s 0)))
  unfit_wide = rw (le-ltb (length s) 2 l.two, high_paired (at s 0) (at s 1) h, l.quantity)

  unfit_some : (p f g : Bool) → (not (p && not g) || f) ≡ false → (p ≡ true) × (f ≡ false)
  unfit_some true false g e = (refl, refl)
  unfit_some true true g e = absurd (true≢false (sym (or-true (not (not g))) ∙ e))
  unfit_some false f g e = absurd (true≢false e)

  unfit_not : (p f g : Bool) → p ≡ true → f ≡ false → g ≡ false → (not (p && not g) || f) ≡ false
  unfit_not p f g a b c = rw (a, b, c)

  pub wide_none : ((x : Wide) → wide_of (at s 0) s ≡ Some x → ⊥) → Err (refused_by 11) ≡ shown (tried s)
  wide_none n = by_test (unfit s) (λ u. rw u) λ u.
      let k = unfit_some (is_packed (at s 0)) (ltb (length s) (2 + width_of (at s 0))) (leb time q) (sym unfit_wide ∙ u) in
      absurd (n (record { width = width_of (at s 0); word = number (value_bytes s) }) (rw (k.0, k.1)))

  pub wide_time : leb time q ≡ true → Err (refused_by 11) ≡ shown (tried s)
  wide_time t =
      let u : unfit s ≡ true = rw (t, and-false (is_packed (at s 0))) at unfit_wide in
      rw u

  -- 11 has let the entry pass
  module _ {x : Wide} (e : Some x ≡ wide_of (at s 0) s) (t : leb time q ≡ false) where
    fit_wide : (is_packed (at s 0) ≡ true) × (ltb (length s) (2 + width_of (at s 0)) ≡ false)
    fit_wide =
        by_test (is_packed (at s 0))
        (λ p. by_test (ltb (length s) (2 + width_of (at s 0))) (λ f. absurd (none (rw (p, f) at e))) (λ f. (p, f)))
        (λ p. absurd (none (rw p at e)))
      where
        none : Some x ≡ None → ⊥
        none n = cc

    wide_fits : unfit s ≡ false
    wide_fits = unfit_wide ∙ unfit_not (is_packed (at s 0)) (ltb (length s) (2 + width_of (at s 0))) (leb time q) fit_wide.0 fit_wide.1 t

    wide_so : x ≡ record { width = width_of (at s 0); word = number (value_bytes s) }
    wide_so = let so = rw (fit_wide.0, fit_wide.1) at e in cc

    no_time : is_time (at s 1) ≡ false
    no_time = by_test (is_time (at s 1)) (λ i. absurd (true≢false (rw (row i) at t))) (λ i. i)
      where
        row : is_time (at s 1) ≡ true → q ≡ time
        row i = l.quantity ∙ eqb-true (quantity_of (at s 1)) time (time_quantity (at s 1) ∙ i)

    module _ (known : Bytes s) {n : Signed} (en : n ≡ signed_by x.width x.word) where
      told-signed : n ≡ signed_in (value_bytes s)
      told-signed =
          let inside : 2 + width_of (at s 0) ≤ length s = ltb-false (length s) (2 + width_of (at s 0)) fit_wide.1 in
          let wide : length (value_bytes s) ≡ width_of (at s 0) = omega (arith, length-take (width_of (at s 0)) (drop 2 s), length-drop 2 s) in
          en ∙ (λ i. signed_by (wide_so i).width (wide_so i).word)
          ∙ ap (λ (k : ℕ). signed_by k (number (value_bytes s))) (sym wide)
          ∙ signed_by_lem (value_bytes s) (bytes_take (width_of (at s 0)) (drop 2 s) (bytes_drop 2 s known)) (omega (arith, width_most (at s 0)))

      module _ {v : Result Value Refusal} (ev : v ≡ shown (digits_valued (at s 1) n)) where
        wide_value : v ≡ shown (valued (at s 0) (at s 1) (value_bytes s))
        wide_value =
            ev ∙ ap (λ (m : Signed). shown (digits_valued (at s 1) m)) told-signed
            ∙ ap shown (high_valued (at s 0) (at s 1) (value_bytes s) h no_time)

        pub wide_refused : {r : Refusal} → v ≡ Err r → Err r ≡ shown (tried s)
        wide_refused = led_refused l wide_fits (ap (λ (y : Wide). y.width) wide_so) wide_value

        pub wide_taken : {u : Value} → v ≡ Ok u → Ok (taken_with (at s 0) (at s 1) q x.width u) ≡ shown (tried s)
        wide_taken = led_taken l wide_fits (ap (λ (y : Wide). y.width) wide_so) wide_value

-- ---- the next entry

pub follow_reads : {A B : Type 0} {b : B} (x : Answer A) (next : A → Answer B) → follow x next ≡ reads b → (a : A) × (x ≡ reads a) × (next a ≡ reads b)
follow_reads (refusal n) next e = absurd (not_refused e)
follow_reads (reads a) next e = (a, refl, e)

-- an entry that 11 to 13 let pass is the one that the list begins with
pub tried_reads : (s : List ℕ) {t : Taken} → tried s ≡ reads t → (unfit s ≡ false) × (v : Value) × (taken_of s v ≡ t)
tried_reads s {t} e =
    let p = passed 11 (unfit s) (within (taken_of s) (valued (at s 0) (at s 1) (value_bytes s))) t e in
    let h = within_reads (taken_of s) (valued (at s 0) (at s 1) (value_bytes s)) p.1 in
    (p.0, h.0, h.2)

module _ (s : List ℕ) (marks : List Bool) {x : Result Taken Refusal} (e : x ≡ shown (tried s)) where
  module _ {t : Taken} (h : x ≡ Ok t) where
    next_is : tried s ≡ reads t
    next_is = shown_ok (tried s) t (sym e ∙ h)

    pub next_few : t.quantity < 8
    next_few =
        let k = tried_reads s next_is in
        omega (arith, ap (λ (z : Taken). z.quantity) k.2, quantity_few (at s 1))

    pub next_seen : get_or marks t.quantity false ≡ true → Err (refused_by 14) ≡ shown (next_of s marks)
    next_seen m = rw (next_is, m)

    pub next_passed : get_or marks t.quantity false ≡ false → Ok t ≡ shown (next_of s marks)
    next_passed m = rw (next_is, m)
