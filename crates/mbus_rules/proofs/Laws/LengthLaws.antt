-- 02, 2026-06: "L now runs from 35 to 83 and the longest line has 89 characters".
use Prim.Native.Nat.{ℕ, ◌+◌, ◌*◌, ◌≤◌}
use mathlib.Core.Bool.{Bool, true, false, cond, not, ◌||◌}
use mathlib.Core.List.{List, [], ◌∷◌, ◌++◌}
use mathlib.Core.Path.{◌≡◌, sym, ◌∙◌}
use native.Mathlib.Omega.{arith}
use borrow.Author.Tests.{eqb-true, not-false}
use lib.Dec.{eqb, ltb, lit≤}
use lib.ListN.{length, length-append}
use Rattle.mbus_rules.specs.declared.Entry.{Entry}
use Rattle.base_rules.specs.Lists.{any}
use Rattle.mbus_rules.specs.Quantities.{quantity_of, width_of, paired, is_time, is_packed, is_binary, unknown, energy, volume, inlet, outlet, time}
use Rattle.mbus_rules.specs.Entries.{seen, missing}
use Rattle.mbus_rules.specs.Writing.{bytes_of_entry, bytes_of_entries, wrong_value, wrong_entry}
use Rattle.base_rules.proofs.Laws.TestLaws.{none, every, picked}
use Rattle.base_rules.proofs.Laws.Tests.{by_test}
use Rattle.mbus_rules.proofs.Laws.RowLaws.{time_quantity, missing_five, width_most, width_least}
use Rattle.mbus_rules.proofs.Laws.EntryLaws.{entry_written, six_wide}

-- ---- the least that the required quantities take: 8 for the point in time, 3 for each other

abbrev takes : Bool → ℕ → ℕ
takes there n = cond there n 0

abbrev owed : Bool → Bool → Bool → Bool → Bool → ℕ
owed a b c d e = takes a 3 + takes b 3 + takes c 3 + takes d 3 + takes e 8

abbrev owes : (ℕ → Bool) → ℕ
owes there = owed (there energy) (there volume) (there inlet) (there outlet) (there time)

takes_or : (a b : Bool) (n : ℕ) → takes (a || b) n ≤ takes a n + takes b n
takes_or true b n = omega arith
takes_or false b n = omega arith

owes_or : (a b : ℕ → Bool) → owes (λ q. a q || b q) ≤ owes a + owes b
owes_or a b =
    omega (
      arith,
      takes_or (a energy) (b energy) 3,
      takes_or (a volume) (b volume) 3,
      takes_or (a inlet) (b inlet) 3,
      takes_or (a outlet) (b outlet) 3,
      takes_or (a time) (b time) 8,
    )

-- a quantity is at most one of them
one_owed : (n : ℕ) → owes (eqb n) ≤ cond (eqb n time) 8 3
one_owed n =
    by_test (eqb n energy) (λ a. rw (eqb-true n energy a) (lit≤ tt)) λ a.
    by_test (eqb n volume) (λ b. rw (eqb-true n volume b) (lit≤ tt)) λ b.
    by_test (eqb n inlet) (λ c. rw (eqb-true n inlet c) (lit≤ tt)) λ c.
    by_test (eqb n outlet) (λ d. rw (eqb-true n outlet d) (lit≤ tt)) λ d.
    by_test (eqb n time) (λ e. rw (eqb-true n time e) (lit≤ tt)) λ e.
    rw (a, b, c, d, e) (lit≤ tt)

-- what one entry takes: the least of its quantity, and ten at most, of a point in time two less
record Takes (e : Entry) : Type 0 where
  pub least : owes (eqb (quantity_of e.unit)) ≤ 2 + width_of e.structure
  pub most : 2 + width_of e.structure + takes (eqb (quantity_of e.unit) time) 2 ≤ 10

entry_takes : (e : Entry) → wrong_entry e ≡ false → Takes e
unfolding paired
entry_takes e h =
    let st : ℕ = e.structure in
    let u : ℕ = e.unit in
    let k = none (not (paired st u)) (wrong_value st u e.value ∷ []) h in
    let pair : paired st u ≡ true = not-false (paired st u) k.0 in
    let one : owes (eqb (quantity_of u)) ≤ cond (eqb (quantity_of u) time) 8 3 = one_owed (quantity_of u) in
    by_test (is_time u)
    (λ q.
    let w : width_of st ≡ 6 = six_wide st u pair q in
    let eight : cond (eqb (quantity_of u) time) 8 3 ≤ 8 = picked (λ (n : ℕ). n ≤ 8) (eqb (quantity_of u) time) 8 3 (lit≤ tt) (lit≤ tt) in
    let two : takes (eqb (quantity_of u) time) 2 ≤ 2 = picked (λ (n : ℕ). n ≤ 2) (eqb (quantity_of u) time) 2 0 (lit≤ tt) (lit≤ tt) in
    record { least = omega arith; most = omega arith })
    (λ q.
    let p = every (is_packed st || is_binary st) (ltb (quantity_of u) unknown ∷ []) (rw q at pair) in
    let w : 1 ≤ width_of st = width_least st p.0 in
    let m : width_of st ≤ 8 = width_most st in
    let less : cond (eqb (quantity_of u) time) 8 3 ≤ 3 = rw (time_quantity u, q) (lit≤ tt) in
    let none_more : takes (eqb (quantity_of u) time) 2 ≤ 0 = rw (time_quantity u, q) (lit≤ tt) in
    record { least = omega arith; most = omega arith })

-- ---- all entries

pub record Lengths (es : List Entry) : Type 0 where
  pub least : owes (λ q. seen q es) ≤ length (bytes_of_entries es)
  pub most : length (bytes_of_entries es) + takes (seen time es) 2 ≤ 10 * length es

lengths : (es : List Entry) → any wrong_entry es ≡ false → Lengths es
unfolding any bytes_of_entries
lengths [] h = record { least = lit≤ tt; most = lit≤ tt }
lengths (e ∷ es) h =
    let k = none (wrong_entry e) (any wrong_entry es ∷ []) h in
    let r : Lengths es = lengths es k.1.0 in
    let w : length (bytes_of_entry e) ≡ 2 + width_of e.structure = (entry_written e [] k.0).width in
    let t : Takes e = entry_takes e k.0 in
    let l : length (bytes_of_entry e ++ bytes_of_entries es) ≡ length (bytes_of_entry e) + length (bytes_of_entries es) = length-append (bytes_of_entry e)
    (bytes_of_entries es) in
    let one : owes (eqb (quantity_of e.unit)) ≤ 2 + width_of e.structure = t.least in
    let ten : 2 + width_of e.structure + takes (eqb (quantity_of e.unit) time) 2 ≤ 10 = t.most in
    let once : takes (eqb (quantity_of e.unit) time || seen time es) 2 ≤ takes (eqb (quantity_of e.unit) time) 2 + takes (seen time es) 2 =
    takes_or (eqb (quantity_of e.unit) time) (seen time es) 2 in
    let rest : length (bytes_of_entries es) + takes (seen time es) 2 ≤ 10 * length es = r.most in
    let o : owes (λ q. eqb (quantity_of e.unit) q || seen q es) ≤ owes (eqb (quantity_of e.unit)) + owes (λ q. seen q es) =
    owes_or (eqb (quantity_of e.unit)) (λ q. seen q es) in
    record { least = omega arith; most = omega arith }

pub entries_least : (es : List Entry) → any wrong_entry es ≡ false → missing es ≡ false → 20 ≤ length (bytes_of_entries es)
entries_least es h m =
    let k = none (not (seen energy es)) (not (seen volume es) ∷ not (seen inlet es) ∷ not (seen outlet es) ∷ not (seen time es) ∷ [])
    (sym (missing_five (λ q. seen q es)) ∙ m) in
    rw (
      not-false (seen energy es) k.0,
      not-false (seen volume es) k.1.0,
      not-false (seen inlet es) k.1.1.0,
      not-false (seen outlet es) k.1.1.1.0,
      not-false (seen time es) k.1.1.1.1.0,
    ) at (lengths es h).least

pub entries_most : (es : List Entry) → any wrong_entry es ≡ false → missing es ≡ false → length es ≤ 7 → length (bytes_of_entries es) ≤ 68
entries_most es h m few =
    let k = none (not (seen energy es)) (not (seen volume es) ∷ not (seen inlet es) ∷ not (seen outlet es) ∷ not (seen time es) ∷ [])
    (sym (missing_five (λ q. seen q es)) ∙ m) in
    let l : length (bytes_of_entries es) + 2 ≤ 10 * length es = rw (not-false (seen time es) k.1.1.1.1.0) at (lengths es h).most in
    omega arith
