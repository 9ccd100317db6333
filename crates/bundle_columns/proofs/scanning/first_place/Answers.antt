-- `bundle_columns::scanning::first_place` meets its contract: what stands in front of the first that has the position, or all of it.
use borrow.Author.Rules.{rules}
use borrow.Author.Tests.{tests}
use mathlib.Core.Path.{◌≡◌, sym, ap, ◌∙◌}
use mathlib.Core.Bool.{true, false}
use Prim.Native.Nat.{ℕ, ◌+◌, ◌-◌}
use lib.Dec.{eqb}
use lib.ListN.{length, take, drop, length-drop}
use mathlib.Core.List.{List}
use lib.Seq.{take_all}
use native.Mathlib.Omega.{arith}
use Rattle.std.proofs.Common.{unwrap_or}
use Rattle.std.proofs.lemmas.Iterator.{index_from_first, IsFirst-from_position, YieldsList-from_slice}
use Rattle.bundle_columns.specs.Lookups.{is_position, in_front}
use Rattle.bundle_columns.proofs.Laws.Scanning.{front_none, front_hit, front_miss}
use Rattle.bundle_columns.proofs.scanning.first_place.Goals.{After-position}
use Rattle.bundle_columns.proofs.scanning.first_place.Goals as goal

-- what is looked at, as the code cuts it off
abbrev rest : List ℕ → ℕ → List ℕ
rest s from = take (length s - from) (drop from s)

rest-is : (s : List ℕ) (from : ℕ) → rest s from ≡ drop from s
rest-is s from = take_all (length s - from) (drop from s) (omega (arith, length-drop from s))

first : (c : After-position) → in_front (is_position c.args.position) (rest c.args.positions.now c.args.from)
    ≡ unwrap_or c.position.result (length (rest c.args.positions.now c.args.from))
first c =
    let p = c.args.position in
    let s = rest c.args.positions.now c.args.from in
    index_from_first (in_front (is_position p)) (λ x. eqb x p ≡ true) (λ x. eqb x p ≡ false) (front_none p) (front_hit p) (front_miss p)
    s c.position.result
    (IsFirst-from_position _ _ c.position.result (λ x. eqb x p ≡ true) (λ x. eqb x p ≡ false) c.position.ensures.ran
    (YieldsList-from_slice s c.iter.ensures.rest) (λ x k q. search (rules, tests)) (λ x k q. search (rules, tests)))

pub returns : goal.returns
returns c =
    let a = c.args in
    ap (λ (n : ℕ). a.from + n)
    (c.unwrap_or-passed.ensures ∙ sym (first (goal.at.returns c).After-position)
    ∙ ap (in_front (is_position a.position)) (rest-is a.positions.now a.from))
