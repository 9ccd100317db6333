-- `run_replay::figures::entry_with` meets its contract: the first entry that has the quantity, or none that has it.
use borrow.Author.Rules.{rules}
use borrow.Author.Tests.{tests}
use Rattle.std.proofs.Common.{◌≡◌, ◌∙◌, ℕ, true, false, sym}
use Rattle.std.specs.Option.{MatchOption}
use Rattle.std.specs.List.{AllWithin, HoldsAt}
use lib.Dec.{eqb}
use lib.ListN.{length}
use Prim.Native.Nat.{◌<◌}
use denote.Ref.{Bor}
use Rattle.std.proofs.lemmas.Iterator.{first_from_find, YieldsList-from_slice}
use Rattle.std.proofs.lemmas.Option.{MatchOption-at_some, MatchOption-at_none}
use Rattle.mbus_rules.specs.declared.Entry.{Entry}
use Rattle.mbus_rules.specs.Quantities.{quantity_of}
use Rattle.run_replay.proofs.Laws.Telling.{entry_first, entry_none}
use Rattle.run_replay.proofs.figures.entry_with.Goals.{After-find}
use Rattle.run_replay.proofs.figures.entry_with.Goals as goal

abbrev has : ℕ → Entry → Type 0
has q e = eqb (quantity_of e.unit) q ≡ true

abbrev lacks : ℕ → Entry → Type 0
lacks q e = eqb (quantity_of e.unit) q ≡ false

found : (c : After-find) → MatchOption c.find.result (AllWithin (lacks c.args.quantity) c.args.entries.now 0 (length c.args.entries.now))
    (λ (x : Bor Entry). has c.args.quantity x.now × (i : ℕ) × (i < length c.args.entries.now) × HoldsAt (λ y. y ≡ x.now) c.args.entries.now i × AllWithin (lacks c.args.quantity) c.args.entries.now 0 i)
found c =
    let q = c.args.quantity in
    first_from_find _ _ c.find.result (has q) (lacks q) c.find.ensures.ran (YieldsList-from_slice c.args.entries.now cc)
    (λ x k p. search (rules, tests)) (λ x k p. search (rules, tests))

pub returns-in-Some : goal.returns-in-Some
returns-in-Some c =
    let f = MatchOption-at_some _ _ _ c.in-Some.is (found (goal.at.returns-in-Some c).After-find) in
    sym (entry_first c.args.quantity c.args.entries.now f.1 c.in-Some.e.now f.2 f.4 (f.3 c.in-Some.e.now) f.0)

pub returns-in-None : goal.returns-in-None
returns-in-None c =
    c.blank_entry.ensures ∙ sym (entry_none c.args.quantity c.args.entries.now (MatchOption-at_none _ _ c.in-None.is (found (goal.at.returns-in-None c).After-find)))
