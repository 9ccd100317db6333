-- `cjt_energy::entry_for` meets its contract.
use mathlib.Core.Bool.{true, not}
use mathlib.Core.Path.{◌≡◌, sym, ap, ◌∙◌}
use native.Mathlib.Omega.{arith}
use borrow.Author.Tests.{not-false}
use lib.IntN.{pos}
use mir.Syntax.{w64}
use mir.ValLaws.{to_z-of_z}
use Rattle.cjt_rules.specs.CjtUnits.{energy_code}
use Rattle.cjt_energy.specs.Energies.{entry_for}
use Rattle.cjt_energy.proofs.Laws.Energies.{count_small, rest_found}
use borrow.Author.Tests.{le-ltb, lt-ltb}
use mathlib.Core.Path.{ap}
use mathlib.Core.Bool.{not}
use Rattle.cjt_energy.proofs.entry_for.Goals.{Else-not-known}
use Rattle.cjt_energy.proofs.entry_for.Goals as goal

pub returns-then-long : goal.returns-then-long
unfolding entry_for
returns-then-long c = rw (ap not (le-ltb _ _ c.if-long.true))

pub returns-then-not-known : goal.returns-then-not-known
unfolding entry_for
returns-then-not-known c = rw ((ap not (lt-ltb _ _ c.if-long.false)), ← c.is_energy-known.ensures, (ap not c.if-not-known.true))

-- past the second test, the code is one of the nine
known : (c : Else-not-known) → energy_code c.args.code ≡ true
known c = sym c.is_energy-known.ensures ∙ not-false c.is_energy-known.result (ap not c.if-not-known.false)

pub returns-then-cut : goal.returns-then-cut
unfolding entry_for
returns-then-cut c =
    let a = c.args in
    rw ((ap not (lt-ltb _ _ c.if-long.false)), known (goal.at.returns-then-cut c).Else-not-known, sym (rest_found a.count a.code (known (goal.at.returns-then-cut c).Else-not-known)) ∙ c.if-cut.true)

pub unit_for-unit-requires : goal.unit_for-unit-requires
unit_for-unit-requires c = known (goal.at.unit_for-unit-requires c).Else-not-known

pub count_for-number-requires : goal.count_for-number-requires
count_for-number-requires c = known (goal.at.count_for-number-requires c).Else-not-known

pub overflow_cast-number : goal.overflow_cast-number
overflow_cast-number c =
    let a = c.args in
    omega (arith, c.count_for-number.ensures, count_small a.count a.code (known (goal.at.overflow_cast-number c).Else-not-known))

pub returns : goal.returns
unfolding entry_for
returns c =
    let a = c.args in
    rw (
      (ap not (lt-ltb _ _ c.if-long.false)),
      known (goal.at.returns c).Else-not-known,
      sym (rest_found a.count a.code (known (goal.at.returns c).Else-not-known)) ∙ c.if-cut.false,
      to_z-of_z w64 (pos c.count_for-number.result) (overflow_cast-number c),
      c.count_for-number.ensures,
      c.unit_for-unit.ensures,
    )
