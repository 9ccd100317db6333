-- `cjt_energy::unit_for` meets its contract: each code by its number.
use Rattle.cjt_energy.specs.Energies.{code_power, unit_for}
use Rattle.cjt_energy.proofs.Laws.Energies.{unit_highest}
use borrow.Author.Rules.{rules}
use Rattle.cjt_energy.proofs.unit_for.Goals as goal

pub returns-in-1 : goal.returns-in-1
unfolding code_power unit_for
returns-in-1 c = rw c.in-1.is

pub returns-in-2 : goal.returns-in-2
unfolding code_power unit_for
returns-in-2 c = rw c.in-2.is

pub returns-in-5 : goal.returns-in-5
unfolding code_power unit_for
returns-in-5 c = rw c.in-5.is

pub returns-in-8 : goal.returns-in-8
unfolding code_power unit_for
returns-in-8 c = rw c.in-8.is

pub returns-in-10 : goal.returns-in-10
unfolding code_power unit_for
returns-in-10 c = rw c.in-10.is

pub returns-in-11 : goal.returns-in-11
unfolding code_power unit_for
returns-in-11 c = rw c.in-11.is

pub returns-in-14 : goal.returns-in-14
unfolding code_power unit_for
returns-in-14 c = rw c.in-14.is

pub returns-in_default : goal.returns-in_default
returns-in_default c = search (rules, unit_highest)
