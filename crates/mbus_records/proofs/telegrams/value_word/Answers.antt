-- `mbus_records::telegrams::value_word` meets its contract.
use mathlib.Core.Path.{ap, ◌∙◌}
use native.Mathlib.Omega.{arith}
use mir.Syntax.{w64}
use mir.Val.{of_z}
use mir.ValLaws.{to_z-of_z}
use Rattle.base_numbers.specs.Numbers.{bytes_of}
use Rattle.mbus_records.proofs.telegrams.value_word.Goals as goal

pub returns-in-Number : goal.returns-in-Number
returns-in-Number c =
    let t = to_z-of_z w64 c.in-Number.d.count (record { sfits = omega arith }) in
    rw c.in-Number.is (ap (bytes_of 8) (c.word_of.ensures ∙ ap (of_z w64) t))

pub returns-in-Time : goal.returns-in-Time
returns-in-Time c = cc

pub returns-in-Binary : goal.returns-in-Binary
returns-in-Binary c =
    let t = to_z-of_z w64 c.in-Binary.w.count (record { sfits = omega arith }) in
    rw c.in-Binary.is (ap (bytes_of 8) (c.word_of-in-Binary.ensures ∙ ap (of_z w64) t))
