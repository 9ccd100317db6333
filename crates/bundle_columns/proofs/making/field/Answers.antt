-- `bundle_columns::making::field` meets its contract: a field of a row that is there, and 0 past the last.
use Prim.Native.Nat.{◌≤◌}
use native.Mathlib.Omega.{arith}
use Rattle.bundle_rows.specs.Rows.{most_rows}
use Rattle.bundle_check.proofs.Laws.BodyLaws.{few_rows}
use Rattle.bundle_columns.proofs.Laws.Fields.{field_there, field_none}
use Rattle.bundle_columns.proofs.making.field.Goals.{Start}
use Rattle.bundle_columns.proofs.making.field.Goals as goal

few : (c : Start) → c.args.bundle.count ≤ most_rows
few c = few_rows c.args.bundle.bytes.now c.args.bundle.count c.args.bundle.accepted

pub overflow_mul-i : goal.overflow_mul-i
overflow_mul-i c = omega (arith, few (goal.at.overflow_mul-i c).Start, c.if-i-bundle.true)

pub overflow_add-i : goal.overflow_add-i
overflow_add-i c = omega (arith, few (goal.at.overflow_add-i c).Start, c.if-i-bundle.true)

pub overflow_add-i-then-i-bundle : goal.overflow_add-i-then-i-bundle
overflow_add-i-then-i-bundle c = omega (arith, few (goal.at.overflow_add-i-then-i-bundle c).Start, c.if-i-bundle.true)

pub returns-then-i-bundle : goal.returns-then-i-bundle
returns-then-i-bundle c =
    let a = c.args in
    field_there a.bundle.bytes.now a.bundle.count a.place a.width a.i c.number_at.result c.if-i-bundle.true c.requires.1
    c.number_at.ensures

pub returns : goal.returns
returns c = let a = c.args in field_none a.bundle.bytes.now a.bundle.count a.place a.width a.i c.if-i-bundle.false
