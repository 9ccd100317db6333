-- `run_repeats::MarkedRows::earlier_of` meets its contract: the loop leaves at the first row that gives the same reading.
use native.Mathlib.Omega.{arith}
use Rattle.bundle_check.proofs.Laws.BodyLaws.{few_rows}
use Rattle.run_repeats.proofs.Laws.Looking.{looking_none, looking_unmarked, looking-hit, looking-miss, looking_all}
use Rattle.run_repeats.proofs.MarkedRows.earlier_of.Goals as goal

pub offset_bounds-self-i : goal.offset_bounds-self-i
offset_bounds-self-i c =
    omega (arith, c.requires, few_rows c.args.self.now.bundle.now c.args.self.now.count c.args.self.now.marked.accepted)

pub bounds-self-i : goal.bounds-self-i
bounds-self-i c =
    omega (arith, c.requires, few_rows c.args.self.now.bundle.now c.args.self.now.count c.args.self.now.marked.accepted)

pub returns-then-self-i-eq0 : goal.returns-then-self-i-eq0
returns-then-self-i-eq0 c = looking_unmarked c.args.self.now.marked c.requires c.if-self-i-eq0.true

pub loop-j-init : goal.loop-j-init
loop-j-init c = looking_none

pub overflow_cast-result : goal.overflow_cast-result
overflow_cast-result c =
    omega (arith, c.loop-j-test.true, c.requires, few_rows c.args.self.now.bundle.now c.args.self.now.count c.args.self.now.marked.accepted)

pub overflow_add-result : goal.overflow_add-result
overflow_add-result c =
    omega (arith, c.loop-j-test.true, c.requires, few_rows c.args.self.now.bundle.now c.args.self.now.count c.args.self.now.marked.accepted)

pub returns-then-is_same_reading : goal.returns-then-is_same_reading
returns-then-is_same_reading c =
    looking-hit c.args.self.now.marked c.requires c.loop-j.invariant c.loop-j-test.true c.is_same_reading.ensures c.if-is_same_reading.true

pub loop-j-preserved : goal.loop-j-preserved
loop-j-preserved c =
    looking-miss c.args.self.now.marked c.requires c.loop-j.invariant c.loop-j-test.true c.is_same_reading.ensures c.if-is_same_reading.false

pub returns : goal.returns
returns c = looking_all c.args.self.now.marked c.requires c.loop-j.invariant c.loop-j-test.false
