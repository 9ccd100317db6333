-- `run_picture::drawing::Scene::put_row` meets its contract: four texts, of the row as it stands in the bundle.
use Rattle.run_picture.specs.Elements.{row_drawn}
use Rattle.text_filling.proofs.Laws.WritingLaws.{four}
use Rattle.bundle_check.proofs.Laws.BodyLaws.{few_rows, unchecked_inside}
use Rattle.run_counting.proofs.Laws.Walking.{length_records}
use native.Mathlib.Omega.{arith}
use borrow.Author.Rules.{rules}
use Prim.Native.Nat.{◌≤◌}
use Rattle.base_rules.proofs.Laws.ListLaws.{get_d_inside}
use Rattle.run_verdicts.specs.declared.Verdict.TheVariants.{Wake, Unasked}
use Rattle.run_picture.proofs.drawing.Scene.put_row.Goals.{Start}
use Rattle.run_picture.proofs.drawing.Scene.put_row.Goals as goal

pub line_time-width-requires : goal.line_time-width-requires
line_time-width-requires c =
    unchecked_inside c.args.self.now.bundle.bytes.now c.args.i c.args.self.now.bundle.count c.args.self.now.known.accepted c.requires

few : (c : Start) → c.args.self.now.bundle.count ≤ 512
few c = few_rows c.args.self.now.bundle.bytes.now c.args.self.now.bundle.count c.args.self.now.known.accepted

pub offset_bounds-self-i : goal.offset_bounds-self-i
offset_bounds-self-i c = omega (arith, few (goal.at.offset_bounds-self-i c).Start)

pub offset_bounds-self-i-2 : goal.offset_bounds-self-i-2
offset_bounds-self-i-2 c = omega (arith, few (goal.at.offset_bounds-self-i-2 c).Start)

pub offset_bounds-self-i-3 : goal.offset_bounds-self-i-3
offset_bounds-self-i-3 c = omega (arith, few (goal.at.offset_bounds-self-i-3 c).Start)

pub bounds-self-i : goal.bounds-self-i
bounds-self-i c = omega (arith, few (goal.at.bounds-self-i c).Start, c.args.self.now.known.places.places)

pub bounds-self-i-2 : goal.bounds-self-i-2
bounds-self-i-2 c = omega (arith, few (goal.at.bounds-self-i-2 c).Start)

pub bounds-self-i-3 : goal.bounds-self-i-3
bounds-self-i-3 c = omega (arith, few (goal.at.bounds-self-i-3 c).Start, c.args.self.now.known.named.places)

pub overflow_add-x : goal.overflow_add-x
overflow_add-x c =
    let s = c.args.self.now in
    let near = s.known.places.near c.args.i (omega (arith, length_records s.bundle.bytes.now s.bundle.count s.known.accepted)) in
    omega (arith, near, c.line_time-width.ensures.1)

pub returns : goal.returns
unfolding row_drawn
returns c =
    let s = c.args.self.now in
    let verdict = get_d_inside s.verdicts.now c.args.i Wake Unasked (omega (arith, s.known.ruled, few (goal.at.returns c).Start)) in
    let coloured = rw verdict at c.put_verdict-coloured.ensures in
    let word = rw (s.known.named.so c.args.i c.requires) at c.put_numbered-named.ensures in
    let all = four (search rules) coloured c.put_place-placed.ensures word c.put_box.ensures in
    rw (c.row-row.ensures, c.line_time-width.ensures.0) at all
