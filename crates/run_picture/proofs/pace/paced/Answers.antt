-- `run_picture::pace::paced` meets its contract: the row lies in the bundle.
use Rattle.bundle_check.proofs.Laws.BodyLaws.{few_rows, unchecked_inside}
use native.Mathlib.Omega.{arith}
use Rattle.run_picture.proofs.pace.paced.Goals as goal

pub line_time-width-requires : goal.line_time-width-requires
line_time-width-requires c =
    unchecked_inside c.args.bundle.bytes.now c.args.i c.args.bundle.count c.args.bundle.accepted c.requires.0

pub paced_by-requires : goal.paced_by-requires
paced_by-requires c =
    let few = few_rows c.args.bundle.bytes.now c.args.bundle.count c.args.bundle.accepted in
    (omega (arith, c.requires.1.cut), c.requires.1.busy, c.line_time-width.ensures.1)

pub returns : goal.returns
returns c = (
  rw (c.paced_by.ensures.0, c.line_time-width.ensures.0, c.row-row.ensures),
  record { cut = omega (arith, c.paced_by.ensures.1, c.requires.1.cut); busy = c.paced_by.ensures.2; start = c.paced_by.ensures.3 },
)
