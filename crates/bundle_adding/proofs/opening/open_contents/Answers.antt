-- `bundle_adding::opening::open_contents` meets its contract: what the three steps leave, one upon the other.
use native.Mathlib.Omega.{arith}
use Rattle.bundle_rows.proofs.Laws.RowLaws.{Fitting}
use Rattle.bundle_adding.proofs.Laws.Opening.{contents_opened_lem}
use Rattle.bundle_adding.proofs.opening.open_contents.Goals.{Start}
use Rattle.bundle_adding.proofs.opening.open_contents.Goals as goal

fitting : (c : Start) → Fitting c.args.row
fitting c = record { time = omega (arith, c.well_formed); offset = omega (arith, c.well_formed); size = omega (arith, c.well_formed) }

pub returns : goal.returns
returns c =
    let a = c.args in
    rw (c.put_number.ensures, c.place_rows.ensures, c.open_row.ensures)
    (contents_opened_lem a.count a.place a.row a.buffer.now c.requires.1 c.requires.2 (fitting (goal.at.returns c).Start))
