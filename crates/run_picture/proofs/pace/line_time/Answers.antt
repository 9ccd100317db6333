-- `run_picture::pace::line_time` meets its contract: a row says how many bytes its body has.
use Rattle.run_picture.proofs.Laws.Rows.{body_characters}
use lib.ListN.{length}
use native.Mathlib.Omega.{arith}
use Prim.Native.Nat.{ℕ, ◌+◌, ◌*◌, ◌≤◌}
use mathlib.Core.Path.{ap, sym}
use Rattle.run_picture.proofs.pace.line_time.Goals as goal

pub returns : goal.returns
returns c =
    let b = c.args.bundle.now in
    let r = c.unchecked_row-row.result in
    let h : r.offset + r.length ≤ length b = rw c.unchecked_row-row.ensures c.requires in
    (rw (← c.unchecked_row-row.ensures) (ap (λ (n : ℕ). 11 * n) (sym (body_characters b r h))), omega arith)
