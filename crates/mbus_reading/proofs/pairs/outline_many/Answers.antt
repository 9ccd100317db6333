-- `mbus_reading::pairs::outline_many` meets its contract, as the outline of a line of characters does.
use Prim.Native.Nat.{ℕ, ◌≤◌, ◌<◌}
use native.Mathlib.Omega.{arith}
use mathlib.Core.Path.{sym, ap, ◌∙◌}
use lib.ListN.{take, length, length-replicate}
use Rattle.base_characters.specs.Characters.{chars}
use Rattle.mbus_rules.specs.Outlines.{outlined}
use Rattle.base_characters.proofs.Laws.PairLaws.{length_characters}
use Rattle.mbus_reading.proofs.Laws.TakingLaws.{taken_err, taken_ok, cut_count, taken_frame}
use Rattle.mbus_reading.proofs.pairs.outline_many.Goals.{After-gather-taken}
use Rattle.mbus_reading.proofs.pairs.outline_many.Goals as goal

-- there is a character, and there are places enough
some : (c : After-gather-taken) → 0 < length (chars c.args.bytes.now)
some c = let size = length_characters c.args.bytes.now in omega (arith, size, c.requires.0)

room : (c : After-gather-taken) → length (chars c.args.bytes.now) ≤ length c.write_apart.new.places
room c =
    let size = length_characters c.args.bytes.now in
    omega (arith, size, c.write_apart.auto, length-replicate {A = ℕ} 261 0, c.requires.1)

pub slice_bounds-outline_in-end : goal.slice_bounds-outline_in-end
slice_bounds-outline_in-end c =
    let b = c.args.bytes.now in
    let g = c.gather-taken in
    let size = length_characters b in
    let at = (goal.at.slice_bounds-outline_in-end c).After-gather-taken in
    let t = taken_ok (chars b) c.write_apart.new.places g.new.out (room at) g.ensures.0 g.ensures.1 (some at) c.in-Ok.is in
    cut_count (chars b) g.new.out (sym size) (ap (λ (n : ℕ). take n g.new.out) (sym size) ∙ t.1)

pub returns-in-Ok : goal.returns-in-Ok
returns-in-Ok c =
    let b = c.args.bytes.now in
    let g = c.gather-taken in
    let at = (goal.at.returns-in-Ok c).After-gather-taken in
    let t = taken_ok (chars b) c.write_apart.new.places g.new.out (room at) g.ensures.0 g.ensures.1 (some at) c.in-Ok.is in
    c.outline_in.ensures ∙ ap outlined (taken_frame (chars b) g.new.out g.result.sum (sym (length_characters b)) t)

pub returns-in-Err : goal.returns-in-Err
returns-in-Err c =
    let b = c.args.bytes.now in
    let g = c.gather-taken in
    let at = (goal.at.returns-in-Err c).After-gather-taken in
    ap outlined
    (sym (taken_err (chars b) c.write_apart.new.places g.new.out (room at) g.ensures.0 g.ensures.1 (some at) c.in-Err.is))
