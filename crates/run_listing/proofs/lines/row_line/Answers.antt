-- `run_listing::lines::row_line` meets its contract.
use Rattle.run_listing.specs.Listings.{line_for, word_of, row_text}
use Rattle.base_characters.specs.Characters.{chars}
use Prim.Native.Nat.{ℕ}
use Prim.Native.Nat.{◌≤◌, ◌+◌, ◌-◌}
use mathlib.Core.Path.{◌≡◌, ap, ◌∙◌}
use native.Mathlib.Omega.{arith}
use lib.ListN.{length, take, drop}
use Rattle.run_listing.proofs.lines.row_line.Goals as goal

pub slice_bounds-word_of-end : goal.slice_bounds-word_of-end
slice_bounds-word_of-end c =
    let r = c.unchecked_row-row.result in
    let h : r.offset + r.length ≤ length c.args.bundle.now = rw c.unchecked_row-row.ensures
    c.requires in
    omega arith

pub returns : goal.returns
returns c =
    let a = c.args in
    let r = c.unchecked_row-row.result in
    let size : r.offset + r.length - r.offset ≡ r.length = omega arith in
    record {
      small = c.line_of.ensures.small;
      whole = c.line_of.ensures.whole;
      so =
          c.line_of.ensures.so
          ∙ ap (row_text r.position r.direction r.time)
          (c.word_of-word.ensures.so ∙ ap (λ (n : ℕ). word_of (chars (take n (drop r.offset a.bundle.now)))) size)
          ∙ ap (line_for a.bundle.now) c.unchecked_row-row.ensures;
    }
