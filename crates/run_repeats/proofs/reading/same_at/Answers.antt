-- `run_repeats::reading::same_at` meets its contract: the bodies of the rows are those stretches of the bundle.
use Prim.Native.Nat.{ℕ, ◌+◌, ◌≤◌}
use mathlib.Core.List.{List}
use mathlib.Core.Path.{ap₂, ◌∙◌}
use native.Mathlib.Omega.{arith}
use lib.ListN.{length}
use Rattle.bundle_rows.specs.declared.Row.{Row}
use Rattle.bundle_rows.specs.Rows.{body_in}
use Rattle.bundle_rows.proofs.Laws.CharacterLaws.{body_whole}
use Rattle.run_repeats.specs.Repeats.{same_parts}
use Rattle.run_repeats.proofs.Laws.DataLines.{part_long}
use Rattle.run_repeats.proofs.reading.same_at.Goals as goal

abbrev DataRow : List ℕ → Row → Type 0
DataRow b r = (r.offset + r.length ≤ length b) × (42 ≤ r.length)

pub slice_bounds-same_parts-end : goal.slice_bounds-same_parts-end
slice_bounds-same_parts-end c =
    let r = c.unchecked_row-first.result in
    let h : r.offset + r.length ≤ length c.args.bundle.now = rw c.unchecked_row-first.ensures c.requires.0.inside in
    omega arith

pub slice_bounds-same_parts-end-2 : goal.slice_bounds-same_parts-end-2
slice_bounds-same_parts-end-2 c =
    let r = c.unchecked_row-second.result in
    let h : r.offset + r.length ≤ length c.args.bundle.now = rw c.unchecked_row-second.ensures c.requires.1.inside in
    omega arith

pub same_parts-requires : goal.same_parts-requires
same_parts-requires c =
    let r = c.unchecked_row-first.result in
    let q = c.unchecked_row-second.result in
    let first : DataRow c.args.bundle.now r = rw c.unchecked_row-first.ensures (c.requires.0.inside, c.requires.0.long) in
    let second : DataRow c.args.bundle.now q = rw c.unchecked_row-second.ensures (c.requires.1.inside, c.requires.1.long) in
    (part_long c.args.bundle.now r first.0 first.1, part_long c.args.bundle.now q second.0 second.1)

pub returns : goal.returns
returns c =
    let b = c.args.bundle.now in
    let r = c.unchecked_row-first.result in
    let q = c.unchecked_row-second.result in
    c.same_parts.ensures ∙ ap₂ same_parts (body_whole b r) (body_whole b q)
    ∙ ap₂ (λ (x y : Row). same_parts (body_in b x) (body_in b y)) c.unchecked_row-first.ensures c.unchecked_row-second.ensures
