-- `mbus_writing::bytes::put_entry` meets its contract: the bytes that are cut to the entry's width are its bytes.
use Prim.Native.Nat.{ℕ, ◌+◌, ◌≤◌}
use mathlib.Core.List.{List}
use mathlib.Core.Path.{◌≡◌, sym, ap, ◌∙◌}
use native.Mathlib.Omega.{arith}
use borrow.Author.Rules.{rules}
use lib.ListN.{length, take}
use lib.Seq.{length-take-le}
use Rattle.mbus_rules.specs.Quantities.{width_of}
use Rattle.mbus_rules.specs.Writing.{longest}
use Rattle.base_lent.specs.Copying.{copied}
use Rattle.mbus_writing.proofs.Laws.Laying.{EntryCut, entry_cut, entry_laid}
use Rattle.mbus_writing.proofs.bytes.put_entry.Goals.{After-width_of-width}
use Rattle.mbus_writing.proofs.bytes.put_entry.Goals as goal

pub entry_bytes-b-requires : goal.entry_bytes-b-requires
entry_bytes-b-requires c = (entry_cut c.args.e c.requires.right).there

-- the width is the entry's: it is cut from ten bytes, and there is room for it
record Sized (c : After-width_of-width) : Type 0 where
  pub so : 2 + c.width_of-width.result ≡ 2 + width_of c.args.e.structure
  pub within : 2 + c.width_of-width.result ≤ length c.entry_bytes-b.result
  pub room : c.args.at + (2 + c.width_of-width.result) + 2 ≤ longest

sized : (c : After-width_of-width) → Sized c
sized c =
    let n : length c.entry_bytes-b.result ≡ 10 = search rules in
    let x : EntryCut c.args.e = entry_cut c.args.e c.requires.right in
    let w : 2 + c.width_of-width.result ≡ 2 + width_of c.args.e.structure = ap (λ (k : ℕ). 2 + k) c.width_of-width.ensures in
    record { so = w; within = omega (arith, x.most); room = omega (arith, x.width, c.requires.room) }

pub overflow_add-width : goal.overflow_add-width
overflow_add-width c = let s : Sized (goal.at.overflow_add-width c).After-width_of-width = sized (goal.at.overflow_add-width c).After-width_of-width in omega arith

pub slice_bounds-b-end : goal.slice_bounds-b-end
slice_bounds-b-end c = (sized (goal.at.slice_bounds-b-end c).After-width_of-width).within

pub slice_bounds-lay-end : goal.slice_bounds-lay-end
slice_bounds-lay-end c =
    sym (length-take-le (2 + c.width_of-width.result) c.entry_bytes-b.result (sized (goal.at.slice_bounds-lay-end c).After-width_of-width).within)

pub overflow_add-result : goal.overflow_add-result
overflow_add-result c =
    let s : Sized (goal.at.overflow_add-result c).After-width_of-width = sized (goal.at.overflow_add-result c).After-width_of-width in omega arith

pub returns : goal.returns
returns c =
    entry_laid c.requires (sized (goal.at.returns c).After-width_of-width).so
    (c.lay.ensures ∙ ap (λ (l : List ℕ). copied c.args.bytes.now c.args.at (take (2 + c.width_of-width.result) l))
    c.entry_bytes-b.ensures)
