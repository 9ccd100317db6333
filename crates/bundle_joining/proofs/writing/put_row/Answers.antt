-- `bundle_joining::writing::put_row` meets its contract: the row is laid, then the body.
use Prim.Native.Nat.{ℕ}
use mathlib.Core.List.{List}
use mathlib.Core.Path.{refl, ap, ap₂, ◌∙◌}
use Rattle.base_lent.specs.Copying.{copied}
use Rattle.bundle_rows.specs.Rows.{first_offset}
use Rattle.bundle_rows.proofs.Laws.CharacterLaws.{body_whole}
use Rattle.bundle_joining.proofs.writing.put_row.Goals as goal

pub returns : goal.returns
returns c =
    let a = c.args in (
      refl,
      c.lay_each-2.ensures
          ∙ ap₂ (λ (l m : List ℕ). copied l a.at m)
          (c.lay_each.ensures ∙ ap (copied a.out.now (first_offset a.k)) c.row_bytes-bytes.ensures)
          (body_whole a.source.now a.row),
    )
