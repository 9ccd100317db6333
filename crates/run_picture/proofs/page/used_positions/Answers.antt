-- `run_picture::page::used_positions` meets its contract: the positions that are marked, counted.
use Rattle.run_picture.proofs.Laws.PageLaws.{used_counted}
use mathlib.Core.Path.{◌≡◌, refl, sym, ap, ◌∙◌}
use lib.ListN.{length, take, drop, length-take, length-drop}
use lib.Seq.{take-length}
use Rattle.std.specs.List.{count_by}
use Rattle.std.proofs.lemmas.List.Sums.{count_by-le-length, length-filter}
use native.Mathlib.Omega.{arith}
use Rattle.run_picture.proofs.page.used_positions.Goals as goal

pub returns : goal.returns
returns c =
    let behind = drop 1 c.args.used in
    let marks = take 48 behind in (
      λ ks u.
          let size : length behind ≡ 48 = omega (arith, length-drop 1 c.args.used, u.places) in
          let whole = rw size at (take-length behind) in
          c.marked.ensures ∙ ap (count_by (λ own. own)) whole ∙ sym (length-filter (λ own. own) behind) ∙ used_counted ks u 48 1 refl,
      omega (arith, c.marked.ensures, length-take 48 behind, count_by-le-length (λ own. own) marks),
    )
