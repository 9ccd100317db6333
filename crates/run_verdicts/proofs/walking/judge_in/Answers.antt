-- `run_verdicts::walking::judge_in` meets its contract: the body of the row is that stretch of the bundle.
use Prim.Native.Nat.{ℕ}
use mathlib.Core.List.{List}
use mathlib.Core.Path.{ap, ◌∙◌}
use Rattle.bundle_rows.proofs.Laws.CharacterLaws.{body_whole}
use Rattle.run_counting.specs.Ears.{row_with}
use Rattle.run_verdicts.specs.Judging.{judged_of}
use Rattle.run_verdicts.proofs.walking.judge_in.Goals as goal

pub returns : goal.returns
returns c =
    let a = c.args in
    c.judge.ensures ∙ ap (λ (l : List ℕ). judged_of a.slot (row_with a.row l)) (body_whole a.bundle.now a.row)
