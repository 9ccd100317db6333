-- `run_picture::elements::put_verdict` meets its contract: the window, the words and the number.
use mathlib.Core.Path.{◌≡◌}
use mathlib.Core.List.{◌++◌}
use native.Mathlib.Omega.{arith}
use Rattle.text_filling.proofs.Laws.WritingLaws.{three}
use Rattle.run_picture.specs.Elements.{verdict_text, window_text, told_text}
use Rattle.run_picture.proofs.Laws.Wording.{part, verdict_words, verdict_edges, Edged, verdict_edges_lem, verdict_words_lem}
use borrow.Author.Rules.{rules}
use Rattle.run_picture.proofs.elements.put_verdict.Goals.{After-wording_of-wording}
use Rattle.run_picture.proofs.elements.put_verdict.Goals as goal

edged : (c : After-wording_of-wording) → Edged verdict_words verdict_edges c.wording_of-wording.result.place
edged c = rw c.wording_of-wording.ensures (verdict_edges_lem c.args.verdict)

pub offset_bounds-edges-k : goal.offset_bounds-edges-k
offset_bounds-edges-k c = record { fits = omega (arith, (edged (goal.at.offset_bounds-edges-k c).After-wording_of-wording).inside) }

pub bounds-edges-k : goal.bounds-edges-k
bounds-edges-k c = omega (arith, (edged (goal.at.bounds-edges-k c).After-wording_of-wording).inside)

pub overflow_add-to : goal.overflow_add-to
overflow_add-to c = record { fits = omega (arith, (edged (goal.at.overflow_add-to c).After-wording_of-wording).inside) }

pub offset_bounds-edges-k-2 : goal.offset_bounds-edges-k-2
offset_bounds-edges-k-2 c = record { fits = omega (arith, (edged (goal.at.offset_bounds-edges-k-2 c).After-wording_of-wording).inside) }

pub bounds-edges-k-2 : goal.bounds-edges-k-2
bounds-edges-k-2 c = omega (arith, (edged (goal.at.bounds-edges-k-2 c).After-wording_of-wording).inside)

pub put_part-worded-requires : goal.put_part-worded-requires
put_part-worded-requires c =
    let e = edged (goal.at.put_part-worded-requires c).After-wording_of-wording in
    (e.order, e.end)

pub returns : goal.returns
returns c =
    let a = c.args in
    let w = c.wording_of-wording.result in
    let words = part verdict_words verdict_edges w.place in
    let same : window_text w.place a.end ++ (words ++ told_text w.place w.number) ≡ verdict_text a.verdict a.end =
    rw c.wording_of-wording.ensures (verdict_words_lem a.verdict a.end) in
    rw same at (three (search rules) c.put_window-opened.ensures c.put_part-worded.ensures c.put_told.ensures)
