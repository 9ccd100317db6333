-- `cjt_records::answer_words` meets its contract, word by word.
use native.Mathlib.Omega.{arith}
use Rattle.cjt_records.proofs.Laws.Words.{quantity_word, answer_words}
use Rattle.cjt_records.proofs.answer_words.Goals as goal

pub returns : goal.returns
returns c =
    let a = c.args.a in
    answer_words a c.two_fours-c.result c.two_fours-h.result c.two_fours-p.result c.two_fours-f.result c.two_fours-v.result
    c.two_fours-temperatures.result c.two_fours-hours.result
    (quantity_word a.cold c.two_fours-c.result (omega (arith, c.struct_known-1.given)) c.two_fours-c.ensures)
    (quantity_word a.heat c.two_fours-h.result (omega (arith, c.struct_known-2-1.given)) c.two_fours-h.ensures)
    (quantity_word a.power c.two_fours-p.result (omega (arith, c.struct_known-3-1.given)) c.two_fours-p.ensures)
    (quantity_word a.flow c.two_fours-f.result (omega (arith, c.struct_known-4-1.given)) c.two_fours-f.ensures)
    (quantity_word a.volume c.two_fours-v.result (omega (arith, c.struct_known-5-1.given)) c.two_fours-v.ensures)
    c.two_fours-temperatures.ensures
    c.two_fours-hours.ensures
