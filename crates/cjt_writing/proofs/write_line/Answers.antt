-- `cjt_writing::write_line` meets its contract.
use mathlib.Core.Path.{sym, ap, ◌∙◌}
use Rattle.cjt_rules.specs.CjtWriting.{bytes_of_telegram}
use Rattle.cjt_writing.proofs.Laws.Answering.{not_written, line_written}
use Rattle.cjt_writing.proofs.write_line.Goals as goal

pub returns-then-is_unwritten : goal.returns-then-is_unwritten
returns-then-is_unwritten c = not_written c.args.telegram c.args.out.now (sym c.is_unwritten.ensures ∙ c.if-is_unwritten.true)

pub returns-in-Request : goal.returns-in-Request
returns-in-Request c =
    line_written c.args.telegram c.args.out.now (sym c.is_unwritten.ensures ∙ c.if-is_unwritten.false)
    (c.request_bytes.ensures ∙ ap bytes_of_telegram (sym c.in-Request.is))
    c.write_bytes.ensures

pub returns-in-Answer : goal.returns-in-Answer
returns-in-Answer c =
    line_written c.args.telegram c.args.out.now (sym c.is_unwritten.ensures ∙ c.if-is_unwritten.false)
    (c.answer_bytes.ensures ∙ ap bytes_of_telegram (sym c.in-Answer.is))
    c.write_bytes-in-Answer.ensures
