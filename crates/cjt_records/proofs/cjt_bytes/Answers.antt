-- `cjt_records::cjt_bytes` meets its contract.
use mathlib.Core.Path.{sym, ap, ◌∙◌}
use Rattle.cjt_records.specs.CjtRecords.{cjt_bytes}
use Rattle.cjt_records.proofs.cjt_bytes.Goals as goal

pub returns-in-Request : goal.returns-in-Request
returns-in-Request c = c.request_bytes.ensures ∙ ap cjt_bytes (sym c.in-Request.is)

pub returns-in-Answer : goal.returns-in-Answer
returns-in-Answer c = c.answer_bytes.ensures ∙ ap cjt_bytes (sym c.in-Answer.is)
