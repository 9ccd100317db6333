-- `cjt_records::request_bytes` meets its contract.
use mathlib.Core.Path.{◌∙◌}
use Rattle.cjt_records.proofs.Laws.CjtRecordLaws.{request_laid}
use Rattle.cjt_records.proofs.request_bytes.Goals as goal

pub returns : goal.returns
returns c =
    let q = c.args.q in request_laid q
    (c.head_bytes-head.ensures ∙ rw
    (c.address_number-n.ensures, c.broadcast_byte-broadcast.ensures))
    c.lay.ensures
