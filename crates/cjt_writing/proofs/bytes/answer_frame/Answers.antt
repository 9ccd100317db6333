-- `cjt_writing::bytes::answer_frame` meets its contract.
use mathlib.Core.Path.{refl}
use lib.ListN.{replicate}
use Rattle.cjt_writing.proofs.Laws.Framing.{answer_laid}
use Rattle.cjt_writing.proofs.bytes.answer_frame.Goals as goal

pub returns : goal.returns
returns c =
    answer_laid c.args.a (replicate 57 0) refl
    c.answer_head-head.ensures
    c.quantities_bytes-values.ensures
    c.rest_bytes-rest.ensures
    c.lay.ensures c.lay-2.ensures
    c.lay-3.ensures
