-- `cjt_writing::bytes::close` meets its contract.
use mathlib.Core.Path.{◌≡◌, ◌∙◌}
use lib.ListN.{length, length-replicate}
use borrow.Author.Rules.{rules}
use Rattle.cjt_writing.proofs.Laws.Framing.{frame_closed}
use Rattle.cjt_writing.proofs.bytes.close.Goals as goal

pub returns : goal.returns
returns o c =
    let size : length c.args.frame.now ≡ o.row.N = search rules in
    frame_closed _ c.args.frame.now o.row.N size (length-replicate o.row.M _ ∙ c.requires)
    c.sum_of-sum.ensures
    c.lay.ensures c.lay-2.ensures
