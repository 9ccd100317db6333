-- `text_filling::put` meets its contract: no room, room for all, or for a part.
use Rattle.std.proofs.Common.{length, sym, refl, ◌∙◌, arith}
use lib.Seq.{take-length}
use Rattle.text_filling.proofs.Laws.WritingLaws.{put_past, put_cut}
use Rattle.text_filling.proofs.put.Goals as goal

pub returns-then-out-at : goal.returns-then-out-at
returns-then-out-at c = put_past c.if-out-at.true c.saturating_add.ensures

pub returns-then-bytes-room : goal.returns-then-bytes-room
returns-then-bytes-room c =
    let t = c.args.bytes.now in
    put_cut {k = length t} c.if-out-at.false (omega arith) (omega arith) (c.copy_each.ensures ∙ sym (take-length t)) refl (omega arith)

pub returns : goal.returns
returns c = put_cut c.if-out-at.false (omega arith) refl c.copy_each-2.ensures refl c.saturating_add-2.ensures
