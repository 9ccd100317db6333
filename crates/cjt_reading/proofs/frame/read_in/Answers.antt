-- `cjt_reading::frame::read_in` meets its contract: the FE bytes are skipped, and taken off the sum.
use Rattle.std.proofs.Common.{ℕ, ◌%◌, List, sym, ap, ◌∙◌}
use Rattle.base_rules.specs.Lists.{total}
use Rattle.base_rules.specs.Shown.{shown}
use Rattle.cjt_rules.specs.CjtLines.{read_cjt_frame}
use Rattle.base_rules.proofs.Laws.ListLaws.{rest_is}
use Rattle.cjt_reading.proofs.Laws.SkipLaws.{own_sum}
use Rattle.cjt_reading.proofs.frame.read_in.Goals as goal

pub read_frame-requires : goal.read_frame-requires
read_frame-requires c =
    let b = c.args.bytes.now in
    let n = c.skips-n.result in
    let rest = rest_is b n in
    own_sum c.skips-n.ensures c.requires c.wrapping_add_u8-own.ensures.value ∙ ap (λ
    (l : List ℕ). total l % 256) (sym rest)

pub returns : goal.returns
returns c =
    let b = c.args.bytes.now in
    let n = c.skips-n.result in
    let rest = rest_is b n in
    c.read_frame.ensures ∙ ap (λ (l : List ℕ). shown (read_cjt_frame l)) (rest ∙ c.skips-n.ensures.same)
