-- `cjt_reading::frame::read_frame` meets its contract, test by test.
use Rattle.std.proofs.Common.{sym, ap, ◌∙◌, arith}
use Rattle.cjt_rules.specs.declared.CjtRequest.{CjtRequest}
use Rattle.cjt_rules.specs.declared.CjtTelegram.TheVariants as telegrams
use Rattle.std.specs.Prelude.{Ok}
use Rattle.cjt_rules.specs.CjtLines.{read_cjt_frame}
use Rattle.cjt_reading.proofs.Laws.FrameLaws.{frame_least}
use borrow.Author.Tests.{eq-eqb, ne_eqb}
use Rattle.cjt_reading.proofs.frame.read_frame.Goals as goal

pub returns-then-frame : goal.returns-then-frame
unfolding read_cjt_frame
returns-then-frame c = rw (sym c.wrong_frame-frame.ensures ∙ c.if-frame.true)

pub wrong_sum-total-requires : goal.wrong_sum-total-requires
wrong_sum-total-requires c = (c.requires, sym c.wrong_frame-frame.ensures ∙ c.if-frame.false)

pub returns-then-total : goal.returns-then-total
unfolding read_cjt_frame
returns-then-total c = rw (sym c.wrong_frame-frame.ensures ∙ c.if-frame.false, sym c.wrong_sum-total.ensures ∙ c.if-total.true)

pub wrong_party-party-requires : goal.wrong_party-party-requires
wrong_party-party-requires c =
    omega (
      arith,
      frame_least c.args.b.now (sym
          c.wrong_frame-frame.ensures ∙ c.if-frame.false),
    )

pub returns-then-party : goal.returns-then-party
unfolding read_cjt_frame
returns-then-party c =
    rw (
      sym c.wrong_frame-frame.ensures ∙ c.if-frame.false,
      sym c.wrong_sum-total.ensures ∙ c.if-total.false,
      sym c.wrong_party-party.ensures ∙ c.if-party.true,
    )

pub returns-then-mark : goal.returns-then-mark
unfolding read_cjt_frame
returns-then-mark c =
    rw (
      sym c.wrong_frame-frame.ensures ∙ c.if-frame.false,
      sym c.wrong_sum-total.ensures ∙ c.if-total.false,
      sym c.wrong_party-party.ensures ∙ c.if-party.false,
      sym c.wrong_mark-mark.ensures ∙ c.if-mark.true,
    )

pub request_of-request-requires : goal.request_of-request-requires
request_of-request-requires c =
    omega (
      arith,
      frame_least c.args.b.now (sym
          c.wrong_frame-frame.ensures
          ∙ c.if-frame.false),
    )

pub returns-then-asks : goal.returns-then-asks
unfolding read_cjt_frame
returns-then-asks c =
    rw (
      sym c.wrong_frame-frame.ensures
          ∙ c.if-frame.false,
      sym c.wrong_sum-total.ensures
          ∙ c.if-total.false,
      sym c.wrong_party-party.ensures ∙ c.if-party.false,
      sym c.wrong_mark-mark.ensures ∙ c.if-mark.false,
      ← c.byte_at-asks.ensures,
      (eq-eqb _ _ c.if-asks.true),
    ) (ap (λ (q : CjtRequest). Ok (telegrams.Request q)) c.request_of-request.ensures)

pub read_listed-requires : goal.read_listed-requires
read_listed-requires c =
    omega (
      arith,
      frame_least c.args.b.now (sym
          c.wrong_frame-frame.ensures
          ∙ c.if-frame.false),
    )

pub returns : goal.returns
unfolding read_cjt_frame
returns c =
    rw (
      sym c.wrong_frame-frame.ensures
          ∙ c.if-frame.false,
      sym c.wrong_sum-total.ensures
          ∙ c.if-total.false,
      sym c.wrong_party-party.ensures ∙ c.if-party.false,
      sym c.wrong_mark-mark.ensures ∙ c.if-mark.false,
      ← c.byte_at-asks.ensures,
      (ne_eqb _ _ c.if-asks.false),
    ) c.read_listed.ensures
