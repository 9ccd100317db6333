-- Proofs of the statements of specs/Exchange.
use Prim.Native.Nat.{◌≤◌}
use mathlib.Core.List.{List, ◌∷◌}
use mathlib.Core.Path.{◌≡◌, refl}
use Rattle.bench_clock.specs.declared.Clock.{Clock}
use Rattle.mbus_rules.specs.declared.Telegram.{Telegram}
use Rattle.exchange_steps.specs.declared.Cause.{Cause}
use Rattle.exchange_steps.specs.declared.State.TheVariants.{Waiting, Resend}
use Rattle.exchange_steps.specs.declared.Exchange.{Exchange}
use Rattle.exchange_steps.specs.declared.Slot.TheVariants.{Busy}
use Rattle.exchange_steps.specs.Histories.{Step, after, Send, made}
use Rattle.exchange_steps.proofs.Laws.Theorems
use Rattle.demands.specs.Exchange.{BeginsFromNone, NoneRefuses, WellAsNone, FailedAsNone, WaitingRefuses, ResendEarly, NoneHears, EndedHears}
use Rattle.demands.specs.Exchange.{SendsReported}
use Rattle.demands.specs.Exchange.{EndsWell, TakesReply, FailsByLine, FailsBySilence, ResendRecorded, AnotherRefused, ResendStays, EndedStays}

module _ (telegram : Telegram) (t : Clock) where
  pub begins_from_none : BeginsFromNone telegram t
  begins_from_none request asks = Theorems.none_begins telegram t request asks

  pub none_refuses : NoneRefuses telegram t
  none_refuses other = Theorems.none_refuses telegram t other

  module _ (x : Exchange) where
    pub well_as_none : WellAsNone telegram t x
    well_as_none = Theorems.well_as_none x telegram t

    pub failed_as_none : FailedAsNone telegram t x
    failed_as_none = Theorems.failed_as_none x telegram t

    pub waiting_refuses : WaitingRefuses telegram t x
    waiting_refuses = Theorems.waiting_refuses x telegram t

    pub resend_early : ResendEarly telegram t x
    resend_early = Theorems.resend_early x telegram t

pub none_hears : NoneHears
none_hears line t = (refl, refl)

pub ended_hears : EndedHears
ended_hears = Theorems.ended_refuses

module _ (h : List Step) (x : Exchange) (stood : after h ≡ Busy x) where
  pub sends_reported : SendsReported h x stood
  sends_reported = (Theorems.sends_reported h x stood, Theorems.three_sends h x stood, Theorems.one_request h x stood)

  pub ends_well_lem : EndsWell h x stood
  ends_well_lem = Theorems.ends_well_lem h x stood

  pub takes_reply : TakesReply h x stood
  takes_reply = Theorems.takes_reply h x stood

  module _ (send : Send) (others : List Send) (t : Clock) (waiting : x.state ≡ Waiting) (last_send : made h ≡ send ∷ others)
      (in_order : x.last.0 ≤ t.0) where
    pub fails_by_line : FailsByLine h x stood send others t waiting last_send in_order
    fails_by_line = Theorems.fails_by_line h x stood send others t waiting last_send in_order

    pub fails_by_silence : FailsBySilence h x stood send others t waiting last_send in_order
    fails_by_silence = Theorems.fails_by_silence h x stood send others t waiting last_send in_order

  module _ (cause : Cause) (asked : x.state ≡ Resend cause) where
    module _ (telegram : Telegram) (t : Clock) (in_order : x.last.0 ≤ t.0) where
      pub resend_recorded : ResendRecorded h x stood cause asked telegram t in_order
      resend_recorded = Theorems.resend_recorded h x stood cause asked telegram t in_order

      pub another_refused : AnotherRefused h x stood cause asked telegram t in_order
      another_refused = Theorems.another_refused h x stood cause asked telegram t in_order

    pub resend_stays : ResendStays h x stood cause asked
    resend_stays = Theorems.resend_stays x cause asked

pub ended_stays : EndedStays
ended_stays = Theorems.ended_stays
