-- The program's answers: no two answers of the rules are shown as one; and a measure by the sum that the pair answers.
use Prim.Native.Nat.{ℕ}
use mathlib.Core.Bool.{Bool, true, false}
use mathlib.Core.Path.{◌≡◌, refl, sym, ap, ap₂, ◌∙◌}
use Rattle.std.specs.Prelude.{Option}
use Rattle.bench_clock.specs.declared.Clock.{Clock}
use Rattle.base_rules.specs.Answers.{Answer, reads, refusal, refuse, within}
use Rattle.base_rules.specs.Shown.{shown}
use Rattle.base_rules.proofs.Laws.AnswerLaws.{shown_same, reads_same}
use Rattle.mbus_rules.specs.declared.Telegram.{Telegram}
use Rattle.meter_template.specs.declared.Pair.{Pair}
use Rattle.meter_template.specs.Templates.{overflows, plus, sum_of}
use Rattle.meter_steps.specs.declared.Core.{Core}
use Rattle.meter_steps.specs.declared.Meter.{Meter}
use Rattle.meter_steps.specs.declared.Step.{Step}
use Rattle.meter_steps.specs.Meters.{Said, silence, says, Deed, quiet, in_force, with_force, measured, said_of, shown_meter_step}

said_same : (x y : Said) → said_of x ≡ said_of y → x ≡ y
said_same silence silence e = refl
said_same silence (says y) e = cc
said_same (says x) silence e = cc
said_same (says x) (says y) e = cc

-- what is said, as an answer
replied : Answer Deed → Answer (Option Telegram)
replied (refusal n) = refusal n
replied (reads d) = reads (said_of d.said)

reply_shown : (m : Meter) (t : Clock) (a : Answer Deed) → (shown_meter_step m t a).reply ≡ shown (replied a)
unfolding replied
reply_shown m t (refusal n) = refl
reply_shown m t (reads d) = refl

pub shown_step_same : (m : Meter) (t : Clock) (a b : Answer Deed) → shown_meter_step m t a ≡ shown_meter_step m t b → a ≡ b
unfolding replied
shown_step_same m t a b e =
    go a b e (shown_same (replied a) (replied b) (sym (reply_shown m t a) ∙ ap (λ (s : Step). s.reply) e ∙ reply_shown m t b))
  where
    go : (a b : Answer Deed) → shown_meter_step m t a ≡ shown_meter_step m t b → replied a ≡ replied b → a ≡ b
    go (refusal i) (refusal j) e r = cc
    go (refusal i) (reads d) e r = cc
    go (reads d) (refusal j) e r = cc
    go (reads c) (reads d) e r =
        ap reads (ap₂ (λ (k : Core) (x : Said). record { core = k; said = x }) (ap (λ (s : Step). s.meter.core) e) (said_same c.said d.said (reads_same r)))

pub measured_sum : (c : Core) (v e : ℕ) → measured c v e ≡ within (λ (p : Pair). quiet (with_force c p)) (sum_of (in_force c) v e)
measured_sum c v e = go (overflows (in_force c) v e)
  where
    go : (over : Bool)
        → refuse 71 over (reads (quiet (with_force c (plus (in_force c) v e))))
        ≡ within (λ (p : Pair). quiet (with_force c p)) (refuse 71 over (reads (plus (in_force c) v e)))
    go true = refl
    go false = refl
