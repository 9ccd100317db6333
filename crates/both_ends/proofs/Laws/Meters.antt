-- Laws of the meter that both ends rest on: what a return, an instruction and measuring make of two meters that are alike.
use Prim.Native.Nat.{ℕ, ◌+◌, ◌≤◌, ◌<◌}
use native.Mathlib.Omega.{arith}
use mathlib.Core.Bool.{Bool, true, false, true≢false}
use mathlib.Core.Path.{◌≡◌, refl, sym, ap, subst, ◌∙◌}
use borrow.Author.Tests.{le-ltb}
use Rattle.bench_clock.specs.declared.Clock.{Clock}
use Rattle.bench_clock.specs.Times.{return_time, due}
use Rattle.bench_clock.proofs.Laws.Times.{lt_due, due_later}
use Rattle.mbus_rules.specs.declared.Request.{Request}
use Rattle.mbus_rules.specs.declared.Request.TheVariants.{Read, Enter, Leave}
use Rattle.base_rules.specs.Answers.{Answer, reads, refuse}
use Rattle.base_rules.proofs.Laws.Tests.{by_test}
use Rattle.meter_template.specs.declared.Pair.{Pair}
use Rattle.meter_template.specs.Templates.{overflows, plus}
use Rattle.meter_steps.specs.declared.Core.{Core}
use Rattle.meter_steps.specs.declared.Meter.{Meter}
use Rattle.meter_steps.specs.declared.Mode.{Mode}
use Rattle.meter_steps.specs.declared.Mode.TheVariants.{Use, Verifying}
use Rattle.meter_steps.specs.Histories.{is_read, in_use}
use Rattle.meter_steps.specs.Meters.{Deed, quiet, mode_at, with_mode, returned, cleared_from, instructed, force_of, in_force, with_force, measured}
use Rattle.both_ends.specs.Line.{own_ends, meter_after}
use Rattle.both_ends.specs.Statements.{Done}

-- ---- the return

mode_again : (now t : Clock) (mode : Mode) → now.0 ≤ t.0 → mode_at t (mode_at now mode) ≡ mode_at t mode
mode_again now t Use h = refl
mode_again now t (Verifying s since) h =
    by_test (due since.0 now.0) (λ d. rw (d, due_later since.0 now.0 t.0 h d)) (λ d. rw d)

-- A return that was tried before is tried again at a later time, to the same end.
pub returned_again : (now t : Clock) (c : Core) → now.0 ≤ t.0 → returned t (returned now c) ≡ returned t c
returned_again now t c h = ap (with_mode c) (mode_again now t c.mode h)

-- ---- what was asked stays done

-- An instruction that is not before the first send does what it asks,
pub settles : (first t : Clock) (q : Request) (c : Core) → is_read q ≡ false → first.0 ≤ t.0 → Done first q (instructed t c q).core.mode
settles first t (Read a) c e h = true≢false e
settles first t (Enter a s) c e h = (t, refl, h)
settles first t (Leave a) c e h = refl

-- the same instruction again changes nothing but the mode: above all it clears no totals,
pub again : (first t : Clock) (q : Request) (c : Core) → Done first q c.mode → with_mode (instructed t c q).core Use ≡ with_mode c Use
again first t (Read a) c d = absurd d
again first t (Enter a s) c (since, verifying, h) =
    ap (λ (mode : Mode). record {
      address = c.address;
      mode = Use;
      used = c.used;
      verified = cleared_from mode c.verified;
      template = c.template;
    }) verifying
again first t (Leave a) c d = refl

-- and within 30 minutes of the first send there is no return.
pub no_return : (first t : Clock) (q : Request) (mode : Mode) → Done first q mode → t.0 < first.0 + return_time → mode_at t mode ≡ mode
no_return first t (Read a) mode d h = absurd d
no_return first t (Enter a s) mode (since, verifying, f) h =
    ap (mode_at t) verifying ∙ rw (lt_due since.0 t.0 (omega arith)) (sym verifying)
no_return first t (Leave a) mode d h = ap (mode_at t) d ∙ sym d

pub core_stays : (first t : Clock) (q : Request) (c : Core) → Done first q c.mode → t.0 < first.0 + return_time → returned t c ≡ c
core_stays first t q c d h = ap (with_mode c) (no_return first t q c.mode d h)

-- Two meters that have done the same measure into the same pair.
same_side : (first : Clock) (q : Request) (mode other : Mode) → Done first q mode → Done first q other → in_use mode ≡ in_use other
same_side first (Read a) mode other d e = absurd d
same_side first (Enter a s) mode other d e = ap in_use d.1 ∙ sym (ap in_use e.1)
same_side first (Leave a) mode other d e = ap in_use d ∙ sym (ap in_use e)

-- ---- measuring

-- a step that is measured in time, by what the return leaves
measured_in_time : (m : Meter) (c : Core) (t : Clock) (v e : ℕ) → m.last.0 ≤ t.0 → returned t m.core ≡ c → own_ends.measure m v e t ≡ measured c v e
measured_in_time m c t v e h r = rw (le-ltb t.0 m.last.0 h) (ap (λ (c : Core). measured c v e) r)

-- the core after measuring
abbrev pub added : Core → ℕ → ℕ → Core
added c v e = with_force c (plus (in_force c) v e)

-- Of two meters that measure into the same totals both are refused, or neither.
pub measure_both : (P : Meter → Meter → Type 0) (m n : Meter) (c d : Core) (t : Clock) (v e : ℕ)
    → m.last.0 ≤ t.0 → n.last.0 ≤ t.0 → returned t m.core ≡ c → returned t n.core ≡ d → in_force c ≡ in_force d
    → P m n → P (record { last = t; core = added c v e }) (record { last = t; core = added d v e })
    → P (meter_after m t (own_ends.measure m v e t)) (meter_after n t (own_ends.measure n v e t))
measure_both P m n c d t v e hm hn rc rd same stay taken =
    subst (λ (a : Answer Deed). P (meter_after m t a) (meter_after n t (own_ends.measure n v e t))) (sym (measured_in_time m c t v e hm rc))
    (subst (λ (a : Answer Deed). P (meter_after m t (measured c v e)) (meter_after n t a)) (sym (measured_in_time n d t v e hn rd))
    (go (overflows (in_force c) v e) (overflows (in_force d) v e) (ap (λ (p : Pair). overflows p v e) same)))
  where
    go : (over other : Bool) → over ≡ other
        → P (meter_after m t (refuse 71 over (reads (quiet (added c v e))))) (meter_after n t (refuse 71 other (reads (quiet (added d v e)))))
    go true true s = stay
    go true false s = absurd (true≢false s)
    go false true s = absurd (true≢false (sym s))
    go false false s = taken

force_side : (mode other : Mode) (p r : Pair) → in_use mode ≡ in_use other → force_of mode p r ≡ force_of other p r
force_side Use Use p r e = refl
force_side Use (Verifying s since) p r e = absurd (true≢false e)
force_side (Verifying s since) Use p r e = absurd (true≢false (sym e))
force_side (Verifying s since) (Verifying s' since') p r e = refl

-- Two cores that are alike but for their modes, on the same side, have the same pair in force, and are so again after measuring.
pub force_twins : (c d : Core) → with_mode c Use ≡ with_mode d Use → in_use c.mode ≡ in_use d.mode → in_force c ≡ in_force d
force_twins c d e side =
    ap (λ (x : Core). force_of c.mode x.used x.verified) e ∙ force_side c.mode d.mode d.used d.verified side

pub added_twins : (c d : Core) (v e : ℕ) → with_mode c Use ≡ with_mode d Use → in_use c.mode ≡ in_use d.mode
    → with_mode (added c v e) Use ≡ with_mode (added d v e) Use
added_twins c d v e same side =
    ap (λ (x : Core). with_mode (with_force (with_mode x c.mode) (plus (in_force (with_mode x c.mode)) v e)) Use) same ∙ go c.mode d.mode side
  where
    go : (mode other : Mode) → in_use mode ≡ in_use other
        → with_mode (with_force (with_mode d mode) (plus (in_force (with_mode d mode)) v e)) Use
        ≡ with_mode (with_force (with_mode d other) (plus (in_force (with_mode d other)) v e)) Use
    go Use Use e = refl
    go Use (Verifying s since) e = absurd (true≢false e)
    go (Verifying s since) Use e = absurd (true≢false (sym e))
    go (Verifying s since) (Verifying s' since') e = refl

pub sides : (first : Clock) (q : Request) (c d : Core) → Done first q c.mode → Done first q d.mode → in_use c.mode ≡ in_use d.mode
sides first q c d = same_side first q c.mode d.mode
