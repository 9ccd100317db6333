-- 01, "The simulated meter".
use Rattle.std.specs.Prelude.{ℕ, Bool, cond, ◌||◌, List, eqb, Option, None, Some, Ok, Err}
use Rattle.bench_clock.specs.Times.{due, earlier}
use Rattle.bench_clock.specs.declared.Clock.{Clock}
use Rattle.mbus_rules.specs.declared.Telegram.{Telegram}
use Rattle.mbus_rules.specs.declared.Request.{Request}
use Rattle.mbus_rules.specs.declared.Request.TheVariants.{Read, Enter, Leave}
use Rattle.mbus_rules.specs.declared.Outline.{Outline}
use Rattle.mbus_rules.specs.declared.Outline.TheVariants as outlines
use Rattle.base_rules.specs.Answers.{Answer, reads, refusal, refuse}
use Rattle.base_rules.specs.Shown.{refused_by}
use Rattle.mbus_rules.specs.Telegrams.{ack}
use Rattle.mbus_rules.specs.Lines.{read_line}
use Rattle.mbus_rules.specs.Outlines.{outlined}
use Rattle.meter_template.specs.declared.Pair.{Pair}
use Rattle.meter_template.specs.Templates.{unfit_template, pair_in, raised, data_with, overflows, plus}
use Rattle.meter_steps.specs.declared.Mode.{Mode}
use Rattle.meter_steps.specs.declared.Mode.TheVariants.{Use, Verifying}
use Rattle.meter_steps.specs.declared.Core.{Core}
use Rattle.meter_steps.specs.declared.Meter.{Meter}
use Rattle.meter_steps.specs.declared.Step.{Step}

-- ---- set-up

abbrev pub zeros : Pair
zeros = record { volume = 0; energy = 0 }

-- It begins in use; the use pair and access number come from the template, the verification pair is 0. The first step may
-- carry any time: none is before 0.
abbrev pub begun_meter : ℕ → Telegram → Meter
begun_meter a t = record {
  last = record { 0 = 0 };
  core = record { address = a; mode = Use; used = pair_in t.entries; verified = zeros; template = t };
}

abbrev pub set_up : ℕ → Telegram → Answer Meter
set_up a t = refuse 72 (unfit_template t) (reads (begun_meter a t))

-- ---- what an accepted step leaves, and its answer

-- An answer is a telegram; other lines get silence.
pub data Said : Type 0 where
  silence : Said
  says : Telegram → Said

pub record Deed : Type 0 where
  pub core : Core
  pub said : Said

abbrev pub quiet : Core → Deed
quiet c = record { core = c; said = silence }

abbrev pub answers : Core → Telegram → Deed
answers c t = record { core = c; said = says t }

-- ---- the return

-- First, in verification, 4,320,000 or more since the last instruction returns it to use.
abbrev pub mode_at : Clock → Mode → Mode
mode_at t Use = Use
mode_at t (Verifying s since) = cond (due since.0 t.0) Use (Verifying s since)

abbrev pub with_mode : Core → Mode → Core
with_mode c m = record { address = c.address; mode = m; used = c.used; verified = c.verified; template = c.template }

abbrev pub returned : Clock → Core → Core
returned t c = with_mode c (mode_at t c.mode)

-- ---- instructions

-- An instruction is an accepted request addressed to FE or its own address.
abbrev pub address_of : Request → ℕ
address_of (Read a) = a
address_of (Enter a s) = a
address_of (Leave a) = a

abbrev pub addressed : ℕ → Request → Bool
addressed own q = eqb (address_of q) 0xFE || eqb (address_of q) own

-- Enter: ack; method set. Only coming from use are the verification totals cleared.
abbrev pub cleared_from : Mode → Pair → Pair
cleared_from Use p = zeros
cleared_from (Verifying s since) p = p

abbrev pub entered : Clock → ℕ → Core → Core
entered t s c = record {
  address = c.address;
  mode = Verifying s t;
  used = c.used;
  verified = cleared_from c.mode c.verified;
  template = c.template;
}

-- Leave: ack; use mode; the totals stay.
abbrev pub left : Core → Core
left c = with_mode c Use

-- Read: the access number goes up by one, 255 to 0, .. (an instruction that leaves the mode as it is counts as the last one)
abbrev pub instructed_at : Clock → Mode → Mode
instructed_at t Use = Use
instructed_at t (Verifying s since) = Verifying s t

abbrev pub read : Clock → Core → Core
read t c = record {
  address = c.address;
  mode = instructed_at t c.mode;
  used = c.used;
  verified = c.verified;
  template = raised c.template;
}

-- .. then data with the pair in force, the rest from the template, with A the own address.
abbrev pub force_of : Mode → Pair → Pair → Pair
force_of Use used verified = used
force_of (Verifying s since) used verified = verified

abbrev pub in_force : Core → Pair
in_force c = force_of c.mode c.used c.verified

abbrev pub data_answer : Core → Telegram
data_answer c = data_with c.address (in_force c) c.template

abbrev pub instructed : Clock → Core → Request → Deed
instructed t c (Enter a s) = answers (entered t s c) ack
instructed t c (Leave a) = answers (left c) ack
instructed t c (Read a) = answers (read t c) (data_answer (read t c))

abbrev pub asked : Clock → Core → Request → Deed
asked t c q = cond (addressed c.address q) (instructed t c q) (quiet c)

-- Other lines get silence.
abbrev pub hears : Clock → Core → Outline → Deed
hears t c (outlines.Refused n) = quiet c
hears t c outlines.Ack = quiet c
hears t c (outlines.Data a) = quiet c
hears t c (outlines.Asks q) = asked t c q

-- ---- measure

-- the core with other totals in the pair in force
abbrev pub with_force : Core → Pair → Core
with_force c p = record {
  address = c.address;
  mode = c.mode;
  used = force_of c.mode p c.used;
  verified = force_of c.mode c.verified p;
  template = c.template;
}

-- Measure: adds to the pair in force, and is no instruction. 71: a total would pass 99,999,999.
abbrev pub measured : Core → ℕ → ℕ → Answer Deed
measured c v e = refuse 71 (overflows (in_force c) v e) (reads (quiet (with_force c (plus (in_force c) v e))))

-- ---- the steps

-- A line heard at t: 70, then the return, then the line.
abbrev pub heard_at : Meter → List ℕ → Clock → Answer Deed
heard_at m line t = refuse 70 (earlier m.last.0 t.0) (reads (hears t (returned t m.core) (outlined (read_line line))))

-- Volume and energy measured at t: 70, then the return, then 71.
abbrev pub measured_at : Meter → ℕ → ℕ → Clock → Answer Deed
measured_at m v e t = refuse 70 (earlier m.last.0 t.0) (measured (returned t m.core) v e)

-- ---- the program's answers: 01's number and values for each

-- a telegram, or silence
abbrev pub said_of : Said → Option Telegram
said_of silence = None
said_of (says t) = Some t

-- a step that was taken at t
abbrev pub taken_at : Clock → Deed → Step
taken_at t d = record { meter = record { last = t; core = d.core }; reply = Ok (said_of d.said) }

-- a refusal leaves the meter as it stood
abbrev pub refused_step : Meter → ℕ → Step
refused_step m n = record { meter = m; reply = Err (refused_by n) }

abbrev pub shown_meter_step : Meter → Clock → Answer Deed → Step
shown_meter_step m t (refusal n) = refused_step m n
shown_meter_step m t (reads d) = taken_at t d
