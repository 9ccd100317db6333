-- The record of a simulated meter: `struct skarrowith_meter` of include/skarrowith.h, 192 bytes, numbers low byte first.
use Rattle.std.specs.Prelude.{ℕ, Bool, false, cond, not, ◌||◌, List, [], ◌∷◌, ◌++◌, ltb, eqb, take, drop}
use Rattle.bench_clock.specs.Times.{due, earlier}
use Rattle.mbus_rules.specs.declared.Telegram.{Telegram}
use Rattle.base_rules.specs.Answers.{Answer, reads, refuse, follow}
use Rattle.mbus_rules.specs.Lines.{is_method}
use Rattle.base_rules.specs.Lists.{at}
use Rattle.base_numbers.specs.Numbers.{number, bytes_of}
use Rattle.base_numbers.specs.Records.{record_of}
use Rattle.meter_steps.specs.declared.Core.{Core}
use Rattle.meter_steps.specs.declared.Meter.{Meter}
use Rattle.meter_steps.specs.declared.Mode.{Mode}
use Rattle.meter_steps.specs.declared.Mode.TheVariants.{Use, Verifying}
use Rattle.meter_steps.specs.Meters.{zeros}
use Rattle.base_lent.specs.Recorded.{no_record}
use Rattle.base_lent.specs.Same.{same}
use Rattle.mbus_records.specs.Telegrams.{telegram_bytes, telegram_from}
use Rattle.meter_template.specs.declared.Pair.{Pair}
use Rattle.meter_template.specs.Templates.{unfit_template, pair_in, total_most}

abbrev pub meter_size : ℕ
meter_size = 192

-- ---- written

-- 0 in use, 1 in verification; the method and the time of the last instruction, 0 in use
abbrev pub mode_number : Mode → ℕ
mode_number Use = 0
mode_number (Verifying s since) = 1

abbrev pub method_of : Mode → ℕ
method_of Use = 0
method_of (Verifying s since) = s

abbrev pub since_of : Mode → ℕ
since_of Use = 0
since_of (Verifying s since) = since.0

-- the time of the last step, the own address, mode and method, and five bytes of 0
abbrev pub meter_head : ℕ → ℕ → Mode → List ℕ
meter_head last own mode = bytes_of 8 last ++ (own ∷ mode_number mode ∷ method_of mode ∷ 0 ∷ 0 ∷ 0 ∷ 0 ∷ 0 ∷ [])

-- the time of the last instruction, and both pairs of totals
abbrev pub core_words : Core → List ℕ
core_words c = since_of c.mode ∷ c.used.volume ∷ c.used.energy ∷ c.verified.volume ∷ c.verified.energy ∷ []

-- all but the template
abbrev pub meter_front : Meter → List ℕ
meter_front m = record_of (meter_head m.last.0 m.core.address m.core.mode) (core_words m.core) []

unfoldable pub meter_bytes : Meter → List ℕ
meter_bytes m = record_of (meter_head m.last.0 m.core.address m.core.mode) (core_words m.core) (telegram_bytes m.core.template)

-- ---- read

-- the number of the eight bytes at a place
abbrev pub word_at : List ℕ → ℕ → ℕ
word_at b i = number (take 8 (drop i b))

abbrev pub mode_in : List ℕ → Mode
mode_in b = cond (eqb (at b 9) 1) (Verifying (at b 10) (record { 0 = word_at b 16 })) Use

-- the meter that the bytes and a template give
unfoldable pub meter_in : List ℕ → Telegram → Meter
meter_in b t = record {
  last = record { 0 = word_at b 0 };
  core = record {
    address = at b 8;
    mode = mode_in b;
    used = record { volume = word_at b 24; energy = word_at b 32 };
    verified = record { volume = word_at b 40; energy = word_at b 48 };
    template = t;
  };
}

-- ---- 01, "The simulated meter": what no history leads to

-- verification with no method of 01's, with an instruction after the last step, or so long without one that the meter has returned
abbrev pub wrong_mode : ℕ → Mode → Bool
wrong_mode last Use = false
wrong_mode last (Verifying s since) = not (is_method s) || earlier since.0 last || due since.0 last

-- a total below the one that it began with, or past the limit
abbrev pub wrong_total : ℕ → ℕ → Bool
wrong_total least n = ltb n least || ltb total_most n

abbrev pub wrong_pair : Pair → Pair → Bool
wrong_pair least p = wrong_total least.volume p.volume || wrong_total least.energy p.energy

-- a template that is refused by 72; or one of these
abbrev pub unreached : Meter → Bool
unreached m =
    unfit_template m.core.template || wrong_mode m.last.0 m.core.mode || wrong_pair (pair_in m.core.template.entries) m.core.used
    || wrong_pair zeros m.core.verified

-- The meter whose record the bytes are, or 101: they are not the bytes written for any meter, or no history leads to it.
abbrev pub recalled : List ℕ → Meter → Answer Meter
recalled b m = refuse no_record (not (same b (meter_bytes m))) (refuse no_record (unreached m) (reads m))

abbrev pub meter_from : List ℕ → Answer Meter
meter_from b = follow (telegram_from (drop 56 b)) (λ t. recalled b (meter_in b t))
