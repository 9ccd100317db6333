-- Proofs of the statements of specs/CjtEmpty.
use Prim.Native.Nat.{ℕ}
use mathlib.Core.List.{List, [], ◌∷◌, map}
use mathlib.Core.Logic.{◌≢◌}
use mathlib.Core.Path.{◌≡◌, refl, sym, ap, ◌∙◌}
use native.Mathlib.Omega.{arith}
use lib.Count.{ones_in}
use lib.Dec.{lit<, lit≤}
use lib.ListN.{length, replicate}
use Rattle.base_lent.specs.Lent.{told}
use Rattle.base_rules.specs.Lists.{at, any, total}
use Rattle.base_characters.specs.Characters.{odd, carrier}
use Rattle.base_rules.specs.Answers.{reads, refusal}
use Rattle.base_digits.specs.Digits.{digits_of, packed}
use Rattle.base_characters.specs.Flips.{repeated}
use Rattle.cjt_rules.specs.declared.CjtAddress.TheVariants.{Meter, Broadcast}
use Rattle.cjt_rules.specs.CjtFrames.{past_fe}
use Rattle.cjt_rules.specs.CjtLines.{read_cjt_frame, read_cjt_line}
use Rattle.cjt_rules.specs.CjtWriting.{cjt_line_of, unwritten}
use Rattle.cjt_rules.specs.CjtHost.{cjt_line_number}
use Rattle.demands.proofs.Laws.Cjt as cjt
use Rattle.demands.specs.CjtValues.{asking_of, request_of001}
use Rattle.demands.specs.CjtEmpty.{RulesReadCjt, RefusesEveryCjtLine, RulesRefuseCjtFlips, SaysOneTelegram, RulesSkipFront, SkipsNoFront, RulesWriteCjt}
use Rattle.demands.specs.CjtEmpty.{RefusesEveryCjtTelegram, CjtWriterDoesNothing}

pub rules_read_cjt : RulesReadCjt
rules_read_cjt = cjt.cjt_write_and_read

pub refuses_every_cjt_line : RefusesEveryCjtLine
unfolding cjt_line_of unwritten packed
refuses_every_cjt_line number d = let r = d (asking_of Broadcast 0) (replicate 16 0) (lit< tt) refl (lit≤ tt) in omega (arith, ap cjt_line_number r.2)

pub rules_refuse_cjt_flips : RulesRefuseCjtFlips
rules_refuse_cjt_flips = cjt.cjt_flips_are_refused

pub says_one_telegram : SaysOneTelegram
unfolding any repeated
says_one_telegram t d =
    d (0 ∷ []) (record { character = 0; bit = 0 } ∷ []) (t, refl) (record { within = refl; different = refl }) (lit≤ tt) (lit≤ tt) (t, refl)

pub rules_skip_front : RulesSkipFront
rules_skip_front = cjt.front_is_skipped

line_read : read_cjt_line (map carrier (request_of001 0)) ≡ reads (asking_of (Meter 11110012345678) 3)
unfolding read_cjt_line read_cjt_frame past_fe any odd ones_in carrier total digits_of
line_read = refl

pub skips_no_front : SkipsNoFront
unfolding carrier ones_in
skips_no_front read number bare front d =
    let fe : read (map carrier (request_of001 1)) ≡ refusal number = front (map carrier (request_of001 1)) refl in
    let none : read (map carrier (request_of001 0)) ≡ reads (asking_of (Meter 11110012345678) 3) =
    bare (map carrier (request_of001 0)) (λ e. omega (arith, e)) ∙ line_read in
    let same : read (map carrier (request_of001 1)) ≡ read (map carrier (request_of001 0)) = d 1 (carrier 0x68) _ (lit≤ tt) (λ e. omega (arith, e)) in
    omega (arith, ap cjt_line_number (sym fe ∙ same ∙ none))

pub rules_write_cjt : RulesWriteCjt
rules_write_cjt = cjt.cjt_read_and_write

bare_line : at (map carrier (request_of001 0)) 0 ≢ carrier 0xFE
unfolding carrier ones_in
bare_line e = omega (arith, e)

pub refuses_every_cjt_telegram : RefusesEveryCjtTelegram
refuses_every_cjt_telegram number leaves d =
    omega (arith, ap (told (λ (s : List ℕ). length s)) (d (map carrier (request_of001 0)) _ (replicate 16 0) bare_line line_read (lit≤ tt)).0)

pub cjt_writer_does_nothing : CjtWriterDoesNothing
unfolding carrier ones_in
cjt_writer_does_nothing write d =
    omega (arith, ap (λ (s : List ℕ). at s 0) (d (map carrier (request_of001 0)) _ (replicate 16 0) bare_line line_read (lit≤ tt)).1)
