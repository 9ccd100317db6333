-- Proofs of the statements of specs/Salvage.
use Prim.Native.Nat.{ℕ}
use mathlib.Core.List.{List}
use mathlib.Core.Path.{◌≡◌, refl, ap, ◌∙◌}
use native.Mathlib.Omega.{arith}
use lib.ListN.{drop}
use Rattle.base_rules.specs.Answers.{reads}
use Rattle.base_rules.specs.Bytes.{Bytes}
use Rattle.bundle_rows.specs.Rows.{first_offset}
use Rattle.bundle_rows.proofs.Laws.RowLaws.{length_rows}
use Rattle.bundle_check.specs.Bundles.{count_of, check_of, opened}
use Rattle.bundle_check.specs.Records.{bundle_of}
use Rattle.bundle_check.proofs.Laws.Accepted.{accepted_sound}
use Rattle.bundle_check.proofs.Laws.HoldingLaws.{bundle_whole}
use Rattle.bundle_salvage.specs.Salvaging.{leading_rows}
use Rattle.bundle_salvage.proofs.Laws.Answers as answers
use Rattle.bundle_salvage.proofs.Laws.Leading as leading
use Rattle.bundle_salvage.proofs.Laws.Proper as proper
use Rattle.demands.proofs.Laws.Bundle.{byte_at}
use Rattle.demands.specs.Salvage.{SalvageIs, KeptKeepTheRules, NoMoreRows, RuleOfTheFirstDropped, WrittenLength, WrittenAccepted, WrittenHolds}
use Rattle.demands.specs.Salvage.{ProperTold, ProperIsItself, TwiceTold, TwiceTheSame}
use Rattle.demands.specs.Salvage as sayings

module _ (b : List ℕ) (n : ℕ) (whole : opened b (reads (count_of b)) ≡ reads n) where
  pub salvage_is : SalvageIs b n whole
  salvage_is = answers.salvage_is b n whole refl

  pub kept_keep_the_rules : KeptKeepTheRules b n whole
  kept_keep_the_rules = leading.leading_keep b 0 (first_offset n) (sayings.rows b n whole)

  pub no_more_rows : NoMoreRows b n whole
  no_more_rows k h p = leading.leading_most b k 0 (first_offset n) (sayings.rows b n whole) (omega (arith, length_rows n (drop 2 b))) p

  pub rule_of_the_first_dropped : RuleOfTheFirstDropped b n whole
  rule_of_the_first_dropped h = leading.leading_rule b 0 (first_offset n) (sayings.rows b n whole) (omega (arith, length_rows n (drop 2 b)))

  pub written_length : WrittenLength b n whole
  written_length = proper.length_written b n whole

  pub written_accepted : WrittenAccepted b n whole
  written_accepted bytes = proper.new_accepted b n whole (byte_at b bytes)

  pub written_holds : WrittenHolds b n whole
  written_holds bytes = proper.new_holds b n whole (byte_at b bytes)

module _ (b : List ℕ) (n : ℕ) (accepted : check_of b ≡ reads n) where
  pub proper_told : ProperTold b n accepted
  proper_told = proper.sound_salvaged b n accepted

  pub proper_is_itself : ProperIsItself b n accepted
  proper_is_itself bytes = ap bundle_of (proper.all_taken b n accepted) ∙ bundle_whole b (accepted_sound b n accepted).0 (byte_at b bytes)

module _ (b : List ℕ) (n : ℕ) (whole : opened b (reads (count_of b)) ≡ reads n) (bytes : Bytes b) where
  abbrev once : List ℕ
  once = sayings.once b n whole bytes

  pub twice_told : TwiceTold b n whole bytes
  twice_told = proper_told once (leading_rows n b).kept (written_accepted b n whole bytes)

  pub twice_the_same : TwiceTheSame b n whole bytes
  twice_the_same =
      ap bundle_of (proper.all_taken once (leading_rows n b).kept (written_accepted b n whole bytes)) ∙ ap bundle_of (written_holds b n whole bytes)
