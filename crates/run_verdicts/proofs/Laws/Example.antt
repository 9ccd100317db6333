-- The verdicts of the short run.
use mathlib.Core.List.{[], ◌∷◌}
use mathlib.Core.Path.{◌≡◌, refl}
use Rattle.base_characters.specs.Characters.{chars, odd}
use Rattle.base_rules.specs.Lists.{any, total}
use Rattle.mbus_rules.specs.Lines.{read_line, read_body}
use lib.Count.{ones_in}
use Rattle.bench_clock.specs.Wakes.{is_wake}
use Rattle.bundle_check.specs.Walks.{end_of}
use Rattle.run_verdicts.specs.declared.Verdict.TheVariants.{First, Resend, LeftOver, Late, Second, WrongKind, Unasked}
use Rattle.run_verdicts.specs.Verdicts.{verdict_after, slot_after, verdicts_from, verdicts_of}
use Rattle.run_verdicts.specs.Example.{four_reads}

-- The third send is the last of its exchange, so the fourth begins another.
pub four_reads_lem : verdicts_of four_reads ≡ Unasked ∷ First ∷ Resend ∷ WrongKind ∷ Resend ∷ First ∷ LeftOver ∷ Late ∷ Second ∷ []
unfolding verdict_after slot_after verdicts_from end_of is_wake any read_line read_body chars odd ones_in total
four_reads_lem = refl
