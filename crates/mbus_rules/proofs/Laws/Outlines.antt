-- Laws of `specs/Outlines`, and of the telegram that was read.
use mathlib.Core.Path.{◌≡◌, refl}
use Rattle.std.specs.Result.{result_unwrap_or}
use Rattle.mbus_rules.specs.declared.Telegram.{Telegram}
use Rattle.base_rules.specs.Answers.{Answer, reads, refusal}
use Rattle.base_rules.specs.Shown.{shown}
use Rattle.mbus_rules.specs.Telegrams.{blank, telegram_read}
use Rattle.mbus_rules.specs.Outlines.{outlined, outline_in}

pub outline_shown : (a : Answer Telegram) → outline_in (shown a) ≡ outlined a
outline_shown (refusal n) = refl
outline_shown (reads t) = refl

pub telegram_shown : (a : Answer Telegram) → result_unwrap_or (shown a) blank ≡ telegram_read a
telegram_shown (refusal n) = refl
telegram_shown (reads t) = refl
