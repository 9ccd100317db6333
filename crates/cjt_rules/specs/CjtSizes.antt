-- 02, 2026-08: serial number and state are any byte.
use Rattle.std.specs.Prelude.{◌<◌}
use Rattle.cjt_rules.specs.declared.CjtAnswer.{CjtAnswer}
use Rattle.cjt_rules.specs.declared.CjtTelegram.{CjtTelegram}
use Rattle.cjt_rules.specs.declared.CjtTelegram.TheVariants as telegrams

-- What the types of an answer's fields see to.
pub record TellsBytes (a : CjtAnswer) : Type 0 where
  pub serial : a.serial < 256
  pub first : a.first_state < 256
  pub second : a.second_state < 256

-- What the types of a telegram's fields see to; the rules see to the others.
abbrev pub CjtSized : CjtTelegram → Type 0
CjtSized (telegrams.Request q) = q.serial < 256
CjtSized (telegrams.Answer a) = TellsBytes a
