-- Which of the two telegrams a line is.
use Rattle.cjt_rules.specs.declared.CjtTelegram.{CjtTelegram}
use Rattle.cjt_rules.specs.declared.CjtTelegram.TheVariants as telegrams
use Rattle.cjt_rules.specs.declared.CjtKind.{CjtKind}
use Rattle.cjt_rules.specs.declared.CjtKind.TheVariants as kinds

abbrev pub cjt_kind_of : CjtTelegram → CjtKind
cjt_kind_of (telegrams.Request q) = kinds.Request
cjt_kind_of (telegrams.Answer a) = kinds.Answer
