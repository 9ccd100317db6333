-- What fits the record of a CJ/T 188 telegram: each number in the bytes that the record has for it.
use Rattle.std.specs.Prelude.{◌^◌, ◌<◌}
use Rattle.cjt_rules.specs.declared.CjtAddress.{CjtAddress}
use Rattle.cjt_rules.specs.declared.CjtAddress.TheVariants.{Meter, Broadcast}
use Rattle.cjt_rules.specs.declared.CjtAnswer.{CjtAnswer}
use Rattle.cjt_rules.specs.declared.CjtTelegram.{CjtTelegram}
use Rattle.cjt_rules.specs.declared.CjtTelegram.TheVariants as telegrams

abbrev pub PartyFits : CjtAddress → Type 0
PartyFits (Meter n) = n < 256 ^ 8
PartyFits Broadcast = Unit {0}

pub record AnswerFits (a : CjtAnswer) : Type 0 where
  pub address : a.address < 256 ^ 8
  pub cold : a.cold.count < 256 ^ 4
  pub heat : a.heat.count < 256 ^ 4
  pub power : a.power.count < 256 ^ 4
  pub flow : a.flow.count < 256 ^ 4
  pub volume : a.volume.count < 256 ^ 4
  pub inlet : a.inlet < 256 ^ 4
  pub outlet : a.outlet < 256 ^ 4
  pub hours : a.hours < 256 ^ 4
  pub year : a.clock.year < 256 ^ 2

abbrev pub CjtFits : CjtTelegram → Type 0
CjtFits (telegrams.Request q) = PartyFits q.address
CjtFits (telegrams.Answer a) = AnswerFits a
