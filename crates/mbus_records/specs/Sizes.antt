-- What fits the record of a telegram: each number in the bytes that the record has for it.
use Rattle.std.specs.Prelude.{◌^◌, ◌<◌, List, [], ◌∷◌, ◌≡◌, length}
use Rattle.std.specs.Int.{w64}
use Rattle.std.proofs.Common.{SFits}
use Rattle.mbus_rules.specs.declared.Value.{Value}
use Rattle.mbus_rules.specs.declared.Value.TheVariants.{Number, Time, Binary}
use Rattle.mbus_rules.specs.declared.Entry.{Entry}
use Rattle.mbus_rules.specs.declared.Telegram.{Telegram}

abbrev pub ValueFits : Value → Type 0
ValueFits (Number d) = SFits w64 d.count
ValueFits (Time m) = Unit {0}
ValueFits (Binary w) = SFits w64 w.count

unfoldable pub ValuesFit : List Entry → Type 0
ValuesFit [] = Unit {0}
ValuesFit (e ∷ es) = ValueFits e.value × ValuesFit es

pub record TelegramFits (t : Telegram) : Type 0 where
  pub number : t.header.number < 256 ^ 4
  pub maker : t.header.maker < 256 ^ 2
  pub count : t.count < 256 ^ 8
  pub places : length t.entries ≡ 7
  pub values : ValuesFit t.entries
