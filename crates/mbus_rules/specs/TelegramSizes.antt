-- 01, "Telegrams": A is any byte, and seven entries are in an array.
use Rattle.std.specs.Prelude.{◌<◌, ◌≡◌, length}
use Rattle.mbus_rules.specs.declared.Telegram.{Telegram}
use Rattle.mbus_rules.specs.HeaderSizes.{Fits}

-- What the types of a telegram's fields see to.
pub record Sized (t : Telegram) : Type 0 where
  pub address : t.address < 256
  pub header : Fits t.header
  pub places : length t.entries ≡ 7
