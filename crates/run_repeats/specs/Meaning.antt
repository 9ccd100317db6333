-- What two rows that give the same reading have in common, in terms of the telegrams that their lines read as.
use Rattle.std.specs.Prelude.{false, ◌≡◌}
use Rattle.base_rules.specs.Answers.{reads}
use Rattle.base_characters.specs.Characters.{chars}
use Rattle.mbus_rules.specs.Lines.{read_line}
use Rattle.mbus_rules.specs.Writing.{entries_of}
use Rattle.mbus_rules.specs.declared.Kind.TheVariants.{Data}
use Rattle.mbus_rules.specs.declared.Telegram.{Telegram}
use Rattle.bundle_check.specs.Records.{Recorded}
use Rattle.run_counting.specs.Counting.{is_sent}

-- Both were heard, both lines read as data, with one meter number and the same entries.
pub record SameTelegrams (j k : Recorded) : Type 0 where
  pub first : Telegram
  pub second : Telegram
  pub heard : (is_sent j ≡ false) × (is_sent k ≡ false)
  pub read : (read_line (chars j.body) ≡ reads first) × (read_line (chars k.body) ≡ reads second)
  pub kinds : (first.kind ≡ Data) × (second.kind ≡ Data)
  pub number : first.header.number ≡ second.header.number
  pub entries : entries_of first ≡ entries_of second
