-- Proofs of the statements of specs/Told.
use mathlib.Core.Path.{refl}
use lib.Count.{ones_in}
use Rattle.base_rules.specs.Lists.{any, total}
use Rattle.base_characters.specs.Characters.{odd, carrier, chars}
use Rattle.base_digits.specs.Digits.{digits_of}
use Rattle.base_lent.specs.Same.{same}
use Rattle.base_numbers.specs.Numbers.{number, bytes_of}
use Rattle.mbus_rules.specs.Entries.{read_entries}
use Rattle.mbus_rules.specs.Headers.{wrong_header}
use Rattle.mbus_rules.specs.Lines.{read_body, read_line}
use Rattle.mbus_rules.specs.Moments.{wrong_moment}
use Rattle.mbus_rules.specs.Quantities.{quantity_of, width_of, paired}
use Rattle.mbus_rules.specs.Signs.{minus}
use Rattle.mbus_rules.specs.Writing.{line_of, repeats, unwritable}
use Rattle.mbus_records.specs.Telegrams.{telegram_bytes, telegram_in, entry_in, entries_in}
use Rattle.cjt_rules.specs.CjtFrames.{past_fe}
use Rattle.cjt_rules.specs.CjtLines.{read_cjt_frame, read_cjt_line}
use Rattle.cjt_records.specs.CjtRecords.{cjt_bytes, cjt_in}
use Rattle.exchange_record.specs.Exchanges.{exchange_bytes, exchange_in}
use Rattle.demands.specs.Told.{LinesTold, CjtLinesTold, StepsTold, LengthTold, RequestsByNumber, SendsByNumber, RecordsRead}

pub lines_told : LinesTold
unfolding chars bytes_of read_line read_body read_entries any total odd carrier ones_in line_of wrong_header digits_of minus wrong_moment quantity_of width_of paired
lines_told = (refl, refl, refl, refl, refl, refl, refl)

pub cjt_lines_told : CjtLinesTold
unfolding chars bytes_of read_cjt_line read_cjt_frame past_fe any odd ones_in carrier total digits_of
cjt_lines_told = (refl, refl)

pub steps_told : StepsTold
steps_told = (refl, refl, refl, refl, refl, refl, refl, refl, refl)

pub length_told : LengthTold
length_told n before = (refl, refl, refl, refl, refl, refl)

pub requests_by_number : RequestsByNumber
unfolding line_of unwritable any repeats total carrier ones_in quantity_of
requests_by_number = (refl, refl, refl, refl, refl, refl)

pub sends_by_number : SendsByNumber
unfolding same
sends_by_number = (refl, refl, refl, refl, refl, refl)

pub records_read : RecordsRead
unfolding same number bytes_of telegram_bytes telegram_in entry_in entries_in cjt_bytes cjt_in exchange_bytes exchange_in
records_read = (refl, refl, refl, refl)
