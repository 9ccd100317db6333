-- Proofs of the statements of specs/RecordBytes.
use mathlib.Core.Path.{refl}
use Rattle.base_numbers.specs.Numbers.{bytes_of}
use Rattle.mbus_records.specs.Telegrams.{telegram_bytes}
use Rattle.exchange_record.specs.Exchanges.{exchange_bytes}
use Rattle.meter_record.specs.MeterRecords.{meter_bytes}
use Rattle.cjt_records.specs.CjtRecords.{cjt_bytes}
use Rattle.demands.specs.RecordBytes.{TelegramLayout, ExchangeLayout, MeterLayout, FoundLayout, MeaningLayout}
use Rattle.demands.specs.RecordBytes.{CjtAnswerLayout, CjtRequestLayout}

pub telegram_layout : TelegramLayout
unfolding telegram_bytes bytes_of
telegram_layout = refl

pub exchange_layout : ExchangeLayout
unfolding exchange_bytes bytes_of
exchange_layout = (refl, refl, refl, refl, refl)

pub meter_layout : MeterLayout
unfolding meter_bytes telegram_bytes bytes_of
meter_layout = (refl, refl)

pub found_layout : FoundLayout
unfolding bytes_of
found_layout = (refl, refl)

pub meaning_layout : MeaningLayout
unfolding bytes_of
meaning_layout = (refl, refl)

pub cjt_answer_layout : CjtAnswerLayout
unfolding cjt_bytes bytes_of
cjt_answer_layout = refl

pub cjt_request_layout : CjtRequestLayout
unfolding cjt_bytes bytes_of
cjt_request_layout = (refl, refl)
