-- Laws about the record of a CJ/T 188 telegram: what is written for a telegram is read as that telegram.
use Prim.Native.Nat.{ℕ, ◌^◌, ◌<◌}
use mathlib.Core.Bool.{false, not}
use mathlib.Core.List.{List, [], ◌∷◌}
use mathlib.Core.Path.{◌≡◌, refl, ap, ◌∙◌}
use native.Mathlib.Omega.{arith}
use borrow.Author.Tests.{ltb-true, not-false}
use lib.Dec.{ltb}
use lib.ListN.{length, replicate}
use Rattle.base_rules.specs.Answers.{reads, refusal}
use Rattle.base_rules.proofs.Laws.TestLaws.{none}
use Rattle.base_lent.specs.Copying.{copied}
use Rattle.base_numbers.specs.Numbers.{bytes_of}
use Rattle.base_numbers.proofs.Laws.Numbers.{number_bytes}
use Rattle.cjt_rules.specs.declared.CjtAddress.{CjtAddress}
use Rattle.cjt_rules.specs.declared.CjtAddress.TheVariants.{Meter, Broadcast}
use Rattle.cjt_rules.specs.declared.CjtRequest.{CjtRequest}
use Rattle.cjt_rules.specs.declared.CjtTelegram.{CjtTelegram}
use Rattle.cjt_rules.specs.declared.CjtTelegram.TheVariants as telegrams
use Rattle.cjt_rules.specs.CjtAddresses.{heat_type}
use Rattle.cjt_rules.specs.CjtClocks.{wrong_clock}
use Rattle.cjt_rules.specs.CjtUnits.{wrong_units}
use Rattle.cjt_rules.specs.CjtWriting.{over_fourteen, over_eight, over_six, unwritten_party, unwritten_counts, unwritten}
use Rattle.cjt_rules.proofs.Laws.ListedLaws.{clock_shows}
use Rattle.base_lent.specs.Recorded.{no_record}
use Rattle.base_lent.proofs.Laws.Recorded.{record_read, record_written, wrong_size}
use Rattle.cjt_records.specs.CjtRecords.{broadcast_byte, address_number, head_bytes, cjt_bytes, cjt_in, cjt_from}
use Rattle.cjt_records.specs.Sizes.{PartyFits, CjtFits}

-- ---- sizes

pub cjt_length : (t : CjtTelegram) → length (cjt_bytes t) ≡ 80
unfolding cjt_bytes bytes_of
cjt_length (telegrams.Request q) = refl
cjt_length (telegrams.Answer a) = refl

-- ---- as the code lays them

pub request_laid : (q : CjtRequest) {h last : List ℕ}
    → h ≡ head_bytes 1 q.meter_type q.serial (broadcast_byte q.address) 0 0 (address_number q.address)
    → last ≡ copied (replicate 80 0) 0 h → last ≡ cjt_bytes (telegrams.Request q)
unfolding cjt_bytes bytes_of
request_laid q e l = l ∙ ap (copied (replicate 80 0) 0) e

-- ---- what is written is read

request_taken : (sort serial : ℕ) (p : CjtAddress) → PartyFits p
    → cjt_in (cjt_bytes (telegrams.Request (record { meter_type = sort; address = p; serial = serial })))
    ≡ telegrams.Request (record { meter_type = sort; address = p; serial = serial })
unfolding cjt_in cjt_bytes bytes_of
request_taken sort serial (Meter n) h = rw (number_bytes 8 n h)
request_taken sort serial Broadcast h = refl

cjt_taken : (t : CjtTelegram) → CjtFits t → cjt_in (cjt_bytes t) ≡ t
unfolding cjt_in cjt_bytes bytes_of
cjt_taken (telegrams.Request q) f = request_taken q.meter_type q.serial q.address f
cjt_taken (telegrams.Answer a) f =
    rw (
      number_bytes 8 a.address f.address,
      number_bytes 4 a.cold.count f.cold,
      number_bytes 4 a.heat.count f.heat,
      number_bytes 4 a.power.count f.power,
      number_bytes 4 a.flow.count f.flow,
      number_bytes 4 a.volume.count f.volume,
      number_bytes 4 a.inlet f.inlet,
      number_bytes 4 a.outlet f.outlet,
      number_bytes 4 a.hours f.hours,
      number_bytes 2 a.clock.year f.year,
    )

-- The record of every telegram reads as that telegram,
pub cjt_read : (t : CjtTelegram) → CjtFits t → cjt_from (cjt_bytes t) ≡ reads t
cjt_read t f = record_read cjt_bytes cjt_in t (cjt_taken t f)

-- and what is read is written as the same bytes.
pub cjt_written : (b : List ℕ) (t : CjtTelegram) → cjt_from b ≡ reads t → cjt_bytes t ≡ b
cjt_written b t e = record_written cjt_bytes cjt_in b t e

-- no record of a telegram has another size
pub cjt_size : (b : List ℕ) → (length b ≡ 80 → ⊥) → cjt_from b ≡ refusal no_record
cjt_size b h = wrong_size cjt_bytes cjt_in 80 (λ a. cjt_length (cjt_in a)) b h

-- ---- a telegram that can be written fits the types

below_eight : (n : ℕ) → over_eight n ≡ false → n < 256 ^ 4
below_eight n e = omega (arith, ltb-true n 100000000 (not-false (ltb n 100000000) e))

below_six : (n : ℕ) → over_six n ≡ false → n < 256 ^ 4
below_six n e = omega (arith, ltb-true n 1000000 (not-false (ltb n 1000000) e))

below_fourteen : (n : ℕ) → over_fourteen n ≡ false → n < 256 ^ 8
below_fourteen n e = omega (arith, ltb-true n 100000000000000 (not-false (ltb n 100000000000000) e))

party_fits : (p : CjtAddress) → unwritten_party p ≡ false → PartyFits p
party_fits (Meter n) e = below_fourteen n e
party_fits Broadcast e = tt

pub writable_fits : (t : CjtTelegram) → unwritten t ≡ false → CjtFits t
unfolding unwritten
writable_fits (telegrams.Request q) w =
    party_fits q.address (none (not (heat_type q.meter_type)) (unwritten_party q.address ∷ []) w).1.0
writable_fits (telegrams.Answer a) w =
    let p = none (not (heat_type a.meter_type))
    (over_fourteen a.address ∷ unwritten_counts a ∷ wrong_clock a.clock ∷ wrong_units a ∷ []) w in
    let c = none (over_eight a.cold.count) (over_eight a.heat.count ∷ over_eight a.power.count ∷ over_eight a.flow.count
    ∷ over_eight a.volume.count ∷ over_six a.inlet ∷ over_six a.outlet ∷ over_six a.hours ∷ []) p.1.1.0 in
    let v = c.1.1.1.1 in
    record {
      address = below_fourteen a.address p.1.0;
      cold = below_eight a.cold.count c.0;
      heat = below_eight a.heat.count c.1.0;
      power = below_eight a.power.count c.1.1.0;
      flow = below_eight a.flow.count c.1.1.1.0;
      volume = below_eight a.volume.count v.0;
      inlet = below_six a.inlet v.1.0;
      outlet = below_six a.outlet v.1.1.0;
      hours = below_six a.hours v.1.1.1.0;
      year = omega (arith, (clock_shows a.clock p.1.1.1.0).year);
    }
