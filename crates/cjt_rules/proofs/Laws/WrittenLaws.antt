-- What is written of a telegram reads back as it.
use Prim.Native.Nat.{ℕ, suc, ◌+◌, ◌-◌, ◌%◌, ◌<◌, ◌≤◌}
use native.Mathlib.Omega.{arith}
use mathlib.Core.Bool.{Bool, true, false, cond, not, ◌&&◌, ◌||◌, false≢true}
use mathlib.Core.List.{List, [], ◌∷◌, ◌++◌}
use mathlib.Core.Path.{◌≡◌, refl, sym, ap, subst, ◌∙◌}
use borrow.Author.Tests.{eq-eqb, ne_eqb, ltb-true, le-leb, lt-leb, not-false}
use lib.Dec.{eqb, lit<}
use lib.ListN.{length, take, drop}
use lib.Seq.{get_or-drop, drop-drop}
use Rattle.base_rules.specs.Lists.{at, any, total}
use Rattle.base_rules.specs.Bytes.{Bytes}
use Rattle.base_rules.specs.Answers.{Answer, reads, refuse}
use Rattle.base_digits.specs.Digits.{over_nine, digits_of, packed}
use Rattle.base_characters.specs.Closing.{closed}
use Rattle.base_rules.proofs.Laws.ByteLaws.{bytes_append}
use Rattle.base_characters.proofs.Laws.Closing.{Closed}
use Rattle.base_digits.proofs.Laws.DigitLaws.{digits_packed, packed_right, length_packed, bytes_packed}
use Rattle.base_rules.proofs.Laws.TestLaws.{none, all_passing}
use Rattle.cjt_rules.specs.declared.CjtAddress.{CjtAddress}
use Rattle.cjt_rules.specs.declared.CjtAddress.TheVariants.{Meter, Broadcast}
use Rattle.cjt_rules.specs.declared.CjtRequest.{CjtRequest}
use Rattle.cjt_rules.specs.declared.CjtQuantity.{CjtQuantity}
use Rattle.cjt_rules.specs.declared.CjtClock.{CjtClock}
use Rattle.cjt_rules.specs.declared.CjtAnswer.{CjtAnswer}
use Rattle.cjt_rules.specs.declared.CjtTelegram.{CjtTelegram}
use Rattle.cjt_rules.specs.declared.CjtTelegram.TheVariants as telegrams
use Rattle.cjt_rules.specs.CjtFrames.{asks_length, tells_length, wrong_frame, wrong_frame_sum}
use Rattle.cjt_rules.specs.CjtAddresses.{heat_type, party_bytes, party_of, all_aa, wrong_party}
use Rattle.cjt_rules.specs.CjtUnits.{energy_code, power_code, flow_code, volume_code, wrong_units}
use Rattle.cjt_rules.specs.CjtClocks.{clock_of, wrong_clock}
use Rattle.cjt_rules.specs.CjtLines.{wrong_mark, asks_with, listed_bytes, part, tells_with, wrong_listed, read_listed, read_cjt_frame}
use Rattle.cjt_rules.specs.CjtWriting.{bytes_of_party, bytes_of_quantity, bytes_of_clock, bytes_listed, frame_of, bytes_of_telegram}
use Rattle.cjt_rules.specs.CjtWriting.{over_fourteen, over_eight, over_six, unwritten_party, unwritten_counts, unwritten}
use Rattle.cjt_rules.specs.CjtSizes.{CjtSized, TellsBytes}
use Rattle.cjt_rules.proofs.Laws.FrameParts.{Parts, frame_parts}
use Rattle.cjt_rules.proofs.Laws.ListedLaws.{Listed, listed, listed_length, part_right, part_read, six, value_read, clock_read, clock_right}
use Rattle.cjt_rules.proofs.Laws.BodyLaws.{no_aa}

-- ---- the frame

frame_right : (b : List ℕ) (m : ℕ) → at b 0 ≡ 0x68 → at b 10 ≡ m → (eqb m 0x03 || eqb m 0x2E) ≡ true → length b ≡ m + 13 → Closed 0 b
    → (wrong_frame b ≡ false) × (wrong_frame_sum b ≡ false)
frame_right b m start size known count c =
    let a₀ : eqb (at b 0) 0x68 ≡ true = eq-eqb (at b 0) 0x68 start in
    let a₁ : (asks_length b || tells_length b) ≡ true = rw size known in
    let a₂ : eqb (length b) (at b 10 + 13) ≡ true = eq-eqb (length b) (at b 10 + 13) (count ∙ ap (λ (n : ℕ). n + 13) (sym size)) in
    let a₃ : eqb (at b (length b - 1)) 0x16 ≡ true = eq-eqb (at b (length b - 1)) 0x16 c.end in
    let a₄ : eqb (at b (length b - 2)) (total (take (length b - 2) b) % 256) ≡ true =
    eq-eqb (at b (length b - 2)) (total (take (length b - 2) b) % 256) c.sum in
    (rw (a₀, a₁, a₂, a₃), rw a₄)

-- the mark and the serial number, and what follows them
record Marked (b : List ℕ) (n : ℕ) (l : List ℕ) : Type 0 where
  pub low : at b 11 ≡ 0x1F
  pub high : at b 12 ≡ 0x90
  pub serial : at b 13 ≡ n
  pub rest : listed_bytes b ≡ l

marked_by : (b : List ℕ) (n : ℕ) (l : List ℕ) → drop 11 b ≡ 0x1F ∷ 0x90 ∷ n ∷ l → Marked b n l
marked_by b n l e = record {
  low = sym (get_or-drop 11 b 0 0) ∙ ap (λ (d : List ℕ). at d 0) e;
  high = sym (get_or-drop 11 b 1 0) ∙ ap (λ (d : List ℕ). at d 1) e;
  serial = sym (get_or-drop 11 b 2 0) ∙ ap (λ (d : List ℕ). at d 2) e;
  rest = sym (drop-drop 3 11 b) ∙ ap (drop 3) e;
}

-- ---- addresses

-- the address of a request, to seven bytes and back
record PartyWritten (a : CjtAddress) : Type 0 where
  pub seven : length (bytes_of_party a) ≡ 7
  pub back : party_of (bytes_of_party a) ≡ a
  pub right : any over_nine (bytes_of_party a) && not (true && all_aa (bytes_of_party a)) ≡ false
  pub bytes : Bytes (bytes_of_party a)

party_written : (a : CjtAddress) → unwritten_party a ≡ false → PartyWritten a
unfolding packed any
party_written (Meter n) e =
    let right : any over_nine (packed 7 n) ≡ false = packed_right 7 n in
    let other : all_aa (packed 7 n) ≡ false = no_aa (packed 7 n) (omega (arith, length_packed 7 n)) right in
    record {
      seven = length_packed 7 n;
      back = rw other (ap Meter (digits_packed 7 n (ltb-true n 100000000000000 (not-false _ e))));
      right = rw right;
      bytes = bytes_packed 7 n;
    }
party_written Broadcast e = record { seven = refl; back = refl; right = refl; bytes = omega arith }

-- ---- types and codes are bytes

heat_below : (t : ℕ) → heat_type t ≡ true → t < 256
heat_below t e =
    let no : 256 ≤ t → ⊥ = λ h. false≢true (rw (
      le-leb 0x20 t (omega arith),
      lt-leb t 0x23 (omega arith),
      le-leb 0x25 t (omega arith),
      lt-leb t 0x27 (omega arith),
    ) at e) in
    omega arith

-- a code that is in no list is none
no_code : (u k : ℕ) → 256 ≤ u → k < 256 → eqb u k ≡ false
no_code u k h l = ne_eqb u k (omega arith)

energy_below : (u : ℕ) → energy_code u ≡ true → u < 256
energy_below u e =
    let no : 256 ≤ u → ⊥ = λ h. false≢true (rw (
      no_code u 0x02 h (lit< tt),
      no_code u 0x05 h (lit< tt),
      no_code u 0x08 h (lit< tt),
      no_code u 0x0A h (lit< tt),
      no_code u 0x01 h (lit< tt),
      no_code u 0x0B h (lit< tt),
      no_code u 0x0E h (lit< tt),
      no_code u 0x11 h (lit< tt),
      no_code u 0x13 h (lit< tt),
    ) at e) in
    omega arith

power_below : (u : ℕ) → power_code u ≡ true → u < 256
power_below u e =
    let no : 256 ≤ u → ⊥ = λ h. false≢true (rw (no_code u 0x14 h (lit< tt), no_code u 0x17 h (lit< tt), no_code u 0x1A h (lit< tt)) at e) in
    omega arith

flow_below : (u : ℕ) → flow_code u ≡ true → u < 256
flow_below u e =
    let no : 256 ≤ u → ⊥ = λ h. false≢true (rw (no_code u 0x32 h (lit< tt), no_code u 0x35 h (lit< tt)) at e) in
    omega arith

volume_below : (u : ℕ) → volume_code u ≡ true → u < 256
volume_below u e =
    let no : 256 ≤ u → ⊥ = λ h. false≢true (rw (no_code u 0x29 h (lit< tt), no_code u 0x2C h (lit< tt)) at e) in
    omega arith

value_bytes : (q : CjtQuantity) → q.code < 256 → Bytes (bytes_of_quantity q)
value_bytes q h = bytes_append (packed 4 q.count) (q.code ∷ []) (bytes_packed 4 q.count) (h, tt)

clock_bytes_lem : (c : CjtClock) → Bytes (bytes_of_clock c)
clock_bytes_lem c =
    bytes_append (packed 1 c.second) _ (bytes_packed 1 c.second) (bytes_append (packed 1 c.minute) _ (bytes_packed 1 c.minute)
    (bytes_append (packed 1 c.hour) _ (bytes_packed 1 c.hour) (bytes_append (packed 1 c.day) _ (bytes_packed 1 c.day)
    (bytes_append (packed 1 c.month) _ (bytes_packed 1 c.month) (bytes_packed 2 c.year)))))

listed_bytes_lem : (a : CjtAnswer) → TellsBytes a → wrong_units a ≡ false → Bytes (bytes_listed a)
listed_bytes_lem a z e =
    let k = none (not (energy_code a.cold.code))
    (not (energy_code a.heat.code) ∷ not (power_code a.power.code) ∷ not (flow_code a.flow.code) ∷ not (volume_code a.volume.code) ∷ []) e in
    let cold = value_bytes a.cold (energy_below a.cold.code (not-false _ k.0)) in
    let heat = value_bytes a.heat (energy_below a.heat.code (not-false _ k.1.0)) in
    let power = value_bytes a.power (power_below a.power.code (not-false _ k.1.1.0)) in
    let flow = value_bytes a.flow (flow_below a.flow.code (not-false _ k.1.1.1.0)) in
    let volume = value_bytes a.volume (volume_below a.volume.code (not-false _ k.1.1.1.1.0)) in
    bytes_append (bytes_of_quantity a.cold) _ cold (bytes_append (bytes_of_quantity a.heat) _ heat
    (bytes_append (bytes_of_quantity a.power) _ power (bytes_append (bytes_of_quantity a.flow) _ flow
    (bytes_append (bytes_of_quantity a.volume) _ volume (bytes_append (packed 3 a.inlet) _ (bytes_packed 3 a.inlet)
    (bytes_append (packed 3 a.outlet) _ (bytes_packed 3 a.outlet) (bytes_append (packed 3 a.hours) _ (bytes_packed 3 a.hours)
    (bytes_append (bytes_of_clock a.clock) _ (clock_bytes_lem a.clock) (z.first, (z.second, tt))))))))))

frame_bytes : (t : ℕ) (party : List ℕ) (control : ℕ) (d : List ℕ) → t < 256 → Bytes party → control < 256 → length d < 256 → Bytes d
    → Bytes (frame_of t party control d)
frame_bytes t party control d h p c l k =
    let f : List ℕ = 0x68 ∷ t ∷ (party ++ (control ∷ length d ∷ d)) in
    bytes_append f (total f % 256 ∷ 0x16 ∷ []) (lit< tt, (h, bytes_append party (control ∷ length d ∷ d) p (c, (l, k)))) (omega arith)

-- ---- the telegrams

pub record Reads (b : List ℕ) (t : CjtTelegram) : Type 0 where
  pub bytes : Bytes b
  pub start : at b 0 ≡ 0x68
  pub begun : 0 < length b
  pub back : read_cjt_frame b ≡ reads t

-- what the rules 80 to 83 leave
left_frame : (b : List ℕ) → wrong_frame b ≡ false → wrong_frame_sum b ≡ false → wrong_party b ≡ false → wrong_mark b ≡ false → read_cjt_frame b ≡ read_listed b
unfolding read_cjt_frame
left_frame b frame sum party mark =
    all_passing ((80, wrong_frame b) ∷ (81, wrong_frame_sum b) ∷ (82, wrong_party b) ∷ (83, wrong_mark b) ∷ []) (read_listed b) (frame, (sum, (party, (mark, tt))))

request_reads : (q : CjtRequest) → q.serial < 256 → unwritten (telegrams.Request q) ≡ false
    → Reads (bytes_of_telegram (telegrams.Request q)) (telegrams.Request q)
unfolding unwritten
request_reads q z e =
    let w = none (not (heat_type q.meter_type)) (unwritten_party q.address ∷ []) e in
    let type : heat_type q.meter_type ≡ true = not-false _ w.0 in
    let party : PartyWritten q.address = party_written q.address w.1.0 in
    let d : List ℕ = 0x1F ∷ 0x90 ∷ q.serial ∷ [] in
    let b : List ℕ = bytes_of_telegram (telegrams.Request q) in
    let p : Parts q.meter_type (bytes_of_party q.address) 0x01 d b = frame_parts q.meter_type (bytes_of_party q.address) 0x01 d party.seven in
    let m : Marked b q.serial _ = marked_by b q.serial _ p.data_there.1 in
    let asks : asks_length b ≡ true = rw p.size in
    let frame = frame_right b 3 p.start p.size refl p.count p.closed in
    let right : wrong_party b ≡ false = rw (p.meter, type, p.address, asks) party.right in
    let mark : wrong_mark b ≡ false = rw (m.low, m.high, p.control, asks) in
    let same : asks_with b ≡ q = λ i. record {
      meter_type = p.meter i;
      address = (ap party_of p.address ∙ party.back) i;
      serial = m.serial i;
    } in
    record {
      bytes = frame_bytes q.meter_type (bytes_of_party q.address) 0x01 d (heat_below q.meter_type type) party.bytes (lit< tt) (lit< tt)
          (omega arith);
      start = p.start;
      begun = omega (arith, p.count);
      back = left_frame b frame.0 frame.1 right mark ∙ rw asks (ap (λ (r : CjtRequest). reads (telegrams.Request r)) same);
    }

-- D1 to D43 pass 84, and are read as the values they were written from
module _ (a : CjtAnswer) (d : List ℕ) (l : Listed a d) (counts : unwritten_counts a ≡ false) (clock : wrong_clock a.clock ≡ false) where
  clock_same : clock_of (part 34 7 d) ≡ a.clock
  clock_same = ap clock_of l.clock ∙ clock_read a.clock clock

  listed_passes : wrong_listed d ≡ false
  listed_passes = rw (
    part_right 0 4 a.cold.count d l.cold.0,
    part_right 5 4 a.heat.count d l.heat.0,
    part_right 10 4 a.power.count d l.power.0,
    part_right 15 4 a.flow.count d l.flow.0,
    part_right 20 4 a.volume.count d l.volume.0,
    part_right 25 3 a.inlet d l.inlet,
    part_right 28 3 a.outlet d l.outlet,
    part_right 31 3 a.hours d l.hours,
    ap (any over_nine) l.clock ∙ clock_right a.clock,
    ap wrong_clock clock_same ∙ clock,
  )

  tells_same : (b : List ℕ) → listed_bytes b ≡ d → at b 1 ≡ a.meter_type → digits_of (party_bytes b) ≡ a.address → at b 13 ≡ a.serial → tells_with b ≡ a
  tells_same b e type address serial =
      let k = none (over_eight a.cold.count)
      (over_eight a.heat.count ∷ over_eight a.power.count ∷ over_eight a.flow.count ∷ over_eight a.volume.count ∷ over_six a.inlet
      ∷ over_six a.outlet ∷ over_six a.hours ∷ []) counts in
      let cold = value_read 0 a.cold d l.cold k.0 in
      let heat = value_read 5 a.heat d l.heat k.1.0 in
      let power = value_read 10 a.power d l.power k.1.1.0 in
      let flow = value_read 15 a.flow d l.flow k.1.1.1.0 in
      let volume = value_read 20 a.volume d l.volume k.1.1.1.1.0 in
      let inlet = part_read 25 3 a.inlet d l.inlet (six a.inlet k.1.1.1.1.1.0) in
      let outlet = part_read 28 3 a.outlet d l.outlet (six a.outlet k.1.1.1.1.1.1.0) in
      let hours = part_read 31 3 a.hours d l.hours (six a.hours k.1.1.1.1.1.1.1.0) in
      rw e (λ i. record {
        meter_type = type i;
        address = address i;
        serial = serial i;
        cold = cold i;
        heat = heat i;
        power = power i;
        flow = flow i;
        volume = volume i;
        inlet = inlet i;
        outlet = outlet i;
        hours = hours i;
        clock = clock_same i;
        first_state = l.first i;
        second_state = l.second i;
      })

answer_reads : (a : CjtAnswer) → TellsBytes a → unwritten (telegrams.Answer a) ≡ false → Reads (bytes_of_telegram (telegrams.Answer a)) (telegrams.Answer a)
unfolding unwritten
answer_reads a z e =
    let w = none (not (heat_type a.meter_type)) (over_fourteen a.address ∷ unwritten_counts a ∷ wrong_clock a.clock ∷ wrong_units a ∷ []) e in
    let type : heat_type a.meter_type ≡ true = not-false _ w.0 in
    let d : List ℕ = 0x1F ∷ 0x90 ∷ a.serial ∷ bytes_listed a in
    let n : length d ≡ 46 = omega (arith, listed_length a) in
    let b : List ℕ = bytes_of_telegram (telegrams.Answer a) in
    let p : Parts a.meter_type (packed 7 a.address) 0x81 d b = frame_parts a.meter_type (packed 7 a.address) 0x81 d (length_packed 7
    a.address) in
    let rest : List ℕ = p.data_there.0 in
    let m : Marked b a.serial (bytes_listed a ++ rest) = marked_by b a.serial (bytes_listed a ++ rest) p.data_there.1 in
    let size : at b 10 ≡ 46 = p.size ∙ n in
    let asks : asks_length b ≡ false = rw size in
    let frame = frame_right b 46 p.start size refl (p.count ∙ ap (λ (k : ℕ). k + 13) n) p.closed in
    let right : any over_nine (packed 7 a.address) ≡ false = packed_right 7 a.address in
    let party : wrong_party b ≡ false = rw (p.meter, type, p.address, right) in
    let mark : wrong_mark b ≡ false = rw (m.low, m.high, p.control, asks) in
    let l : Listed a (listed_bytes b) = subst (Listed a) (sym m.rest) (listed a rest) in
    let address : digits_of (party_bytes b) ≡ a.address =
    ap digits_of p.address ∙ digits_packed 7 a.address (ltb-true a.address 100000000000000 (not-false _ w.1.0)) in
    let passes : wrong_listed (listed_bytes b) ≡ false = listed_passes a (listed_bytes b) l w.1.1.0 w.1.1.1.0 in
    let same : tells_with b ≡ a = tells_same a (listed_bytes b) l w.1.1.0 w.1.1.1.0 b refl p.meter address m.serial in
    let units : wrong_units (tells_with b) ≡ false = ap wrong_units same ∙ w.1.1.1.1.0 in
    record {
      bytes = frame_bytes a.meter_type (packed 7 a.address) 0x81 d (heat_below a.meter_type type) (bytes_packed 7 a.address) (lit< tt)
          (omega arith)
          (lit< tt, (lit< tt, (z.serial, listed_bytes_lem a z w.1.1.1.1.0)));
      start = p.start;
      begun = omega (arith, p.count);
      back = left_frame b frame.0 frame.1 party mark
          ∙ ap (λ (t : Bool). cond t (reads (telegrams.Request (asks_with b))) (refuse 84 (wrong_listed (listed_bytes b))
          (refuse 85 (wrong_units (tells_with b)) (reads (telegrams.Answer (tells_with b)))))) asks
          ∙ all_passing ((84, wrong_listed (listed_bytes b)) ∷ (85, wrong_units (tells_with b)) ∷ []) (reads (telegrams.Answer (tells_with b))) (passes, (units, tt))
          ∙ ap (λ (r : CjtAnswer). reads (telegrams.Answer r)) same;
    }

pub telegram_reads : (t : CjtTelegram) → CjtSized t → unwritten t ≡ false → Reads (bytes_of_telegram t) t
telegram_reads (telegrams.Request q) = request_reads q
telegram_reads (telegrams.Answer a) = answer_reads a

-- a request has 16 bytes, an answer 59
party_length : (a : CjtAddress) → length (bytes_of_party a) ≡ 7
party_length (Meter n) = length_packed 7 n
party_length Broadcast = refl

pub request_length : (q : CjtRequest) → length (bytes_of_telegram (telegrams.Request q)) ≡ 16
request_length q = (frame_parts q.meter_type (bytes_of_party q.address) 0x01 (0x1F ∷ 0x90 ∷ q.serial ∷ []) (party_length q.address)).count

pub answer_length : (a : CjtAnswer) → length (bytes_of_telegram (telegrams.Answer a)) ≡ 59
answer_length a =
    (frame_parts a.meter_type (packed 7 a.address) 0x81 (0x1F ∷ 0x90 ∷ a.serial ∷ bytes_listed a) (length_packed 7 a.address)).count
    ∙ ap (λ (k : ℕ). suc (suc (suc k)) + 13) (listed_length a)
