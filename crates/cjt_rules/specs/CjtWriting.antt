-- 02, 2026-08, the other way round: the line that is written for a telegram, without FE bytes, and the refusals 20 and 21.
use Rattle.std.specs.Prelude.{ℕ, Bool, false, not, ◌||◌, List, [], ◌∷◌, ◌++◌, map, ltb, length, replicate}
use Rattle.base_characters.specs.Characters.{carrier}
use Rattle.base_rules.specs.Answers.{Answer, reads, refuse}
use Rattle.base_digits.specs.Digits.{packed}
use Rattle.base_characters.specs.Closing.{closed}
use Rattle.cjt_rules.specs.declared.CjtAddress.{CjtAddress}
use Rattle.cjt_rules.specs.declared.CjtAddress.TheVariants.{Meter, Broadcast}
use Rattle.cjt_rules.specs.declared.CjtQuantity.{CjtQuantity}
use Rattle.cjt_rules.specs.declared.CjtClock.{CjtClock}
use Rattle.cjt_rules.specs.declared.CjtAnswer.{CjtAnswer}
use Rattle.cjt_rules.specs.declared.CjtTelegram.{CjtTelegram}
use Rattle.cjt_rules.specs.declared.CjtTelegram.TheVariants as telegrams
use Rattle.cjt_rules.specs.CjtAddresses.{heat_type}
use Rattle.cjt_rules.specs.CjtUnits.{wrong_units}
use Rattle.cjt_rules.specs.CjtClocks.{wrong_clock}

-- ---- the bytes of each part

abbrev pub bytes_of_party : CjtAddress → List ℕ
bytes_of_party (Meter n) = packed 7 n
bytes_of_party Broadcast = replicate 7 0xAA

abbrev pub bytes_of_quantity : CjtQuantity → List ℕ
bytes_of_quantity q = packed 4 q.count ++ (q.code ∷ [])

abbrev pub bytes_of_clock : CjtClock → List ℕ
bytes_of_clock c =
    packed 1 c.second ++ (packed 1 c.minute ++ (packed 1 c.hour ++ (packed 1 c.day ++ (packed 1 c.month ++ packed 2 c.year))))

-- 001's D1 to D43
abbrev pub bytes_listed : CjtAnswer → List ℕ
bytes_listed a =
    bytes_of_quantity a.cold ++ (bytes_of_quantity a.heat ++ (bytes_of_quantity a.power ++ (bytes_of_quantity a.flow
    ++ (bytes_of_quantity a.volume ++ (packed 3 a.inlet ++ (packed 3 a.outlet ++ (packed 3 a.hours
    ++ (bytes_of_clock a.clock ++ (a.first_state ∷ a.second_state ∷ [])))))))))

-- ---- the line

-- 68, type, address, control, length, data, sum from the 68 on, 16
abbrev pub frame_of : ℕ → List ℕ → ℕ → List ℕ → List ℕ
frame_of t party control d = closed (0x68 ∷ t ∷ (party ++ (control ∷ length d ∷ d)))

abbrev pub bytes_of_telegram : CjtTelegram → List ℕ
bytes_of_telegram (telegrams.Request q) = frame_of q.meter_type (bytes_of_party q.address) 0x01 (0x1F ∷ 0x90 ∷ q.serial ∷ [])
bytes_of_telegram (telegrams.Answer a) =
    frame_of a.meter_type (packed 7 a.address) 0x81 (0x1F ∷ 0x90 ∷ a.serial ∷ bytes_listed a)

-- each byte with the parity bit that makes it even
unfoldable pub cjt_line_of : CjtTelegram → List ℕ
cjt_line_of t = map carrier (bytes_of_telegram t)

-- ---- 20: no accepted line reads as this telegram. The test that the writer computes:

-- fourteen digits, eight and six do not hold it
abbrev pub over_fourteen : ℕ → Bool
over_fourteen n = not (ltb n 100000000000000)

abbrev pub over_eight : ℕ → Bool
over_eight n = not (ltb n 100000000)

abbrev pub over_six : ℕ → Bool
over_six n = not (ltb n 1000000)

abbrev pub unwritten_party : CjtAddress → Bool
unwritten_party (Meter n) = over_fourteen n
unwritten_party Broadcast = false

abbrev pub unwritten_counts : CjtAnswer → Bool
unwritten_counts a =
    over_eight a.cold.count || over_eight a.heat.count || over_eight a.power.count || over_eight a.flow.count
    || over_eight a.volume.count || over_six a.inlet || over_six a.outlet || over_six a.hours

unfoldable pub unwritten : CjtTelegram → Bool
unwritten (telegrams.Request q) = not (heat_type q.meter_type) || unwritten_party q.address
unwritten (telegrams.Answer a) =
    not (heat_type a.meter_type) || over_fourteen a.address || unwritten_counts a || wrong_clock a.clock || wrong_units a

-- Writing answers 20, then 21 where there are fewer places than characters needed, else the line.
abbrev pub write_cjt_line : CjtTelegram → ℕ → Answer (List ℕ)
write_cjt_line t places = refuse 20 (unwritten t) (refuse 21 (ltb places (length (cjt_line_of t))) (reads (cjt_line_of t)))
