-- Two numbers as the bytes of one, and the record of an answer by such words.
use Prim.Native.Nat.{ℕ, zero, suc, ◌+◌, ◌*◌, ◌/◌, ◌%◌, ◌^◌, ◌<◌}
use mathlib.Core.List.{List, [], ◌∷◌, ◌++◌}
use mathlib.Core.Path.{◌≡◌, refl, ap, ap₂, ◌∙◌}
use native.Mathlib.Nat.{pow-zero, pow-succ', mul_assoc, zero-add}
use native.Mathlib.Omega.{arith}
use lib.Arith.{lt-one}
use Rattle.base_rules.proofs.Laws.ByteLaws.{byte_at}
use Rattle.base_lent.specs.Pieces.{pieces}
use Rattle.base_numbers.specs.Numbers.{number, bytes_of}
use Rattle.base_numbers.specs.Records.{words_of}
use Rattle.base_numbers.proofs.Laws.NumberLaws.{bytes_read}
use Rattle.cjt_rules.specs.declared.CjtQuantity.{CjtQuantity}
use Rattle.cjt_rules.specs.declared.CjtAnswer.{CjtAnswer}
use Rattle.cjt_records.specs.CjtRecords.{quantity_bytes, quantities_of, clock_bytes, tail_bytes}

-- a number that fits so many bytes, and another behind it
pub bytes_two : (k m a b : ℕ) → a < 256 ^ k → bytes_of (k + m) (a + 256 ^ k * b) ≡ bytes_of k a ++ bytes_of m b
unfolding bytes_of
bytes_two zero m a b h =
    let none : a ≡ 0 = lt-one h in
    let one : 256 ^ 0 * b ≡ b = rw pow-zero (omega arith) in
    ap₂ bytes_of (zero-add m) (omega arith)
bytes_two (suc k) m a b h =
    let q : ℕ = 256 ^ k * b in
    let shift : 256 ^ suc k * b ≡ 256 * q = rw pow-succ' (mul_assoc 256 (256 ^ k) b) in
    let small : a < 256 * 256 ^ k = rw pow-succ' at h in
    let low : (a + 256 ^ suc k * b) % 256 ≡ a % 256 = omega arith in
    let high : (a + 256 ^ suc k * b) / 256 ≡ a / 256 + q = omega arith in
    let more : suc k + m ≡ suc (k + m) = omega arith in
    ap (λ (n : ℕ). bytes_of n (a + 256 ^ suc k * b)) more
    ∙ ap₂ (λ (x : ℕ) (s : List ℕ). x ∷ s) low (ap (bytes_of (k + m)) high ∙ bytes_two k m (a / 256) b (omega arith))

byte_four : (n : ℕ) → n < 256 → bytes_of 4 n ≡ n ∷ 0 ∷ 0 ∷ 0 ∷ []
unfolding number
byte_four n h =
    let so : n ≡ number (n ∷ 0 ∷ 0 ∷ 0 ∷ []) = omega arith in
    ap (bytes_of 4) so ∙ bytes_read (n ∷ 0 ∷ 0 ∷ 0 ∷ []) (byte_at (n ∷ 0 ∷ 0 ∷ 0 ∷ []) (h, (omega arith, (omega arith, (omega arith, tt)))))

pub quantity_word : (q : CjtQuantity) (w : ℕ) → q.code < 256 → bytes_of 8 w ≡ bytes_of 4 q.count ++ bytes_of 4 q.code → bytes_of 8 w ≡ quantity_bytes q
quantity_word q w h e = e ∙ ap (λ (s : List ℕ). bytes_of 4 q.count ++ s) (byte_four q.code h)

-- temperatures and hours, and the values before them
abbrev behind : CjtAnswer → List ℕ
behind a = (bytes_of 4 a.inlet ++ bytes_of 4 a.outlet) ++ ((bytes_of 4 a.hours ++ bytes_of 4 0) ++ [])

abbrev parts : CjtAnswer → List ℕ
parts a =
    quantity_bytes a.cold
    ++ (quantity_bytes a.heat ++ (quantity_bytes a.power ++ (quantity_bytes a.flow ++ (quantity_bytes a.volume ++ behind a))))

whole : (a : CjtAnswer) → parts a ++ clock_bytes a.clock ≡ pieces quantity_bytes (quantities_of a) ++ tail_bytes a
unfolding bytes_of
whole a = refl

pub answer_words : (a : CjtAnswer) (c h p f v t o : ℕ) → bytes_of 8 c ≡ quantity_bytes a.cold → bytes_of 8 h ≡ quantity_bytes a.heat
    → bytes_of 8 p ≡ quantity_bytes a.power → bytes_of 8 f ≡ quantity_bytes a.flow → bytes_of 8 v ≡ quantity_bytes a.volume
    → bytes_of 8 t ≡ bytes_of 4 a.inlet ++ bytes_of 4 a.outlet → bytes_of 8 o ≡ bytes_of 4 a.hours ++ bytes_of 4 0
    → words_of (c ∷ h ∷ p ∷ f ∷ v ∷ t ∷ o ∷ []) ++ clock_bytes a.clock ≡ pieces quantity_bytes (quantities_of a) ++ tail_bytes a
answer_words a c h p f v t o ec eh ep ef ev et eo =
    let each : words_of (c ∷ h ∷ p ∷ f ∷ v ∷ t ∷ o ∷ []) ≡ parts a = rw (ec, eh, ep, ef, ev, et, eo) in
    ap (λ (s : List ℕ). s ++ clock_bytes a.clock) each ∙ whole a
