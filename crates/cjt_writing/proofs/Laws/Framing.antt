-- Laws of bytes laid one part behind the other.
use Prim.Native.Nat.{ℕ, ◌+◌, ◌%◌}
use mathlib.Core.List.{List, [], ◌∷◌, ◌++◌}
use mathlib.Core.Path.{◌≡◌, refl, sym, ap, ◌∙◌}
use native.Mathlib.Omega.{arith}
use lib.ListN.{length, length-append}
use Rattle.base_lent.specs.Copying.{copied}
use Rattle.base_lent.specs.Pieces.{pieces}
use Rattle.base_lent.proofs.Laws.Copying.{copied_on, copied_full}
use Rattle.base_digits.specs.Digits.{packed}
use Rattle.base_rules.specs.Lists.{at, total}
use Rattle.base_characters.specs.Closing.{closed}
use Rattle.cjt_rules.specs.declared.CjtAddress.{CjtAddress}
use Rattle.cjt_rules.specs.declared.CjtAddress.TheVariants.{Meter, Broadcast}
use Rattle.cjt_rules.specs.declared.CjtAnswer.{CjtAnswer}
use Rattle.cjt_rules.specs.declared.CjtQuantity.{CjtQuantity}
use Rattle.cjt_rules.specs.CjtWriting.{bytes_of_party, bytes_of_quantity, bytes_of_clock, bytes_listed}

pub quantity_length : (q : CjtQuantity) → length (bytes_of_quantity q) ≡ 5
unfolding packed
quantity_length q = refl

-- a frame, then its sum and its end
pub frame_closed : (bytes frame : List ℕ) (n : ℕ) → length frame ≡ n → length bytes ≡ n + 2 → {sum : ℕ} {first last : List ℕ}
    → sum ≡ total frame % 256 → first ≡ copied bytes 0 frame → last ≡ copied first n (sum ∷ 0x16 ∷ []) → last ≡ closed frame
frame_closed bytes frame n s h {sum} {first} e f l =
    let end : List ℕ = total frame % 256 ∷ 0x16 ∷ [] in
    l ∙ ap (λ (k : ℕ). copied first n (k ∷ 0x16 ∷ [])) e ∙ ap (λ (b : List ℕ). copied b n end) f
    ∙ copied_on bytes frame end n s (omega arith)
    ∙ copied_full bytes (frame ++ end) (omega (arith, length-append frame end))

-- three parts that fill all places
pub three_laid : (d h v r : List ℕ) (j k : ℕ) → length h ≡ j → j + length v ≡ k → k + length r ≡ length d
    → copied (copied (copied d 0 h) j v) k r ≡ h ++ v ++ r
three_laid d h v r j k eh ev er =
    let both : length (h ++ v) ≡ k = length-append h v ∙ ap (λ (n : ℕ). n + length v) eh ∙ ev in
    ap (λ (b : List ℕ). copied b k r) (copied_on d h v j eh (omega arith))
    ∙ copied_on d (h ++ v) r k both (omega arith)
    ∙ copied_full d (h ++ v ++ r) (length-append (h ++ v) r ∙ ap (λ (n : ℕ). n + length r) both ∙ er)

-- the three parts of an answer
abbrev pub head_of : CjtAnswer → List ℕ
head_of a = 0x68 ∷ a.meter_type ∷ (packed 7 a.address ++ (0x81 ∷ 0x2E ∷ 0x1F ∷ 0x90 ∷ a.serial ∷ []))

abbrev pub values_of : CjtAnswer → List CjtQuantity
values_of a = a.cold ∷ a.heat ∷ a.power ∷ a.flow ∷ a.volume ∷ []

abbrev pub rest_of : CjtAnswer → List ℕ
rest_of a =
    packed 3 a.inlet ++ (packed 3 a.outlet ++ (packed 3 a.hours ++ (bytes_of_clock a.clock ++ (a.first_state ∷ a.second_state ∷ []))))

answer_parts : (a : CjtAnswer)
    → head_of a ++ pieces bytes_of_quantity (values_of a) ++ rest_of a
    ≡ 0x68 ∷ a.meter_type ∷ (packed 7 a.address ++ (0x81 ∷ 0x2E ∷ 0x1F ∷ 0x90 ∷ a.serial ∷ bytes_listed a))
unfolding packed
answer_parts a = refl

pub answer_laid : (a : CjtAnswer) (d : List ℕ) → length d ≡ 57 → {h v r first second last : List ℕ}
    → h ≡ head_of a → v ≡ pieces bytes_of_quantity (values_of a) → r ≡ rest_of a
    → first ≡ copied d 0 h → second ≡ copied first 14 v → last ≡ copied second 39 r
    → last ≡ 0x68 ∷ a.meter_type ∷ (packed 7 a.address ++ (0x81 ∷ 0x2E ∷ 0x1F ∷ 0x90 ∷ a.serial ∷ bytes_listed a))
unfolding packed
answer_laid a d n {h} {v} {r} eh ev er e1 e2 e3 =
    e3 ∙ ap (λ (b : List ℕ). copied b 39 r) (e2 ∙ ap (λ (b : List ℕ). copied b 14 v) e1)
    ∙ three_laid d h v r 14 39 (ap length eh) (ap (λ (l : List ℕ). 14 + length l) ev) (ap (λ (l : List ℕ). 39 + length l) er ∙ sym n)
    ∙ rw (eh, ev, er) (answer_parts a)

-- an address byte by byte, with what follows it
pub party_listed : (p : CjtAddress) (s : List ℕ)
    → at (bytes_of_party p) 0 ∷ at (bytes_of_party p) 1 ∷ at (bytes_of_party p) 2 ∷ at (bytes_of_party p) 3 ∷ at (bytes_of_party p) 4 ∷ at (bytes_of_party p) 5
    ∷ at (bytes_of_party p) 6 ∷ s ≡ bytes_of_party p ++ s
unfolding packed
party_listed (Meter n) s = refl
party_listed Broadcast s = refl
