-- What a sum, an end and a count settle: for each frame that has them, wherever its sum begins.
use Rattle.std.proofs.Common.{◌≡◌, ℕ, suc, ◌+◌, ◌-◌, ◌%◌, ◌<◌, ◌≤◌, List, [], ◌∷◌, ◌++◌, length, take, drop, sym, refl, ap, ◌∙◌, arith, length-append, length-drop, take-append-drop, take_all, drop-drop, get_or-append-add}
use lib.Seq.{drop-append-le, take-append-add, get_or-append_seam}
use Rattle.base_rules.specs.Lists.{at, total}
use Rattle.base_characters.specs.Closing.{closed}
use Rattle.base_rules.proofs.Laws.ByteLaws.{spell}

-- The last byte is 16, and the one before it is the sum of those from a place on, modulo 256.
pub record Closed (from : ℕ) (b : List ℕ) : Type 0 where
  pub end : at b (length b - 1) ≡ 0x16
  pub sum : at b (length b - 2) ≡ total (take (length b - (from + 2)) (drop from b)) % 256

pub total_append : (s t : List ℕ) → total (s ++ t) ≡ total s + total t
unfolding total
total_append [] t = omega arith
total_append (x ∷ s) t = omega (arith, total_append s t)

-- the last two bytes, apart
pub last_two : (r : List ℕ) → 2 ≤ length r → total r ≡ total (take (length r - 2) r) + at r (length r - 2) + at r (length r - 1)
unfolding total
last_two [] h = absurd (omega arith)
last_two (x ∷ []) h = absurd (omega arith)
last_two (x ∷ (y ∷ [])) h = omega arith
last_two (x ∷ (y ∷ (z ∷ r))) h =
    let two : length (x ∷ (y ∷ (z ∷ r))) - 2 ≡ suc (length (y ∷ (z ∷ r)) - 2) = omega arith in
    let one : length (x ∷ (y ∷ (z ∷ r))) - 1 ≡ suc (length (y ∷ (z ∷ r)) - 1) = omega arith in
    rw (two, one) (omega (arith, last_two (y ∷ (z ∷ r)) (omega arith)))

-- the last byte, with the bytes before it
end_at : (p : List ℕ) (x : ℕ) → at (p ++ x ∷ []) (length (p ++ x ∷ []) - 1) ≡ x
end_at p x =
    let last : length (p ++ x ∷ []) - 1 ≡ length p = simp length-append (omega arith) in
    rw last (get_or-append_seam p x [] 0)

-- the sum and what is summed, with the bytes from a place on and the bytes before it
sum_at : (p : List ℕ) (x z : ℕ) (r : List ℕ) → at (p ++ x ∷ z ∷ r) (length (p ++ x ∷ z ∷ r) - 2) ≡ at (x ∷ z ∷ r) (length r)
sum_at p x z r =
    let place : length (p ++ x ∷ z ∷ r) - 2 ≡ length p + length r = simp length-append (omega arith) in
    rw place (get_or-append-add p (x ∷ z ∷ r) (length r) 0)

summed : (from : ℕ) (p : List ℕ) (x z : ℕ) (r : List ℕ) → from ≤ length p
    → take (length (p ++ x ∷ z ∷ r) - (from + 2)) (drop from (p ++ x ∷ z ∷ r)) ≡ drop from p ++ take (length r) (x ∷ z ∷ r)
summed from p x z r h =
    let count : length (p ++ x ∷ z ∷ r) - (from + 2) ≡ length (drop from p) + length r = simp (length-append, length-drop) (omega arith) in
    rw (count, drop-append-le from p (x ∷ z ∷ r) h) (take-append-add (drop from p) (x ∷ z ∷ r) (length r))

-- Either x is the sum itself, or it is one of the bytes that are summed.
settled : (s : List ℕ) (x y z : ℕ) (r : List ℕ) → x < 256 → y < 256
    → at (x ∷ z ∷ r) (length r) ≡ total (s ++ take (length r) (x ∷ z ∷ r)) % 256
    → at (y ∷ z ∷ r) (length r) ≡ total (s ++ take (length r) (y ∷ z ∷ r)) % 256 → x ≡ y
unfolding total
settled s x y z [] hx hy p q = p ∙ sym q
settled s x y z (z' ∷ r) hx hy p q =
    let rest = take (length r) (z ∷ z' ∷ r) in
    omega (arith, total_append s (x ∷ rest), total_append s (y ∷ rest))

-- A byte from that place on is settled by the others.
pub closed_byte : (from : ℕ) (p q : List ℕ) (x y : ℕ) → x < 256 → y < 256 → from ≤ length p
    → Closed from (p ++ x ∷ q) → Closed from (p ++ y ∷ q) → x ≡ y
closed_byte from p [] x y hx hy h cx cy = sym (end_at p x) ∙ cx.end ∙ sym cy.end ∙ end_at p y
closed_byte from p (z ∷ r) x y hx hy h cx cy =
    settled (drop from p) x y z r hx hy
    (rw (sum_at p x z r, summed from p x z r h) at cx.sum) (rw (sum_at p y z r, summed from p y z r h) at cy.sum)

nothing : (c : List ℕ) → length c ≡ 0 → c ≡ []
nothing [] e = refl
nothing (x ∷ c) e = absurd (omega arith)

-- Where the count stays, no byte was added.
pub none_added : (b c : List ℕ) → length (b ++ c) ≡ length b → c ≡ []
none_added b c e = nothing c (omega (arith, length-append b c))

-- ---- bytes that are closed

pub closed_length : (f : List ℕ) → length (closed f) ≡ length f + 2
closed_length f = length-append f (total f % 256 ∷ 0x16 ∷ [])

-- From the place of its sum on, a list that ends in sum and 16 is what stands there, closed.
pub closed_read : (from : ℕ) (b : List ℕ) → from + 2 ≤ length b → Closed from b → drop from b ≡ closed (take (length b - (from + 2)) (drop from b))
closed_read from b h c =
    let n : ℕ = length b in
    let f : List ℕ = take (n - (from + 2)) (drop from b) in
    let last : at b (suc (n - 2)) ≡ 0x16 = ap (at b) (omega arith) ∙ c.end in
    let two : drop (n - 2) b ≡ total f % 256 ∷ 0x16 ∷ [] =
    sym (take_all 2 (drop (n - 2) b) (rw (length-drop (n - 2) b) (omega arith))) ∙ spell 2 (n - 2) b (omega arith) ∙ rw (c.sum, last) in
    let place : from + (n - (from + 2)) ≡ n - 2 = omega arith in
    let rest : drop (n - (from + 2)) (drop from b) ≡ drop (n - 2) b = drop-drop (n - (from + 2)) from b ∙ ap (λ (i : ℕ). drop i b) place in
    sym (take-append-drop (n - (from + 2)) (drop from b)) ∙ ap (λ (l : List ℕ). f ++ l) (rest ∙ two)
