-- Laws of pieces of one size: how many places they have, and a loop that lays one behind the other.
use Prim.Native.Nat.{ℕ, suc, ◌+◌, ◌*◌, ◌≤◌, ◌<◌, zero-le}
use mathlib.Core.List.{List, [], ◌∷◌, ◌++◌, append_assoc, append-nil}
use mathlib.Core.Path.{◌≡◌, sym, ap, ap₂, ◌∙◌}
use native.Mathlib.Nat.{mul-zero, mul-suc, mul-le-mul_left}
use native.Mathlib.Numerals.{add-one}
use native.Mathlib.Omega.{arith}
use lib.ListN.{length, get_or, take, length-append}
use lib.Seq.{length-take-le, take-suc, take-length}
use Rattle.base_lent.specs.Copying.{laid, copied}
use Rattle.base_lent.proofs.Laws.Copying.{laid_none, laid_on, laid_length, laid_full, copied_fits}
use Rattle.base_lent.specs.Pieces.{pieces}

module _ {A B : Type 0} (f : A → List B) (k : ℕ) (size : (x : A) → length (f x) ≡ k) where
  pub pieces_length : (xs : List A) → length (pieces f xs) ≡ k * length xs
  pieces_length [] = sym (mul-zero k)
  pieces_length (x ∷ xs) = rw (length-append (f x) (pieces f xs), size x, pieces_length xs, mul-suc) (omega arith)

  pieces_snoc : (xs : List A) (x : A) → pieces f (xs ++ (x ∷ [])) ≡ pieces f xs ++ f x
  pieces_snoc [] x = append-nil (f x)
  pieces_snoc (y ∷ xs) x = ap (λ (l : List B). f y ++ l) (pieces_snoc xs x) ∙ sym (append_assoc (f y) (pieces f xs) (f x))

  taken_length : (xs : List A) (i : ℕ) → i ≤ length xs → length (pieces f (take i xs)) ≡ k * i
  taken_length xs i h = pieces_length (take i xs) ∙ ap (λ (n : ℕ). k * n) (length-take-le i xs h)

-- A loop that lays the pieces from a place on: so many are laid.
pub record Pieced {A B : Type 0} (f : A → List B) (k : ℕ) (d : List B) (at : ℕ) (xs : List A) (i : ℕ) (now : List B) : Type 0 where
  pub size : (x : A) → length (f x) ≡ k
  pub inside : i ≤ length xs
  pub room : at + k * length xs ≤ length d
  pub so : now ≡ laid d at (pieces f (take i xs))

pub pieced_none : {A B : Type 0} {f : A → List B} {k : ℕ} {d : List B} {at : ℕ} {xs : List A}
    → ((x : A) → length (f x) ≡ k) → at + k * length xs ≤ length d → Pieced f k d at xs 0 d
pieced_none {d = d} {at} size room = record { size = size; inside = zero-le; room = room; so = sym (laid_none d at) }

module _ {A B : Type 0} {f : A → List B} {k : ℕ} {d : List B} {at : ℕ} {xs : List A} {i : ℕ} {now : List B} (g : Pieced f k d at xs i now) where
  fitting : (j : ℕ) → j ≤ length xs → at + k * j ≤ length d
  fitting j h =
      let part : k * j ≤ k * length xs = mul-le-mul_left k h in
      let room : at + k * length xs ≤ length d = g.room in
      omega arith

  pub pieced_length : length now ≡ length d
  pieced_length =
      let size = taken_length f k g.size xs i g.inside in
      ap length g.so ∙ laid_length d (pieces f (take i xs)) at (rw size (fitting i g.inside))

  -- there is room for one more
  pub pieced_room : i < length xs → at + k * i + k ≤ length now
  pieced_room h =
      let next : at + k * suc i ≤ length d = fitting (suc i) h in
      let step : k * suc i ≡ k * i + k = mul-suc k i in
      omega (arith, pieced_length)

  pub pieced_next : i < length xs → (z : A) {s b : List B} → s ≡ f (get_or xs i z) → b ≡ copied now (at + k * i) s → Pieced f k d at xs (i + 1) b
  pieced_next h z {s} {b} es e =
      let x : A = get_or xs i z in
      let size = taken_length f k g.size xs i g.inside in
      let place : at + k * i ≡ at + length (pieces f (take i xs)) = ap (λ (n : ℕ). at + n) (sym size) in
      let one : length (f x) ≡ k = g.size x in
      let fits : at + k * i + length (f x) ≤ length now = rw one (pieced_room h) in
      let room : at + k * length xs ≤ length d = g.room in
      record {
        size = g.size;
        inside = omega arith;
        room = room;
        so =
            e ∙ ap (copied now (at + k * i)) es ∙ copied_fits now (at + k * i) (f x) fits
            ∙ ap₂ (λ (l : List B) (n : ℕ). laid l n (f x)) g.so place
            ∙ laid_on d at (pieces f (take i xs)) (f x) (omega arith)
            ∙ ap (laid d at)
            (sym (pieces_snoc f k g.size (take i xs) x) ∙ ap (pieces f) (sym (take-suc xs i z h)) ∙ ap (λ (n : ℕ). pieces f (take n xs)) (sym (add-one i)));
      }

  pub pieced_all : length xs ≤ i → now ≡ laid d at (pieces f xs)
  pieced_all h =
      let inside : i ≤ length xs = g.inside in
      let e : i ≡ length xs = omega arith in
      g.so ∙ ap (λ (n : ℕ). laid d at (pieces f (take n xs))) e ∙ ap (λ (l : List A). laid d at (pieces f l)) (take-length xs)

  -- and all places are filled
  pub pieced_full : length xs ≤ i → at ≡ 0 → k * length xs ≡ length d → now ≡ pieces f xs
  pieced_full h z e =
      pieced_all h ∙ ap (λ (n : ℕ). laid d n (pieces f xs)) z ∙ laid_full d (pieces f xs) (pieces_length f k g.size xs ∙ e)
