-- Laws of `specs/Copying`.
use Prim.Native.Nat.{ℕ, ◌+◌, ◌≤◌, ◌<◌, zero-le}
use mathlib.Core.List.{List, [], ◌++◌, append_assoc, append-nil}
use mathlib.Core.Path.{◌≡◌, sym, ap, ap₂, ◌∙◌}
use native.Mathlib.Nat.{zero-add}
use native.Mathlib.Numerals.{add-one}
use native.Mathlib.Omega.{arith}
use borrow.Author.Tests.{le-ltb}
use lib.ListN.{length, get_or, take, drop, set, length-append, length-drop, take-append-drop}
use lib.Seq.{drop-drop, drop-length, take_at, drop_at, length-take-le, take-length, paste, paste-zero, paste-suc, length-paste}
use Rattle.base_lent.specs.Copying.{laid, copied}

-- as one number counts the places behind
pub laid_behind : {A : Type 0} (d : List A) (at : ℕ) (s : List A) → laid d at s ≡ take at d ++ s ++ drop (at + length s) d
laid_behind d at s = rw (drop-drop (length s) at d) (sym (append_assoc (take at d) s (drop (at + length s) d)))

pub copied_fits : {A : Type 0} (d : List A) (at : ℕ) (s : List A) → at + length s ≤ length d → copied d at s ≡ laid d at s
copied_fits d at s h = rw (le-ltb (length d) (at + length s) h)

-- ---- a loop that copies

pub record Copied {A : Type 0} (d : List A) (at : ℕ) (s : List A) (i : ℕ) (now : List A) : Type 0 where
  pub inside : i ≤ length s
  pub fits : at + length s ≤ length d
  pub so : now ≡ paste d at s i

pub copied_none : {A : Type 0} {d : List A} {at : ℕ} {s : List A} → at + length s ≤ length d → Copied d at s 0 d
copied_none {d = d} {at} {s} h = record { inside = zero-le; fits = h; so = paste-zero d at s }

module _ {A : Type 0} {d : List A} {at : ℕ} {s : List A} {i : ℕ} {now : List A} (g : Copied d at s i now) where
  pub copied_next : {x : A} (z : A) → i < length s → x ≡ get_or s i z → Copied d at s (i + 1) (set now (at + i) x)
  copied_next {x} z h e =
      let fits : at + length s ≤ length d = g.fits in
      record {
        inside = omega arith;
        fits = fits;
        so = rw (g.so, e, add-one) (paste-suc d at s i z (omega arith) h);
      }

  pub copied_length : length now ≡ length d
  copied_length =
      let inside : i ≤ length s = g.inside in
      let fits : at + length s ≤ length d = g.fits in
      rw g.so (length-paste d at s i (omega arith) inside)

  pub copied_all : length s ≤ i → now ≡ laid d at s
  copied_all h =
      let inside : i ≤ length s = g.inside in
      let e : i ≡ length s = omega arith in
      g.so ∙ ap (paste d at s) e ∙ rw (take-length s) (sym (laid_behind d at s))

  pub copied_whole : length s ≤ i → now ≡ copied d at s
  copied_whole h = copied_all h ∙ sym (copied_fits d at s g.fits)

-- nothing laid changes nothing
pub laid_none : {A : Type 0} (d : List A) (at : ℕ) → laid d at [] ≡ d
laid_none d at = take-append-drop at d

pub laid_length : {A : Type 0} (d s : List A) (i : ℕ) → i + length s ≤ length d → length (laid d i s) ≡ length d
laid_length d s i h =
    length-append (take i d) (s ++ drop (length s) (drop i d))
    ∙ omega (arith, length-take-le i d (omega arith), length-append s (drop (length s) (drop i d)), length-drop (length s) (drop i d), length-drop i d)

-- what was laid at a place stands behind what stood before it
pub laid_front : {A : Type 0} (d s : List A) (i : ℕ) → i + length s ≤ length d → take (i + length s) (laid d i s) ≡ take i d ++ s
laid_front d s i h =
    ap (take (i + length s)) (sym (append_assoc (take i d) s (drop (length s) (drop i d))))
    ∙ take_at (take i d ++ s) (drop (length s) (drop i d)) (i + length s)
    (length-append (take i d) s ∙ ap (λ (n : ℕ). n + length s) (length-take-le i d (omega arith)))

-- what follows a part that was laid is laid with it
pub laid_on : {A : Type 0} (d : List A) (at : ℕ) (s r : List A) → at ≤ length d → laid (laid d at s) (at + length s) r ≡ laid d at (s ++ r)
laid_on {A = A} d at s r h =
    let p : List A = take at d ++ s in
    let rest : List A = drop (length s) (drop at d) in
    let n : length p ≡ at + length s = length-append (take at d) s ∙ ap (λ (k : ℕ). k + length s) (length-take-le at d h) in
    let whole : laid d at s ≡ p ++ rest = sym (append_assoc (take at d) s rest) in
    let front : take (at + length s) (p ++ rest) ≡ p = take_at p rest (at + length s) n in
    let behind : drop (at + length s) (p ++ rest) ≡ rest = drop_at p rest (at + length s) n in
    let past : drop (length r) rest ≡ drop (length (s ++ r)) (drop at d) = drop-drop (length r) (length s) (drop at d) ∙ ap (λ (k : ℕ). drop k (drop at d))
    (sym (length-append s r)) in
    ap (λ (l : List A). laid l (at + length s) r) whole
    ∙ ap₂ (λ (x y : List A). x ++ (r ++ drop (length r) y)) front behind
    ∙ append_assoc (take at d) s (r ++ drop (length r) rest)
    ∙ ap (λ (l : List A). take at d ++ l) (sym (append_assoc s r (drop (length r) rest)) ∙ ap (λ (l : List A). (s ++ r) ++ l) past)

-- ---- parts copied one behind the other, from the first place on

pub copied_on : {A : Type 0} (d s r : List A) (k : ℕ) → length s ≡ k → k + length r ≤ length d → copied (copied d 0 s) k r ≡ copied d 0 (s ++ r)
copied_on {A = A} d s r k e h =
    let first : length s ≤ length d = omega arith in
    let front : 0 + length s ≤ length d = rw (zero-add (length s)) first in
    let both : 0 + length (s ++ r) ≤ length d = omega (arith, length-append s r) in
    let size : length (laid d 0 s) ≡ length d = laid_length d s 0 front in
    ap (λ (l : List A). copied l k r) (copied_fits d 0 s front) ∙ copied_fits (laid d 0 s) k r (rw size h)
    ∙ ap (λ (n : ℕ). laid (laid d 0 s) n r) (sym e ∙ sym (zero-add (length s)))
    ∙ laid_on d 0 s r zero-le ∙ sym (copied_fits d 0 (s ++ r) both)

-- and what fills all places is all that is there
pub laid_full : {A : Type 0} (d s : List A) → length s ≡ length d → laid d 0 s ≡ s
laid_full {A = A} d s e = ap (λ (k : ℕ). s ++ drop k d) e ∙ ap (λ (r : List A). s ++ r) (drop-length d) ∙ append-nil s

pub copied_full : {A : Type 0} (d s : List A) → length s ≡ length d → copied d 0 s ≡ s
copied_full d s e =
    let fits : 0 + length s ≤ length d = omega arith in
    copied_fits d 0 s fits ∙ laid_full d s e
