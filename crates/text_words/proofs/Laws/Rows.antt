-- Laws of `specs/Rows`.
use Prim.Native.Nat.{ℕ, zero, suc, ◌+◌, ◌-◌, ◌≤◌, ◌<◌, zero-le}
use mathlib.Core.Bool.{true, false}
use mathlib.Core.List.{List, [], ◌∷◌, ◌++◌, append_assoc, append-nil}
use mathlib.Core.Path.{◌≡◌, refl, sym, ap, ◌∙◌}
use native.Mathlib.Numerals.{add-one}
use native.Mathlib.Omega.{arith}
use borrow.Author.Tests.{eq-eqb, ne_eqb}
use lib.Dec.{eqb}
use lib.ListN.{length, take, drop, get_or, length-drop, drop_of_length-le}
use lib.Seq.{drop-cons, take-suc, take_all, length-take-le}
use Rattle.base_rules.specs.Answers.{reads}
use Rattle.text_words.specs.Saying.{Says}
use Rattle.text_words.specs.Rows.{rows_from, first_row, row_of_words}

-- Laws: nothing is left behind the end; one byte on, over a line feed or within a row.
rows_none : (n : ℕ) → rows_from n [] ≡ []
unfolding rows_from
rows_none zero = refl
rows_none (suc n) = refl

rows_feed : (n b : ℕ) (s : List ℕ) → 0 < n → b ≡ 10 → rows_from n (b ∷ s) ≡ rows_from (n - 1) s
unfolding rows_from
rows_feed zero b s h e = absurd (omega arith)
rows_feed (suc n) b s h e = let one : n ≡ suc n - 1 = omega arith in rw (eq-eqb b 10 e) (ap (λ (k : ℕ). rows_from k s) one)

rows_on : (n b : ℕ) (s : List ℕ) → 0 < n → (b ≡ 10 → ⊥) → rows_from n (b ∷ s) ≡ rows_from n s
unfolding rows_from
rows_on zero b s h e = absurd (omega arith)
rows_on (suc n) b s h e = rw (ne_eqb b 10 e)

-- A loop that skips rows: what is left to skip, from the place on, begins where row n of the whole does.
pub record Skipped (s : List ℕ) (n left i : ℕ) : Type 0 where
  pub inside : i ≤ length s
  pub so : rows_from left (drop i s) ≡ rows_from n s

pub skipped_none : (s : List ℕ) (n : ℕ) → Skipped s n n 0
skipped_none s n = record { inside = zero-le; so = refl }

module _ {s : List ℕ} {n left i : ℕ} where
  pub skipped_feed : Skipped s n left i → i < length s → 0 < left → get_or s i 0 ≡ 10 → Skipped s n (left - 1) (i + 1)
  skipped_feed g h l e = record {
    inside = omega arith;
    so = rw add-one (sym (ap (rows_from left) (drop-cons s i 0 h) ∙ rows_feed left (get_or s i 0) (drop (suc i) s) l e) ∙ g.so);
  }

  pub skipped_on : Skipped s n left i → i < length s → 0 < left → (get_or s i 0 ≡ 10 → ⊥) → Skipped s n left (i + 1)
  skipped_on g h l e = record {
    inside = omega arith;
    so = rw add-one (sym (ap (rows_from left) (drop-cons s i 0 h) ∙ rows_on left (get_or s i 0) (drop (suc i) s) l e) ∙ g.so);
  }

  pub skipped_here : Skipped s n left i → left ≡ 0 → (i ≤ length s) × (drop i s ≡ rows_from n s)
  unfolding rows_from
  skipped_here g e = (g.inside, rw e at g.so)

  pub skipped_all : Skipped s n left i → length s ≤ i → (length s ≤ length s) × (drop (length s) s ≡ rows_from n s)
  skipped_all g h =
      let end : i ≡ length s = omega (arith, g.inside) in
      let none : drop i s ≡ [] = drop_of_length-le s h in
      (omega arith, ap (λ (k : ℕ). drop k s) (sym end) ∙ none ∙ sym (ap (rows_from left) none ∙ rows_none left) ∙ g.so)

-- A loop that looks for the end of the first row: what was passed stands in front of it.
pub record Passed (s : List ℕ) (i : ℕ) : Type 0 where
  pub inside : i ≤ length s
  pub so : take i s ++ first_row (drop i s) ≡ first_row s

pub passed_none : (s : List ℕ) → Passed s 0
passed_none s = record { inside = zero-le; so = refl }

row_ends : (b : ℕ) (s : List ℕ) → b ≡ 10 → first_row (b ∷ s) ≡ []
unfolding first_row
row_ends b s e = rw (eq-eqb b 10 e)

row_on : (b : ℕ) (s : List ℕ) → (b ≡ 10 → ⊥) → first_row (b ∷ s) ≡ b ∷ first_row s
unfolding first_row
row_on b s e = rw (ne_eqb b 10 e)

row_none : first_row [] ≡ []
unfolding first_row
row_none = refl

module _ {s : List ℕ} {i : ℕ} where
  pub passed_on : Passed s i → i < length s → (get_or s i 0 ≡ 10 → ⊥) → Passed s (i + 1)
  passed_on g h e = record {
    inside = omega arith;
    so =
        rw (add-one, take-suc s i 0 h, append_assoc)
        (sym (ap (λ (l : List ℕ). take i s ++ l) (ap first_row (drop-cons s i 0 h) ∙ row_on (get_or s i 0) (drop (suc i) s) e)) ∙ g.so);
  }

  pub passed_end : Passed s i → i < length s → get_or s i 0 ≡ 10 → (i ≤ length s) × (take i s ≡ first_row s)
  passed_end g h e =
      let ends : first_row (drop i s) ≡ [] = ap first_row (drop-cons s i 0 h) ∙ row_ends (get_or s i 0) (drop (suc i) s) e in
      (g.inside, sym (ap (λ (l : List ℕ). take i s ++ l) ends ∙ append-nil (take i s)) ∙ g.so)

  pub passed_all : Passed s i → length s ≤ i → (length s ≤ length s) × (take (length s) s ≡ first_row s)
  passed_all g h =
      let end : i ≡ length s = omega (arith, g.inside) in
      let ends : first_row (drop i s) ≡ [] = ap first_row (drop_of_length-le s h) ∙ row_none in
      (omega arith, ap (λ (k : ℕ). take k s) (sym end) ∙ sym (ap (λ (l : List ℕ). take i s ++ l) ends ∙ append-nil (take i s)) ∙ g.so)

-- the text from a place on, as the code cuts it
abbrev pub cut : List ℕ → ℕ → List ℕ
cut s place = take (length s - place) (drop place s)

-- The place of row n and its size were found.
pub record Located (s : List ℕ) (n place size : ℕ) : Type 0 where
  pub from : drop place s ≡ rows_from n s
  pub inside : size ≤ length (cut s place)
  pub found : take size (cut s place) ≡ first_row (cut s place)

module _ {s : List ℕ} {n place size : ℕ} (l : Located s n place size) where
  cut_is : cut s place ≡ drop place s
  cut_is = take_all (length s - place) (drop place s) (omega (arith, length-drop place s))

  pub size_in : length (take size (cut s place)) ≡ size
  size_in = length-take-le size (cut s place) l.inside

  pub size_small : size ≤ length s
  size_small = omega (arith, l.inside, length-drop place s, ap length cut_is)

  found_row : first_row (rows_from n s) ≡ take size (cut s place)
  found_row = ap first_row (sym (cut_is ∙ l.from)) ∙ sym l.found

  found_size : length (first_row (rows_from n s)) ≡ size
  found_size = ap length found_row ∙ size_in

  pub row_missing : (out : List ℕ) → eqb size 0 ≡ true → Says (row_of_words s n) out (256 + 100) out
  row_missing out e = record { answer = rw (found_size, e); holds = rw (found_size, e) }

  pub row_said : {out after : List ℕ} {r : ℕ} → eqb size 0 ≡ false → Says (reads (take size (cut s place))) out r after → Says (row_of_words s n) out r after
  row_said e said = rw (found_size, e, found_row) said
