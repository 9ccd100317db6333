-- A loop that sums bytes.
use Rattle.std.proofs.Common.{◌≡◌, ℕ, suc, ◌+◌, ◌%◌, ◌<◌, ◌≤◌, List, length, drop, sym, ap, ◌∙◌, zero-le, zero-add, add-one, arith, drop_of_length-le, drop-cons}
use Rattle.base_rules.specs.Lists.{at, total}

-- What was summed so far and is still to be summed is the sum, modulo 256.
pub record Summed (s : List ℕ) (i sum : ℕ) : Type 0 where
  pub inside : i ≤ length s
  pub small : sum < 256
  pub so : (sum + total (drop i s)) % 256 ≡ total s % 256

pub summed_none : {s : List ℕ} → Summed s 0 0
summed_none {s} = record { inside = zero-le; small = omega arith; so = rw zero-add }

carried : (b sum rest : ℕ) → ((sum + b) % 256 + rest) % 256 ≡ (sum + (b + rest)) % 256
carried b sum rest = omega arith

pub summed_next : {s : List ℕ} {i sum : ℕ} → Summed s i sum → i < length s → Summed s (i + 1) ((sum + at s i) % 256)
unfolding total
summed_next {s} {i} {sum} g h = record {
  inside = omega arith;
  small = omega arith;
  so =
      rw add-one (carried (at s i) sum (total (drop (suc i) s)))
      ∙ ap (λ (l : List ℕ). (sum + total l) % 256) (sym (drop-cons s i 0 h)) ∙ g.so;
}

pub summed_all : {s : List ℕ} {i sum : ℕ} → Summed s i sum → length s ≤ i → sum ≡ total s % 256
unfolding total
summed_all {s} {i} {sum} g h =
    let small : sum < 256 = g.small in
    let none : sum ≡ (sum + 0) % 256 = omega arith in
    none ∙ ap (λ (l : List ℕ). (sum + total l) % 256) (sym (drop_of_length-le s h)) ∙ g.so
