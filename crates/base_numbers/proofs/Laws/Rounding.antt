-- Laws of `specs/Rounding`.
use Prim.Native.Nat.{ℕ, zero, suc, ◌+◌, ◌*◌, ◌≤◌, ◌<◌}
use mathlib.Core.Path.{◌≡◌, refl, sym, ◌∙◌, ap}
use native.Mathlib.Nat.{zero-mul, suc-mul, mul_left_comm, mul-le-mul_left, mul-le-mul_right, le_antisymm, le_trans, le_of_lt, not-le_of_lt, div-mul-le_self}
use native.Mathlib.Nat.{lt-div-mul-add}
use native.Mathlib.Decide.{dec_lt}
use native.Mathlib.Omega.{arith}
use lib.IntN.{ℤ, pos, negsuc, neg_ℤ, nat_abs, ◌+ℤ◌, ◌*ℤ◌, neg_ℤ-neg_ℤ, neg_ℤ-+ℤ}
use Rattle.base_numbers.proofs.Laws.Integers.{nat_abs_neg, nat_abs_difference, neg_times}
use Rattle.base_numbers.specs.Rounding.{apart, NearestUp, nearest, rounded, off, Nearest}

-- Laws of the core: it has its property, nothing else has it, and it is at most a.
multiple_below : (k q d : ℕ) → k < q → k * d + d ≤ q * d
multiple_below k q d h = rw (← suc-mul k d) (mul-le-mul_right d h)

-- where a / d lies from half below q up to half above it
module _ (a d q : ℕ) (low : 2 * (q * d) ≤ 2 * a + d) (high : 2 * a + d < 2 * (q * d) + 2 * d) where
  half_near : (k : ℕ) → apart a (q * d) ≤ apart a (k * d)
  half_near k = go (dec_lt k q) (dec_lt q k)
    where
      go : Dec (k < q) → Dec (q < k) → apart a (q * d) ≤ apart a (k * d)
      go (yes h) l = omega (arith, multiple_below k q d h)
      go (no h) (yes l) = omega (arith, multiple_below q k d l)
      go (no h) (no l) =
          let e : k ≡ q = omega arith in
          rw e (omega arith)

  half_up : (k : ℕ) → apart a (q * d) ≡ apart a (k * d) → k ≤ q
  half_up k e = go (dec_lt q k)
    where
      go : Dec (q < k) → k ≤ q
      go (yes l) = omega (arith, multiple_below q k d l)
      go (no l) = omega arith

module _ (a d : ℕ) (some : 0 < d) where
  within : (2 * (nearest a d * d) ≤ 2 * a + d) × (2 * a + d < 2 * (nearest a d * d) + 2 * d)
  within =
      let low : nearest a d * (2 * d) ≤ 2 * a + d = div-mul-le_self (2 * a + d) (2 * d) in
      let high : 2 * a + d < nearest a d * (2 * d) + 2 * d = lt-div-mul-add (omega arith) in
      let e : nearest a d * (2 * d) ≡ 2 * (nearest a d * d) = mul_left_comm (nearest a d) 2 d in
      (omega arith, omega arith)

  pub nearest_up : NearestUp a d (nearest a d)
  nearest_up =
      record {
        near = half_near a d (nearest a d) within.0 within.1;
        up = half_up a d (nearest a d) within.0 within.1;
      }

  pub nearest_only : (q : ℕ) → NearestUp a d q → q ≡ nearest a d
  nearest_only q p =
      let e : apart a (q * d) ≡ apart a (nearest a d * d) = le_antisymm (p.near (nearest a d)) (nearest_up.near q) in
      le_antisymm (nearest_up.up q (sym e)) (p.up (nearest a d) e)

  pub nearest_most : nearest a d ≤ a
  nearest_most = go (dec_lt a (nearest a d))
    where
      go : Dec (a < nearest a d) → nearest a d ≤ a
      go (yes h) = omega (arith, within, multiple_below a (nearest a d) d h, mul-le-mul_left a some)
      go (no h) = omega arith

-- Laws of the signed rounding: a minus sign goes through it, it has its property, and nothing else has it.
pub rounded_neg : (n : ℤ) (d : ℕ) → 0 < d → rounded (neg_ℤ n) d ≡ neg_ℤ (rounded n d)
rounded_neg (pos zero) d some =
    let e : nearest 0 d ≡ 0 = omega (arith, nearest_most 0 d some) in
    rw e
rounded_neg (pos (suc a)) d some = refl
rounded_neg (negsuc a) d some = sym (neg_ℤ-neg_ℤ (pos (nearest (suc a) d)))

off_pos : (a d k : ℕ) → off (pos a) d (pos k) ≡ apart a (k * d)
off_pos a d k = nat_abs_difference a (k * d)

off_negsuc : (a d k : ℕ) → off (pos a) d (negsuc k) ≡ a + suc k * d
off_negsuc a d k = rw (neg_ℤ-neg_ℤ (pos (suc k * d)))

off_neg : (n : ℤ) (d : ℕ) (k : ℤ) → off (neg_ℤ n) d k ≡ off n d (neg_ℤ k)
off_neg n d k =
    ap nat_abs (sym (neg_ℤ-+ℤ n (k *ℤ pos d))) ∙ nat_abs_neg (n +ℤ k *ℤ pos d)
    ∙ rw (neg_times k d, neg_ℤ-neg_ℤ (k *ℤ pos d))

turned : (n : ℤ) (d : ℕ) (q : ℤ) → Nearest n d q → Nearest (neg_ℤ n) d (neg_ℤ q)
turned n d q p =
    record {
      near = λ k. rw (same, off_neg n d k) (p.near (neg_ℤ k));
      away = λ k e. rw (← nat_abs_neg k, nat_abs_neg q) (p.away (neg_ℤ k) (rw (same, off_neg n d k) at e));
    }
  where
    same : off (neg_ℤ n) d (neg_ℤ q) ≡ off n d q
    same = rw (off_neg n d (neg_ℤ q), neg_ℤ-neg_ℤ q)

module _ (a d : ℕ) (some : 0 < d) where
  -- nothing below zero is as near to a / d as zero is
  zero_nearer : (k : ℕ) → off (pos a) d (pos 0) < off (pos a) d (negsuc k)
  zero_nearer k = rw (off_pos a d 0, off_negsuc a d k) (omega (arith, zero-mul d, suc-mul k d))

  near_pos : (k : ℕ) → off (pos a) d (pos (nearest a d)) ≤ off (pos a) d (pos k)
  near_pos k = rw (off_pos a d (nearest a d), off_pos a d k) ((nearest_up a d some).near k)

  nearest_pos : Nearest (pos a) d (pos (nearest a d))
  nearest_pos = record { near = near; away = away }
    where
      near : (k : ℤ) → off (pos a) d (pos (nearest a d)) ≤ off (pos a) d k
      near (pos k) = near_pos k
      near (negsuc k) = le_trans (near_pos 0) (le_of_lt (zero_nearer k))

      away : (k : ℤ) → off (pos a) d (pos (nearest a d)) ≡ off (pos a) d k → nat_abs k ≤ nearest a d
      away (pos k) e = (nearest_up a d some).up k (rw (off_pos a d (nearest a d), off_pos a d k) at e)
      away (negsuc k) e = omega (arith, near_pos 0, zero_nearer k, e)

  only_pos : (q : ℤ) → Nearest (pos a) d q → q ≡ pos (nearest a d)
  only_pos (pos q) p =
      let e : off (pos a) d (pos q) ≡ off (pos a) d (pos (nearest a d)) = le_antisymm (p.near (pos (nearest a d))) (nearest_pos.near (pos q)) in
      ap pos (le_antisymm (nearest_pos.away (pos q) (sym e)) (p.away (pos (nearest a d)) e))
  only_pos (negsuc q) p = absurd (not-le_of_lt (zero_nearer q) (p.near (pos 0)))

pub rounded_nearest : (n : ℤ) (d : ℕ) → 0 < d → Nearest n d (rounded n d)
rounded_nearest (pos a) d some = nearest_pos a d some
rounded_nearest (negsuc a) d some = turned (pos (suc a)) d (pos (nearest (suc a) d)) (nearest_pos (suc a) d some)

pub rounded_only : (n : ℤ) (d : ℕ) → 0 < d → (q : ℤ) → Nearest n d q → q ≡ rounded n d
rounded_only (pos a) d some q p = only_pos a d some q p
rounded_only (negsuc a) d some q p =
    sym (neg_ℤ-neg_ℤ q) ∙ ap neg_ℤ (only_pos (suc a) d some (neg_ℤ q) (turned (negsuc a) d q p))
