-- 01, "Error of indication": rounded to nearest, halves away from zero.
-- The core rounds naturals, halves up (02's 2026-13); the sign is put back afterwards (02's 2026-04 rounds the same way).
use Rattle.std.specs.Prelude.{ℕ, suc, ◌+◌, ◌*◌, ◌-◌, ◌/◌, ◌≤◌, ◌≡◌, ℤ, pos, negsuc, neg_ℤ, nat_abs, ◌-ℤ◌, ◌*ℤ◌}

-- how far apart two naturals are
abbrev pub apart : ℕ → ℕ → ℕ
apart x y = (x - y) + (y - x)

-- How far q is from a / d, counted in dths, is apart a (q * d). No whole number is nearer than q, and an equally near one is not above it.
pub record NearestUp (a d q : ℕ) : Type 0 where
  pub near : (k : ℕ) → apart a (q * d) ≤ apart a (k * d)
  pub up : (k : ℕ) → apart a (q * d) ≡ apart a (k * d) → k ≤ q

-- the whole number nearest to a / d, halves up
abbrev pub nearest : ℕ → ℕ → ℕ
nearest a d = (2 * a + d) / (2 * d)

-- the integer nearest to n / d, halves away from zero
abbrev pub rounded : ℤ → ℕ → ℤ
rounded (pos a) d = pos (nearest a d)
rounded (negsuc a) d = neg_ℤ (pos (nearest (suc a) d))

-- how far q is from n / d, counted in dths
abbrev pub off : ℤ → ℕ → ℤ → ℕ
off n d q = nat_abs (n -ℤ q *ℤ pos d)

-- No integer is nearer to n / d than q, and an equally near one is not farther from zero.
pub record Nearest (n : ℤ) (d : ℕ) (q : ℤ) : Type 0 where
  pub near : (k : ℤ) → off n d q ≤ off n d k
  pub away : (k : ℤ) → off n d q ≡ off n d k → nat_abs k ≤ nat_abs q
