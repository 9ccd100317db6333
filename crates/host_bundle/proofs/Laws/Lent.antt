-- Laws of `specs/Lent`.
use Prim.Native.Nat.{ℕ, ◌+◌}
use mathlib.Core.Path.{◌≡◌}
use Rattle.base_rules.specs.Answers.{Answer, reads, refusal}
use Rattle.host_bundle.specs.Lent.{Gives}

-- Laws: both ways an answer can go.
module _ {a : Answer ℕ} {before : ℕ} where
  pub gives_value : {x : ℕ} → a ≡ reads x → Gives a before 0 x
  gives_value e = record { number = rw e; place = rw e }

  pub gives_number : {n : ℕ} → a ≡ refusal n → Gives a before (256 + n) before
  gives_number e = record { number = rw e; place = rw e }
