-- Laws about answers and the refusal chain.
use Prim.Native.Nat.{ℕ}
use mathlib.Core.Bool.{Bool, true, false}
use mathlib.Core.Path.{◌≡◌, refl, ap}
use Rattle.base_rules.specs.Answers.{Answer, reads, refuse, follow, within, refusal}
use Rattle.std.specs.Prelude.{Result, Ok, Err}
use Rattle.base_rules.specs.declared.refusals.Refusal.{Refusal}
use Rattle.base_rules.specs.Shown.{shown, refused_by}

pub follow_refuse : {A B : Type 0} (n : ℕ) (test : Bool) (x : Answer A) (next : A → Answer B) → follow (refuse n test x) next ≡ refuse n test (follow x next)
follow_refuse n true x next = refl
follow_refuse n false x next = refl

pub reads_same : {A : Type 0} {a b : A} → reads a ≡ reads b → a ≡ b
reads_same e = cc

-- the number of what is refused
number_in : {A : Type 0} → Result A Refusal → ℕ
number_in (Ok a) = 0
number_in (Err e) = e.0

-- Two answers that are shown alike are the same.
pub shown_same : {A : Type 0} (a b : Answer A) → shown a ≡ shown b → a ≡ b
unfolding number_in
shown_same (refusal m) (refusal n) e = ap refusal (ap number_in e)
shown_same (refusal m) (reads b) e = cc
shown_same (reads a) (refusal n) e = cc
shown_same (reads a) (reads b) e = cc

-- the answer that is shown as a value, and as a refusal
pub shown_ok : {A : Type 0} (a : Answer A) (v : A) → shown a ≡ Ok v → a ≡ reads v
shown_ok a v e = shown_same a (reads v) e

pub shown_err : {A : Type 0} (a : Answer A) (n : ℕ) → shown a ≡ Err (refused_by n) → a ≡ refusal n
shown_err a n e = shown_same a (refusal n) e

pub shown_refused : {A : Type 0} (a : Answer A) {r : Refusal} → shown a ≡ Err r → a ≡ refusal r.0
shown_refused a {r} e = shown_err a r.0 e

-- the number of a refusal
refused_as : {A : Type 0} → Answer A → ℕ
refused_as (refusal n) = n
refused_as (reads a) = 0

-- What is made of a value is refused as the value is, and is read where the value is.
pub within_refused : {A B : Type 0} (f : A → B) (a : Answer A) {n : ℕ} → within f a ≡ refusal n → a ≡ refusal n
unfolding refused_as
within_refused f (refusal m) e = ap refusal (ap refused_as e)
within_refused f (reads x) e = cc

pub within_read : {A B : Type 0} (f : A → B) (a : Answer A) {b : B} → within f a ≡ reads b → (x : A) × (a ≡ reads x) × (f x ≡ b)
within_read f (refusal m) e = cc
within_read f (reads x) e = (x, refl, reads_same e)
