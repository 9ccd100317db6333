-- How the order of a chain of refusals is shown: each test decides what its row says.
use Prim.Native.Nat.{ℕ, zero, suc, ◌+◌, ◌%◌, ◌<◌, ◌≤◌, suc-le-suc, zero-le}
use native.Mathlib.Nat.{le_of_suc-le-suc}
use native.Mathlib.Omega.{arith}
use mathlib.Core.Bool.{Bool, true, false, cond, not, ◌&&◌, ◌||◌}
use mathlib.Core.List.{List, [], ◌∷◌, ◌++◌, map}
use mathlib.Core.Logic.{◌⊎◌, inl, inr, ⊎_elim}
use mathlib.Core.Path.{◌≡◌, refl, sym, ap, subst, ◌∙◌}
use borrow.Author.Tests.{ltb-true, ltb-false, leb-true, leb-false, eqb-true, eqb-false}
use lib.Dec.{ltb, leb, eqb}
use lib.ListN.{length}
use Rattle.base_rules.specs.Answers.{Answer, reads, refusal, refuse, within, follow}
use Rattle.base_rules.specs.Lists.{at, any}
use Rattle.base_calendar.specs.Months.{leap, days_in, short_month}
use Rattle.base_lent.specs.Lent.{told}
use Rattle.base_rules.proofs.Laws.TestLaws.{either}
use Rattle.demands.specs.Orders.{Table, OrderOf, NumberOrder, Some, In, only_if, LeapYear, TooMany}

-- ---- tests

-- A test decides a fact.
pub record Decides (P : Type 0) (t : Bool) : Type 0 where
  pub holds : t ≡ true → P
  pub fails : t ≡ false → P → ⊥

pub is_less : (a b : ℕ) → Decides (a < b) (ltb a b)
is_less a b = record { holds = ltb-true a b; fails = λ e h. let k : b ≤ a = ltb-false a b e in omega arith }

pub is_most : (a b : ℕ) → Decides (a ≤ b) (leb a b)
is_most a b = record { holds = leb-true a b; fails = λ e h. let k : b < a = leb-false a b e in omega arith }

pub nothing : Decides ⊥ false
nothing = record { holds = λ e. absurd (subst (λ (b : Bool). cond b ⊥ (Unit {0})) e tt); fails = λ e h. h }

pub is_same : (a b : ℕ) → Decides (a ≡ b) (eqb a b)
is_same a b = record { holds = eqb-true a b; fails = eqb-false a b }

pub is_not : {P : Type 0} {t : Bool} → Decides P t → Decides (¬ P) (not t)
is_not {t = true} d = record { holds = λ e. absurd (subst (λ (b : Bool). cond b ⊥ (Unit {0})) e tt); fails = λ e h. h (d.holds refl) }
is_not {t = false} d = record { holds = λ e. d.fails refl; fails = λ e. absurd (subst (λ (b : Bool). cond b (Unit {0}) ⊥) e tt) }

-- what a fact and its test may be put in other words
pub so_if : {P Q : Type 0} {t : Bool} → (P → Q) → (Q → P) → Decides P t → Decides Q t
so_if f g d = record { holds = λ e. f (d.holds e); fails = λ e q. d.fails e (g q) }

pub is_or : {P Q : Type 0} {t u : Bool} → Decides P t → Decides Q u → Decides (P ⊎ Q) (t || u)
is_or {t = true} d e = record { holds = λ x. inl (d.holds refl); fails = λ x. absurd (subst (λ (b : Bool). cond b (Unit {0}) ⊥) x tt) }
is_or {t = false} d e = record { holds = λ x. inr (e.holds x); fails = λ x. ⊎_elim (d.fails refl) (e.fails x) }

pub is_and : {P Q : Type 0} {t u : Bool} → Decides P t → Decides Q u → Decides (P × Q) (t && u)
is_and {t = true} d e = record { holds = λ x. (d.holds refl, e.holds x); fails = λ x p. e.fails x p.1 }
is_and {t = false} d e = record { holds = λ x. absurd (subst (λ (b : Bool). cond b ⊥ (Unit {0})) x tt); fails = λ x p. d.fails refl p.0 }

-- what is decided is so where it cannot be otherwise
pub surely : {P : Type 0} {t : Bool} → Decides P t → ((P → ⊥) → ⊥) → P
surely {t = true} d h = d.holds refl
surely {t = false} d h = absurd (h (d.fails refl))

-- the same fact by another test
pub by_same : {P : Type 0} {t : Bool} (u : Bool) → t ≡ u → Decides P t → Decides P u
by_same {P = P} u e d = subst (λ (b : Bool). Decides P b) e d

-- the second asked only where the first holds
pub is_and_so : {P Q : Type 0} {t u : Bool} → Decides P t → (P → Decides Q u) → Decides (P × Q) (t && u)
is_and_so {t = true} d e = record { holds = λ x. (d.holds refl, (e (d.holds refl)).holds x); fails = λ x p. (e p.0).fails x p.1 }
is_and_so {t = false} d e = record { holds = λ x. absurd (subst (λ (b : Bool). cond b ⊥ (Unit {0})) x tt); fails = λ x p. d.fails refl p.0 }

-- as `||` and `⊎` are bracketed
pub to_right : {P Q R : Type 0} → (P ⊎ Q) ⊎ R → P ⊎ Q ⊎ R
to_right (inl (inl p)) = inl p
to_right (inl (inr q)) = inr (inl q)
to_right (inr r) = inr (inr r)

pub to_left : {P Q R : Type 0} → P ⊎ Q ⊎ R → (P ⊎ Q) ⊎ R
to_left (inl p) = inl (inl p)
to_left (inr (inl q)) = inl (inr q)
to_left (inr (inr r)) = inr r

-- three, four and five facts, as `||` and `⊎` are bracketed
pub is_or_3 : {P Q R : Type 0} {t u v : Bool} → Decides P t → Decides Q u → Decides R v → Decides (P ⊎ Q ⊎ R) (t || u || v)
is_or_3 d e f = so_if to_right to_left (is_or (is_or d e) f)

pub is_or_4 : {P Q R S : Type 0} {t u v w : Bool} → Decides P t → Decides Q u → Decides R v → Decides S w → Decides (P ⊎ Q ⊎ R ⊎ S) (t || u || v || w)
is_or_4 d e f g =
    so_if to_right to_left (is_or_3 (is_or d e) f g)

pub is_or_5 : {P Q R S T : Type 0} {t u v w x : Bool} → Decides P t → Decides Q u → Decides R v → Decides S w → Decides T x
    → Decides (P ⊎ Q ⊎ R ⊎ S ⊎ T) (t || u || v || w || x)
is_or_5 d e f g h =
    so_if to_right to_left (is_or_4 (is_or d e) f g h)

-- A test denies a fact: it holds exactly where the fact does not.
pub record Denies (P : Type 0) (t : Bool) : Type 0 where
  pub so : t ≡ false → P
  pub not_so : t ≡ true → P → ⊥

pub denied : {P : Type 0} {t : Bool} → Denies P t → Decides P (not t)
denied {t = true} d = record { holds = λ e. absurd (subst (λ (b : Bool). cond b ⊥ (Unit {0})) e tt); fails = λ e. d.not_so refl }
denied {t = false} d = record { holds = λ e. d.so refl; fails = λ e. absurd (subst (λ (b : Bool). cond b (Unit {0}) ⊥) e tt) }

pub no_if : {P Q : Type 0} {t : Bool} → (P → Q) → (Q → P) → Denies P t → Denies Q t
no_if f g d = record { so = λ e. f (d.so e); not_so = λ e q. d.not_so e (g q) }

-- a joined test, of which the second is asked only where the first holds
pub not_both : {P Q : Type 0} {t u : Bool} → Denies P t → ((P → ⊥) → Denies Q u) → Denies (P ⊎ Q) (t && u)
not_both {t = true} d e = let f = e (d.not_so refl) in record { so = λ x. inr (f.so x); not_so = λ x. ⊎_elim (d.not_so refl) (f.not_so x) }
not_both {t = false} d e = record { so = λ x. inl (d.so refl); not_so = λ x. absurd (subst (λ (b : Bool). cond b ⊥ (Unit {0})) x tt) }

pub not_all_3 : {P Q R : Type 0} {t u v : Bool} → Denies P t → Denies Q u → (((P ⊎ Q) → ⊥) → Denies R v) → Denies (P ⊎ Q ⊎ R) (t && u && v)
not_all_3 d e f =
    no_if to_right to_left (not_both (not_both d (λ x. e)) f)

-- at least, and over
pub is_least : (a b : ℕ) → Denies (b ≤ a) (ltb a b)
is_least a b = record { so = ltb-false a b; not_so = λ e h. let k : a < b = ltb-true a b e in omega arith }

pub is_over : (a b : ℕ) → Denies (b < a) (leb a b)
is_over a b = record { so = leb-false a b; not_so = λ e h. let k : a ≤ b = leb-true a b e in omega arith }

-- one of the numbers of a list
is_either : {P : Type 0} {t : Bool} → Decides P t → (n : ℕ) (ms : List ℕ) → Decides (P ⊎ In n ms) (either t (map (eqb n) ms))
is_either {P = P} {t = t} d n [] = so_if inl (⊎_elim (λ p. p) (λ x. absurd x)) d
is_either {P = P} {t = t} d n (m ∷ ms) =
    so_if to_right to_left
    (is_either {P = P ⊎ (n ≡ m)} (is_or d (is_same n m)) n ms)

pub is_one : (n m : ℕ) (ms : List ℕ) → Decides (In n (m ∷ ms)) (either (eqb n m) (map (eqb n) ms))
is_one n m ms = is_either (is_same n m) n ms

pub is_any : {P : ℕ → Type 0} {test : ℕ → Bool} → ((c : ℕ) → Decides (P c) (test c)) → (s : List ℕ) → Decides (Some P s) (any test s)
unfolding any
is_any d [] = record { holds = λ e. absurd (subst (λ (b : Bool). cond b ⊥ (Unit {0})) e tt); fails = λ e h. omega (arith, h.1) }
is_any {P} d (c ∷ s) =
    so_if
    (⊎_elim (λ p. (0, suc-le-suc zero-le, p)) (λ h. (suc h.0, suc-le-suc h.1, h.2)))
    (λ h. split h.0 h.1 h.2)
    (is_or (d c) (is_any d s))
  where
    split : (i : ℕ) → i < length (c ∷ s) → P (at (c ∷ s) i) → P c ⊎ Some P s
    split zero l p = inl p
    split (suc i) l p = inr (i, le_of_suc-le-suc l, p)

-- ---- the calendar

is_leap : (y : ℕ) → Decides (LeapYear y) (leap y)
is_leap y = is_and (is_same (y % 4) 0) (is_or (is_not (is_same (y % 100) 0)) (is_same (y % 400) 0))

pub is_too_many : (year month day : ℕ) → Denies (TooMany year month day) (leb day (days_in year month))
is_too_many year month day = go (eqb month 2) (short_month month) (is_same month 2) (is_one month 4 (6 ∷ 9 ∷ 11 ∷ []))
  where
    feb : (t : Bool) → Decides (LeapYear year) t → Denies ((29 < day) ⊎ ((28 < day) × (¬ LeapYear year))) (leb day (cond t 29 28))
    feb true d = no_if inl (⊎_elim (λ k. k) (λ k. absurd (k.1 (d.holds refl)))) (is_over day 29)
    feb false d = no_if (λ k. inr (k, d.fails refl)) (⊎_elim (λ k. omega arith) (λ k. k.0)) (is_over day 28)

    few : {X : Type 0} → month ≡ 2 → In month (4 ∷ 6 ∷ 9 ∷ 11 ∷ []) → X
    few m i =
        ⊎_elim (λ e. absurd (omega arith))
        (⊎_elim (λ e. absurd (omega arith)) (⊎_elim (λ e. absurd (omega arith)) (⊎_elim (λ e. absurd (omega arith)) (λ x. absurd x)))) i

    go : (two short : Bool) → Decides (month ≡ 2) two → Decides (In month (4 ∷ 6 ∷ 9 ∷ 11 ∷ [])) short
        → Denies (TooMany year month day) (leb day (cond two (cond (leap year) 29 28) (cond short 30 31)))
    go true short two other =
        let m : month ≡ 2 = two.holds refl in
        no_if (λ k. inr (inr (m, k))) (⊎_elim (λ k. inl (omega arith)) (⊎_elim (λ k. few m k.0) (λ k. k.1))) (feb (leap year) (is_leap year))
    go false true two other =
        no_if (λ k. inr (inl (other.holds refl, k))) (⊎_elim (λ k. omega arith) (⊎_elim (λ k. k.1) (λ k. absurd (two.fails refl k.0))))
        (is_over day 30)
    go false false two other =
        no_if inl (⊎_elim (λ k. k) (⊎_elim (λ k. absurd (other.fails refl k.0)) (λ k. absurd (two.fails refl k.0)))) (is_over day 31)

-- ---- the order of an answer

-- Row by row: the row applies and its number is the answer, or it does not and the next is tried.
pub data Tried {A : Type 0} (a : Answer A) : Table → Type 1 where
  end : (x : A) → a ≡ reads x → Tried a []
  hit : {n : ℕ} {P : Type 0} {rows : Table} → P → a ≡ refusal n → Tried a ((n, P) ∷ rows)
  miss : {n : ℕ} {P : Type 0} {rows : Table} → (P → ⊥) → Tried a rows → Tried a ((n, P) ∷ rows)

pub order_of : {A : Type 0} {a : Answer A} {rows : Table} → Tried a rows → OrderOf rows a
order_of {a = a} (end x e) = record {
  given = λ n. (λ h. let z : ◌≡◌ {A = ℕ} 0 1 = cc in absurd (omega arith), λ h. absurd h);
  accepted = (λ h. tt, λ h. (x, e));
}
order_of {a = a} (hit {n} {P} {rows} p e) = record {
  given = λ m. (λ h. inl (cc, p), λ h. ⊎_elim (λ k. e ∙ ap refusal (sym k.0)) (λ k. absurd (k.0 p)) h);
  accepted = (λ h. let x = h.0 in let k : a ≡ reads x = h.1 in let z : ◌≡◌ {A = ℕ} 0 1 = cc in absurd (omega arith), λ h. absurd (h.0 p));
}
order_of {a = a} (miss {n} {P} {rows} not_so t) =
    let r = order_of t in
    record {
      given = λ m. (λ h. inr (not_so, (r.given m).0 h), λ h. ⊎_elim (λ k. absurd (not_so k.1)) (λ k. (r.given m).1 k.1) h);
      accepted = (λ h. (not_so, r.accepted.0 h), λ h. r.accepted.1 h.1);
    }

-- a test of the chain
pub try : {A : Type 0} {P : Type 0} {t : Bool} {rows : Table} (n : ℕ) {next : Answer A} → Decides P t → ((P → ⊥) → Tried next rows)
    → Tried (refuse n t next) ((n, P) ∷ rows)
try {t = true} n d k = hit (d.holds refl) refl
try {t = false} n d k = miss (d.fails refl) (k (d.fails refl))

-- one answer and then another, each with its table
pub then_try : {A B : Type 0} {a : Answer A} {rows more : Table} (next : A → Answer B) → Tried a rows → ((x : A) → a ≡ reads x → Tried (next x) more)
    → Tried (follow a next) (rows ++ more)
then_try {more = more} next (end x e) k = subst (λ b. Tried (follow b next) more) (sym e) (k x e)
then_try next (hit p e) k = hit p (ap (λ b. follow b next) e)
then_try next (miss not_so t) k = miss not_so (then_try next t k)

-- a value made part of another changes no refusal
pub within_try : {A B : Type 0} {a : Answer A} {rows : Table} (f : A → B) → Tried a rows → Tried (within f a) rows
within_try f (end x e) = end (f x) (ap (within f) e)
within_try f (hit p e) = hit p (ap (within f) e)
within_try f (miss not_so t) = miss not_so (within_try f t)

-- rows that are asked only where something holds
pub only_where : {A : Type 0} {a : Answer A} {C : Type 0} {rows : Table} → C → Tried a rows → Tried a (only_if C rows)
only_where c (end x e) = end x e
only_where {C = C} c (hit {P = P} p e) = hit {P = C × P} (c, p) e
only_where {C = C} c (miss {P = P} not_so t) = miss {P = C × P} (λ k. not_so k.1) (only_where c t)

pub not_asked : {A : Type 0} {a : Answer A} {C : Type 0} (rows : Table) (x : A) → (C → ⊥) → a ≡ reads x → Tried a (only_if C rows)
not_asked [] x c e = end x e
not_asked {C = C} (row ∷ rows) x c e = miss {P = C × row.1} (λ k. c k.0) (not_asked rows x c e)

-- what C is answered
pub number_of : {A : Type 0} {a : Answer A} {rows : Table} (number : A → ℕ) → ((x : A) → number x < 256) → OrderOf rows a → NumberOrder rows (told number a)
number_of {A = A} {a = refusal n} number small o = record {
  given = λ m. (λ h. (o.given m).0 (ap refusal (omega arith)), λ h. ap (λ (k : ℕ). 256 + k) (number_same n m ((o.given m).1 h)));
  accepted = (λ h. absurd (omega arith), λ h. absurd (never_read n (o.accepted.1 h)));
}
  where
    number_same : (n m : ℕ) → ◌≡◌ {A = Answer A} (refusal n) (refusal m) → n ≡ m
    number_same n m e = cc

    never_read : (n : ℕ) → (x : A) × (refusal n ≡ reads x) → ⊥
    never_read n h = let k : refusal n ≡ reads h.0 = h.1 in let z : ◌≡◌ {A = ℕ} 0 1 = cc in omega arith
number_of {a = reads x} number small o = record {
  given = λ m. (λ h. absurd (omega (arith, small x)), λ h. absurd (never_refused m ((o.given m).1 h)));
  accepted = (λ h. o.accepted.0 (x, refl), λ h. small x);
}
  where
    never_refused : (m : ℕ) → reads x ≡ refusal m → ⊥
    never_refused m k = let z : ◌≡◌ {A = ℕ} 0 1 = cc in omega arith
