-- What the rules test of an entry and of a header is what 01's table says of 10 to 14.
use Prim.Native.Nat.{ℕ, zero, suc, ◌+◌, ◌*◌, ◌-◌, ◌/◌, ◌%◌, ◌^◌, ◌<◌, ◌≤◌, suc-le-suc}
use native.Mathlib.Decide.{dec_lt}
use native.Mathlib.Nat.{le_of_suc-le-suc, pow-suc}
use native.Mathlib.Omega.{arith}
use mathlib.Core.Bool.{Bool, true, false, cond, not, ◌&&◌, ◌||◌, false≢true}
use mathlib.Core.List.{List, [], ◌∷◌, ◌++◌, map}
use mathlib.Core.Logic.{◌↔◌, ◌⊎◌, inl, inr, ⊎_elim}
use mathlib.Core.Path.{◌≡◌, refl, sym, ap, subst, ◌∙◌}
use borrow.Author.Tests.{leb-false, eqb-false, not-true}
use lib.Dec.{ltb, leb, eqb}
use lib.ListN.{length, take, drop, length-drop}
use Rattle.base_rules.specs.Answers.{reads, refuse}
use Rattle.base_rules.specs.Lists.{at, any}
use Rattle.base_rules.specs.Bytes.{Bytes}
use Rattle.base_rules.proofs.Laws.Tests.{below, neither, every_below}
use Rattle.base_rules.proofs.Laws.TestLaws.{either}
use Rattle.base_digits.specs.Digits.{over_nine, digits_of}
use Rattle.base_numbers.specs.Numbers.{number}
use Rattle.mbus_rules.specs.declared.Moment.{Moment}
use Rattle.mbus_rules.specs.Moments.{moment_of, date_exists, wrong_moment}
use Rattle.mbus_rules.specs.Headers.{letter, maker_named, wrong_header}
use Rattle.base_rules.proofs.Laws.ByteLaws.{bytes_take, bytes_drop}
use Rattle.mbus_rules.specs.Signs.{minus, size_bytes}
use Rattle.mbus_rules.specs.Quantities.{energy, volume, inlet, outlet, flow, time, quantity_of, unknown, width_of, is_packed, is_binary, is_time, paired}
use Rattle.mbus_rules.specs.Entries.{unfit, may_fall, wrong_packed, wrong_binary, wrong_digit, entry_of, seen, missing, read_entries}
use Rattle.mbus_rules.specs.declared.Entry.{Entry}
use Rattle.mbus_rules.proofs.Laws.EntryLaws.{entries_next}
use Rattle.base_rules.proofs.Laws.ListLaws.{any_snoc}
use Rattle.mbus_rules.proofs.Laws.RowLaws.{unit_past, structure_past, high_binary, may_fall_three, missing_five}
use Rattle.demands.specs.Orders.{In}
use Rattle.demands.specs.LineOrder.{of_digits, of_binary, KnownUnit, Unfit, Minus, WrongDigit, MinusNought, Falls, its_value, WrongValue, NoDay, WrongTime}
use Rattle.demands.specs.LineOrder.{OverNine, NoLetter, NoMaker, WrongHeader, Missing, entries_table}
use Rattle.demands.proofs.Laws.Orders.{Decides, surely, is_same, is_less, is_most, is_not, is_or, is_or_3, is_or_5, is_and, is_one, so_if, by_same}
use Rattle.demands.proofs.Laws.Orders.{nothing}
use Rattle.demands.proofs.Laws.Orders.{to_right, to_left, Denies, denied, no_if, not_both, not_all_3, is_any, is_least, is_over, is_too_many, Tried}
use Rattle.demands.proofs.Laws.Orders.{end, try}

-- ---- the tables of structures and units

-- a number of the list is below what they all are below
in_below : (n most : ℕ) (ms : List ℕ) → any (leb most) ms ≡ false → In n ms → n < most
unfolding any
in_below n most [] e h = absurd h
in_below n most (m ∷ ms) e h =
    let k = neither (leb most m) (any (leb most) ms) e in
    ⊎_elim (λ s. let l : m < most = leb-false most m k.0 in omega arith) (in_below n most ms k.1) h

-- a fact that is not so fails its test
refuted : {P : Type 0} {t : Bool} → Decides P t → (P → ⊥) → t ≡ false
refuted {t = true} d h = absurd (h (d.holds refl))
refuted {t = false} d h = refl

-- two tests that agree on each byte, and hold of no other number
agreeing : (f g : ℕ → Bool) → every_below 256 (λ k. cond (f k) (g k) (not (g k))) ≡ true → ((k : ℕ) → 256 ≤ k → (f k ≡ false) × (g k ≡ false))
    → (k : ℕ) → f k ≡ g k
agreeing f g e far k = go (dec_lt k 256)
  where
    same : (a b : Bool) → cond a b (not b) ≡ true → a ≡ b
    same true b h = sym h
    same false b h = sym (not-true b h)

    go : Dec (k < 256) → f k ≡ g k
    go (yes h) = same (f k) (g k) (below 256 (λ k. cond (f k) (g k) (not (g k))) e k h)
    go (no h) = let o = far k (omega arith) in o.0 ∙ sym o.1

is_binary_lem : (st : ℕ) → Decides (In st of_binary) (is_binary st)
unfolding any
is_binary_lem st =
    by_same (is_binary st)
    (agreeing (λ k. either (eqb k 0x01) (map (eqb k) (0x02 ∷ 0x03 ∷ 0x04 ∷ 0x06 ∷ 0x07 ∷ []))) is_binary refl
    (λ k h. (
      refuted (is_one k 0x01 (0x02 ∷ 0x03 ∷ 0x04 ∷ 0x06 ∷ 0x07 ∷ []))
          (λ i. let l : k < 256 = in_below k 256 of_binary refl i in omega arith),
      high_binary k (omega arith),
    )) st)
    (is_one st 0x01 (0x02 ∷ 0x03 ∷ 0x04 ∷ 0x06 ∷ 0x07 ∷ []))

is_structure : (st : ℕ) → Decides (In st (of_digits ++ of_binary)) (is_packed st || is_binary st)
unfolding any
is_structure st =
    by_same (is_packed st || is_binary st)
    (agreeing (λ k. either (eqb k 0x0A) (map (eqb k) (0x0B ∷ 0x0C ∷ 0x0E ∷ of_binary))) (λ k. is_packed k || is_binary k) refl
    (λ k h. (
      refuted (is_one k 0x0A (0x0B ∷ 0x0C ∷ 0x0E ∷ of_binary))
          (λ i. let l : k < 256 = in_below k 256 (of_digits ++ of_binary) refl i in omega arith),
      structure_past k h,
    )) st)
    (is_one st 0x0A (0x0B ∷ 0x0C ∷ 0x0E ∷ of_binary))

known_test : ℕ → Bool
known_test u = leb u 0x17 || (leb 0x28 u && leb u 0x2F) || (leb 0x38 u && leb u 0x3F) || (leb 0x58 u && leb u 0x5F) || eqb u 0x6D

is_known : (u : ℕ) → Decides (KnownUnit u) (known_test u)
unfolding known_test
is_known u =
    is_or_5 (is_most u 0x17) (is_and (is_most 0x28 u) (is_most u 0x2F)) (is_and (is_most 0x38 u) (is_most u 0x3F))
    (is_and (is_most 0x58 u) (is_most u 0x5F)) (is_same u 0x6D)

known_small : (u : ℕ) → KnownUnit u → u < 256
known_small u h =
    ⊎_elim (λ k. omega arith) (⊎_elim (λ k. omega arith) (⊎_elim (λ k. omega arith) (⊎_elim (λ k. omega arith) (λ k. omega arith)))) h

pub is_unit : (u : ℕ) → Decides (KnownUnit u) (ltb (quantity_of u) unknown)
unfolding quantity_of known_test
is_unit u =
    by_same (ltb (quantity_of u) unknown)
    (agreeing known_test (λ v. ltb (quantity_of v) unknown) refl
    (λ k h. (refuted (is_known k) (λ i. let l : k < 256 = known_small k i in omega arith), ap (λ (q : ℕ). ltb q unknown) (unit_past k h))) u)
    (is_known u)

-- ---- 11

is_pair : (st u : ℕ) → Decides ((¬ In st (of_digits ++ of_binary)) ⊎ (¬ KnownUnit u) ⊎ ((u ≡ 0x6D) × (¬ (st ≡ 0x06)))) (not (paired st u))
unfolding paired
is_pair st u = go (is_time u) (is_same u 0x6D)
  where
    go : (t : Bool) → Decides (u ≡ 0x6D) t
        → Decides ((¬ In st (of_digits ++ of_binary)) ⊎ (¬ KnownUnit u) ⊎ ((u ≡ 0x6D) × (¬ (st ≡ 0x06))))
        (not (cond t (eqb st 0x06) ((is_packed st || is_binary st) && ltb (quantity_of u) unknown)))
    go true d =
        let unit : u ≡ 0x6D = d.holds refl in
        so_if (λ h. inr (inr (unit, h)))
        (⊎_elim (λ k s. k (inr (inr (inr (inr (inr (inr (inr (inr (inl s)))))))))) (⊎_elim (λ k s. k (inr (inr (inr (inr unit))))) (λ k. k.1)))
        (is_not (is_same st 0x06))
    go false d =
        so_if (split (is_structure st) (is_unit u))
        (⊎_elim (λ k both. k both.0) (⊎_elim (λ k both. k both.1) (λ k both. d.fails refl k.0)))
        (is_not (is_and (is_structure st) (is_unit u)))
      where
        split : {A B C : Type 0} {t u : Bool} → Decides A t → Decides B u → (¬ (A × B)) → (¬ A) ⊎ (¬ B) ⊎ C
        split {t = true} a b h = inr (inl (λ y. h (a.holds refl, y)))
        split {t = false} a b h = inl (a.fails refl)

pub is_unfit : (e : List ℕ) → Decides (Unfit e) (unfit e)
is_unfit e =
    so_if (⊎_elim inl (⊎_elim (⊎_elim (λ k. inr (inl k)) (⊎_elim (λ k. inr (inr (inl k))) (λ k. inr (inr (inr (inl k)))))) (λ k. inr (inr (inr (inr k))))))
    (⊎_elim inl (⊎_elim (λ k. inr (inl (inl k))) (⊎_elim (λ k. inr (inl (inr (inl k)))) (⊎_elim (λ k. inr (inl (inr (inr k)))) (λ k. inr (inr k))))))
    (is_or_3 (is_less (length e) 2) (is_pair (at e 0) (at e 1)) (is_less (length e) (2 + width_of (at e 0))))

-- ---- 12

-- the last of two or more
last_cons : (x c : ℕ) (s : List ℕ) → at (x ∷ c ∷ s) (length (x ∷ c ∷ s) - 1) ≡ at (c ∷ s) (length (c ∷ s) - 1)
last_cons x c s = let e : length (x ∷ c ∷ s) - 1 ≡ suc (length (c ∷ s) - 1) = omega arith in ap (at (x ∷ c ∷ s)) e

is_minus : (v : List ℕ) → Decides (Minus v) (minus v)
unfolding minus
is_minus [] = record { holds = λ e. absurd (false≢true e); fails = λ e. eqb-false 0 0xF refl }
is_minus (x ∷ []) = is_same (x / 16) 0xF
is_minus (x ∷ c ∷ s) = rw (last_cons x c s) (is_minus (c ∷ s))

-- one byte, with or without an F
digit_last : (x : ℕ) (t : Bool) → Decides (x / 16 ≡ 0xF) t → Decides (WrongDigit (x ∷ [])) (cond t (over_nine (x % 16) || false) (over_nine x || false))
digit_last x true d =
    let f : x / 16 ≡ 0xF = d.holds refl in
    so_if (⊎_elim (⊎_elim (λ h. (0, omega arith, inl (omega arith))) (λ h. absurd (omega arith))) (λ h. absurd h))
    (λ w. back f w.0 w.1 w.2)
    (is_or (is_or (is_less 9 (x % 16 % 16)) (is_less 9 (x % 16 / 16))) nothing)
  where
    back : x / 16 ≡ 0xF → (i : ℕ) → i < 1 → (9 < at (x ∷ []) i % 16) ⊎ ((9 < at (x ∷ []) i / 16) × (¬ ((suc i ≡ 1) × (at (x ∷ []) i / 16 ≡ 0xF))))
        → ((9 < x % 16 % 16) ⊎ (9 < x % 16 / 16)) ⊎ ⊥
    back f zero l h = ⊎_elim (λ k. inl (inl (omega arith))) (λ k. absurd (k.1 (refl, f))) h
    back f (suc i) l h = absurd (omega arith)
digit_last x false d =
    so_if (⊎_elim (⊎_elim (λ h. (0, omega arith, inl h)) (λ h. (0, omega arith, inr (h, λ k. d.fails refl k.1)))) (λ h. absurd h))
    (λ w. back w.0 w.1 w.2)
    (is_or (is_or (is_less 9 (x % 16)) (is_less 9 (x / 16))) nothing)
  where
    back : (i : ℕ) → i < 1 → (9 < at (x ∷ []) i % 16) ⊎ ((9 < at (x ∷ []) i / 16) × (¬ ((suc i ≡ 1) × (at (x ∷ []) i / 16 ≡ 0xF))))
        → ((9 < x % 16) ⊎ (9 < x / 16)) ⊎ ⊥
    back zero l h = ⊎_elim (λ k. inl (inl k)) (λ k. inl (inr k.0)) h
    back (suc i) l h = absurd (omega arith)

-- a test in front of both answers
cond_or : (m a t u : Bool) → (a || cond m t u) ≡ cond m (a || t) (a || u)
cond_or true a t u = refl
cond_or false a t u = refl

is_digit : (v : List ℕ) → Decides (WrongDigit v) (cond (minus v) (any over_nine (size_bytes v)) (any over_nine v))
unfolding minus size_bytes any
is_digit [] = record { holds = λ e. absurd (false≢true e); fails = λ e h. let l : h.0 < 0 = h.1 in omega arith }
is_digit (x ∷ []) = digit_last x (eqb (x / 16) 0xF) (is_same (x / 16) 0xF)
is_digit (x ∷ c ∷ s) =
    by_same (cond (minus (c ∷ s)) (over_nine x || any over_nine (size_bytes (c ∷ s))) (over_nine x || any over_nine (c ∷ s)))
    (cond_or (minus (c ∷ s)) (over_nine x) (any over_nine (size_bytes (c ∷ s))) (any over_nine (c ∷ s)))
    (so_if (⊎_elim (⊎_elim (λ h. (0, omega arith, inl h)) (λ h. (0, omega arith, inr (h, λ k. let l : 1 ≡ length (x ∷ c ∷ s) = k.0 in omega arith)))) ahead)
    (λ w. back w.0 w.1 w.2)
    (is_or (is_or (is_less 9 (x % 16)) (is_less 9 (x / 16))) (is_digit (c ∷ s))))
  where
    ahead : WrongDigit (c ∷ s) → WrongDigit (x ∷ c ∷ s)
    ahead w = (
      suc w.0,
      suc-le-suc w.1,
      ⊎_elim inl (λ k. inr (k.0, λ j. k.1 (let e : suc (suc w.0) ≡ length (x ∷ c ∷ s) = j.0 in omega arith, j.1))) w.2,
    )

    back : (i : ℕ) → i < length (x ∷ c ∷ s)
        → (9 < at (x ∷ c ∷ s) i % 16) ⊎ ((9 < at (x ∷ c ∷ s) i / 16) × (¬ ((suc i ≡ length (x ∷ c ∷ s)) × (at (x ∷ c ∷ s) i / 16 ≡ 0xF))))
        → ((9 < x % 16) ⊎ (9 < x / 16)) ⊎ WrongDigit (c ∷ s)
    back zero l h = inl (⊎_elim inl (λ k. inr k.0) h)
    back (suc i) l h = inr (i, le_of_suc-le-suc l, ⊎_elim inl (λ k. inr (k.0, λ j. k.1 (ap suc j.0, j.1))) h)

-- all digits but the sign are 0 where the size is
is_nought : (v : List ℕ) → Minus v → (digits_of (size_bytes v) ≡ 0) ↔ MinusNought v
unfolding size_bytes digits_of
is_nought [] m = absurd (eqb-false 0 0xF refl m)
is_nought (x ∷ []) m = (λ h. (omega arith, λ i l. absurd (omega arith)), λ z. let w : x ≡ 0xF0 = z.0 in omega arith)
is_nought (x ∷ c ∷ s) m =
    let rest = is_nought (c ∷ s) (rw (last_cons x c s) at m) in (
      λ h. let z = rest.0 (omega arith) in (last_cons x c s ∙ z.0, front h z.1),
      λ z. let first : x ≡ 0 = z.1 0 (omega arith) in
          let d : digits_of (size_bytes (c ∷ s)) ≡ 0 = rest.1 (sym (last_cons x c s) ∙ z.0, λ i l. z.1 (suc i) (suc-le-suc l)) in omega arith,
    )
  where
    front : 100 * digits_of (size_bytes (c ∷ s)) + (10 * (x / 16) + x % 16) ≡ 0 → ((i : ℕ) → suc i < length (c ∷ s) → at (c ∷ s) i ≡ 0)
        → (i : ℕ) → suc i < length (x ∷ c ∷ s) → at (x ∷ c ∷ s) i ≡ 0
    front h z zero l = omega arith
    front h z (suc i) l = z i (le_of_suc-le-suc l)

-- a digit over 9, minus zero, or a minus where none is allowed
joined : {D Z N F : Type 0} {m z f : Bool} (a b : Bool) → Decides N m → Decides D (cond m a b) → (N → Decides Z z) → (Z → N) → Decides F f
    → Decides (D ⊎ Z ⊎ (N × (¬ F))) (cond m (a || z) b || m && not f)
joined {m = true} a b n d z zn f = is_or_3 d (z (n.holds refl)) (so_if (λ h. (n.holds refl, h)) (λ k. k.1) (is_not f))
joined {m = false} a b n d z zn f =
    so_if (⊎_elim inl (λ h. absurd h)) (⊎_elim inl (⊎_elim (λ k. absurd (n.fails refl (zn k))) (λ k. absurd (n.fails refl k.0)))) (is_or d nothing)

is_fall : (u : ℕ) → Decides (Falls u) (may_fall u)
is_fall u = by_same (may_fall u) (sym (may_fall_three u)) (is_one (quantity_of u) inlet (outlet ∷ flow ∷ []))

is_signed : (u : ℕ) (v : List ℕ) → Decides (WrongDigit v ⊎ MinusNought v ⊎ (Minus v × (¬ Falls u))) (wrong_packed u v)
is_signed u v =
    joined (any over_nine (size_bytes v)) (any over_nine v) (is_minus v) (is_digit v)
    (λ m. let k = is_nought v m in so_if k.0 k.1 (is_same (digits_of (size_bytes v)) 0))
    (λ z. let e : at v (length v - 1) ≡ 0xF0 = z.0 in omega arith) (is_fall u)

-- the highest bit, in binary
top_bit : (v : List ℕ) → Bytes v → (256 ^ length v ≤ 2 * number v) ↔ (128 ≤ at v (length v - 1))
unfolding number
top_bit [] b = (λ h. absurd (omega arith), λ h. absurd (omega arith))
top_bit (x ∷ []) b = (λ h. omega arith, λ h. omega arith)
top_bit (x ∷ c ∷ s) b =
    let rest = top_bit (c ∷ s) b.1 in
    let small : x < 256 = b.0 in
    let one : 256 ^ length (c ∷ s) ≡ 256 ^ length s * 256 = pow-suc 256 (length s) in
    let two : 256 ^ length (x ∷ c ∷ s) ≡ 256 ^ length (c ∷ s) * 256 = pow-suc 256 (length (c ∷ s)) in
    let last = last_cons x c s in (
      λ h. let k : 128 ≤ at (c ∷ s) (length (c ∷ s) - 1) = rest.0 (omega arith) in omega arith,
      λ h. let k : 256 ^ length (c ∷ s) ≤ 2 * number (c ∷ s) = rest.1 (omega arith) in omega arith,
    )

is_below_zero : (u : ℕ) (v : List ℕ) → Bytes v → Decides ((128 ≤ at v (length v - 1)) × (¬ Falls u)) (wrong_binary u v)
is_below_zero u v b = let k = top_bit v b in is_and (so_if k.0 k.1 (is_most (256 ^ length v) (2 * number v))) (is_not (is_fall u))

-- no structure is of both kinds
pub in_append : (n : ℕ) (ms ks : List ℕ) → In n (ms ++ ks) → In n ms ⊎ In n ks
in_append n [] ks h = inr h
in_append n (m ∷ ms) ks h = ⊎_elim (λ e. inl (inl e)) (λ k. ⊎_elim (λ i. inl (inr i)) inr (in_append n ms ks k)) h

pub append_in : (n : ℕ) (ms ks : List ℕ) → In n ms ⊎ In n ks → In n (ms ++ ks)
append_in n [] ks (inl h) = absurd h
append_in n [] ks (inr h) = h
append_in n (m ∷ ms) ks (inl (inl e)) = inl e
append_in n (m ∷ ms) ks (inl (inr h)) = inr (append_in n ms ks (inl h))
append_in n (m ∷ ms) ks (inr h) = inr (append_in n ms ks (inr h))

one_kind : {X : Type 0} (st : ℕ) → In st of_digits → In st of_binary → X
unfolding any
one_kind st p b =
    let low : st < 8 = in_below st 8 of_binary refl b in
    ⊎_elim (λ e. absurd (omega arith))
    (⊎_elim (λ e. absurd (omega arith)) (⊎_elim (λ e. absurd (omega arith)) (⊎_elim (λ e. absurd (omega arith)) (λ x. absurd x)))) p

pub is_value : (e : List ℕ) → Bytes e → (¬ Unfit e) → Decides (WrongValue e) (wrong_digit e)
is_value e bytes fit =
    let st : ℕ = at e 0 in
    let u : ℕ = at e 1 in
    let known : In st (of_digits ++ of_binary) = surely (is_structure st) (λ k. fit (inr (inl k))) in
    go (is_binary (at e 0)) (is_binary_lem (at e 0)) known (λ unit. surely (is_same (at e 0) 0x06) (λ k. fit (inr (inr (inr (inl (unit, k)))))))
  where
    go : (t : Bool) → Decides (In (at e 0) of_binary) t → In (at e 0) (of_digits ++ of_binary) → (at e 1 ≡ 0x6D → at e 0 ≡ 0x06)
        → Decides (WrongValue e) (not (is_time (at e 1)) && cond t (wrong_binary (at e 1) (its_value e)) (wrong_packed (at e 1) (its_value e)))
    go true d known pair =
        let kind : In (at e 0) of_binary = d.holds refl in
        so_if (λ k. inr (kind, k.0, k.1.0, k.1.1)) (⊎_elim (λ k. one_kind (at e 0) k.0 kind) (λ k. (k.1, (k.2, k.3))))
        (is_and (is_not (is_same (at e 1) 0x6D)) (is_below_zero (at e 1) (its_value e) (bytes_take (width_of (at e 0)) (drop 2 e) (bytes_drop 2 e bytes))))
    go false d known pair =
        let kind : In (at e 0) of_digits = ⊎_elim (λ k. k) (λ k. absurd (d.fails refl k)) (in_append (at e 0) of_digits of_binary known) in
        so_if (λ k. inl (kind, k.1))
        (⊎_elim (λ k. (λ time. d.fails refl (inr (inr (inr (inr (inl (pair time)))))), k.1)) (λ k. absurd (d.fails refl k.0)))
        (is_and (is_not (is_same (at e 1) 0x6D)) (is_signed (at e 1) (its_value e)))

-- ---- 13

is_day : (m : Moment) → Denies (NoDay m.year m.month m.day) (date_exists m)
is_day m =
    no_if
    (⊎_elim inl (⊎_elim (⊎_elim (λ k. inr (inl (omega arith))) (λ k. inr (inr (inl k))))
    (⊎_elim (λ k. inr (inr (inr (inl (omega arith))))) (λ k. inr (inr (inr (inr k)))))))
    (⊎_elim inl (⊎_elim (λ k. inr (inl (inl (omega arith))))
    (⊎_elim (λ k. inr (inl (inr k))) (⊎_elim (λ k. inr (inr (inl (omega arith)))) (λ k. inr (inr (inr k)))))))
    (not_all_3 (is_least m.year 100) (not_both (is_least 0 m.month) (λ x. is_least m.month 13))
    (λ x. not_both (is_least 0 m.day) (λ x. is_too_many (2000 + m.year) m.month m.day)))

-- a byte over 59 has a spare bit set, or shows more than 59
over_59 : (x : ℕ) → 59 < x → (63 < x) ⊎ (60 ≤ x % 64)
over_59 x h = go (dec_lt 63 x)
  where
    go : Dec (63 < x) → (63 < x) ⊎ (60 ≤ x % 64)
    go (yes k) = inl k
    go (no k) = inr (omega arith)

pub is_moment : (v : List ℕ) → Decides (WrongTime v) (wrong_moment v)
unfolding wrong_moment
is_moment v =
    so_if
    (⊎_elim (⊎_elim (λ k. inl (omega arith)) (⊎_elim (λ k. inr (inl (omega arith))) (λ k. inr (inr (inr (inr (λ j. omega arith)))))))
    (⊎_elim (λ k. inr (inr (inr (inl k))))
    (⊎_elim (λ k. inl (omega arith)) (⊎_elim (λ k. inr (inl (omega arith))) (λ k. inr (inr (inl k)))))))
    (⊎_elim (λ k. ⊎_elim (λ j. inl (inl j)) (λ j. inr (inr (inl j))) (over_59 (at v 0) k))
    (⊎_elim (λ k. ⊎_elim (λ j. inl (inr (inl j))) (λ j. inr (inr (inr (inl j)))) (over_59 (at v 1) k))
    (⊎_elim (λ k. inr (inr (inr (inr k)))) (⊎_elim (λ k. inr (inl k)) (λ k. inl (inr (inr (omega arith))))))))
    (is_or_3 (is_or_3 (is_less 63 (at v 0)) (is_less 63 (at v 1)) (is_less 0 (at v 5)))
    (so_if (year_first v).0 (year_first v).1 (denied (is_day (moment_of v))))
    (denied (not_all_3 (is_least (at v 0 % 64) 60) (is_least (at v 1 % 64) 60) (λ x. is_least (at v 2 % 32) 24))))
  where
    year_first : (v : List ℕ) → NoDay (at v 4 / 16 * 8 + at v 3 / 32) (at v 4 % 16) (at v 3 % 32)
        ↔ NoDay (8 * (at v 4 / 16) + at v 3 / 32) (at v 4 % 16) (at v 3 % 32)
    year_first v =
        let e : at v 4 / 16 * 8 + at v 3 / 32 ≡ 8 * (at v 4 / 16) + at v 3 / 32 = omega arith in
        (λ h. subst (λ (y : ℕ). NoDay y (at v 4 % 16) (at v 3 % 32)) e h, λ h. subst (λ (y : ℕ). NoDay y (at v 4 % 16) (at v 3 % 32)) (sym e) h)

-- ---- 10

is_no_letter : (g : ℕ) → Denies (NoLetter g) (letter g)
is_no_letter g = no_if (⊎_elim (λ k. inl (omega arith)) inr) (⊎_elim (λ k. inl (omega arith)) inr) (not_both (is_least 0 g) (λ x. is_over g 26))

is_no_maker : (m : ℕ) → Denies (NoMaker m) (maker_named m)
is_no_maker m =
    no_if to_right to_left
    (not_all_3 (not_both (is_least m 32768) (λ x. is_no_letter (m / 1024))) (is_no_letter (m / 32 % 32)) (λ x. is_no_letter (m % 32)))

pub is_over_nine : (x : ℕ) → Decides (OverNine x) (over_nine x)
is_over_nine x = is_or (is_less 9 (x % 16)) (is_less 9 (x / 16))

is_not_zero : (n : ℕ) → Decides (¬ (n ≡ 0)) (ltb 0 n)
is_not_zero n = so_if (λ h k. omega arith) (λ h. omega arith) (is_less 0 n)

pub is_header : (h : List ℕ) → Decides (WrongHeader h) (wrong_header h)
unfolding wrong_header
is_header h =
    is_or_5 (is_any is_over_nine (take 4 h)) (denied (is_no_maker (256 * at h 5 + at h 4))) (is_not (is_one (at h 7) 0x04 (0x0B ∷ 0x0C ∷ 0x0D ∷ [])))
    (is_not_zero (at h 10)) (is_not_zero (at h 11))

-- ---- the entries, one by one

-- the quantities so far are those of the entries so far
abbrev pub Same : List ℕ → List Entry → Type 0
Same qs done = (q : ℕ) → Decides (In q qs) (seen q done)

pub same_none : Same [] []
unfolding any
same_none q = nothing

same_last : (qs : List ℕ) (done : List Entry) (x : Entry) → Same qs done → Same (quantity_of x.unit ∷ qs) (done ++ (x ∷ []))
same_last qs done x s q =
    by_same (seen q (done ++ (x ∷ []))) (sym (any_snoc (λ (e : Entry). eqb (quantity_of e.unit) q) done x))
    (so_if (⊎_elim inr (λ e. inl (sym e))) (⊎_elim (λ e. inr (sym e)) inl) (is_or (s q) (is_same (quantity_of x.unit) q)))

ended : (qs : List ℕ) (done : List Entry) → Same qs done → Tried (refuse 16 (missing done) (reads done)) ((16, Missing qs) ∷ [])
ended qs done s =
    try 16
    (by_same (missing done) (sym (missing_five (λ q. seen q done)))
    (is_or_5 (is_not (s energy)) (is_not (s volume)) (is_not (s inlet)) (is_not (s outlet)) (is_not (s time))))
    (λ x. end done refl)

pub entries_tried : (most : ℕ) (qs : List ℕ) (done : List Entry) (e : List ℕ) → Bytes e → length e ≤ most → Same qs done
    → Tried (read_entries 0 e done) (entries_table most qs e)
unfolding read_entries entries_table
entries_tried zero qs done [] bytes l s = ended qs done s
entries_tried zero qs done (x ∷ t) bytes l s = absurd (omega arith)
entries_tried (suc most) qs done [] bytes l s = ended qs done s
entries_tried (suc most) qs done (x ∷ t) bytes l s =
    let e : List ℕ = x ∷ t in
    let w : ℕ = 2 + width_of x in
    rw (entries_next x t done)
    (try 11 (is_unfit e)
    (λ fit. try 12 (is_value e bytes fit)
    (λ right. try 13 (is_and (is_same (at e 1) 0x6D) (is_moment (its_value e)))
    (λ timely. try 14 (s (quantity_of (at e 1)))
    (λ new. entries_tried most (quantity_of (at e 1) ∷ qs) (done ++ (entry_of e ∷ [])) (drop w e) (bytes_drop w e bytes)
    (let k : length (drop w e) ≡ length e - w = length-drop w e in omega arith)
    (same_last qs done (entry_of e) s))))))
