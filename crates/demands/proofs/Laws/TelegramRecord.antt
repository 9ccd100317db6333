-- Which bytes are a telegram's record: what the rule tests by writing it again is what the table says of 101.
use Prim.Native.Nat.{ℕ, zero, suc, ◌+◌, ◌*◌, ◌^◌, ◌<◌, ◌≤◌, suc-le-suc}
use native.Mathlib.Nat.{le_of_suc-le-suc, eq-or-lt_of_le}
use native.Mathlib.Omega.{arith}
use mathlib.Core.Bool.{Bool, true, false, cond, not, ◌&&◌, ◌||◌, false≢true}
use mathlib.Core.List.{List, [], ◌∷◌, ◌++◌}
use mathlib.Core.Logic.{◌⊎◌, inl, inr, ⊎_elim}
use mathlib.Core.Path.{◌≡◌, refl, sym, ap, ap₂, subst, ◌∙◌}
use borrow.Author.Tests.{eq-eqb}
use lib.Dec.{ltb, eqb}
use lib.ListN.{length, take, drop, length-drop, take-append-drop}
use lib.Seq.{take_at, drop_at, drop-drop, length-take-le}
use mir.Syntax.{w64}
use mir.Val.{to_z, of_z}
use mir.ValLaws.{of_z-to_z}
use Rattle.base_rules.specs.Lists.{at}
use Rattle.base_rules.proofs.Laws.ByteLaws.{EachByte, each_drop, each_take, spelled, spell, spell_whole}
use Rattle.base_numbers.specs.Numbers.{number, bytes_of}
use Rattle.base_numbers.proofs.Laws.NumberLaws.{number_below}
use Rattle.base_lent.specs.Pieces.{pieces}
use Rattle.base_lent.specs.Same.{same}
use Rattle.base_lent.proofs.Laws.Same.{same_itself, same_not}
use Rattle.bundle_rows.proofs.Laws.RowLaws.{bytes_taken}
use Rattle.mbus_rules.specs.declared.Value.{Value}
use Rattle.mbus_rules.specs.declared.Value.TheVariants.{Number, Time, Binary}
use Rattle.mbus_rules.specs.declared.Entry.{Entry}
use Rattle.mbus_rules.specs.declared.Kind.{Kind}
use Rattle.mbus_rules.specs.declared.Kind.TheVariants.{Ack, Read, Enter, Leave, Data}
use Rattle.mbus_rules.specs.Host.{kind_number}
use Rattle.mbus_rules.specs.TelegramSizes.{Sized}
use Rattle.mbus_telegrams.specs.Kinds.{kind_in}
use Rattle.mbus_records.specs.Telegrams.{sort_of, value_record, value_in, entry_bytes, entry_in, entries_in, telegram_in, telegram_bytes}
use Rattle.mbus_records.proofs.Laws.TelegramLaws.{entry_length, telegram_length}
use Rattle.demands.specs.Orders.{In}
use Rattle.demands.specs.RecordOrder.{NoEntry, NoTelegram}
use Rattle.demands.proofs.Laws.Orders.{Decides, surely, is_same, is_less, is_most, is_not, is_or, is_or_3, is_or_4, is_and, is_one, so_if, by_same}

-- ---- deciding it

any_below : ℕ → (ℕ → Bool) → Bool
any_below zero test = false
any_below (suc n) test = any_below n test || test n

is_below : {P : ℕ → Type 0} {test : ℕ → Bool} → ((i : ℕ) → Decides (P i) (test i)) → (n : ℕ) → Decides ((i : ℕ) × (i < n) × P i) (any_below n test)
unfolding any_below
is_below d zero = record { holds = λ e. absurd (false≢true e); fails = λ e h. let l : h.0 < 0 = h.1 in omega arith }
is_below {P} d (suc n) =
    so_if (⊎_elim (λ h. let l : h.0 < n = h.1 in (h.0, omega arith, h.2)) (λ p. (n, omega arith, p)))
    (λ h. split h.0 h.1 h.2) (is_or (is_below d n) (d n))
  where
    split : (i : ℕ) → i < suc n → P i → ((i : ℕ) × (i < n) × P i) ⊎ P n
    split i l p = ⊎_elim (λ e. inr (subst P e p)) (λ k. inl (i, k, p)) (eq-or-lt_of_le (le_of_suc-le-suc l))

-- ---- one entry

-- its value, by its sort: 1, 2, or another
abbrev timed : List ℕ → Value
timed e = Time (record { year = at e 8; month = at e 9; day = at e 10; hour = at e 11; minute = at e 12; second = at e 13; weekday = at e 14 })

abbrev coded : List ℕ → Value
coded e = Binary (record { count = to_z w64 (number (take 8 (drop 8 e))) })

abbrev counted : List ℕ → Value
counted e = Number (record { count = to_z w64 (number (take 8 (drop 8 e))) })

-- the number of eight bytes, as a signed one and back
word_back : (e : List ℕ) → length e ≡ 16 → EachByte e → bytes_of 8 (of_z w64 (to_z w64 (number (take 8 (drop 8 e))))) ≡ take 8 (drop 8 e)
word_back e l p =
    let long : 8 ≤ length (drop 8 e) = (let k = length-drop 8 e in omega arith) in
    let small : number (take 8 (drop 8 e)) < 256 ^ 8 = number_below 8 (drop 8 e) (each_drop 8 e p) in
    ap (bytes_of 8) (of_z-to_z w64 (number (take 8 (drop 8 e))) (record { fits = omega arith })) ∙ bytes_taken 8 (drop 8 e) long (each_drop 8 e p)

-- the sort and the value of an entry that is none of the wrong ones are written as they were read
value_back : (e : List ℕ) → length e ≡ 16 → EachByte e → (¬ NoEntry e)
    → (sort_of (value_in (at e 2) e) ≡ at e 2) × (value_record (value_in (at e 2) e) ≡ take 8 (drop 8 e))
value_back e l p good = go (eqb (at e 2) 1) (eqb (at e 2) 2) (is_same (at e 2) 1) (is_same (at e 2) 2)
  where
    eight : take 8 (drop 8 e) ≡ at e 8 ∷ at e 9 ∷ at e 10 ∷ at e 11 ∷ at e 12 ∷ at e 13 ∷ at e 14 ∷ at e 15 ∷ []
    eight = spell 8 8 e (omega arith)

    few : at e 2 ≤ 2
    few = let k : 2 < at e 2 → ⊥ = λ h. good (inl h) in surely (is_most (at e 2) 2) (λ n. k (omega arith))

    go : (one two : Bool) → Decides (at e 2 ≡ 1) one → Decides (at e 2 ≡ 2) two
        → (sort_of (cond one (timed e) (cond two (coded e) (counted e))) ≡ at e 2)
        × (value_record (cond one (timed e) (cond two (coded e) (counted e))) ≡ take 8 (drop 8 e))
    go true two a b =
        let s : at e 2 ≡ 1 = a.holds refl in
        let z : at e 15 ≡ 0 = surely (is_same (at e 15) 0) (λ k. good (inr (inr (s, k)))) in
        (sym s, sym (eight ∙ ap (λ (x : ℕ). at e 8 ∷ at e 9 ∷ at e 10 ∷ at e 11 ∷ at e 12 ∷ at e 13 ∷ at e 14 ∷ x ∷ []) z))
    go false true a b = (sym (b.holds refl), word_back e l p)
    go false false a b =
        let x : at e 2 ≡ 1 → ⊥ = a.fails refl in
        let y : at e 2 ≡ 2 → ⊥ = b.fails refl in
        (surely (is_same 0 (at e 2)) (λ n. three x y n), word_back e l p)
      where
        three : (at e 2 ≡ 1 → ⊥) → (at e 2 ≡ 2 → ⊥) → (0 ≡ at e 2 → ⊥) → ⊥
        three x y n = ⊎_elim y (λ k. ⊎_elim x (λ j. n (omega arith)) (eq-or-lt_of_le (le_of_suc-le-suc k))) (eq-or-lt_of_le few)

-- zeros where zeros stand
filled : (x y z a b c d f : ℕ) (r : List ℕ) → a ≡ 0 → b ≡ 0 → c ≡ 0 → d ≡ 0 → f ≡ 0
    → x ∷ y ∷ z ∷ 0 ∷ 0 ∷ 0 ∷ 0 ∷ 0 ∷ r ≡ x ∷ y ∷ z ∷ a ∷ b ∷ c ∷ d ∷ f ∷ r
filled x y z a b c d f r p q s t u = rw (p, q, s, t, u)

entry_back : (e : List ℕ) → length e ≡ 16 → EachByte e → (¬ NoEntry e) → entry_bytes (entry_in e) ≡ e
unfolding entry_in
entry_back e l p good =
    let v = value_back e l p good in
    ap₂ (λ (x : ℕ) (r : List ℕ). at e 0 ∷ at e 1 ∷ x ∷ 0 ∷ 0 ∷ 0 ∷ 0 ∷ 0 ∷ r) v.0 (v.1 ∙ spell 8 8 e (omega arith))
    ∙ filled (at e 0) (at e 1) (at e 2) (at e 3) (at e 4) (at e 5) (at e 6) (at e 7) (spelled 8 8 e) (null 0 (omega arith)) (null 1 (omega arith))
    (null 2 (omega arith)) (null 3 (omega arith)) (null 4 (omega arith))
    ∙ sym (spell_whole 16 e l)
  where
    null : (i : ℕ) → i < 5 → at e (3 + i) ≡ 0
    null i k = surely (is_same (at e (3 + i)) 0) (λ n. good (inr (inl (i, k, n))))

-- an entry that is written as it was read is none of the wrong ones
entry_good : (e : List ℕ) → e ≡ entry_bytes (entry_in e) → ¬ NoEntry e
unfolding entry_in
entry_good e same (inl h) = sorts (eqb (at e 2) 1) (eqb (at e 2) 2) (ap (λ (l : List ℕ). at l 2) same)
  where
    sorts : (one two : Bool) → at e 2 ≡ sort_of (cond one (timed e) (cond two (coded e) (counted e))) → ⊥
    sorts true two k = omega arith
    sorts false true k = omega arith
    sorts false false k = omega arith
entry_good e same (inr (inl h)) = zeros h.0 h.1 h.2
  where
    zeros : (i : ℕ) → i < 5 → (¬ (at e (3 + i) ≡ 0)) → ⊥
    zeros zero l n = n (ap (λ (l : List ℕ). at l 3) same)
    zeros (suc zero) l n = n (ap (λ (l : List ℕ). at l 4) same)
    zeros (suc (suc zero)) l n = n (ap (λ (l : List ℕ). at l 5) same)
    zeros (suc (suc (suc zero))) l n = n (ap (λ (l : List ℕ). at l 6) same)
    zeros (suc (suc (suc (suc zero)))) l n = n (ap (λ (l : List ℕ). at l 7) same)
    zeros (suc (suc (suc (suc (suc i))))) l n = omega arith
entry_good e same (inr (inr h)) = h.1 (last (eqb (at e 2) 1) (eq-eqb (at e 2) 1 h.0) (ap (λ (l : List ℕ). at l 15) same))
  where
    last : (one : Bool) → one ≡ true
        → at e 15 ≡ at (value_record (cond one (timed e) (cond (eqb (at e 2) 2) (coded e) (counted e)))) 7
        → at e 15 ≡ 0
    last true y k = k
    last false y k = absurd (false≢true y)

-- ---- all entries

entries_back : (k : ℕ) (s : List ℕ) → length s ≡ 16 * k → EachByte s → ((i : ℕ) → i < k → ¬ NoEntry (take 16 (drop (16 * i) s)))
    → pieces entry_bytes (entries_in k s) ≡ s
unfolding entries_in
entries_back zero [] l p good = refl
entries_back zero (x ∷ s) l p good = absurd (omega arith)
entries_back (suc k) s l p good =
    ap₂ (λ (x y : List ℕ). x ++ y)
    (entry_back (take 16 s) (length-take-le 16 s (omega arith)) (each_take 16 s p) (good 0 (omega arith)))
    (entries_back k (drop 16 s) (let n = length-drop 16 s in omega arith) (each_drop 16 s p)
    (λ i h. subst (λ (x : List ℕ). ¬ NoEntry (take 16 x)) (sym (drop-drop (16 * i) 16 s ∙ ap (λ (n : ℕ). drop n s) (further i))) (good (suc i) (suc-le-suc h))))
    ∙ take-append-drop 16 s
  where
    further : (i : ℕ) → 16 + 16 * i ≡ 16 * suc i
    further i = omega arith

entries_good : (k : ℕ) (s : List ℕ) → s ≡ pieces entry_bytes (entries_in k s) → (i : ℕ) → i < k → ¬ NoEntry (take 16 (drop (16 * i) s))
unfolding entries_in
entries_good zero s e i h = absurd (omega arith)
entries_good (suc k) s e zero h =
    let x : Entry = entry_in (take 16 s) in
    entry_good (take 16 s) (ap (take 16) e ∙ take_at (entry_bytes x) (pieces entry_bytes (entries_in k (drop 16 s))) 16 (entry_length x))
entries_good (suc k) s e (suc i) h =
    subst (λ (x : List ℕ). ¬ NoEntry (take 16 x)) (drop-drop (16 * i) 16 s ∙ ap (λ (n : ℕ). drop n s) further)
    (entries_good k (drop 16 s)
    (ap (drop 16) e ∙ drop_at (entry_bytes (entry_in (take 16 s))) (pieces entry_bytes (entries_in k (drop 16 s))) 16 (entry_length (entry_in (take 16 s)))) i
    (le_of_suc-le-suc h))
  where
    further : 16 + 16 * i ≡ 16 * suc i
    further = omega arith

-- ---- the telegram

kind_same : (n : ℕ) → In n (1 ∷ 2 ∷ 3 ∷ 4 ∷ 5 ∷ []) → kind_number (kind_in n) ≡ n
kind_same n (inl e) = rw e
kind_same n (inr (inl e)) = rw e
kind_same n (inr (inr (inl e))) = rw e
kind_same n (inr (inr (inr (inl e)))) = rw e
kind_same n (inr (inr (inr (inr (inl e))))) = rw e
kind_same n (inr (inr (inr (inr (inr x))))) = absurd x

kind_few : (k : Kind) → In (kind_number k) (1 ∷ 2 ∷ 3 ∷ 4 ∷ 5 ∷ [])
kind_few Ack = inl refl
kind_few Read = inr (inl refl)
kind_few Enter = inr (inr (inl refl))
kind_few Leave = inr (inr (inr (inl refl)))
kind_few Data = inr (inr (inr (inr (inl refl))))

four_same : (F : ℕ → ℕ → ℕ → ℕ → List ℕ) (x y a c d : ℕ) → x ≡ y → a ≡ 0 → c ≡ 0 → d ≡ 0 → F x 0 0 0 ≡ F y a c d
four_same F x y a c d p q r s = rw (p, q, r, s)

module _ (b : List ℕ) (p : EachByte b) (good : ¬ NoTelegram b) where
  size : length b ≡ 136
  size = surely (is_same (length b) 136) (λ k. good (inl k))

  part_back : (n i : ℕ) → i + n ≤ 136 → bytes_of n (number (take n (drop i b))) ≡ spelled n i b
  part_back n i h =
      let l : length b ≡ 136 = size in
      bytes_taken n (drop i b) (let k = length-drop i b in omega arith) (each_drop i b p) ∙ spell n i b (omega arith)

  tail_back : pieces entry_bytes (entries_in 7 (drop 24 b)) ≡ drop 24 b
  tail_back =
      let l : length b ≡ 136 = size in
      entries_back 7 (drop 24 b) (let k = length-drop 24 b in omega arith) (each_drop 24 b p)
      (λ i h. subst (λ (x : List ℕ). ¬ NoEntry (take 16 x)) (sym (drop-drop (16 * i) 24 b)) (λ e. good (inr (inr (inr (i, h, e))))))

  null : (i : ℕ) → i < 3 → at b (13 + i) ≡ 0
  null i h = surely (is_same (at b (13 + i)) 0) (λ k. good (inr (inr (inl (i, h, k)))))

  kind_is : kind_number (kind_in (at b 0)) ≡ at b 0
  kind_is = kind_same (at b 0) (surely (is_one (at b 0) 1 (2 ∷ 3 ∷ 4 ∷ 5 ∷ [])) (λ k. good (inr (inl k))))

  telegram_back : telegram_bytes (telegram_in b) ≡ b
  unfolding telegram_bytes telegram_in
  telegram_back =
      let l : length b ≡ 136 = size in
      rw (part_back 4 4 (omega arith), part_back 2 8 (omega arith), part_back 8 16 (omega arith), tail_back)
      (four_same
      (λ x a c d. x ∷ (spelled 12 1 b ++ (a ∷ c ∷ d ∷ (spelled 8 16 b ++ drop 24 b))))
      (kind_number (kind_in (at b 0))) (at b 0) (at b 13) (at b 14) (at b 15) kind_is (null 0 (omega arith)) (null 1 (omega arith)) (null 2 (omega arith))
      ∙ ap (λ (x : List ℕ). x ++ drop 24 b) (sym (spell 24 0 b (omega arith))) ∙ take-append-drop 24 b)

seven : (b : List ℕ) → length (telegram_in b).entries ≡ 7
unfolding telegram_in entries_in
seven b = refl

telegram_good : (b : List ℕ) → b ≡ telegram_bytes (telegram_in b) → ¬ NoTelegram b
unfolding telegram_bytes telegram_in bytes_of
telegram_good b e (inl h) = h (ap length e ∙ sized)
  where
    sized : length (telegram_bytes (telegram_in b)) ≡ 136
    sized = telegram_length (telegram_in b) (seven b)
telegram_good b e (inr (inl h)) = h (subst (λ (n : ℕ). In n (1 ∷ 2 ∷ 3 ∷ 4 ∷ 5 ∷ [])) (sym (ap (λ (l : List ℕ). at l 0) e)) (kind_few (kind_in (at b 0))))
telegram_good b e (inr (inr (inl h))) = nulls h.0 h.1 h.2
  where
    nulls : (i : ℕ) → i < 3 → (¬ (at b (13 + i) ≡ 0)) → ⊥
    nulls zero l n = n (ap (λ (l : List ℕ). at l 13) e)
    nulls (suc zero) l n = n (ap (λ (l : List ℕ). at l 14) e)
    nulls (suc (suc zero)) l n = n (ap (λ (l : List ℕ). at l 15) e)
    nulls (suc (suc (suc i))) l n = omega arith
telegram_good b e (inr (inr (inr h))) =
    entries_good 7 (drop 24 b) (ap (drop 24) e) h.0 h.1 (subst (λ (x : List ℕ). NoEntry (take 16 x)) (sym (drop-drop (16 * h.0) 24 b)) h.2)

-- ---- 101

zeros_at : List ℕ → ℕ → ℕ → Bool
zeros_at e from n = any_below n (λ i. not (eqb (at e (from + i)) 0))

entry_test : List ℕ → Bool
entry_test e = ltb 2 (at e 2) || zeros_at e 3 5 || (eqb (at e 2) 1 && not (eqb (at e 15) 0))

is_no_entry : (e : List ℕ) → Decides (NoEntry e) (entry_test e)
unfolding entry_test zeros_at
is_no_entry e =
    is_or_3 (is_less 2 (at e 2)) (is_below (λ i. is_not (is_same (at e (3 + i)) 0)) 5) (is_and (is_same (at e 2) 1) (is_not (is_same (at e 15) 0)))

pub is_no_telegram : (b : List ℕ) → EachByte b → Decides (NoTelegram b) (not (same b (telegram_bytes (telegram_in b))))
is_no_telegram b p =
    go
    (is_or_4 (is_not (is_same (length b) 136)) (is_not (is_one (at b 0) 1 (2 ∷ 3 ∷ 4 ∷ 5 ∷ []))) (is_below (λ i. is_not (is_same (at b (13 + i)) 0)) 3)
    (is_below (λ i. is_no_entry (take 16 (drop (24 + 16 * i) b))) 7))
  where
    go : {u : Bool} → Decides (NoTelegram b) u → Decides (NoTelegram b) (not (same b (telegram_bytes (telegram_in b))))
    go {u = true} d =
        by_same (not (same b (telegram_bytes (telegram_in b))))
        (sym (ap not (same_not b (telegram_bytes (telegram_in b)) (λ e. telegram_good b e (d.holds refl))))) d
    go {u = false} d =
        by_same (not (same b (telegram_bytes (telegram_in b))))
        (sym (ap not (subst (λ (x : List ℕ). same b x ≡ true) (sym (telegram_back b p (d.fails refl))) (same_itself b)))) d

pub record_sized : (b : List ℕ) → EachByte b → Sized (telegram_in b)
unfolding telegram_in entries_in
record_sized b p = record { address = p 1; header = record { version = p 3; access = p 11; status = p 12 }; places = refl }
