-- The order of refusals of a CJ/T 188 line, read and written, and of an energy value as an entry.
use Prim.Native.Nat.{ℕ, zero, suc, ◌+◌, ◌*◌, ◌-◌, ◌%◌, ◌<◌, ◌≤◌, min}
use native.Mathlib.Decide.{dec_lt}
use native.Mathlib.Nat.{min-eq_left, min-zero, suc-min-suc, zero-min}
use native.Mathlib.Omega.{arith}
use mathlib.Core.Bool.{Bool, true, false, cond, not, ◌||◌, true≢false}
use mathlib.Core.List.{List, [], ◌∷◌, map}
use mathlib.Core.Logic.{◌⊎◌, inl, inr, ⊎_elim}
use mathlib.Core.Path.{◌≡◌, refl, sym, ap, subst, ◌∙◌}
use lib.Count.{ones_in}
use lib.Dec.{ltb, eqb}
use lib.ListN.{length, take, drop, length-take, length-drop}
use lib.Seq.{get_or-take, get_or-drop}
use Rattle.base_rules.specs.Answers.{Answer, reads, refusal, refuse}
use Rattle.base_rules.specs.Lists.{at, total}
use Rattle.base_rules.proofs.Laws.Tests.{by_test, below, every_below}
use Rattle.base_rules.proofs.Laws.TestLaws.{either}
use Rattle.base_characters.specs.Characters.{odd, chars}
use Rattle.base_digits.specs.Digits.{digits_of}
use Rattle.base_lent.specs.Lent.{told}
use Rattle.cjt_rules.specs.declared.CjtClock.{CjtClock}
use Rattle.cjt_rules.specs.declared.CjtTelegram.{CjtTelegram}
use Rattle.cjt_rules.specs.declared.CjtTelegram.TheVariants as telegrams
use Rattle.cjt_rules.specs.CjtAddresses.{all_aa, wrong_party}
use Rattle.cjt_rules.specs.CjtClocks.{clock_of, wrong_clock}
use Rattle.cjt_rules.specs.CjtFrames.{past_fe, asks_length, wrong_frame}
use Rattle.cjt_rules.specs.CjtHost.{cjt_kind_number, cjt_line_number}
use Rattle.cjt_rules.specs.CjtLines.{wrong_mark, listed_bytes, part, wrong_part, wrong_listed, asks_with, tells_with, read_listed, read_cjt_frame, read_cjt_line}
use Rattle.cjt_rules.specs.CjtSizes.{CjtSized}
use Rattle.cjt_rules.specs.CjtUnits.{energy_code, wrong_units}
use Rattle.cjt_rules.specs.CjtWriting.{cjt_line_of, unwritten, write_cjt_line}
use Rattle.cjt_rules.proofs.Laws.RoundTrip.{refusal_20, request_line, answer_line}
use Rattle.cjt_energy.specs.Energies.{entry_for}
use Rattle.cjt_energy.proofs.Laws.Energies.{rest_found}
use Rattle.cjt_energy.proofs.Laws.Meaning.{entry_of}
use Rattle.demands.specs.Orders.{NumberOrder, In, only_if}
use Rattle.demands.specs.LineOrder.{bytes_in, OverNine}
use Rattle.demands.specs.CjtOrder.{leading_fe, behind_fe, OtherShape, address_bytes, AllAA, OtherParty, OtherMark, two_of, units}
use Rattle.demands.specs.CjtOrder.{NoClock, WrongListed, codes, WrongUnits, cjt_frame_table, cjt_table, CjtOrder, CjtHostOrder}
use Rattle.demands.specs.CjtOrder.{characters_of, cjt_write_table, CjtWriteOrder, energy_table, EnergyOrder}
use Rattle.demands.proofs.Laws.Orders.{Decides, surely, is_same, is_less, is_most, is_not, is_or, is_or_3, is_or_4, is_or_5, is_and, is_one, so_if}
use Rattle.demands.proofs.Laws.Orders.{by_same, is_any, denied, not_both, not_all_3, is_least, is_too_many}
use Rattle.demands.proofs.Laws.Orders.{Tried, end, hit, miss, try, not_asked, only_where, order_of, number_of}
use Rattle.demands.proofs.Laws.EntryOrder.{is_over_nine, in_append, append_in}

-- ---- the FE bytes in front

past_is : (left : ℕ) (b : List ℕ) → past_fe left b ≡ drop (min left (leading_fe b)) b
unfolding past_fe
past_is zero b = ap (λ (n : ℕ). drop n b) (sym (zero-min (leading_fe b)))
past_is (suc left) [] = ap (λ (n : ℕ). drop {A = ℕ} n []) (sym (min-zero (suc left)))
past_is (suc left) (x ∷ b) = go (eqb x 0xFE) (past_is left b)
  where
    go : (t : Bool) → past_fe left b ≡ drop (min left (leading_fe b)) b
        → cond t (past_fe left b) (x ∷ b) ≡ drop (min (suc left) (cond t (suc (leading_fe b)) 0)) (x ∷ b)
    go true rest = rest ∙ ap (λ (n : ℕ). drop n (x ∷ b)) (sym (suc-min-suc left (leading_fe b)))
    go false rest = ap (λ (n : ℕ). drop n (x ∷ b)) (sym (min-zero (suc left)))

-- ---- 80 to 83

is_shape : (f : List ℕ) → Decides (OtherShape f) (wrong_frame f)
is_shape f =
    is_or_4 (is_not (is_same (at f 0) 0x68)) (is_not (is_one (at f 10) 0x03 (0x2E ∷ []))) (is_not (is_same (length f) (at f 10 + 13)))
    (is_not (is_same (at f (length f - 1)) 0x16))

is_all_aa : (a : List ℕ) → Decides (AllAA a) (all_aa a)
is_all_aa a =
    so_if (λ h i l. surely (is_same (at a i) 0xAA) (λ k. h (i, l, k))) (λ h w. w.2 (h w.0 w.1)) (is_not (is_any (λ x. is_not (is_same x 0xAA)) a))

is_party : (f : List ℕ) → Decides (OtherParty f) (wrong_party f)
is_party f =
    is_or (is_not (is_or (is_and (is_most 0x20 (at f 1)) (is_most (at f 1) 0x23)) (is_and (is_most 0x25 (at f 1)) (is_most (at f 1) 0x27))))
    (is_and (is_any is_over_nine (address_bytes f)) (is_not (is_and (is_same (at f 10) 0x03) (is_all_aa (address_bytes f)))))

is_mark : (f : List ℕ) → In (at f 10) (0x03 ∷ 0x2E ∷ []) → Decides (OtherMark f) (wrong_mark f)
is_mark f lengths =
    is_or_3 (is_not (is_same (at f 11) 0x1F)) (is_not (is_same (at f 12) 0x90)) (go (asks_length f) (is_same (at f 10) 0x03) lengths)
  where
    go : (t : Bool) → Decides (at f 10 ≡ 0x03) t → In (at f 10) (0x03 ∷ 0x2E ∷ [])
        → Decides (((at f 10 ≡ 0x03) × (¬ (at f 9 ≡ 0x01))) ⊎ ((at f 10 ≡ 0x2E) × (¬ (at f 9 ≡ 0x81)))) (not (eqb (at f 9) (cond t 0x01 0x81)))
    go true d l =
        let e : at f 10 ≡ 0x03 = d.holds refl in
        so_if (λ h. inl (e, h)) (⊎_elim (λ k. k.1) (λ k. let z : at f 10 ≡ 0x2E = k.0 in absurd (omega arith))) (is_not (is_same (at f 9) 0x01))
    go false d l =
        let e : at f 10 ≡ 0x2E = ⊎_elim (λ k. absurd (d.fails refl k)) (⊎_elim (λ k. k) (λ x. absurd x)) l in
        so_if (λ h. inr (e, h)) (⊎_elim (λ k. absurd (d.fails refl k.0)) (λ k. k.1)) (is_not (is_same (at f 9) 0x81))

-- ---- 84

-- a digit over 9 in so many bytes from a place on
is_part : (p w : ℕ) (d : List ℕ) → p + w ≤ length d → Decides ((k : ℕ) × (k < w) × OverNine (at d (p + k))) (wrong_part p w d)
is_part p w d fits =
    so_if
    (λ h. let l : h.0 < w = rw long at h.1 in (h.0, l, subst OverNine (same h.0 l) h.2))
    (λ h. (h.0, rw long h.1, subst OverNine (sym (same h.0 h.1)) h.2))
    (is_any is_over_nine (part p w d))
  where
    long : length (part p w d) ≡ w
    long = length-take w (drop p d) ∙ min-eq_left (let n = length-drop p d in omega arith)

    same : (k : ℕ) → k < w → at (part p w d) k ≡ at d (p + k)
    same k l = get_or-take w (drop p d) k 0 l ∙ get_or-drop p d k 0

unit_test : ℕ → Bool
unit_test i = either (eqb i 4) (map (eqb i) (9 ∷ 14 ∷ 19 ∷ 24 ∷ []))

is_unit : (i : ℕ) → Decides (In i units) (unit_test i)
unfolding unit_test
is_unit i = is_one i 4 (9 ∷ 14 ∷ 19 ∷ 24 ∷ [])

module _ (d : List ℕ) where
  -- a digit over 9 before a place
  Before : ℕ → Type 0
  Before n = (i : ℕ) × (i < n) × (¬ In i units) × OverNine (at d i)

  none_before : Decides (Before 0) false
  unfolding Before
  none_before = record { holds = λ e. absurd (true≢false (sym e)); fails = λ e h. let l : h.0 < 0 = h.1 in omega arith }

  -- one part more: between are units, and in it is none
  further : {t : Bool} (m p w : ℕ) → every_below p (λ i. ltb i m || unit_test i) ≡ true
      → every_below w (λ k. not (unit_test (p + k))) ≡ true → m ≤ p → p + w ≤ length d
      → Decides (Before m) t → Decides (Before (p + w)) (t || wrong_part p w d)
  unfolding Before
  further m p w gap clear le fits b =
      so_if
      (⊎_elim (λ h. let l : h.0 < m = h.1 in (h.0, omega arith, h.2, h.3))
      (λ h. let l : h.0 < w = h.1 in (
        p + h.0,
        omega arith,
        (is_not (is_unit (p + h.0))).holds (below w (λ k. not (unit_test (p + k))) clear h.0 l),
        h.2,
      )))
      (λ h. back h.0 h.1 h.2 h.3 (dec_lt h.0 m) (dec_lt h.0 p))
      (is_or b (is_part p w d fits))
    where
      back : (i : ℕ) → i < p + w → (¬ In i units) → OverNine (at d i) → Dec (i < m) → Dec (i < p) → Before m ⊎ ((k : ℕ) × (k < w) × OverNine (at d (p + k)))
      back i l u o (yes h) j = inl (i, h, u, o)
      back i l u o (no h) (yes j) =
          absurd (⊎_elim (λ k. h k) u ((is_or (is_less i m) (is_unit i)).holds (below p (λ i. ltb i m || unit_test i) gap i j)))
      back i l u o (no h) (no j) =
          let e : i ≡ p + (i - p) = omega arith in inr (i - p, omega arith, subst (λ (x : ℕ). OverNine (at d x)) e o)

  is_digits : 41 ≤ length d → Decides (Before 41)
      (wrong_part 0 4 d || wrong_part 5 4 d || wrong_part 10 4 d || wrong_part 15 4 d || wrong_part 20 4 d
      || wrong_part 25 3 d || wrong_part 28 3 d || wrong_part 31 3 d || wrong_part 34 7 d)
  unfolding unit_test
  is_digits l =
      further 34 34 7 refl refl (omega arith) (omega arith)
      (further 31 31 3 refl refl (omega arith) (omega arith)
      (further 28 28 3 refl refl (omega arith) (omega arith)
      (further 24 25 3 refl refl (omega arith) (omega arith)
      (further 19 20 4 refl refl (omega arith) (omega arith)
      (further 14 15 4 refl refl (omega arith) (omega arith)
      (further 9 10 4 refl refl (omega arith) (omega arith)
      (further 4 5 4 refl refl (omega arith) (omega arith)
      (further 0 0 4 refl refl (omega arith) (omega arith) none_before))))))))

is_no_clock : (c : CjtClock) → Decides (NoClock c.second c.minute c.hour c.day c.month c.year) (wrong_clock c)
is_no_clock c =
    so_if
    (⊎_elim
    (⊎_elim (λ k. inr (inr (inr (inl k))))
    (⊎_elim (⊎_elim (λ k. inr (inr (inr (inr (inl (omega arith)))))) (λ k. inr (inr (inr (inr (inr (inl k)))))))
    (⊎_elim (λ k. inr (inr (inr (inr (inr (inr (inl (omega arith)))))))) (λ k. inr (inr (inr (inr (inr (inr (inr k))))))))))
    (⊎_elim inl (⊎_elim (λ k. inr (inl k)) (λ k. inr (inr (inl k))))))
    (⊎_elim (λ k. inr (inl k)) (⊎_elim (λ k. inr (inr (inl k))) (⊎_elim (λ k. inr (inr (inr k))) (⊎_elim (λ k. inl (inl k))
    (⊎_elim (λ k. inl (inr (inl (inl (omega arith)))))
    (⊎_elim (λ k. inl (inr (inl (inr k)))) (⊎_elim (λ k. inl (inr (inr (inl (omega arith))))) (λ k. inl (inr (inr (inr k)))))))))))
    (is_or
    (denied (not_all_3 (is_least c.year 10000) (not_both (is_least 0 c.month) (λ x. is_least c.month 13))
    (λ x. not_both (is_least 0 c.day) (λ x. is_too_many c.year c.month c.day))))
    (denied (not_all_3 (is_least c.second 60) (is_least c.minute 60) (λ x. is_least c.hour 24))))

-- the clock's numbers, where they stand
module _ (d : List ℕ) where
  clock_at : (k : ℕ) → k < 7 → at (part 34 7 d) k ≡ at d (34 + k)
  clock_at k l = get_or-take 7 (drop 34 d) k 0 l ∙ get_or-drop 34 d k 0

  one_byte : (k : ℕ) → k < 7 → digits_of (at (part 34 7 d) k ∷ []) ≡ two_of (at d (34 + k))
  unfolding digits_of
  one_byte k l = rw (clock_at k l) (omega arith)

  two_bytes : digits_of (at (part 34 7 d) 5 ∷ at (part 34 7 d) 6 ∷ []) ≡ 100 * two_of (at d 40) + two_of (at d 39)
  unfolding digits_of
  two_bytes = rw (clock_at 5 (omega arith), clock_at 6 (omega arith)) (omega arith)

  is_clock : Decides
      (NoClock (two_of (at d 34)) (two_of (at d 35)) (two_of (at d 36)) (two_of (at d 37)) (two_of (at d 38)) (100 * two_of (at d 40) + two_of (at d 39)))
      (wrong_clock (clock_of (part 34 7 d)))
  is_clock =
      subst (λ (P : Type 0). Decides P (wrong_clock (clock_of (part 34 7 d)))) same (is_no_clock (clock_of (part 34 7 d)))
    where
      same : (let c = clock_of (part 34 7 d) in NoClock c.second c.minute c.hour c.day c.month c.year)
          ≡ NoClock (two_of (at d 34)) (two_of (at d 35)) (two_of (at d 36)) (two_of (at d 37)) (two_of (at d 38)) (100 * two_of (at d 40) + two_of (at d 39))
      same =
          rw (one_byte 0 (omega arith), one_byte 1 (omega arith), one_byte 2 (omega arith), one_byte 3 (omega arith), one_byte 4 (omega arith), two_bytes)

is_listed : (d : List ℕ) → 41 ≤ length d → Decides (WrongListed d) (wrong_listed d)
unfolding Before
is_listed d l = is_or (is_digits d l) (is_clock d)

-- ---- 85

is_energy : (u : ℕ) → Decides (In u codes) (energy_code u)
is_energy u =
    so_if (append_in u (0x02 ∷ 0x05 ∷ 0x08 ∷ 0x0A ∷ []) (0x01 ∷ 0x0B ∷ 0x0E ∷ 0x11 ∷ 0x13 ∷ []))
    (in_append u (0x02 ∷ 0x05 ∷ 0x08 ∷ 0x0A ∷ []) (0x01 ∷ 0x0B ∷ 0x0E ∷ 0x11 ∷ 0x13 ∷ []))
    (is_or (is_one u 0x02 (0x05 ∷ 0x08 ∷ 0x0A ∷ [])) (is_one u 0x01 (0x0B ∷ 0x0E ∷ 0x11 ∷ 0x13 ∷ [])))

is_units : (f : List ℕ) → Decides (WrongUnits (drop 14 f)) (wrong_units (tells_with f))
is_units f =
    let d : List ℕ = drop 14 f in
    is_or_5 (is_not (is_energy (at d 4))) (is_not (is_energy (at d 9))) (is_not (is_one (at d 14) 0x14 (0x17 ∷ 0x1A ∷ [])))
    (is_not (is_one (at d 19) 0x32 (0x35 ∷ []))) (is_not (is_one (at d 24) 0x29 (0x2C ∷ [])))

-- ---- the line

listed_tried : (f : List ℕ) → In (at f 10) (0x03 ∷ 0x2E ∷ []) → length f ≡ at f 10 + 13
    → Tried (read_listed f) (only_if (at f 10 ≡ 0x2E) ((84, WrongListed (drop 14 f)) ∷ (85, WrongUnits (drop 14 f)) ∷ []))
listed_tried f lengths count = go (asks_length f) (is_same (at f 10) 0x03)
  where
    apart : at f 10 ≡ 0x03 → at f 10 ≡ 0x2E → ⊥
    apart e k = omega arith

    go : (t : Bool) → Decides (at f 10 ≡ 0x03) t
        → Tried (cond t (reads (telegrams.Request (asks_with f)))
        (refuse 84 (wrong_listed (listed_bytes f)) (refuse 85 (wrong_units (tells_with f)) (reads (telegrams.Answer (tells_with f))))))
        (only_if (at f 10 ≡ 0x2E) ((84, WrongListed (drop 14 f)) ∷ (85, WrongUnits (drop 14 f)) ∷ []))
    go true d = not_asked ((84, WrongListed (drop 14 f)) ∷ (85, WrongUnits (drop 14 f)) ∷ []) (telegrams.Request (asks_with f)) (apart (d.holds refl)) refl
    go false d =
        let answer : at f 10 ≡ 0x2E = ⊎_elim (λ k. absurd (d.fails refl k)) (⊎_elim (λ k. k) (λ x. absurd x)) lengths in
        only_where answer
        (try 84 (is_listed (drop 14 f) (let n = length-drop 14 f in omega arith))
        (λ x. try 85 (is_units f) (λ x. end (telegrams.Answer (tells_with f)) refl)))

cjt_frame_tried : (f : List ℕ) → Tried (read_cjt_frame f) (cjt_frame_table f)
unfolding read_cjt_frame
cjt_frame_tried f =
    try 80 (is_shape f)
    (λ shape. let lengths : In (at f 10) (0x03 ∷ 0x2E ∷ []) = surely (is_one (at f 10) 0x03 (0x2E ∷ [])) (λ k. shape (inr (inl k))) in
    let count : length f ≡ at f 10 + 13 = surely (is_same (length f) (at f 10 + 13)) (λ k. shape (inr (inr (inl k)))) in
    try 81 (is_not (is_same (at f (length f - 2)) (total (take (length f - 2) f) % 256)))
    (λ x. try 82 (is_party f)
    (λ x. try 83 (is_mark f lengths)
    (λ x. listed_tried f lengths count))))

pub cjt_tried : (s : List ℕ) → Tried (read_cjt_line s) (cjt_table s)
unfolding read_cjt_line odd
cjt_tried s =
    try 1 (is_same (length s) 0)
    (λ x. try 2 (is_any (λ c. is_less 511 c) s)
    (λ x. try 3 (is_any (λ c. is_same (ones_in 9 c % 2) 1) s)
    (λ x. subst (λ (f : List ℕ). Tried (read_cjt_frame f) (cjt_frame_table (behind_fe (bytes_in s)))) (sym (past_is 5 (bytes_in s)))
    (cjt_frame_tried (behind_fe (bytes_in s))))))

pub cjt_order : CjtOrder
cjt_order s = order_of (cjt_tried s)

pub cjt_host_order : CjtHostOrder
cjt_host_order b = go (eqb (length b % 2) 1) (is_same (length b % 2) 1)
  where
    small : (t : CjtTelegram) → cjt_kind_number t < 256
    small (telegrams.Request q) = omega arith
    small (telegrams.Answer a) = omega arith

    as_told : (a : Answer CjtTelegram) → told cjt_kind_number a ≡ cjt_line_number a
    as_told (refusal n) = refl
    as_told (reads t) = refl

    go : (t : Bool) → Decides (length b % 2 ≡ 1) t
        → NumberOrder ((17, length b % 2 ≡ 1) ∷ cjt_table (chars b)) (cond t (256 + 17) (cjt_line_number (read_cjt_line (chars b))))
    go true d = number_of {a = refusal 17} cjt_kind_number small (order_of (hit (d.holds refl) refl))
    go false d =
        subst (NumberOrder ((17, length b % 2 ≡ 1) ∷ cjt_table (chars b))) (as_told (read_cjt_line (chars b)))
        (number_of cjt_kind_number small (order_of (miss (d.fails refl) (cjt_tried (chars b)))))

-- ---- writing, and an energy as an entry

cjt_length : (t : CjtTelegram) → length (cjt_line_of t) ≡ characters_of t
cjt_length (telegrams.Request q) = request_line q
cjt_length (telegrams.Answer a) = answer_line a

pub cjt_write_tried : (t : CjtTelegram) (places : ℕ) → CjtSized t → Tried (write_cjt_line t places) (cjt_write_table t places)
cjt_write_tried t places sized =
    try 20 twenty
    (λ x. try 21 (subst (λ (n : ℕ). Decides (places < n) (ltb places (length (cjt_line_of t)))) (cjt_length t) (is_less places (length (cjt_line_of t))))
    (λ x. end (cjt_line_of t) refl))
  where
    twenty : Decides ((s : List ℕ) → read_cjt_line s ≡ reads t → ⊥) (unwritten t)
    twenty = record { holds = (refusal_20 t sized).0; fails = λ e h. absurd (true≢false (sym ((refusal_20 t sized).1 h) ∙ e)) }

pub cjt_write_order : CjtWriteOrder
cjt_write_order t places sized = order_of (cjt_write_tried t places sized)

pub energy_tried : (count code : ℕ) → Tried (entry_for count code) (energy_table count code)
unfolding entry_for
energy_tried count code =
    try 84 (denied (is_least count 100000000))
    (λ x. try 85 (is_not (is_energy code))
    (λ known. try 86
    (by_same _ (rest_found count code (by_test (energy_code code) (λ y. y) (λ n. absurd (known ((is_energy code).fails n)))))
    (is_and (is_same code 0x01) (is_not (is_same (count % 100) 0))))
    (λ x. end (entry_of count code) refl)))

pub energy_order : EnergyOrder
energy_order count code = order_of (energy_tried count code)
