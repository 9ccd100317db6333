-- Where 21, 100 and 101 stand among the refusals of the functions for C.
use Prim.Native.Nat.{ℕ, ◌<◌, ◌≤◌}
use native.Mathlib.Omega.{arith}
use mathlib.Core.Bool.{Bool, true, false, cond, not, ◌||◌}
use mathlib.Core.List.{List, [], ◌∷◌, ◌++◌, map}
use mathlib.Core.Logic.{inl, inr, ⊎_elim}
use mathlib.Core.Path.{◌≡◌, refl, sym, ap, subst, ◌∙◌}
use borrow.Author.Tests.{lt-ltb, le-ltb}
use lib.Dec.{ltb, leb, eqb}
use lib.ListN.{length, take, length-append}
use Rattle.base_rules.specs.Answers.{Answer, reads, refusal, refuse, follow}
use Rattle.base_rules.proofs.Laws.AnswerLaws.{reads_same}
use Rattle.base_rules.proofs.Laws.Tests.{passed}
use Rattle.base_lent.specs.Lent.{needs, placed}
use Rattle.base_lent.specs.Same.{same}
use Rattle.base_rules.proofs.Laws.ByteLaws.{EachByte, byte_at}
use Rattle.mbus_rules.specs.declared.Telegram.{Telegram}
use Rattle.mbus_rules.specs.Writing.{write_line}
use Rattle.mbus_records.specs.Telegrams.{telegram_bytes, telegram_in, telegram_from}
use Rattle.demands.proofs.Laws.TelegramRecord.{is_no_telegram, record_sized}
use Rattle.base_numbers.specs.Numbers.{number}
use Rattle.text_filling.specs.Texts.{text}
use Rattle.text_words.specs.Refusals.{Row, refusal_texts, words_in, text_of}
use Rattle.text_words.specs.Saying.{zero_ended, fitted}
use Rattle.mbus_rules.specs.Quantities.{quantity_of, unknown, unit_of, power_of}
use Rattle.mbus_rules.specs.Telegrams.{bare}
use Rattle.mbus_rules.proofs.Laws.LineLaws.{bare_sized}
use Rattle.mbus_rules.proofs.Laws.RowLaws.{quantity_few}
use Rattle.mbus_telegrams.specs.Kinds.{kind_in}
use Rattle.mbus_search.specs.declared.Spot.{Spot}
use Rattle.mbus_search.specs.Searching.{Begins, length_here, further, or_else, find_in}
use Rattle.mbus_search.proofs.Laws.Meaning.{found_begins, none_begins}
use Rattle.bundle_columns.specs.Columns.{kept_row}
use Rattle.bundle_columns.specs.Lookups.{row_kept}
use Rattle.bundle_columns.specs.Record.{columns_size, columns_in, columns_from}
use Rattle.host_meaning.specs.Meanings.{meant}
use Rattle.demands.specs.Orders.{Table, In}
use Rattle.demands.specs.LineOrder.{KnownUnit}
use Rattle.demands.specs.RecordOrder.{TooFew, NoColumns, ReadForOrder, ReadCjtForOrder, RequestOrder, FindForOrder, MeaningOrder}
use Rattle.demands.specs.RecordOrder.{WordsOrder, RowIntoOrder, ReplayForOrder, EntryForOrder, KeptOrder, NoTelegram, WriteForOrder}
use Rattle.demands.proofs.Laws.Orders.{Decides, surely, is_same, is_less, is_most, is_not, is_or, so_if}
use Rattle.demands.proofs.Laws.Orders.{Tried, end, hit, miss, try, then_try, order_of}
use Rattle.demands.proofs.Laws.LineOrder.{line_tried, write_tried}
use Rattle.demands.proofs.Laws.EntryOrder.{is_unit}
use Rattle.demands.proofs.Laws.BundleOrder.{row_tried}
use Rattle.demands.proofs.Laws.ReplayOrder.{replay_tried}
use Rattle.demands.proofs.Laws.CjtOrder.{cjt_tried, energy_tried}

-- 21 behind an answer, and before it
placed_tried : {A B : Type 0} {a : Answer A} {rows : Table} (n : ℕ) (out : List B) → Tried a rows → Tried (placed n out a) (rows ++ ((21, TooFew n out) ∷ []))
placed_tried n out t = then_try (λ x. needs n out (reads x)) t (λ x e. try 21 (is_less (length out) n) (λ k. end x refl))

pub needs_tried : {A B : Type 0} {a : Answer A} {rows : Table} (n : ℕ) (out : List B) → Tried a rows → Tried (needs n out a) ((21, TooFew n out) ∷ rows)
needs_tried n out t = try 21 (is_less (length out) n) (λ k. t)

pub read_for_order : ReadForOrder
read_for_order line out = order_of (placed_tried 136 out (line_tried line))

pub read_cjt_for_order : ReadCjtForOrder
read_cjt_for_order line out = order_of (placed_tried 80 out (cjt_tried line))

pub request_order : RequestOrder
request_order kind address method out small =
    order_of (write_tried (bare (kind_in kind) address method) (length out) (bare_sized (kind_in kind) address method small))

-- a search gives no other refusal than 18
only_18 : (s : List ℕ) (k : ℕ) → find_in s ≡ refusal k → k ≡ 18
unfolding find_in
only_18 [] k e = cc
only_18 (c ∷ s) k e = go (length_here (c ∷ s)) (find_in s) refl e (λ m. only_18 s m)
  where
    go : (a : Answer ℕ) (b : Answer Spot) → find_in s ≡ b → or_else a (further b) ≡ refusal k → ((m : ℕ) → find_in s ≡ refusal m → m ≡ 18) → k ≡ 18
    go (reads n) b f e rest = let z : ◌≡◌ {A = ℕ} 0 1 = cc in absurd (omega arith)
    go (refusal n) (refusal m) f e rest = let z : m ≡ 18 = rest m f in cc
    go (refusal n) (reads p) f e rest = let z : ◌≡◌ {A = ℕ} 0 1 = cc in absurd (omega arith)

find_tried : (s : List ℕ) → Tried (find_in s) ((18, (place n : ℕ) → Begins s place n → ⊥) ∷ [])
find_tried s = go (find_in s) refl
  where
    go : (a : Answer Spot) → find_in s ≡ a → Tried a ((18, (place n : ℕ) → Begins s place n → ⊥) ∷ [])
    go (refusal k) e = let none : (place n : ℕ) → Begins s place n → ⊥ = λ place n. none_begins s k place n e in hit none (ap refusal (only_18 s k e))
    go (reads p) e = miss {P = (place n : ℕ) → Begins s place n → ⊥} (λ none. none p.place p.length (found_begins s p e)) (end p refl)

pub find_for_order : FindForOrder
find_for_order capture out = order_of (placed_tried 16 out (find_tried capture))

pub meaning_order : MeaningOrder
meaning_order u out =
    order_of
    (placed_tried 4 out
    (try 11
    (so_if (λ e h. unknown_not h e)
    (λ h. surely (is_same (quantity_of u) unknown) (λ n. h ((is_unit u).holds (lt-ltb (quantity_of u) unknown (few n)))))
    (is_same (quantity_of u) unknown))
    (λ k. end (meant (quantity_of u) (unit_of u) (power_of u)) refl)))
  where
    few : (quantity_of u ≡ unknown → ⊥) → quantity_of u < unknown
    few n = let l : quantity_of u < 8 = quantity_few u in surely (is_less (quantity_of u) 7) (λ k. n (omega arith))

    unknown_not : KnownUnit u → quantity_of u ≡ unknown → ⊥
    unknown_not h e = (is_unit u).fails (le-ltb (quantity_of u) unknown (omega arith)) h

-- the words of a table
words_tried : (rows : List Row) (n : ℕ) → Tried (words_in rows n) ((100, ¬ In n (map (λ (r : Row). r.number) rows)) ∷ [])
unfolding words_in
words_tried [] n = let none : ¬ In n [] = λ x. x in hit none refl
words_tried (r ∷ rows) n = go (eqb n r.number) (is_same n r.number) (words_tried rows n)
  where
    go : (t : Bool) → Decides (n ≡ r.number) t → Tried (words_in rows n) ((100, ¬ In n (map (λ (r : Row). r.number) rows)) ∷ [])
        → Tried (cond t (reads (text r.words)) (words_in rows n)) ((100, ¬ In n (map (λ (r : Row). r.number) (r ∷ rows))) ∷ [])
    go true d rest = miss {P = ¬ In n (map (λ (r : Row). r.number) (r ∷ rows))} (λ k. k (inl (d.holds refl))) (end (text r.words) refl)
    go false d (hit h e) = hit {P = ¬ In n (map (λ (r : Row). r.number) (r ∷ rows))} (⊎_elim (d.fails refl) h) e
    go false d (miss h t) = miss {P = ¬ In n (map (λ (r : Row). r.number) (r ∷ rows))} (λ k. h (λ i. k (inr i))) t

pub words_order : WordsOrder
unfolding text_of
words_order n out =
    order_of
    (then_try (fitted out) (words_tried refusal_texts n)
    (λ w e. try 21
    (so_if (λ l. (w, e, subst (λ (k : ℕ). length out < k) (length-append w (0 ∷ [])) l))
    (λ h. subst (λ (x : List ℕ). length out < length (zero_ended x)) (reads_same (sym h.1 ∙ e))
    (subst (λ (k : ℕ). length out < k) (sym (length-append h.0 (0 ∷ []))) h.2))
    (is_less (length out) (length (zero_ended w))))
    (λ k. end w refl)))

pub row_into_order : RowIntoOrder
row_into_order b i out = order_of (needs_tried 12 out (row_tried b i))

pub replay_for_order : ReplayForOrder
replay_for_order b position s1 s2 elapsed out = order_of (needs_tried 1 out (replay_tried b position s1 s2 elapsed))

pub entry_for_order : EntryForOrder
entry_for_order count code out = order_of (needs_tried 16 out (energy_tried count code))

-- columns
is_no_columns : (b : List ℕ) → Decides (NoColumns b) (not (eqb (length b) columns_size) || ltb 512 (number (take 8 b)))
is_no_columns b = is_or (is_not (is_same (length b) 6152)) (is_less 512 (number (take 8 b)))

pub kept_order : KeptOrder
unfolding columns_from row_kept
kept_order b i out =
    order_of
    (then_try (λ c. needs 12 out (row_kept b i)) (try 101 (is_no_columns b) (λ x. end (columns_in b) refl))
    (λ c e. needs_tried 12 out
    (rw e
    (subst (λ c. Tried (refuse 39 (leb c.count i) (reads (kept_row c i))) ((39, number (take 8 b) ≤ i) ∷ []))
    (reads_same (passed 101 (not (eqb (length b) columns_size) || ltb 512 (number (take 8 b))) (reads (columns_in b)) c e).1)
    (try 39 (is_most (number (take 8 b)) i) (λ x. end (kept_row (columns_in b) i) refl))))))

-- the record of a telegram, and what is done with the telegram
from_telegram : {A : Type 0} (b : List ℕ) {rows : Table} (next : Telegram → Answer A) → EachByte b → Tried (next (telegram_in b)) rows
    → Tried (follow (telegram_from b) next) ((101, NoTelegram b) ∷ rows)
from_telegram b {rows} next p t =
    then_try next (try 101 (is_no_telegram b p) (λ k. end (telegram_in b) refl))
    (λ x e. subst (λ (y : Telegram). Tried (next y) rows)
    (reads_same (passed 101 (not (same b (telegram_bytes (telegram_in b)))) (reads (telegram_in b)) x e).1) t)

pub write_for_order : WriteForOrder
write_for_order b out bytes =
    let p : EachByte b = byte_at b bytes in
    order_of (from_telegram b (λ t. write_line t (length out)) p (write_tried (telegram_in b) (length out) (record_sized b p)))
