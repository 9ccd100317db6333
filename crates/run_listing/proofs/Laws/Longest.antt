-- The longest listing: 512 lines of 31 bytes behind the first, 15,901 bytes.
use Prim.Native.Nat.{ℕ, zero, suc, ◌+◌, ◌*◌, ◌^◌, ◌≤◌, ◌<◌, zero-le}
use mathlib.Core.Bool.{Bool, true, false, cond, not}
use mathlib.Core.List.{List, [], ◌∷◌, ◌++◌, map}
use mathlib.Core.Path.{◌≡◌, refl}
use native.Mathlib.Omega.{arith}
use lib.Dec.{ltb, eqb}
use lib.ListN.{length, get_or, take, drop, length-append}
use lib.Seq.{get_or-drop}
use Rattle.mbus_rules.specs.declared.Kind.{Kind}
use Rattle.mbus_rules.specs.declared.Kind.TheVariants as kinds
use Rattle.mbus_rules.specs.declared.Entry.{Entry}
use Rattle.mbus_rules.specs.declared.Telegram.{Telegram}
use Rattle.base_rules.specs.Lists.{at, any}
use Rattle.base_rules.specs.Answers.{Answer, reads, refusal, refuse, within}
use Rattle.mbus_rules.specs.Entries.{entry_of, unfit, wrong_digit, wrong_time, seen, missing, read_entries}
use Rattle.mbus_rules.specs.Quantities.{quantity_of, width_of}
use Rattle.mbus_rules.specs.Headers.{header_of, wrong_header}
use Rattle.mbus_rules.specs.Telegrams.{ack, read_of, data_of}
use Rattle.base_characters.specs.Characters.{over, odd, byte_of, chars}
use Rattle.mbus_rules.specs.Lines.{is_ack, is_short, wrong_start, wrong_count, wrong_lengths, wrong_end, wrong_sum, field}
use Rattle.mbus_rules.specs.Lines.{is_command, is_data, command_of, read_long, read_body, read_line}
use Rattle.mbus_rules.specs.Outlines.{outline_of, outlined}
use Rattle.bundle_rows.specs.declared.Row.{Row}
use Rattle.base_numbers.specs.Numbers.{number}
use Rattle.base_rules.proofs.Laws.ByteLaws.{EachByte}
use Rattle.base_numbers.proofs.Laws.NumberLaws.{number_below}
use Rattle.bundle_rows.specs.Rows.{most_rows, first_offset, blank_row, body_in}
use Rattle.bundle_rows.proofs.Laws.RowLaws.{row_at_lem, length_rows}
use Rattle.bundle_check.specs.RowRules.{wrong_rows, wrong_places, bodies_end}
use Rattle.bundle_check.specs.Bundles.{most_bytes, count_of, contents_of, bodies_of, check_of}
use Rattle.bundle_check.proofs.Laws.Accepted.{accepted_sound}
use Rattle.text_filling.specs.Texts.{text}
use Rattle.run_listing.specs.declared.line_column.Column.TheVariants.{Wake, Reads}
use Rattle.run_listing.specs.LineColumn.{column_of}
use Rattle.bench_clock.specs.Wakes.{is_wake}
use Rattle.text_filling.specs.Decimals.{decimal}
use Rattle.text_filling.proofs.Laws.DecimalLaws.{decimal_few}
use Rattle.run_listing.specs.Listings.{word_for, column_text, word_of, direction_text, row_text, line_for, lines_for, listed, listing_of, first_line, refused_text}
use Rattle.bundle_check.proofs.Laws.BodyLaws.{row_right, count_rows, few_rows}

-- ---- every refusal number of a line and of a bundle has two digits
pub data Small {A : Type 0} : Answer A → Type 0 where
  low : (n : ℕ) → n < 100 → Small (refusal n)
  value : (a : A) → Small (reads a)

chosen : {A : Type 0} (t : Bool) {a b : Answer A} → Small a → Small b → Small (cond t a b)
chosen true p q = p
chosen false p q = q

tried : {A : Type 0} (n : ℕ) (t : Bool) {a : Answer A} → n < 100 → Small a → Small (refuse n t a)
tried n true h p = low n h
tried n false h p = p

made : {A B : Type 0} (f : A → B) {a : Answer A} → Small a → Small (within f a)
made f (low n h) = low n h
made f (value a) = value (f a)

entries_small : (passing : ℕ) (s : List ℕ) (done : List Entry) → Small (read_entries passing s done)
unfolding read_entries
entries_small passing [] done = tried 16 (missing done) (omega arith) (value done)
entries_small (suc passing) (b ∷ s) done = entries_small passing s done
entries_small zero (b ∷ s) done =
    tried 11 (unfit (b ∷ s)) (omega arith)
    (tried 12 (wrong_digit (b ∷ s)) (omega arith)
    (tried 13 (wrong_time (b ∷ s)) (omega arith)
    (tried 14 (seen (quantity_of (at (b ∷ s) 1)) done) (omega arith)
    (entries_small (1 + width_of b) s (done ++ (entry_of (b ∷ s) ∷ []))))))

long_small : (f : List ℕ) → Small (read_long f)
long_small f =
    chosen (is_command f) (value (command_of f))
    (tried 9 (not (is_data f)) (omega arith)
    (tried 10 (wrong_header (drop 3 f)) (omega arith)
    (made (data_of (at f 1) (header_of (drop 3 f))) (entries_small 0 (drop 12 (drop 3 f)) []))))

pub line_small : (s : List ℕ) → Small (read_line s)
unfolding read_line read_body
line_small s =
    let b : List ℕ = map byte_of s in
    tried 1 (eqb (length s) 0) (omega arith)
    (tried 2 (any over s) (omega arith)
    (tried 3 (any odd s) (omega arith)
    (tried 4 (wrong_start b) (omega arith)
    (tried 5 (wrong_count b) (omega arith)
    (tried 6 (wrong_lengths b) (omega arith)
    (tried 7 (wrong_end b) (omega arith)
    (tried 8 (wrong_sum b) (omega arith)
    (chosen (is_ack b) (value ack)
    (chosen (is_short b) (tried 9 (not (eqb (at (field b) 0) 0x5B)) (omega arith) (value (read_of (at (field b) 1)))) (long_small (field b)))))))))))

check_small : (b : List ℕ) → Small (check_of b)
unfolding check_of
check_small b =
    let first : ℕ = first_offset (count_of b) in
    tried 30 (ltb most_bytes (length b)) (omega arith)
    (tried 31 (ltb (length b) 2) (omega arith)
    (tried 32 (ltb most_rows (count_of b)) (omega arith)
    (tried 33 (ltb (length b) first) (omega arith)
    (tried 34 (wrong_rows 0 (contents_of b)) (omega arith)
    (tried 35 (wrong_places (length b) first (contents_of b)) (omega arith)
    (tried 36 (ltb (bodies_end first (contents_of b)) (length b)) (omega arith)
    (tried 37 (any over (chars (bodies_of b))) (omega arith) (value (count_of b)))))))))

-- ---- the words
refused_short : (n : ℕ) → n < 100 → length (refused_text n) ≤ 10
refused_short n h = omega (arith, length-append (text "refused ") (decimal n), decimal_few 1 n (omega arith))

outline_short : (k : Kind) (a s : ℕ) → length (word_for (outline_of k a s)) ≤ 10
outline_short kinds.Ack a s = omega arith
outline_short kinds.Read a s = omega arith
outline_short kinds.Enter a s = omega arith
outline_short kinds.Leave a s = omega arith
outline_short kinds.Data a s = omega arith

word_short : {a : Answer Telegram} → Small a → length (word_for (outlined a)) ≤ 10
word_short (low n h) = refused_short n h
word_short (value t) = outline_short t.kind t.address t.method

pub chosen_short : (t : Bool) (a b : List ℕ) (n : ℕ) → length a ≤ n → length b ≤ n → length (cond t a b) ≤ n
chosen_short true a b n p q = p
chosen_short false a b n p q = q

pub line_short : (s : List ℕ) → length (word_of s) ≤ 10
unfolding word_of column_of
line_short s = go (is_wake s)
  where
    go : (t : Bool) → length (column_text (cond t Wake (Reads (outlined (read_line s))))) ≤ 10
    go true = omega arith
    go false = word_short (line_small s)

columns_short : (p d t w : List ℕ) → length p ≤ 2 → length d ≤ 5 → length t ≤ 10 → length w ≤ 10
    → length (p ++ (text "," ++ (d ++ (text "," ++ (t ++ (text "," ++ (w ++ text "\n"))))))) ≤ 31
columns_short p d t w h i j k = simp length-append (omega arith)

row_short : (p d t : ℕ) (w : List ℕ) → p < 100 → t < 10 ^ 10 → length w ≤ 10 → length (row_text p d t w) ≤ 31
unfolding row_text
row_short p d t w h k l =
    columns_short (decimal p) (direction_text d) (decimal t) w (decimal_few 1 p (omega arith))
    (chosen_short (eqb d 0) (text "sent") (text "heard") 5 (omega arith) (omega arith)) (decimal_few 9 t k) l

-- ---- the whole listing
lines_short : (b : List ℕ) (rows : List Row) → ((i : ℕ) → i < length rows → length (line_for b (get_or rows i blank_row)) ≤ 31)
    → length (lines_for b rows) ≤ 31 * length rows
unfolding lines_for
lines_short b [] h = zero-le
lines_short b (r ∷ rows) h =
    let first : length (line_for b r) ≤ 31 = h 0 (omega arith) in
    let rest : length (lines_for b rows) ≤ 31 * length rows = lines_short b rows (λ i k. h (suc i) (omega arith)) in
    omega (arith, length-append (line_for b r) (lines_for b rows))

-- No listing of bytes is longer than this.
pub longest : (b : List ℕ) → EachByte b → length (listing_of b) ≤ 15901
unfolding listing_of
longest b bytes = go refl (check_small b)
  where
    time : (i : ℕ) → i < count_of b → (get_or (contents_of b) i blank_row).time < 10 ^ 10
    time i h =
        let k : number (take 4 (drop 2 (drop (12 * i) (drop 2 b)))) < 256 ^ 4 =
        number_below 4 (drop 2 (drop (12 * i) (drop 2 b)))
        (λ j. rw (get_or-drop, get_or-drop, get_or-drop) (bytes (2 + (12 * i + (2 + j))))) in
        rw (row_at_lem (count_of b) i (drop 2 b) h) (omega arith)

    row : (n : ℕ) → check_of b ≡ reads n → (i : ℕ) → i < length (contents_of b) → length (line_for b (get_or (contents_of b) i blank_row)) ≤ 31
    row n e i h =
        let s = accepted_sound b n e in
        let lower : i < count_of b = omega (arith, length_rows (count_of b) (drop 2 b)) in
        let r : Row = get_or (contents_of b) i blank_row in
        row_short r.position r.direction r.time (word_of (chars (body_in b r)))
        (omega (arith, (row_right b i s.0 lower).position_most)) (time i lower) (line_short (chars (body_in b r)))

    go : {a : Answer ℕ} → check_of b ≡ a → Small a → length (listed b a) ≤ 15901
    go e (low n h) = omega (arith, length-append (refused_text n) (text "\n"), refused_short n h)
    go e (value n) =
        omega (arith, length-append first_line (lines_for b (contents_of b)), lines_short b (contents_of b) (row n e), count_rows b n e, few_rows b n e)
