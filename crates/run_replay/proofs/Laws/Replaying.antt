-- The replay of a bundle, by what is answered of the rows that count.
use Prim.Native.Nat.{ℕ, suc, ◌-◌, ◌≤◌, ◌<◌}
use mathlib.Core.Bool.{Bool, true, false}
use mathlib.Core.List.{List, [], ◌∷◌, map}
use mathlib.Core.Path.{◌≡◌, refl, sym, ap, ◌∙◌}
use native.Mathlib.Omega.{arith}
use lib.ListN.{length, get_or, get_or-append}
use Rattle.base_rules.specs.Answers.{Answer, reads, refusal, refuse, within}
use Rattle.std.specs.Prelude.{Ok, Err}
use Rattle.base_rules.specs.declared.refusals.Refusal.{Refusal}
use Rattle.base_rules.specs.Shown.{shown}
use Rattle.base_rules.proofs.Laws.AnswerLaws.{reads_same, shown_ok, shown_refused, within_refused, within_read}
use Rattle.base_rules.proofs.Laws.TestLaws.{not_refused}
use Rattle.bundle_rows.specs.Fields.{wrong_position}
use Rattle.bundle_rows.specs.Rows.{unchecked_characters}
use Rattle.bundle_rows.proofs.Laws.CharacterLaws.{characters_whole}
use Rattle.bundle_check.specs.Bundles.{check_of}
use Rattle.bundle_check.specs.Records.{Recorded, records_of, blank_record}
use Rattle.bundle_check.proofs.Laws.BodyLaws.{few_rows, unchecked_right}
use Rattle.run_calendar.specs.Days.{interval}
use Rattle.run_counting.specs.declared.Counted.{Counted}
use Rattle.run_counting.specs.Counting.{looked_at, answers_of, numbers_of, counting_of}
use Rattle.run_counting.specs.Shown.{padded, numbered}
use Rattle.run_counting.proofs.Laws.Numbering.{few_numbers, rows_are, numbers_below}
use Rattle.run_counting.proofs.Laws.Walking.{record_there, length_records}
use Rattle.run_replay.specs.declared.figures.Figures.{Figures}
use Rattle.run_replay.specs.Errors.{error_of_figures, error_between, row_tells, last_of, error_from, replay_of}
use Rattle.run_replay.specs.Figures.{line_tells}
use Rattle.run_replay.specs.Shown.{shown_told, first_number, last_number}
use Rattle.run_replay.proofs.Laws.Figuring.{capped_same}

-- ---- the first and the last of a list

last_at : (x : ℕ) (l : List ℕ) → last_of x l ≡ get_or (x ∷ l) (length l) 0
last_at x [] = refl
last_at x (y ∷ l) = last_at y l

last_map : {A B : Type 0} (f : A → B) (x : A) (l : List A) → last_of (f x) (map f l) ≡ f (last_of x l)
last_map f x [] = refl
last_map f x (y ∷ l) = last_map f y l

module _ (f : ℕ → Recorded) (s1 s2 elapsed : ℕ) where
  few_answers : (numbers : List ℕ) → length numbers < 2 → error_from (map f numbers) s1 s2 elapsed ≡ refusal 63
  few_answers [] h = refl
  few_answers (only ∷ []) h = refl
  few_answers (first ∷ (second ∷ later)) h = let never : ⊥ = omega arith in absurd never

  two_answers : (numbers : List ℕ) → 2 ≤ length numbers
      → error_from (map f numbers) s1 s2 elapsed ≡ error_between (row_tells (f (first_number numbers))) (row_tells (f (last_number numbers))) s1 s2 elapsed
  two_answers [] h = let never : ⊥ = omega arith in absurd never
  two_answers (only ∷ []) h = let never : ⊥ = omega arith in absurd never
  two_answers (first ∷ (second ∷ later)) h =
      let place : suc (suc (length later)) - 1 ≡ suc (length later) = omega arith in
      let last : last_of (f second) (map f later) ≡ f (last_number (first ∷ (second ∷ later))) =
      last_map f second later ∙ ap f (last_at second later ∙ ap (λ (n : ℕ). get_or (first ∷ (second ∷ later)) n 0) (sym place)) in
      ap (λ (k : Recorded). error_between (row_tells (f first)) (row_tells k) s1 s2 elapsed) last

-- ---- what is answered of the rows that count

module _ (b : List ℕ) (position s1 s2 elapsed : ℕ) where
  abbrev numbers : List ℕ
  numbers = numbers_of position (records_of b)

  refused_both : (n : ℕ) → counting_of b position ≡ refusal n → replay_of b position s1 s2 elapsed ≡ refusal n
  unfolding counting_of replay_of
  refused_both n e = go (check_of b) refl
    where
      inside : (t : Bool) → refuse 34 t (reads numbers) ≡ refusal n → refuse 34 t (error_from (answers_of position (records_of b)) s1 s2 elapsed) ≡ refusal n
      inside true f = cc
      inside false f = absurd (not_refused (sym f))

      go : (a : Answer ℕ) → check_of b ≡ a → replay_of b position s1 s2 elapsed ≡ refusal n
      go (refusal k) f =
          let g : ◌≡◌ {A = Answer (List ℕ)} (refusal k) (refusal n) = rw f at e in
          let number : k ≡ n = cc in
          rw (f, number)
      go (reads k) f = rw f (inside (wrong_position position) (rw f at e))

  -- the numbers are told
  pub record Counts (c : Counted) : Type 0 where
    pub rows : ℕ
    pub checked : check_of b ≡ reads rows
    pub right : wrong_position position ≡ false
    pub count : c.count ≡ length numbers
    pub holds : c.rows ≡ padded numbers

  pub replay_refused : {r : Refusal} → Err r ≡ shown (within numbered (counting_of b position)) → replay_of b position s1 s2 elapsed ≡ refusal r.0
  replay_refused {r} e =
      refused_both r.0 (within_refused numbered (counting_of b position) (shown_refused (within numbered (counting_of b position)) (sym e)))

  pub replay_counts : {c : Counted} → Ok c ≡ shown (within numbered (counting_of b position)) → Counts c
  unfolding counting_of
  replay_counts {c} e = go (check_of b) refl (wrong_position position) refl
    where
      held : (l : List ℕ) × (counting_of b position ≡ reads l) × (numbered l ≡ c)
      held = within_read numbered (counting_of b position) (shown_ok (within numbered (counting_of b position)) c (sym e))

      never : (n : ℕ) → counting_of b position ≡ refusal n → Counts c
      never n f = absurd (not_refused (sym f ∙ held.1))

      go : (a : Answer ℕ) → check_of b ≡ a → (t : Bool) → wrong_position position ≡ t → Counts c
      go (refusal n) f t w = never n (rw f)
      go (reads n) f true w = never 34 (rw (f, w))
      go (reads n) f false w =
          let all : counting_of b position ≡ reads numbers = rw (f, w) in
          let same : c ≡ numbered numbers = sym held.2 ∙ ap numbered (reads_same (sym held.1 ∙ all)) in
          record { rows = n; checked = f; right = w; count = ap (λ (x : Counted). x.count) same; holds = ap (λ (x : Counted). x.rows) same }

  -- ---- and then

  module _ {c : Counted} (k : Counts c) where
    abbrev row : ℕ → Recorded
    row j = get_or (records_of b) j blank_record

    replays : replay_of b position s1 s2 elapsed ≡ error_from (map row numbers) s1 s2 elapsed
    unfolding replay_of
    replays = rw (k.checked, k.right, rows_are position (records_of b))

    pub replay_few : c.count < 2 → replay_of b position s1 s2 elapsed ≡ refusal 63
    replay_few h = replays ∙ few_answers row s1 s2 elapsed numbers (omega (arith, k.count))

    pub count_fits : c.count ≤ 512
    count_fits =
        omega (
          arith,
          k.count,
          few_numbers position 0 [] (records_of b),
          length_records b k.rows k.checked,
          few_rows b k.rows k.checked,
        )

    -- the numbers that are read off the answer
    pub first_is : 2 ≤ c.count → get_or c.rows 0 0 ≡ first_number numbers
    first_is h = rw k.holds (get_or-append numbers _ 0 0 (omega (arith, k.count)))

    pub last_is : 2 ≤ c.count → get_or c.rows (c.count - 1) 0 ≡ last_number numbers
    last_is h = rw (k.holds, k.count) (get_or-append numbers _ 0 (length numbers - 1) (omega (arith, k.count)))

    -- each is the number of a row, whose line tells what the row does
    tells : (j : ℕ) → j < length numbers → line_tells (unchecked_characters b (get_or numbers j 0) 502) ≡ row_tells (row (get_or numbers j 0))
    tells j h =
        let i : ℕ = get_or numbers j 0 in
        let below : i < k.rows = numbers_below position 0 k.rows [] (records_of b) (omega (arith, length_records b k.rows k.checked)) j h in
        let size = unchecked_right b i k.rows k.checked below in
        ap line_tells (characters_whole b i 502 (omega (arith, size.size_most)))
        ∙ ap row_tells (sym (record_there b i k.rows k.checked below))

    pub replay_error : 2 ≤ c.count → {first last : ℕ} → first ≡ get_or c.rows 0 0 → last ≡ get_or c.rows (c.count - 1) 0 → {from to : Figures}
        → from ≡ shown_told (line_tells (unchecked_characters b first 502)) → to ≡ shown_told (line_tells (unchecked_characters b last 502))
        → error_of_figures from.volume to.volume s1 s2 elapsed (interval from.time to.time) ≡ replay_of b position s1 s2 elapsed
    replay_error h {first} {last} f l {from} {to} u v =
        let one : from ≡ shown_told (row_tells (row (first_number numbers))) =
        u ∙ ap shown_told (ap (λ (i : ℕ). line_tells (unchecked_characters b i 502)) (f ∙ first_is h) ∙ tells 0 (omega (arith, k.count))) in
        let two : to ≡ shown_told (row_tells (row (last_number numbers))) =
        v ∙ ap shown_told (ap (λ (i : ℕ). line_tells (unchecked_characters b i 502)) (l ∙ last_is h) ∙ tells (length numbers - 1) (omega (arith, k.count))) in
        rw (one, two)
        (capped_same (row_tells (row (first_number numbers))).volume (row_tells (row (last_number numbers))).volume s1 s2 elapsed
        (interval (row_tells (row (first_number numbers))).time (row_tells (row (last_number numbers))).time)
        ∙ sym (replays ∙ two_answers row s1 s2 elapsed numbers (omega (arith, k.count))))

-- ---- what a replay rests on

pub same_replay : (b c : List ℕ) (m n position s1 s2 elapsed : ℕ) → check_of b ≡ reads m → check_of c ≡ reads n
    → looked_at position (records_of b) ≡ looked_at position (records_of c) → replay_of b position s1 s2 elapsed ≡ replay_of c position s1 s2 elapsed
unfolding replay_of
same_replay b c m n position s1 s2 elapsed e f g = rw (e, f, g)

pub replay_between : (b : List ℕ) (n position s1 s2 elapsed : ℕ) (first second : Recorded) (later : List Recorded)
    → check_of b ≡ reads n → wrong_position position ≡ false → answers_of position (records_of b) ≡ first ∷ (second ∷ later)
    → replay_of b position s1 s2 elapsed ≡ error_between (row_tells first) (row_tells (last_of second later)) s1 s2 elapsed
unfolding replay_of
replay_between b n position s1 s2 elapsed first second later e w g = rw (e, w, g)
