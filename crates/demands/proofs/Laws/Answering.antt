-- When the functions of a run bundle and of a run answer.
use Prim.Native.Nat.{ℕ, ◌+◌, ◌*◌, ◌≤◌}
use mathlib.Core.Bool.{false, true≢false}
use mathlib.Core.List.{List, [], ◌∷◌, map}
use mathlib.Core.Path.{◌≡◌, refl, sym, ap, ◌∙◌}
use native.Mathlib.Omega.{arith}
use borrow.Author.Tests.{le-ltb, lt-leb, eq-eqb}
use lib.Dec.{leb}
use lib.ListN.{length, get_or, take, drop, length-map}
use lib.Seq.{get_or-take, length-take-le}
use Rattle.base_rules.specs.Answers.{Answer, reads, within}
use Rattle.base_rules.specs.Lists.{any}
use Rattle.base_rules.proofs.Laws.ByteLaws.{byte_at}
use Rattle.base_rules.proofs.Laws.ListLaws.{any_append}
use Rattle.base_rules.proofs.Laws.Tests.{by_test}
use Rattle.base_lent.specs.Copying.{laid}
use Rattle.base_lent.specs.Lent.{told, done, stored, Leaves}
use Rattle.base_characters.specs.Characters.{over, chars}
use Rattle.bundle_rows.specs.Lists.{All}
use Rattle.bundle_rows.specs.Rows.{most_rows, blank_row}
use Rattle.bundle_rows.specs.declared.Row.{Row}
use Rattle.bundle_check.specs.Bundles.{most_bytes, contents_of, check_of}
use Rattle.bundle_check.specs.Records.{Recorded, records_of, row_for, bodies_for, record_time}
use Rattle.bundle_check.specs.RowRules.{wrong_row, row_time, wrong_rows}
use Rattle.bundle_check.specs.Walks.{some_wrong, end_of}
use Rattle.bundle_check.proofs.Laws.Accepted.{accepted_sound}
use Rattle.bundle_check.proofs.Laws.BodyLaws.{body_held}
use Rattle.bundle_check.proofs.Laws.HandingLaws.{row_reads}
use Rattle.bundle_check.proofs.Laws.RecordLaws.{wrong_record, Timely, Holdable, characters_append, length_bundle, holdable_accepted}
use Rattle.bundle_columns.specs.Columns.{columns_of, kept_row, kept_rows}
use Rattle.bundle_columns.specs.Lookups.{is_position, in_front, row_kept, next_kept}
use Rattle.bundle_columns.specs.Record.{columns_size, columns_bytes}
use Rattle.bundle_columns.proofs.Laws.Turning.{length_kept}
use Rattle.bundle_columns.proofs.Laws.Whole.{record_back}
use Rattle.bundle_columns.proofs.Laws.AsBefore.{first_none}
use Rattle.bundle_salvage.specs.Salvaging.{new_bundle}
use Rattle.bundle_adding.specs.Adding.{last_time, grown, no_room}
use Rattle.bundle_adding.proofs.Laws.AddLaws.{add_grown}
use Rattle.bundle_sweep.specs.Sweeping.{swept_bundle, sweep_of}
use Rattle.run_listing.specs.Listings.{listing_of}
use Rattle.run_listing.specs.Shown.{listed_in}
use Rattle.run_listing.proofs.Laws.Longest.{longest}
use Rattle.run_calendar.specs.Days.{interval}
use Rattle.run_counting.specs.Counting.{counting_of}
use Rattle.run_counting.proofs.Laws.Walking.{length_records}
use Rattle.run_replay.specs.Errors.{replay_of}
use Rattle.run_verdicts.specs.declared.Verdict.{Verdict}
use Rattle.run_verdicts.specs.declared.Verdict.TheVariants.{Unasked}
use Rattle.run_verdicts.specs.Answering.{verdicts_in, body_past, verdicts_kept}
use Rattle.run_verdicts.specs.Verdicts.{verdicts_of}
use Rattle.run_verdicts.proofs.Laws.AsBefore.{kept_as_before}
use Rattle.run_verdicts.proofs.Laws.Telling.{length_verdicts}
use Rattle.run_repeats.specs.Repeats.{earlier_rows, earlier_into}
use Rattle.run_repeats.proofs.Laws.Putting.{length_earlier}
use Rattle.run_picture.specs.Pictures.{picture_of}
use Rattle.run_picture.specs.Shown.{drawn_in}
use Rattle.host_bundle.specs.Lent.{left_in, Gives}
use Rattle.host_bundle.specs.Salvaging.{salvage_for}
use Rattle.host_verdicts.specs.Told.{records_told, verdicts_into, GivesVerdicts}
use Rattle.demands.specs.Answering.{RowsAllowed, CheckAnswers, RowAnswers, BodyAnswers, ContentsAnswer, ContentsRowAnswers}
use Rattle.demands.specs.Answering.{ContentsNextAnswers, AddAnswers, SweepAnswers, SalvageAnswers, ListAnswers, CountingAnswers, ReplayAnswers}
use Rattle.demands.specs.Answering.{VerdictAnswers, VerdictsAnswer, ContentsVerdictsAnswer, FieldsRightFrom, lying_in}
use Rattle.demands.specs.Answering.{OwnVerdictsAnswer, RepeatsAnswer, PictureAnswers}
use Rattle.demands.proofs.Laws.ReplayTakes.{right_position, first_and_last_tell, otherwise_an_error}
use Rattle.demands.proofs.Laws.SalvageTold.{so_fields, so_range}

-- ---- what a promise says of an answer that is no refusal

leaves_done : {A B : Type 0} {written : A → List B} {a : Answer A} {before after : List B} {r : ℕ} (x : A) → a ≡ reads x
    → Leaves done written a before after r → (r ≡ 0) × (after ≡ laid before 0 (written x))
leaves_done {written = written} {before = before} x e g = (g.answer ∙ ap (told done) e, g.left ∙ ap (stored written before) e)

gives_done : {a : Answer ℕ} {before r after : ℕ} (x : ℕ) → a ≡ reads x → Gives a before r after → (r ≡ 0) × (after ≡ x)
gives_done {before = before} x e g = (g.number ∙ ap (told done) e, g.place ∙ ap (left_in before) e)

-- ---- which bundles are accepted

allowed_fields : (before : ℕ) (ks : List Recorded) → RowsAllowed before ks → some_wrong wrong_record record_time before ks ≡ false
unfolding some_wrong
allowed_fields before [] p = refl
allowed_fields before (k ∷ ks) p = rw (so_fields before (row_for 0 k) p.0.fields, allowed_fields k.time ks p.1)

allowed_times : (before : ℕ) (ks : List Recorded) → RowsAllowed before ks → All Timely ks
allowed_times before [] p = tt
allowed_times before (k ∷ ks) p = (p.0.time, allowed_times k.time ks p.1)

allowed_range : (before : ℕ) (ks : List Recorded) → RowsAllowed before ks → any over (chars (bodies_for ks)) ≡ false
unfolding bodies_for chars any
allowed_range before [] p = refl
allowed_range before (k ∷ ks) p =
    rw (
      characters_append k.body (bodies_for ks) p.0.fields.even,
      any_append over (chars k.body) (chars (bodies_for ks)),
      so_range (chars k.body) p.0.range,
    )
    (allowed_range k.time ks p.1)

pub check_answers : CheckAnswers
check_answers ks rows r rows' p few fits g =
    let held : Holdable ks = record {
      few = few;
      fits = omega (arith, length_bundle ks);
      fields = allowed_fields 0 ks p;
      timely = allowed_times 0 ks p;
      range = allowed_range 0 ks p;
    } in
    gives_done (length ks) (holdable_accepted ks held) g

-- ---- rows, bodies and columns

pub row_answers : RowAnswers
row_answers b n i r out out' e h l g = leaves_done (get_or (contents_of b) i blank_row) (rw (le-ltb (length out) 12 l) (row_reads b i n e h)) g

pub body_answers : BodyAnswers
body_answers b n i e h = let s = accepted_sound b n e in body_held b s.0 i (omega (arith, s.1))

pub contents_answer : ContentsAnswer
contents_answer b n r out out' e l g = leaves_done (columns_of (contents_of b)) (rw (le-ltb (length out) columns_size l, e)) g

pub contents_row_answers : ContentsRowAnswers
unfolding row_kept
contents_row_answers c i r out out' o h l g =
    leaves_done (kept_row c i) (rw (record_back c o, le-ltb (length out) 12 l, lt-leb c.count i h)) g

pub contents_next_answers : ContentsNextAnswers
unfolding next_kept
contents_next_answers c position from j i r i' o l h e g =
    by_test (leb (length places) at)
    (λ t. absurd (true≢false (sym (eq-eqb _ _ (position_there)) ∙ first_none (is_position position) 0 places from (rw t) j l (omega (arith, many)))))
    (λ t. let found : next_kept (columns_bytes c) position from ≡ reads at = rw (record_back c o, t) in
    let p = gives_done at found g in
    (p.0, found ∙ ap reads (sym p.1)))
  where
    places : List ℕ
    places = take c.count c.positions

    at : ℕ
    at = from + in_front (is_position position) (drop from places)

    many : length places ≡ c.count
    many = length-take-le c.count c.positions (omega (arith, o.positions.size, o.few))

    position_there : get_or places j 0 ≡ position
    position_there = get_or-take c.count c.positions j 0 h ∙ e

-- ---- adding, sweeping, salvaging, listing

-- no row is later than this time, so the last is not
last_before : (t most : ℕ) (rows : List Row) → t ≤ most → All (λ (r : Row). r.time ≤ most) rows → end_of row_time t rows ≤ most
unfolding end_of
last_before t most [] h p = h
last_before t most (r ∷ rows) h p = last_before r.time most rows p.0 p.1

pub add_answers : AddAnswers
add_answers buffer buffer' filled n r filled' k h e few allowed later room most g =
    let f = allowed.fields in
    let right : wrong_row (last_time (contents_of (take filled buffer))) (row_for (filled + 12) k) ≡ false =
    so_fields (last_time (contents_of (take filled buffer))) (row_for (filled + 12) k) (record {
      position = f.position;
      direction = f.direction;
      even = f.even;
      size = f.size;
      time = last_before 0 k.time (contents_of (take filled buffer)) f.time later;
    }) in
    let there : no_room buffer n (grown filled k) ≡ false =
    rw (lt-leb most_rows n few, le-ltb (length buffer) (grown filled k) room, le-ltb most_bytes (grown filled k) most) in
    let added = add_grown buffer filled k n h e right (so_range (chars k.body) allowed.range) there in
    let p = gives_done (grown filled k) added g.gives in
    (p.0, p.1, added ∙ ap reads (sym p.1))

pub sweep_answers : SweepAnswers
unfolding sweep_of
sweep_answers buffer buffer' filled position n r filled' h e l g =
    let swept : sweep_of buffer filled position ≡ reads (length (swept_bundle position (take filled buffer))) =
    rw (le-ltb (length buffer) filled h, e, le-ltb 48 position l) in
    let p = gives_done (length (swept_bundle position (take filled buffer))) swept g.gives in
    (p.0, swept ∙ ap reads (sym p.1))

pub salvage_answers : SalvageAnswers
salvage_answers b out told out' told' n r s c e room places g =
    let answer : salvage_for b out told ≡ reads s = rw (le-ltb (length told) 32 places, e, le-ltb (length out) s.filled room) in
    let p = leaves_done s answer g.tells in
    (p.0, p.1, g.holds ∙ ap (stored (new_bundle b) out) answer)

pub list_answers : ListAnswers
list_answers b out out' written r written' bytes room g =
    let fits : listed_in (listing_of b) out ≡ reads (length (listing_of b)) =
    rw (le-ltb (length out) (length (listing_of b)) (omega (arith, longest b (byte_at b bytes)))) in
    let p = gives_done (length (listing_of b)) fits g.gives in
    (p.0, p.1, g.holds ∙ ap (stored (λ (n : ℕ). listing_of b) out) fits)

-- ---- replay, verdicts, repeats and picture

pub counting_answers : CountingAnswers
unfolding counting_of
counting_answers b n position e l h = rw (e, right_position position l h)

pub replay_answers : ReplayAnswers
replay_answers b n position s1 s2 elapsed v1 v2 r t1 t2 first last between out out' e l h a f1 f2 fit own meter up rise room g =
    let error = otherwise_an_error v1 v2 s1 s2 elapsed (interval t1 t2) fit own meter up rise in
    let replayed : replay_of b position s1 s2 elapsed ≡ reads error.0 =
    first_and_last_tell b n position s1 s2 elapsed v1 v2 t1 t2 first last between e l h a f1 f2 ∙ error.1 in
    let p = leaves_done error.0 (rw (le-ltb (length out) 1 room) replayed) g in
    (p.0, error.0, replayed, p.1)

-- the verdicts of an accepted bundle
judged : (b : List ℕ) (n : ℕ) → check_of b ≡ reads n → verdicts_in b ≡ reads (verdicts_of (records_of b))
unfolding verdicts_in
judged b n e = rw e

as_many : (b : List ℕ) (n : ℕ) → check_of b ≡ reads n → length (verdicts_of (records_of b)) ≡ n
as_many b n e = length_verdicts [] (records_of b) ∙ length_records b n e

pub verdict_answers : VerdictAnswers
verdict_answers b out out' n i r e h l g =
    leaves_done (get_or (verdicts_of (records_of b)) i Unasked)
    (rw (le-ltb (length out) 4 l, judged b n e, as_many b n e, lt-leb n i h)) g

-- they are told where there is room for them
verdicts_told : (out out' : List ℕ) (n count r count' : ℕ) (a : Answer (List Verdict)) (all : List Verdict) → length all ≡ n → 4 * n ≤ length out
    → a ≡ reads all → GivesVerdicts (verdicts_into a out) out count r out' count'
    → (r ≡ 0) × (count' ≡ n) × (out' ≡ laid out 0 (records_told all))
verdicts_told out out' n count r count' a all many l f g =
    let answer : verdicts_into a out ≡ reads all = rw (f, many, le-ltb (length out) (4 * n) l) in
    let p = leaves_done all answer g.tells in
    (p.0, g.counts ∙ ap (λ (x : Answer (List Verdict)). left_in count (within (λ (vs : List Verdict). length vs) x)) answer ∙ many, p.1)

pub verdicts_answer : VerdictsAnswer
verdicts_answer b out out' n count r count' e l g =
    verdicts_told out out' n count r count' (verdicts_in b) (verdicts_of (records_of b)) (as_many b n e) l (judged b n e) g

pub contents_verdicts_answer : ContentsVerdictsAnswer
contents_verdicts_answer b out out' n count r count' bytes e l g =
    verdicts_told out out' n count r count' (verdicts_kept (columns_bytes (columns_of (contents_of b))) b) (verdicts_of (records_of b)) (as_many b n e) l
    (kept_as_before b n (byte_at b bytes) e ∙ judged b n e) g

-- rows that keep the rules for fields, and bodies that lie in the bundle
no_field_wrong : (before : ℕ) (rows : List Row) → FieldsRightFrom before rows → wrong_rows before rows ≡ false
unfolding some_wrong
no_field_wrong before [] p = refl
no_field_wrong before (r ∷ rows) p = rw (so_fields before r p.0, no_field_wrong r.time rows p.1)

no_body_past : (end : ℕ) (rows : List Row) → All (λ (r : Row). r.offset + r.length ≤ end) rows → any (body_past end) rows ≡ false
unfolding any
no_body_past end [] p = refl
no_body_past end (r ∷ rows) p = rw (le-ltb end (r.offset + r.length) p.0, no_body_past end rows p.1)

pub own_verdicts_answer : OwnVerdictsAnswer
unfolding verdicts_kept
own_verdicts_answer c b out out' count r count' o fields inside l g =
    let rows : List Row = kept_rows c in
    let all : List Verdict = verdicts_of (map (lying_in b) rows) in
    let many : length all ≡ c.count = length_verdicts [] (map (lying_in b) rows) ∙ length-map rows (lying_in b) ∙ length_kept c 0 c.count in
    let kept : verdicts_kept (columns_bytes c) b ≡ reads all =
    rw (record_back c o, no_field_wrong 0 rows fields, no_body_past (length b) rows inside) in
    verdicts_told out out' c.count count r count' (verdicts_kept (columns_bytes c) b) all many l kept g

pub repeats_answer : RepeatsAnswer
unfolding earlier_into
repeats_answer b rows rows' n count r count' e l g =
    let all : List ℕ = earlier_rows (records_of b) in
    let answer : earlier_into b rows ≡ reads all = rw (e, le-ltb (length rows) n l) in
    let many : length all ≡ n = length_earlier [] (records_of b) ∙ length_records b n e in
    let p = gives_done n (ap (within length) answer ∙ ap reads many) g.gives in
    (p.0, p.1, g.holds ∙ ap (stored (λ (numbers : List ℕ). numbers) rows) answer)

pub picture_answers : PictureAnswers
picture_answers b out out' n written r written' e l g =
    let drawn : drawn_in b out ≡ reads (length (picture_of b)) = rw (e, le-ltb (length out) (length (picture_of b)) l) in
    let p = gives_done (length (picture_of b)) drawn g.gives in
    (p.0, p.1, g.holds ∙ ap (stored (λ (m : ℕ). picture_of b) out) drawn)
