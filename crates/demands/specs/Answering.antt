-- When the functions of a run bundle and of a run answer: for every accepted bundle, and room for what they write. Each statement is about the function of
-- include/skarrowith.h that it names, by what that function promises: r is its answer, 0 where it has done what it was asked for.
use Rattle.std.specs.Prelude.{ℕ, ◌+◌, ◌*◌, ◌^◌, ◌≤◌, ◌<◌, List, [], ◌∷◌, ◌++◌, map, ◌≡◌, ℤ, length, get_or, take, drop}
use Rattle.base_rules.specs.Answers.{reads}
use Rattle.base_rules.specs.Bytes.{Bytes}
use Rattle.base_lent.specs.Copying.{laid}
use Rattle.base_lent.specs.Lent.{done, Leaves}
use Rattle.base_characters.specs.Characters.{chars}
use Rattle.mbus_rules.specs.declared.Moment.{Moment}
use Rattle.bundle_rows.specs.Lists.{All}
use Rattle.bundle_rows.specs.Rows.{blank_row}
use Rattle.bundle_rows.specs.declared.Row.{Row}
use Rattle.bundle_check.specs.Bundles.{contents_of, check_of}
use Rattle.bundle_check.specs.Handing.{body_at}
use Rattle.bundle_check.specs.Records.{Recorded, records_of, row_for, bundle_of}
use Rattle.bundle_check.specs.Stretches.{bytes_at}
use Rattle.bundle_columns.specs.Columns.{Columns, InOrder, columns_of, kept_row, kept_rows}
use Rattle.bundle_columns.specs.Lookups.{next_kept}
use Rattle.bundle_columns.specs.Record.{columns_bytes}
use Rattle.bundle_columns.specs.Shown.{columns_into}
use Rattle.bundle_salvage.specs.declared.Salvaged.{Salvaged}
use Rattle.bundle_salvage.specs.Salvaging.{salvage_of, new_bundle}
use Rattle.bundle_adding.specs.Adding.{add_of}
use Rattle.bundle_sweep.specs.Sweeping.{sweep_of}
use Rattle.run_listing.specs.Listings.{listing_of}
use Rattle.run_calendar.specs.Days.{interval}
use Rattle.run_counting.specs.Counting.{answers_of, numbers_of, counting_of}
use Rattle.run_replay.specs.Errors.{replay_of}
use Rattle.run_verdicts.specs.declared.Verdict.TheVariants.{Unasked}
use Rattle.run_verdicts.specs.Answering.{verdicts_in, verdicts_kept}
use Rattle.run_verdicts.specs.Verdicts.{verdicts_of}
use Rattle.run_repeats.specs.Repeats.{earlier_rows}
use Rattle.run_picture.specs.Pictures.{picture_of}
use Rattle.host_bundle.specs.Bundled.{AddsIn, ListsIn}
use Rattle.host_bundle.specs.Lent.{Gives}
use Rattle.host_bundle.specs.Rows.{row_record, row_into, kept_into, GivesRow}
use Rattle.host_bundle.specs.Salvaging.{salvaged_bytes, SalvagesIn}
use Rattle.host_sweep.specs.Sweeping.{SweepsIn}
use Rattle.host_replay.specs.Calls.{replay_for}
use Rattle.host_verdicts.specs.Records.{verdict_record}
use Rattle.host_verdicts.specs.Repeating.{RepeatsIn}
use Rattle.host_verdicts.specs.Told.{records_told, verdicts_into, verdict_into, GivesVerdicts, GivesVerdict}
use Rattle.host_picture.specs.Pictured.{DrawsIn}
use Rattle.demands.specs.ReplayTakes.{Tells, VolumesFit, InRange}
use Rattle.demands.specs.SalvageTold.{FieldsRight, ContentsThere}

-- ---- which bundles are accepted

-- A row that 01 allows behind a row of this time: its fields (34), its characters (37), and a time of 32 bits.
pub record RowAllowed (before : ℕ) (k : Recorded) : Type 0 where
  pub fields : FieldsRight before (row_for 0 k)
  pub range : All (λ (c : ℕ). c ≤ 511) (chars k.body)
  pub time : k.time < 256 ^ 4

-- rows of which each is allowed behind the one before
abbrev pub RowsAllowed : ℕ → List Recorded → Type 0
RowsAllowed before [] = Unit {0}
RowsAllowed before (k ∷ ks) = RowAllowed before k × RowsAllowed k.time ks

-- skarrowith_bundle_check: the bundle of at most 512 such rows, of at most 65,536 bytes, is accepted, with its count.
abbrev pub CheckAnswers : Type 0
CheckAnswers =
    (ks : List Recorded) (rows r rows' : ℕ) → RowsAllowed 0 ks → length ks ≤ 512 → length (bundle_of ks) ≤ 65536
    → Gives (check_of (bundle_of ks)) rows r rows' → (r ≡ 0) × (rows' ≡ length ks)

-- ---- rows, bodies and columns

-- skarrowith_bundle_row: every row of an accepted bundle, into 12 bytes.
abbrev pub RowAnswers : Type 0
RowAnswers =
    (b : List ℕ) (n i r : ℕ) (out out' : List ℕ) → check_of b ≡ reads n → i < n → 12 ≤ length out → GivesRow (row_into b i out) out r out'
    → (r ≡ 0) × (out' ≡ laid out 0 (row_record (get_or (contents_of b) i blank_row)))

-- body, in Rattle: of every row, the bytes that were recorded.
abbrev pub BodyAnswers : Type 0
BodyAnswers =
    (b : List ℕ) (n i : ℕ) → check_of b ≡ reads n → i < n
    → bytes_at (body_at b i) b ≡ (get_or (records_of b) i (record { position = 0; direction = 0; time = 0; body = [] })).body

-- skarrowith_contents_of: every accepted bundle, into 6,152 bytes.
abbrev pub ContentsAnswer : Type 0
ContentsAnswer =
    (b : List ℕ) (n r : ℕ) (out out' : List ℕ) → check_of b ≡ reads n → 6152 ≤ length out → Leaves done columns_bytes (columns_into b out) out out' r
    → (r ≡ 0) × (out' ≡ laid out 0 (columns_bytes (columns_of (contents_of b))))

-- skarrowith_contents_row: every row of columns, into 12 bytes.
abbrev pub ContentsRowAnswers : Type 0
ContentsRowAnswers =
    (c : Columns) (i r : ℕ) (out out' : List ℕ) → InOrder c → i < c.count → 12 ≤ length out → GivesRow (kept_into (columns_bytes c) i out) out r out'
    → (r ≡ 0) × (out' ≡ laid out 0 (row_record (kept_row c i)))

-- skarrowith_contents_next: wherever a row j from the given one on has the position.
abbrev pub ContentsNextAnswers : Type 0
ContentsNextAnswers =
    (c : Columns) (position from j i r i' : ℕ) → InOrder c → from ≤ j → j < c.count → (kept_row c j).position ≡ position
    → Gives (next_kept (columns_bytes c) position from) i r i' → (r ≡ 0) × (next_kept (columns_bytes c) position from ≡ reads i')

-- ---- adding, sweeping, salvaging, listing

-- skarrowith_bundle_add: every row that 01 allows, its time below no other, to an accepted bundle of fewer than 512 rows, where there is room.
abbrev pub AddAnswers : Type 0
AddAnswers =
    (buffer buffer' : List ℕ) (filled n r filled' : ℕ) (k : Recorded) → filled ≤ length buffer → check_of (take filled buffer) ≡ reads n → n < 512
    → RowAllowed 0 k → All (λ (old : Row). old.time ≤ k.time) (contents_of (take filled buffer))
    → filled + 12 + length k.body ≤ length buffer → filled + 12 + length k.body ≤ 65536 → AddsIn buffer filled k r buffer' filled'
    → (r ≡ 0) × (filled' ≡ filled + 12 + length k.body) × (add_of buffer filled k ≡ reads filled')

-- skarrowith_bundle_sweep: every accepted bundle, and every position up to 48.
abbrev pub SweepAnswers : Type 0
SweepAnswers =
    (buffer buffer' : List ℕ) (filled position n r filled' : ℕ) → filled ≤ length buffer → check_of (take filled buffer) ≡ reads n → position ≤ 48
    → SweepsIn buffer filled position r buffer' filled' → (r ≡ 0) × (sweep_of buffer filled position ≡ reads filled')

-- skarrowith_bundle_salvage: every bundle whose contents are whole, where there is room for what is salvaged and for what is told.
abbrev pub SalvageAnswers : Type 0
SalvageAnswers =
    (b out told out' told' : List ℕ) (n r : ℕ) (s : Salvaged) → ContentsThere b n → salvage_of b ≡ reads s → s.filled ≤ length out → 32 ≤ length told
    → SalvagesIn b out told r out' told' → (r ≡ 0) × (told' ≡ laid told 0 (salvaged_bytes s)) × (out' ≡ laid out 0 (new_bundle b s))

-- skarrowith_bundle_list: everything, into 15,901 bytes.
abbrev pub ListAnswers : Type 0
ListAnswers =
    (b out out' : List ℕ) (written r written' : ℕ) → Bytes b → 15901 ≤ length out → ListsIn b out written r out' written'
    → (r ≡ 0) × (written' ≡ length (listing_of b)) × (out' ≡ laid out 0 (listing_of b))

-- ---- replay, verdicts, repeats and picture

-- counting, in Rattle: every accepted bundle, and every position from 1 to 48.
abbrev pub CountingAnswers : Type 0
CountingAnswers =
    (b : List ℕ) (n position : ℕ) → check_of b ≡ reads n → 1 ≤ position → position ≤ 48 → counting_of b position ≡ reads (numbers_of position (records_of b))

-- skarrowith_replay_error: where two answers count or more, all volumes fit, both intervals are right, the meter's volume does not fall and the standard's
-- rises, into one place.
abbrev pub ReplayAnswers : Type 0
ReplayAnswers =
    (b : List ℕ) (n position s1 s2 elapsed v1 v2 r : ℕ) (t1 t2 : Moment) (first last : Recorded) (between : List Recorded) (out out' : List ℤ)
    → check_of b ≡ reads n → 1 ≤ position → position ≤ 48 → answers_of position (records_of b) ≡ first ∷ (between ++ (last ∷ []))
    → Tells first v1 t1 → Tells last v2 t2 → VolumesFit v1 v2 s1 s2 → InRange elapsed → InRange (interval t1 t2) → v1 ≤ v2 → s1 < s2 → 1 ≤ length out
    → Leaves done (λ (e : ℤ). e ∷ []) (replay_for b position s1 s2 elapsed out) out out' r
    → (r ≡ 0) × (e : ℤ) × (replay_of b position s1 s2 elapsed ≡ reads e) × (out' ≡ laid out 0 (e ∷ []))

-- skarrowith_verdict: every row of an accepted bundle, into 4 bytes.
abbrev pub VerdictAnswers : Type 0
VerdictAnswers =
    (b out out' : List ℕ) (n i r : ℕ) → check_of b ≡ reads n → i < n → 4 ≤ length out → GivesVerdict (verdict_into (verdicts_in b) i out) out r out'
    → (r ≡ 0) × (out' ≡ laid out 0 (verdict_record (get_or (verdicts_of (records_of b)) i Unasked)))

-- skarrowith_verdicts: every accepted bundle, into 4 bytes for each row.
abbrev pub VerdictsAnswer : Type 0
VerdictsAnswer =
    (b out out' : List ℕ) (n count r count' : ℕ) → check_of b ≡ reads n → 4 * n ≤ length out
    → GivesVerdicts (verdicts_into (verdicts_in b) out) out count r out' count'
    → (r ≡ 0) × (count' ≡ n) × (out' ≡ laid out 0 (records_told (verdicts_of (records_of b))))

-- rows that keep the rules for fields, each behind the one before
abbrev pub FieldsRightFrom : ℕ → List Row → Type 0
FieldsRightFrom before [] = Unit {0}
FieldsRightFrom before (r ∷ rows) = FieldsRight before r × FieldsRightFrom r.time rows

-- a row with the body that lies at its offset
abbrev pub lying_in : List ℕ → Row → Recorded
lying_in b r = record { position = r.position; direction = r.direction; time = r.time; body = take r.length (drop r.offset b) }

-- skarrowith_contents_verdicts: the columns of every accepted bundle,
abbrev pub ContentsVerdictsAnswer : Type 0
ContentsVerdictsAnswer =
    (b out out' : List ℕ) (n count r count' : ℕ) → Bytes b → check_of b ≡ reads n → 4 * n ≤ length out
    → GivesVerdicts (verdicts_into (verdicts_kept (columns_bytes (columns_of (contents_of b))) b) out) out count r out' count'
    → (r ≡ 0) × (count' ≡ n) × (out' ≡ laid out 0 (records_told (verdicts_of (records_of b))))

-- and columns of any rows that keep the rules for fields, wherever in the bundle their bodies lie.
abbrev pub OwnVerdictsAnswer : Type 0
OwnVerdictsAnswer =
    (c : Columns) (b out out' : List ℕ) (count r count' : ℕ) → InOrder c → FieldsRightFrom 0 (kept_rows c)
    → All (λ (row : Row). row.offset + row.length ≤ length b) (kept_rows c) → 4 * c.count ≤ length out
    → GivesVerdicts (verdicts_into (verdicts_kept (columns_bytes c) b) out) out count r out' count'
    → (r ≡ 0) × (count' ≡ c.count) × (out' ≡ laid out 0 (records_told (verdicts_of (map (lying_in b) (kept_rows c)))))

-- skarrowith_repeats: every accepted bundle, into a place for each row.
abbrev pub RepeatsAnswer : Type 0
RepeatsAnswer =
    (b rows rows' : List ℕ) (n count r count' : ℕ) → check_of b ≡ reads n → n ≤ length rows → RepeatsIn b rows count r rows' count'
    → (r ≡ 0) × (count' ≡ n) × (rows' ≡ laid rows 0 (earlier_rows (records_of b)))

-- skarrowith_picture: every accepted bundle, into as many bytes as the picture has.
abbrev pub PictureAnswers : Type 0
PictureAnswers =
    (b out out' : List ℕ) (n written r written' : ℕ) → check_of b ≡ reads n → length (picture_of b) ≤ length out → DrawsIn b out written r out' written'
    → (r ≡ 0) × (written' ≡ length (picture_of b)) × (out' ≡ laid out 0 (picture_of b))
