-- The bodies of a bundle that the check accepts: each is that of its record, and all are whole characters.
use Prim.Native.Nat.{ℕ, ◌+◌, ◌≤◌, ◌<◌}
use mathlib.Core.Bool.{false}
use mathlib.Core.List.{List, [], ◌∷◌}
use mathlib.Core.Path.{◌≡◌, refl, sym, ap, ◌∙◌}
use native.Mathlib.Omega.{arith}
use lib.Dec.{ltb}
use lib.ListN.{length, get_or, take, drop, get_or-map}
use Rattle.base_rules.specs.Answers.{Answer, reads, within}
use Rattle.base_rules.proofs.Laws.Tests.{neither}
use Rattle.bundle_rows.specs.Fields.{wrong_field}
use Rattle.bundle_rows.proofs.Laws.RowLaws.{length_rows, InRange, field_right}
use Rattle.bundle_rows.specs.Rows.{most_rows, blank_row, unchecked_row}
use Rattle.bundle_rows.specs.declared.Row.{Row}
use Rattle.bundle_check.proofs.Laws.Accepted.{SoundBundle, accepted_sound, sound_accepted, row_there, body_inside}
use Rattle.bundle_check.specs.Bundles.{count_of, contents_of, check_of}
use Rattle.bundle_check.specs.Handing.{place_of, body_at}
use Rattle.bundle_check.proofs.Laws.HandingLaws.{row_reads}
use Rattle.bundle_check.proofs.Laws.HoldingLaws.{record_for, records_held}
use Rattle.bundle_check.specs.Records.{blank_record, records_in, records_of, Recorded, record_time}
use Rattle.bundle_check.specs.RowRules.{wrong_row, row_time}
use Rattle.bundle_check.specs.Stretches.{bytes_at}
use Rattle.bundle_check.specs.Walks.{end_of}
use Rattle.bundle_check.proofs.Laws.Walks.{none_wrong}

-- the last time is that of the last record
pub times_end : (t : ℕ) (rows : List Row) (s : List ℕ) → end_of record_time t (records_in rows s) ≡ end_of row_time t rows
unfolding records_in end_of
times_end t [] s = refl
times_end t (r ∷ rows) s = times_end r.time rows (drop r.length s)

-- the body that is handed out is that of the record
pub body_held : (b : List ℕ) → SoundBundle b → (i : ℕ) → i < count_of b → bytes_at (body_at b i) b ≡ (get_or (records_of b) i blank_record).body
body_held b s i h =
    ap (λ (a : Answer Row). bytes_at (within place_of a) b) (row_reads b i (count_of b) (sound_accepted b s) h)
    ∙ ap (λ (k : Recorded). k.body)
    (sym (get_or-map (record_for b) (contents_of b) i blank_row) ∙ ap (λ (l : List Recorded). get_or l i blank_record) (sym (records_held b s)))

-- ---- the fields of each row are in their ranges
pub row_right : (b : List ℕ) (i : ℕ) → SoundBundle b → i < count_of b
    → InRange (get_or (contents_of b) i blank_row).position (get_or (contents_of b) i blank_row).direction (get_or (contents_of b) i blank_row).length
row_right b i s h =
    let r : Row = get_or (contents_of b) i blank_row in
    let before : ℕ = end_of row_time 0 (take i (contents_of b)) in
    let w : wrong_row before r ≡ false =
    none_wrong wrong_row row_time 0 (contents_of b) i blank_row s.fields (omega (arith, length_rows (count_of b) (drop 2 b))) in
    field_right r.position r.direction r.length
    (neither (wrong_field r.position r.direction r.length) (ltb r.time before) w).0

pub unchecked_right : (b : List ℕ) (i n : ℕ) → check_of b ≡ reads n → i < n
    → InRange (unchecked_row b i).position (unchecked_row b i).direction (unchecked_row b i).length
unchecked_right b i n e h =
    let s = accepted_sound b n e in
    rw (row_there b i n e h) (row_right b i s.0 (omega (arith, s.1)))

pub unchecked_inside : (b : List ℕ) (i n : ℕ) → check_of b ≡ reads n → i < n → (unchecked_row b i).offset + (unchecked_row b i).length ≤ length b
unchecked_inside b i n e h =
    let s = accepted_sound b n e in
    rw (row_there b i n e h) (body_inside b i s.0 (omega (arith, s.1)))

-- how many rows there are
pub count_rows : (b : List ℕ) (n : ℕ) → check_of b ≡ reads n → length (contents_of b) ≡ n
count_rows b n e = length_rows (count_of b) (drop 2 b) ∙ sym (accepted_sound b n e).1

pub few_rows : (b : List ℕ) (n : ℕ) → check_of b ≡ reads n → n ≤ most_rows
few_rows b n e = let s = accepted_sound b n e in omega (arith, s.1, s.0.few)
