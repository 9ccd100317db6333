-- Proofs of the statements of specs/CjtRecords.
use Prim.Native.Nat.{ℕ, ◌*◌, ◌%◌}
use mathlib.Core.Bool.{Bool, true, false, not, or-true}
use mathlib.Core.List.{List, [], ◌∷◌}
use mathlib.Core.Path.{refl}
use lib.Dec.{ltb, eqb}
use lib.ListN.{length}
use Rattle.mbus_rules.specs.declared.Entry.{Entry}
use Rattle.base_rules.specs.Answers.{Answer, reads, refusal, refuse, follow}
use Rattle.base_rules.specs.Lists.{any}
use Rattle.base_lent.specs.Lent.{placed}
use Rattle.base_lent.specs.Same.{same}
use Rattle.cjt_rules.specs.declared.CjtTelegram.{CjtTelegram}
use Rattle.cjt_rules.specs.CjtLines.{read_cjt_line}
use Rattle.cjt_rules.specs.CjtUnits.{energy_code}
use Rattle.cjt_rules.specs.CjtWriting.{over_eight, write_cjt_line}
use Rattle.cjt_rules.proofs.Laws.RoundTrip.{read_then_write, written_again}
use Rattle.cjt_energy.specs.Energies.{unit_for, code_digit, entry_digit, entry_for}
use Rattle.base_rules.proofs.Laws.AnswerLaws.{shown_same}
use Rattle.cjt_energy.proofs.Laws.Meaning.{entry_of}
use Rattle.cjt_records.specs.CjtRecords.{cjt_size, cjt_bytes, cjt_in}
use Rattle.cjt_records.proofs.Laws.CjtRecordLaws.{cjt_length, cjt_read, cjt_written, writable_fits}
use Rattle.host_cjt.specs.CjtCalls.{entry_size}
use Rattle.demands.specs.Refusals.{By}
use Rattle.demands.specs.CjtPromises.{cjt_numbers}
use Rattle.demands.proofs.Laws.CjtPromises.{cjt_reading_by, cjt_writing_by}
use Rattle.demands.specs.CjtRecords.{CjtRecordSize, CjtReadBack, CjtTaken, LineThroughItsRecord, CjtReadForBy, CjtWriteForBy, EntryBy, EntryForBy}
use Rattle.demands.specs.CjtRecords.{EntriesShownApart}

pub cjt_record_size : CjtRecordSize
cjt_record_size = cjt_length

pub cjt_read_back : CjtReadBack
cjt_read_back = cjt_read

pub cjt_taken : CjtTaken
cjt_taken = cjt_written

pub line_through_its_record : LineThroughItsRecord
line_through_its_record s out t bare e h =
    rw (cjt_read t (writable_fits t (read_then_write s t e).writable)) (written_again s t (length out) bare e h)

-- one number more may be among them
wider : {A : Type 0} (m : ℕ) (ns : List ℕ) (a : Answer A) → By ns a → By (m ∷ ns) a
unfolding By any
wider m ns (refusal n) h = rw h (or-true (eqb n m))
wider m ns (reads x) h = tt

pub cjt_read_for_by : CjtReadForBy
unfolding By any
cjt_read_for_by line out = go (read_cjt_line line) (cjt_reading_by line)
  where
    room : (short : Bool) (t : CjtTelegram) → By (21 ∷ cjt_numbers) (refuse 21 short (reads t))
    room true t = refl
    room false t = tt

    go : (a : Answer CjtTelegram) → By cjt_numbers a → By (21 ∷ cjt_numbers) (placed cjt_size out a)
    go (refusal n) h = wider {A = CjtTelegram} 21 cjt_numbers (refusal n) h
    go (reads t) h = room (ltb (length out) cjt_size) t

pub cjt_write_for_by : CjtWriteForBy
unfolding By any
cjt_write_for_by b out = go (not (same b (cjt_bytes (cjt_in b)))) (cjt_in b)
  where
    go : (other : Bool) (t : CjtTelegram)
        → By (101 ∷ 20 ∷ 21 ∷ []) (follow (refuse 101 other (reads t)) (λ u. write_cjt_line u (length out)))
    go true t = refl
    go false t = wider 101 (20 ∷ 21 ∷ []) (write_cjt_line t (length out)) (cjt_writing_by t (length out))

pub entry_by : EntryBy
unfolding By any entry_for
entry_by count code = go (over_eight count) (not (energy_code code)) (not (eqb (count * code_digit code % entry_digit (unit_for code)) 0)) (entry_of count code)
  where
    go : (a b c : Bool) (e : Entry) → By (84 ∷ 85 ∷ 86 ∷ []) (refuse 84 a (refuse 85 b (refuse 86 c (reads e))))
    go true b c e = refl
    go false true c e = refl
    go false false true e = refl
    go false false false e = tt

pub entry_for_by : EntryForBy
unfolding By any
entry_for_by count code out = go (ltb (length out) entry_size)
  where
    go : (short : Bool) → By (21 ∷ 84 ∷ 85 ∷ 86 ∷ []) (refuse 21 short (entry_for count code))
    go true = refl
    go false = wider 21 (84 ∷ 85 ∷ 86 ∷ []) (entry_for count code) (entry_by count code)

pub entries_shown_apart : EntriesShownApart
entries_shown_apart = shown_same
