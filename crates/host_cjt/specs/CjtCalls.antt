-- 02, 2026-08, for C: what each call answers.
use Rattle.std.specs.Prelude.{ℕ, List, length}
use Rattle.mbus_rules.specs.declared.Entry.{Entry}
use Rattle.base_rules.specs.Answers.{Answer, follow}
use Rattle.base_lent.specs.Lent.{needs, placed}
use Rattle.cjt_rules.specs.declared.CjtTelegram.{CjtTelegram}
use Rattle.cjt_rules.specs.CjtLines.{read_cjt_line}
use Rattle.cjt_rules.specs.CjtWriting.{write_cjt_line}
use Rattle.cjt_energy.specs.Energies.{entry_for}
use Rattle.cjt_records.specs.CjtRecords.{cjt_size, cjt_from}

-- Reading: 1 to 3, 80 to 85, then 21.
abbrev pub read_cjt_for : List ℕ → List ℕ → Answer CjtTelegram
read_cjt_for line out = placed cjt_size out (read_cjt_line line)

-- Writing: 101 for the record, then 20 and 21.
abbrev pub write_cjt_for : List ℕ → List ℕ → Answer (List ℕ)
write_cjt_for b out = follow (cjt_from b) (λ t. write_cjt_line t (length out))

-- `struct skarrowith_entry` has 16 bytes.
abbrev pub entry_size : ℕ
entry_size = 16

-- An energy value as an entry: 21, then 84 to 86.
abbrev pub entry_cjt_for : ℕ → ℕ → List ℕ → Answer Entry
entry_cjt_for count code out = needs entry_size out (entry_for count code)
