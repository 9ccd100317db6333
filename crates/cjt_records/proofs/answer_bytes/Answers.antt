-- `cjt_records::answer_bytes` meets its contract: one record of its parts.
use mathlib.Core.List.{List, ◌++◌, append_assoc}
use mathlib.Core.Path.{refl, sym, ap, ◌∙◌}
use Prim.Native.Nat.{ℕ}
use lib.ListN.{replicate}
use borrow.Author.Rules.{rules}
use Rattle.base_lent.specs.Pieces.{pieces}
use Rattle.base_numbers.proofs.Laws.RecordLaws.{record_made}
use Rattle.cjt_records.specs.CjtRecords.{head_bytes, quantity_bytes, quantities_of, clock_bytes, tail_bytes, cjt_bytes}
use Rattle.cjt_records.proofs.answer_bytes.Goals as goal

pub returns : goal.returns
unfolding cjt_bytes
returns c =
    let words = c.answer_words-words in
    let a = c.args.a in
    let head : List ℕ = head_bytes 2 a.meter_type a.serial 0 a.first_state a.second_state a.address in
    record_made (replicate 80 0) head words.result (clock_bytes a.clock) (search rules) c.head_bytes-head.ensures refl
    c.clock_bytes-tail.ensures c.put_record.ensures ∙ ap (λ (s : List ℕ). head ++ s) words.ensures
    ∙ sym (append_assoc head (pieces quantity_bytes (quantities_of a)) (tail_bytes a))
