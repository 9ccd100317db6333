-- `cjt_reading::frame::wrong_party` meets its contract, test by test.
use Rattle.std.proofs.Common.{ℕ, ◌<◌, eqb, ap, ◌∙◌, arith}
use Rattle.base_rules.specs.Lists.{at}
use Rattle.cjt_reading.proofs.Laws.PartLaws.{read_part, all_word}
use Rattle.cjt_reading.proofs.frame.wrong_party.Goals as goal

pub returns : goal.returns
returns c =
    let s = c.args.b.now in
    let byte : (i : ℕ) → at s i < 256 = λ i. omega (arith, c.type_inv.b i) in
    let digits = read_part s byte 2 7 (omega arith) c.packed_in-digits.ensures c.number_at-word.ensures.so in
    let all = ap (λ (n : ℕ). eqb n 0xAAAAAAAAAAAAAA) c.number_at-word.ensures.so ∙ all_word s byte
    c.requires in
    rw (
      c.is_heat_type-sort.ensures,
      c.byte_at.ensures,
      c.byte_at-size.ensures,
      digits,
      all,
    )
