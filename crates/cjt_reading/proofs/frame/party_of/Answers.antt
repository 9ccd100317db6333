-- `cjt_reading::frame::party_of` meets its contract.
use Rattle.std.proofs.Common.{◌≡◌, ℕ, ◌<◌, true, false, eqb, sym, ap, ◌∙◌, arith}
use Rattle.base_rules.specs.Lists.{at}
use Rattle.cjt_rules.specs.CjtAddresses.{party_bytes, all_aa}
use Rattle.cjt_reading.proofs.Laws.PartLaws.{read_part, all_word}
use borrow.Author.Tests.{eq-eqb, ne_eqb}
use Rattle.cjt_reading.proofs.frame.party_of.Goals as goal

pub returns-then-all : goal.returns-then-all
returns-then-all c =
    let s = c.args.b.now in
    let byte : (i : ℕ) → at s i < 256 = λ i. omega (arith, c.type_inv.b i) in
    let all : all_aa (party_bytes s) ≡ true =
    sym (ap (λ (n : ℕ). eqb n 0xAAAAAAAAAAAAAA) c.number_at-word.ensures.so ∙ all_word s byte c.requires) ∙ (eq-eqb _ _ c.if-all.true) in
    rw all

pub returns : goal.returns
returns c =
    let s = c.args.b.now in
    let byte : (i : ℕ) → at s i < 256 = λ i. omega (arith, c.type_inv.b i) in
    let digits = read_part s byte 2 7 (omega arith) c.packed_in-digits.ensures c.number_at-word.ensures.so in
    let all : all_aa (party_bytes s) ≡ false =
    sym (ap (λ (n : ℕ). eqb n 0xAAAAAAAAAAAAAA) c.number_at-word.ensures.so ∙ all_word s byte c.requires)
    ∙ (ne_eqb _ _ c.if-all.false) in
    rw (all, digits)
