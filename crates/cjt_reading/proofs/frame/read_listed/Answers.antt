-- `cjt_reading::frame::read_listed` meets its contract: 84, then 85.
use Rattle.std.proofs.Common.{◌≡◌, ℕ, ◌<◌, true, false, drop, sym, ap, ◌∙◌, arith}
use Rattle.base_rules.specs.Lists.{at}
use Rattle.cjt_rules.specs.declared.CjtAnswer.{CjtAnswer}
use Rattle.cjt_rules.specs.declared.CjtTelegram.TheVariants as telegrams
use Rattle.std.specs.Prelude.{Ok}
use Rattle.cjt_rules.specs.CjtLines.{wrong_listed, tells_with}
use Rattle.cjt_rules.specs.CjtUnits.{wrong_units}
use Rattle.cjt_reading.proofs.Laws.PartLaws.{read_part}
use Rattle.base_rules.proofs.Laws.ListLaws.{rest_is}
use Rattle.cjt_reading.proofs.frame.read_listed.Goals as goal

pub returns-then-wrong : goal.returns-then-wrong
returns-then-wrong c =
    let s = c.args.b.now in
    let wrong : wrong_listed (drop 14 s) ≡ true = ap wrong_listed (sym (rest_is s 14)) ∙ sym c.wrong_listed-wrong.ensures ∙ c.if-wrong.true in
    rw wrong

pub returns-then-units : goal.returns-then-units
returns-then-units c =
    let s = c.args.b.now in
    let byte : (i : ℕ) → at s i < 256 = λ i. omega
    (arith, c.type_inv.b i) in
    let digits = read_part s byte 2 7 (omega arith) c.packed_in-digits.ensures
    c.number_at.ensures.so in
    let answer : c.tells_in-answer.result ≡ tells_with s =
    c.tells_in-answer.ensures ∙ rw (
      c.byte_at-meter_type.ensures,
      digits,
      c.byte_at-serial.ensures,
      rest_is s
          14,
    ) in
    let right : wrong_listed (drop 14 s) ≡ false = ap wrong_listed (sym (rest_is s 14)) ∙ sym
    c.wrong_listed-wrong.ensures
    ∙ c.if-wrong.false in
    let units : wrong_units (tells_with s) ≡ true = ap wrong_units (sym answer) ∙ sym c.wrong_units-units.ensures ∙ c.if-units.true in
    rw (right, units)

pub returns : goal.returns
returns c =
    let s = c.args.b.now in
    let byte : (i : ℕ) → at s i < 256 = λ i. omega
    (arith, c.type_inv.b i) in
    let digits = read_part s byte 2 7 (omega arith) c.packed_in-digits.ensures
    c.number_at.ensures.so in
    let answer : c.tells_in-answer.result ≡ tells_with s =
    c.tells_in-answer.ensures ∙ rw (
      c.byte_at-meter_type.ensures,
      digits,
      c.byte_at-serial.ensures,
      rest_is s
          14,
    ) in
    let right : wrong_listed (drop 14 s) ≡ false = ap wrong_listed (sym (rest_is s 14)) ∙ sym
    c.wrong_listed-wrong.ensures
    ∙ c.if-wrong.false in
    let units : wrong_units (tells_with s) ≡ false = ap wrong_units (sym answer) ∙ sym c.wrong_units-units.ensures ∙ c.if-units.false in
    rw (right, units) (ap (λ (a : CjtAnswer). Ok (telegrams.Answer a)) answer)
