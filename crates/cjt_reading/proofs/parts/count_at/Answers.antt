-- `cjt_reading::parts::count_at` meets its contract: a word holds what its bytes hold.
use Rattle.std.proofs.Common.{ℕ, ◌<◌, ap, arith}
use Rattle.base_rules.specs.Lists.{at}
use Rattle.base_digits.specs.declared.Packed.{Packed}
use Rattle.cjt_reading.proofs.Laws.PartLaws.{read_part, count_fits}
use Rattle.cjt_reading.proofs.parts.count_at.Goals as goal

pub overflow_cast-result : goal.overflow_cast-result
overflow_cast-result c =
    let s = c.args.d.now in
    let byte : (i : ℕ) → at s i < 256 = λ i. omega (arith, c.type_inv.d i) in
    let digits = read_part s byte c.args.place c.args.width (omega
    (arith, c.requires)) c.packed_in-digits.ensures
    c.number_at.ensures.so in
    rw (ap (λ (p : Packed). p.count) digits)
    (omega (
      arith,
      count_fits s byte c.args.place c.args.width
          c.requires,
    ))

pub returns : goal.returns
returns c =
    let s = c.args.d.now in
    let byte : (i : ℕ) → at s i < 256 = λ i. omega (arith, c.type_inv.d i) in
    let digits = read_part s byte c.args.place c.args.width (omega
    (arith, c.requires)) c.packed_in-digits.ensures
    c.number_at.ensures.so in
    ap (λ (p : Packed). p.count) digits
