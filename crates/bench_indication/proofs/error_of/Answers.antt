-- `error_of` meets its contract: past the refusals both counts rise.
use native.Mathlib.Omega.{arith}
use mir.Syntax.{w64}
use mir.ValLaws.{to_z-of_z}
use borrow.Author.Tests.{le-ltb, lt-leb}
use Rattle.bench_indication.proofs.Laws.Errors.{error_rises}
use Rattle.bench_indication.proofs.error_of.Goals as goal

pub returns : goal.returns
returns c =
    let a = c.args in
    rw (
      le-ltb _ _ c.if-m1-gt-COUNT_MOST.false,
      le-ltb _ _ c.if-m2-gt-COUNT_MOST.false,
      le-ltb _ _ c.if-s1-gt-COUNT_MOST.false,
      le-ltb _ _ c.if-s2-gt-COUNT_MOST.false,
      le-ltb _ _ c.if-m2-m1.false,
      lt-leb _ _ c.if-s2-s1.false,
      error_rises a.m1 a.m2 a.s1 a.s2 c.if-m2-m1.false (omega arith),
      ← c.tenths.ensures,
      to_z-of_z w64 c.tenths.result (record { sfits = c.tenths.type_inv }),
    )
