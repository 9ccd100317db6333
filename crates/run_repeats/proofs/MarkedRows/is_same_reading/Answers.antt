-- `run_repeats::MarkedRows::is_same_reading` meets its contract, by the marks of both rows.
use mathlib.Core.Path.{sym, ◌∙◌}
use native.Mathlib.Omega.{arith}
use borrow.Author.Tests.{ne_eqb}
use Rattle.bundle_check.proofs.Laws.BodyLaws.{few_rows}
use Rattle.run_repeats.proofs.Laws.Looking.{marked_data, same_unlike, same_marked}
use Rattle.run_repeats.proofs.MarkedRows.is_same_reading.Goals as goal

pub offset_bounds-self-j : goal.offset_bounds-self-j
offset_bounds-self-j c =
    omega (arith, c.requires.0, few_rows c.args.self.now.bundle.now c.args.self.now.count c.args.self.now.marked.accepted)

pub bounds-self-j : goal.bounds-self-j
bounds-self-j c =
    omega (arith, c.requires.0, few_rows c.args.self.now.bundle.now c.args.self.now.count c.args.self.now.marked.accepted)

pub offset_bounds-self-i : goal.offset_bounds-self-i
offset_bounds-self-i c =
    omega (arith, c.requires.1, few_rows c.args.self.now.bundle.now c.args.self.now.count c.args.self.now.marked.accepted)

pub bounds-self-i : goal.bounds-self-i
bounds-self-i c =
    omega (arith, c.requires.1, few_rows c.args.self.now.bundle.now c.args.self.now.count c.args.self.now.marked.accepted)

pub same_at-requires : goal.same_at-requires
same_at-requires c =
    let p = c.requires in
    (marked_data c.args.self.now.marked p.1 c.args.j p.0 (λ e. p.2 (sym c.if-self-j.true ∙ e)), marked_data c.args.self.now.marked p.1 c.args.i p.1 p.2)

pub returns-then-self-j : goal.returns-then-self-j
returns-then-self-j c =
    let p = c.requires in
    same_marked c.args.self.now.marked p.1 p.0 (λ e. p.2 (sym c.if-self-j.true ∙ e)) p.2 c.same_at.ensures

pub returns-else-self-j : goal.returns-else-self-j
returns-else-self-j c = ne_eqb _ _ c.if-self-j.false ∙ same_unlike c.args.self.now.marked c.requires.1 c.requires.0 c.if-self-j.false
