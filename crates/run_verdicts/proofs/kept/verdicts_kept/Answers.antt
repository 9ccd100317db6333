-- `run_verdicts::kept::verdicts_kept` meets its contract: each way out by what was tried of the columns.
use Prim.Native.Nat.{ℕ}
use mathlib.Core.List.{List}
use mathlib.Core.Path.{◌≡◌, refl, ap}
use Rattle.std.specs.Prelude.{Result, Err}
use Rattle.std.proofs.lemmas.Result.{err_from_is_err_and}
use Rattle.base_rules.specs.declared.refusals.Refusal.{Refusal}
use Rattle.base_rules.specs.Answers.{Answer, refusal, within}
use Rattle.base_rules.specs.Shown.{shown}
use Rattle.bundle_columns.specs.Shown.{count_kept}
use Rattle.bundle_columns.specs.Record.{columns_from}
use Rattle.bundle_columns.proofs.Laws.Looking.{taken, not_taken}
use Rattle.run_verdicts.specs.declared.Verdict.{Verdict}
use Rattle.run_verdicts.specs.Shown.{listed}
use Rattle.run_verdicts.specs.Walking.{Tried}
use Rattle.run_verdicts.proofs.Laws.Answering.{kept_refused, kept_34, kept_35, walkable-kept, kept-reads}
use Rattle.run_verdicts.proofs.kept.verdicts_kept.Goals.{In_ok-count}
use Rattle.run_verdicts.proofs.kept.verdicts_kept.Goals as goal

-- the columns as they were tried, or not
tried : (c : In_ok-count) → Tried c.args.columns.now c.in_ok-count.count
tried c =
    let t = taken c.args.columns.now c.in_ok-count.ensures refl in
    record { size = t.size; few = t.few; count = t.count; from = t.from }

not_tried : (lists : List ℕ) {r : Refusal} → ◌≡◌ {A = Result ℕ Refusal} (Err r) (shown (count_kept (columns_from lists))) → columns_from lists ≡ refusal r.0
not_tried lists {r} f = not_taken lists f {k = r.0} refl

pub returns-in_err-count : goal.returns-in_err-count
returns-in_err-count c =
    let a = c.args in
    let p = err_from_is_err_and c.from_residual.result c.from_residual.ensures.1 in
    rw (p.1, p.2)
    (ap (λ (x : Answer (List Verdict)). shown (within listed x))
    (kept_refused a.columns.now a.bundle.now (not_tried a.columns.now c.in_err-count.ensures)))

pub faults_of-faults-requires : goal.faults_of-faults-requires
faults_of-faults-requires c = tried (goal.at.faults_of-faults-requires c).In_ok-count

pub returns-then-field : goal.returns-then-field
returns-then-field c =
    ap (λ (x : Answer (List Verdict)). shown (within listed x))
    (kept_34 (tried (goal.at.returns-then-field c).In_ok-count) c.args.bundle.now c.faults_of-faults.ensures
    c.if-field.true)

pub returns-then-place : goal.returns-then-place
returns-then-place c =
    ap (λ (x : Answer (List Verdict)). shown (within listed x))
    (kept_35 (tried (goal.at.returns-then-place c).In_ok-count) c.args.bundle.now c.faults_of-faults.ensures
    c.if-field.false c.if-place.true)

pub walk-verdicts-requires : goal.walk-verdicts-requires
walk-verdicts-requires c =
    walkable-kept (tried (goal.at.walk-verdicts-requires c).In_ok-count) c.args.bundle.now c.faults_of-faults.ensures
    c.if-field.false c.if-place.false

pub returns : goal.returns
returns c =
    rw c.walk-verdicts.ensures
    (kept-reads (tried (goal.at.returns c).In_ok-count) c.args.bundle.now c.faults_of-faults.ensures
    c.if-field.false c.if-place.false)
