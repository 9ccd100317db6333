-- `mbus_length::line_length` meets its contract: each way out by its law.
use Rattle.std.proofs.Common.{◌≡◌, true, false, ◌&&◌, eqb, ltb, length, sym, ◌∙◌, eq-eqb, ne_eqb, lt-ltb, le-ltb}
use Rattle.mbus_length.proofs.Laws.Wholes.{whole_none, whole_refused, whole-unsound, whole-lacking}
use Rattle.mbus_length.proofs.line_length.Goals.{Joined-else-start-eq-LONG, else-start-eq-LONG-via-then-start-eq-LONG+else-first-lt2, else-start-eq-LONG-via-else-start-eq-LONG}
use Rattle.mbus_length.proofs.line_length.Goals as goal

pub returns-then-is_empty : goal.returns-then-is_empty
returns-then-is_empty c = whole_none _ (sym c.is_empty.ensures ∙ c.if-is_empty.true)

pub returns-then-count-eq0 : goal.returns-then-count-eq0
returns-then-count-eq0 c = whole_refused _ (sym c.is_empty.ensures ∙ c.if-is_empty.false) c.left_by-count.ensures c.if-count-eq0.true

pub returns-then-unsound_in : goal.returns-then-unsound_in
returns-then-unsound_in c =
    whole-unsound _ (sym c.is_empty.ensures ∙ c.if-is_empty.false) c.left_by-count.ensures c.if-count-eq0.false
    c.unsound_in.ensures c.if-unsound_in.true

-- the second byte is there, or is not needed
told : (c : Joined-else-start-eq-LONG) → (eqb c.low_at-start.result 0x68 && ltb (length c.args.first.now) 2) ≡ false
told c =
    elim c.else-start-eq-LONG.branch [
      | else-start-eq-LONG-via-then-start-eq-LONG+else-first-lt2 w ↦ rw (eq-eqb _ _ w.if-start-eq-LONG.true, le-ltb _ _ w.if-first-lt2.false)
      | else-start-eq-LONG-via-else-start-eq-LONG w ↦ rw (ne_eqb _ _ w.if-start-eq-LONG.false)
    ]

pub returns-then-first-lt2 : goal.returns-then-first-lt2
returns-then-first-lt2 c =
    whole-lacking _ (sym c.is_empty.ensures ∙ c.if-is_empty.false) c.left_by-count.ensures
    c.if-count-eq0.false c.unsound_in.ensures c.if-unsound_in.false
    c.low_at-start.ensures {lacks = true} (rw (eq-eqb _ _ c.if-start-eq-LONG.true, lt-ltb _ _ c.if-first-lt2.true))

pub returns : goal.returns
returns c =
    whole-lacking _ (sym c.is_empty.ensures ∙ c.if-is_empty.false) c.left_by-count.ensures
    c.if-count-eq0.false c.unsound_in.ensures c.if-unsound_in.false
    c.low_at-start.ensures {lacks = false} (told c)
