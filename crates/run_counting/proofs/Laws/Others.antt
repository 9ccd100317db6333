-- What has no part in the answers: rows of other positions and wake rows; and what stands where in a list of rows.
use Prim.Native.Nat.{ℕ}
use mathlib.Core.Bool.{Bool, true, false}
use mathlib.Core.List.{List, [], ◌∷◌, ◌++◌, append_assoc, append-nil}
use mathlib.Core.Path.{◌≡◌, refl, sym, ap, ◌∙◌}
use Rattle.base_rules.specs.Lists.{any}
use Rattle.base_rules.proofs.Laws.Tests.{neither}
use Rattle.bundle_check.specs.Records.{Recorded}
use Rattle.bundle_check.specs.Walks.{end_of}
use Rattle.run_counting.specs.Counting.{is_sent, looked, counts, onward, kept_if, looked_at, counted_after, answers_of}

kept_append : {A : Type 0} (t : Bool) (x : A) (l m : List A) → kept_if t x l ++ m ≡ kept_if t x (l ++ m)
kept_append true x l m = refl
kept_append false x l m = refl

looked_append : (position : ℕ) (l m : List Recorded) → looked_at position (l ++ m) ≡ looked_at position l ++ looked_at position m
unfolding looked_at
looked_append position [] m = refl
looked_append position (k ∷ l) m =
    ap (kept_if (looked position k) k) (looked_append position l m) ∙ sym (kept_append (looked position k) k (looked_at position l) (looked_at position m))

-- a row that is not looked at changes nothing, wherever it stands
pub row_left_out : (position : ℕ) (front : List Recorded) (k : Recorded) (later : List Recorded) → looked position k ≡ false
    → answers_of position (front ++ (k ∷ later)) ≡ answers_of position (front ++ later)
unfolding looked_at
row_left_out position front k later e =
    ap (counted_after [])
    (looked_append position front (k ∷ later)
    ∙ ap (λ (t : Bool). looked_at position front ++ kept_if t k (looked_at position later)) e
    ∙ sym (looked_append position front later))

-- the answers among some rows, and then among those behind them
pub counted_append : (stretch l m : List Recorded) → counted_after stretch (l ++ m) ≡ counted_after stretch l ++ counted_after (end_of onward stretch l) m
unfolding counted_after end_of
counted_append stretch [] m = refl
counted_append stretch (k ∷ l) m =
    ap (kept_if (counts stretch k) k) (counted_append (onward stretch k) l m)
    ∙ sym (kept_append (counts stretch k) k (counted_after (onward stretch k) l) (counted_after (end_of onward (onward stretch k) l) m))

-- behind a sent row and rows heard since it, the stretch is just these
pub stretch_heard : (stretch since : List Recorded) → any is_sent since ≡ false → end_of onward stretch since ≡ stretch ++ since
unfolding end_of any
stretch_heard stretch [] e = sym (append-nil stretch)
stretch_heard stretch (k ∷ since) e =
    let p = neither (is_sent k) (any is_sent since) e in
    let one : onward stretch k ≡ stretch ++ (k ∷ []) = rw p.0 in
    ap (λ (l : List Recorded). end_of onward l since) one ∙ stretch_heard (stretch ++ (k ∷ [])) since p.1 ∙ append_assoc stretch (k ∷ []) since

end_append : (stretch l m : List Recorded) → end_of onward stretch (l ++ m) ≡ end_of onward (end_of onward stretch l) m
unfolding end_of
end_append stretch [] m = refl
end_append stretch (k ∷ l) m = end_append (onward stretch k) l m

pub stretch_since : (front : List Recorded) (send : Recorded) (since : List Recorded) → is_sent send ≡ true → any is_sent since ≡ false
    → end_of onward [] (front ++ (send ∷ since)) ≡ send ∷ since
unfolding end_of
stretch_since front send since s e =
    let one : onward (end_of onward [] front) send ≡ send ∷ [] = rw s in
    end_append [] front (send ∷ since) ∙ ap (λ (l : List Recorded). end_of onward l since) one ∙ stretch_heard (send ∷ []) since e
