-- What salvaging answers and leaves, by what trying the rows found.
use Prim.Native.Nat.{ℕ, ◌+◌, ◌-◌, ◌≤◌}
use mathlib.Core.Bool.{true, false}
use mathlib.Core.List.{List}
use mathlib.Core.Path.{◌≡◌, refl, sym, ap, ap₂, ◌∙◌}
use native.Mathlib.Omega.{arith}
use lib.Dec.{ltb}
use lib.ListN.{length, take, drop}
use Rattle.std.specs.Prelude.{Result, Ok, Err}
use Rattle.base_rules.specs.Answers.{Answer, reads, refusal}
use Rattle.base_rules.specs.declared.refusals.Refusal.{Refusal}
use Rattle.base_rules.specs.Shown.{shown, refused_by}
use Rattle.base_lent.specs.Copying.{laid}
use Rattle.base_lent.specs.Lent.{stored}
use Rattle.bundle_rows.specs.Rows.{most_rows, rows_of, first_offset}
use Rattle.bundle_rows.proofs.Laws.RowLaws.{length_rows}
use Rattle.bundle_check.specs.Bundles.{most_bytes, count_of, opened}
use Rattle.bundle_check.specs.Records.{records_of, bundle_of}
use Rattle.bundle_check.specs.RowRules.{bodies_end, wrong_places}
use Rattle.bundle_check.proofs.Laws.Opened.{opened_whole, opened_next, opened_refused}
use Rattle.bundle_salvage.specs.declared.Salvaged.{Salvaged}
use Rattle.bundle_salvage.specs.declared.leading.Leading.{Leading}
use Rattle.bundle_salvage.specs.Salvaging.{rule_told, new_length, tell_of, leading_rows, salvage_of, salvage_into, new_bundle}
use Rattle.bundle_salvage.specs.Shown.{Salvages}
use Rattle.bundle_salvage.specs.Writing.{ContentsWhole, InPlace}
use Rattle.bundle_salvage.proofs.Laws.Leading.{leading_few, leading_keep, leading_end, keep_places}
use Rattle.bundle_salvage.proofs.Laws.NewBundle.{end_there}
use Rattle.bundle_salvage.proofs.Laws.Parts.{rows_taken}

-- by what is answered
answered : {b out after : List ℕ} {r : Result Salvaged Refusal} (a : Answer Salvaged) → salvage_into b out ≡ a → r ≡ shown a → after ≡ stored (new_bundle b) out a
    → Salvages b out r after
answered {b} {out} a e f g = record { answer = f ∙ ap shown (sym e); left = g ∙ ap (stored (new_bundle b) out) (sym e) }

-- a refusal of the contents
pub salvage_refused : (b out : List ℕ) (k : ℕ) → opened b (reads (count_of b)) ≡ refusal k → Salvages b out (Err (refused_by k)) out
unfolding salvage_of
salvage_refused b out k e =
    answered (refusal k) (rw (opened_refused b (reads (tell_of (count_of b) b (leading_rows (count_of b) b))) k e)) refl refl

module _ (b : List ℕ) (n : ℕ) (e : opened b (reads (count_of b)) ≡ reads n) where
  pub contents_whole : ContentsWhole b n
  contents_whole = let o = opened_whole b n e in record {
    fits = o.fits;
    few = omega (arith, o.count, o.few);
    there = omega (arith, o.count, o.there);
  }

  pub count_is : n ≡ count_of b
  count_is = (opened_whole b n e).count

  module _ {l : Leading} (f : l ≡ leading_rows n b) where
    pub kept_few : l.kept ≤ n
    kept_few = rw f (omega (arith, leading_few b 0 (first_offset n) (rows_of n (drop 2 b)), length_rows n (drop 2 b)))

    kept_rows : take l.kept (rows_of n (drop 2 b)) ≡ rows_of l.kept (drop 2 b)
    kept_rows = rows_taken l.kept n (drop 2 b) kept_few

    pub kept_in_place : InPlace b l.kept n
    kept_in_place = record {
      whole = contents_whole;
      part = kept_few;
      places =
          ap (wrong_places (length b) (first_offset n)) (sym kept_rows)
          ∙ rw f (keep_places b 0 (first_offset n) (take (leading_rows n b).kept (rows_of n (drop 2 b))) (leading_keep b 0 (first_offset n) (rows_of n
          (drop 2 b))));
    }

    pub end_is : l.end ≡ bodies_end (first_offset n) (rows_of l.kept (drop 2 b))
    end_is = rw f (leading_end b 0 (first_offset n) (rows_of n (drop 2 b))) ∙ ap (bodies_end (first_offset n)) kept_rows

    pub end_inside : (first_offset n ≤ l.end) × (l.end ≤ length b)
    end_inside = let t = end_there b l.kept n kept_in_place in (omega (arith, end_is, t.0), omega (arith, end_is, t.1))

    pub salvage_is : salvage_of b ≡ reads (tell_of n b l)
    unfolding salvage_of
    salvage_is =
        opened_next b n e (reads (tell_of (count_of b) b (leading_rows (count_of b) b)))
        ∙ ap (λ (m : ℕ). reads (tell_of m b (leading_rows m b))) (sym count_is) ∙ ap (λ (x : Leading). reads (tell_of n b x)) (sym f)

    module _ (out : List ℕ) where
      pub salvage_short : ltb (length out) (new_length l.kept n l.end) ≡ true → Salvages b out (Err (refused_by 38)) out
      salvage_short s = answered (refusal 38) (rw (salvage_is, s)) refl refl

      pub salvage_done : ltb (length out) (new_length l.kept n l.end) ≡ false → {rule : ℕ} {after : List ℕ}
          → rule ≡ rule_told l.rule l.kept n l.end (length b) → after ≡ laid out 0 (bundle_of (take l.kept (records_of b)))
          → Salvages b out (Ok (record { kept = l.kept; dropped = n - l.kept; rule = rule; filled = new_length l.kept n l.end })) after
      salvage_done s {rule} t w =
          answered (reads (tell_of n b l)) (rw (salvage_is, s))
          (ap (λ (x : ℕ). Ok (record { kept = l.kept; dropped = n - l.kept; rule = x; filled = new_length l.kept n l.end })) t) w
