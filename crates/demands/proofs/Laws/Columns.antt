-- Proofs of the statements of specs/Columns.
use Prim.Native.Nat.{ℕ}
use mathlib.Core.List.{List}
use mathlib.Core.Bool.{true≢false}
use mathlib.Core.Path.{◌≡◌, refl, sym, ◌∙◌}
use borrow.Author.Tests.{eq-eqb, eqb-true}
use Rattle.base_rules.specs.Answers.{reads}
use Rattle.base_rules.specs.Bytes.{Bytes}
use Rattle.base_characters.specs.Characters.{chars}
use Rattle.base_rules.specs.Lists.{any}
use Rattle.base_numbers.specs.Numbers.{number}
use Rattle.bundle_rows.specs.Rows.{rows_of, blank_row}
use Rattle.bundle_check.specs.Bundles.{count_of, check_of}
use Rattle.bundle_check.specs.Walks.{some_wrong, end_of}
use Rattle.bundle_check.proofs.Laws.Accepted.{accepted_sound}
use Rattle.bundle_columns.specs.Lookups.{in_front, has_position, next_at}
use Rattle.bundle_columns.proofs.Laws.Whole as wholes
use Rattle.bundle_columns.proofs.Laws.AsBefore as looking
use Rattle.demands.proofs.Laws.Bundle.{byte_at}
use Rattle.demands.specs.Columns.{ListsKeepTheRows, ListsWritten, ContentsRead, ListsInOrder, RecordReadBack, RowAsBefore, BodyAsBefore, NextAsBefore}
use Rattle.demands.specs.Columns.{NextIsFirst, NextNoneOnly, ExampleLookedUp}

pub lists_keep_the_rows : ListsKeepTheRows
lists_keep_the_rows = wholes.kept_whole

pub lists_written : ListsWritten
lists_written b n bytes = wholes.written_again b n (byte_at b bytes)

pub contents_read : ContentsRead
contents_read = wholes.read_again

pub lists_in_order : ListsInOrder
lists_in_order b n bytes e = wholes.columns_in_order b (count_of b) (byte_at b bytes) (accepted_sound b n e).0.few

pub record_read_back : RecordReadBack
record_read_back = wholes.record_back

module _ (b : List ℕ) (n : ℕ) (bytes : Bytes b) (accepted : check_of b ≡ reads n) where
  pub row_as_before : RowAsBefore b n bytes accepted
  row_as_before = looking.row_as_before b n (byte_at b bytes) accepted

  pub body_as_before : BodyAsBefore b n bytes accepted
  body_as_before = looking.body_as_before b n (byte_at b bytes) accepted

  pub next_as_before : NextAsBefore b n bytes accepted
  next_as_before = looking.next_as_before b n (byte_at b bytes) accepted

pub next_is_first : NextIsFirst
next_is_first rows position from i e =
    let p = looking.first_found (has_position position) blank_row rows from i e in
    (p.0, p.1, eqb-true _ _ p.2, λ j l h same. true≢false (sym (eq-eqb _ _ same) ∙ p.3 j l h))

pub next_none_only : NextNoneOnly
next_none_only rows position from e j l h same =
    true≢false (sym (eq-eqb _ _ same) ∙ looking.first_none (has_position position) blank_row rows from e j l h)

pub example_looked_up : ExampleLookedUp
unfolding next_at in_front check_of number rows_of some_wrong end_of chars any
example_looked_up = (refl, refl, refl)
