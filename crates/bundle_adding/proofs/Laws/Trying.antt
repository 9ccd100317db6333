-- What trying a row more answers, by the tests of the old bundle and of the new row.
use Prim.Native.Nat.{ℕ, ◌+◌, ◌≤◌}
use mathlib.Core.Bool.{Bool, true, false}
use mathlib.Core.List.{List, [], ◌∷◌}
use mathlib.Core.Path.{◌≡◌, refl, sym}
use borrow.Author.Tests.{le-ltb, ltb-false}
use lib.Dec.{ltb}
use lib.ListN.{length, take}
use Rattle.base_rules.specs.Answers.{Answer, reads, refusal, refuse, follow}
use Rattle.base_rules.specs.Lists.{any}
use Rattle.base_rules.proofs.Laws.AnswerLaws.{reads_same}
use Rattle.base_rules.proofs.Laws.TestLaws.{not_refused, all_passed}
use Rattle.base_characters.specs.Characters.{over, chars}
use Rattle.bundle_check.specs.Bundles.{contents_of, check_of}
use Rattle.bundle_check.specs.Records.{Recorded, row_for}
use Rattle.bundle_check.specs.RowRules.{wrong_row}
use Rattle.std.specs.Prelude.{Ok, Err}
use Rattle.base_rules.specs.Shown.{refused_by}
use Rattle.bundle_adding.specs.Adding.{last_time, grown, no_room, add_of}
use Rattle.bundle_adding.specs.Inserting.{try_of, insert_of, buffer_inserted}
use Rattle.bundle_adding.specs.Shown.{Inserts}

-- Adding tries a row that is wrong by its fields, or by a time below that of the last row.
pub add_is : (buffer : List ℕ) (filled : ℕ) (k : Recorded)
    → add_of buffer filled k ≡ try_of (wrong_row (last_time (contents_of (take filled buffer))) (row_for (filled + 12) k)) buffer filled k
unfolding add_of try_of
add_is buffer filled k = refl

-- What is answered: past the buffer, the check's refusal, or what the tests of the new row say.
module _ (wrong : Bool) (buffer : List ℕ) (filled : ℕ) (k : Recorded) where
  pub try_past : ltb (length buffer) filled ≡ true → try_of wrong buffer filled k ≡ refusal 30
  unfolding try_of
  try_past p = rw p

  pub try_refused : (n : ℕ) → filled ≤ length buffer → check_of (take filled buffer) ≡ refusal n → try_of wrong buffer filled k ≡ refusal n
  unfolding try_of
  try_refused n h e = rw (le-ltb (length buffer) filled h, e)

  module _ (n : ℕ) (h : filled ≤ length buffer) (e : check_of (take filled buffer) ≡ reads n) where
    abbrev wide : Bool
    wide = any over (chars k.body)

    pub try_wrong : wrong ≡ true → try_of wrong buffer filled k ≡ refusal 34
    unfolding try_of
    try_wrong p = rw (le-ltb (length buffer) filled h, e, p)

    pub try_wide : wrong ≡ false → wide ≡ true → try_of wrong buffer filled k ≡ refusal 37
    unfolding try_of
    try_wide p q = rw (le-ltb (length buffer) filled h, e, p, q)

    pub try_full : wrong ≡ false → wide ≡ false → no_room buffer n (grown filled k) ≡ true → try_of wrong buffer filled k ≡ refusal 38
    unfolding try_of
    try_full p q r = rw (le-ltb (length buffer) filled h, e, p, q, r)

    pub try_grown : wrong ≡ false → wide ≡ false → no_room buffer n (grown filled k) ≡ false → try_of wrong buffer filled k ≡ reads (grown filled k)
    unfolding try_of
    try_grown p q r = rw (le-ltb (length buffer) filled h, e, p, q, r)

-- ---- what is known where something was put in
pub record Tried (wrong : Bool) (buffer : List ℕ) (filled : ℕ) (k : Recorded) (n : ℕ) : Type 0 where
  pub rows : ℕ
  pub inside : filled ≤ length buffer
  pub old : check_of (take filled buffer) ≡ reads rows
  pub right : wrong ≡ false
  pub range : any over (chars k.body) ≡ false
  pub room : no_room buffer rows (grown filled k) ≡ false
  pub size : n ≡ grown filled k

pub tried : (wrong : Bool) (buffer : List ℕ) (filled : ℕ) (k : Recorded) (n : ℕ) → try_of wrong buffer filled k ≡ reads n → Tried wrong buffer filled k n
unfolding try_of
tried wrong buffer filled k n e = past (ltb (length buffer) filled) refl e
  where
    tests : ℕ → Answer ℕ
    tests m =
        refuse 34 wrong (refuse 37 (any over (chars k.body)) (refuse 38 (no_room buffer m (grown filled k)) (reads (grown filled k))))

    checked : (a : Answer ℕ) → ltb (length buffer) filled ≡ false → check_of (take filled buffer) ≡ a → follow a tests ≡ reads n → Tried wrong buffer filled k n
    checked (refusal m) h o g = absurd (not_refused g)
    checked (reads m) h o g =
        let p =
        all_passed ((34, wrong) ∷ ((37, any over (chars k.body)) ∷ ((38, no_room buffer m (grown filled k)) ∷ []))) (reads (grown filled k)) g in
        record {
          rows = m;
          inside = ltb-false (length buffer) filled h;
          old = o;
          right = p.0.0;
          range = p.0.1.0;
          room = p.0.1.1.0;
          size = sym (reads_same p.1);
        }

    past : (t : Bool) → ltb (length buffer) filled ≡ t → refuse 30 t (follow (check_of (take filled buffer)) tests) ≡ reads n → Tried wrong buffer filled k n
    past true h g = absurd (not_refused g)
    past false h g = checked (check_of (take filled buffer)) h refl g

-- ---- what inserting promises

-- a refusal leaves the buffer as it was
pub inserts_refused : {buffer : List ℕ} {filled : ℕ} {k : Recorded} {n : ℕ} → insert_of buffer filled k ≡ refusal n → Inserts buffer filled k (Err (refused_by n)) buffer
inserts_refused e = record { answers = rw e; leaves = rw e }

-- and what is inserted stands in it
pub inserts_grown : {buffer after : List ℕ} {filled : ℕ} {k : Recorded} {n : ℕ} → insert_of buffer filled k ≡ reads n
    → after ≡ buffer_inserted (reads n) buffer filled k → Inserts buffer filled k (Ok n) after
inserts_grown e f = record { answers = rw e; leaves = rw e f }
