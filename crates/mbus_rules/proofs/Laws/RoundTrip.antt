-- Demand 2 for lines: every accepted line is what is written for its reading, and every telegram that can be written reads back as itself.
use Prim.Native.Nat.{ℕ, ◌≤◌}
use mathlib.Core.Bool.{true, false, true≢false}
use mathlib.Core.List.{List, [], ◌∷◌, map}
use mathlib.Core.Logic.{◌↔◌}
use mathlib.Core.Path.{◌≡◌, refl, sym, ap, ◌∙◌}
use native.Mathlib.Omega.{arith}
use borrow.Author.Tests.{ne_eqb, le-ltb}
use lib.Dec.{ltb, eqb}
use lib.ListN.{length, length-map}
use Rattle.mbus_rules.specs.declared.Kind.TheVariants.{Data}
use Rattle.mbus_rules.specs.declared.Telegram.{Telegram}
use Rattle.base_rules.specs.Lists.{at, any}
use Rattle.base_characters.specs.Characters.{over, odd, byte_of, carrier}
use Rattle.base_rules.specs.Answers.{reads, refusal}
use Rattle.mbus_rules.specs.Lines.{read_body, read_frame, read_line, Accepted}
use Rattle.mbus_rules.specs.Writing.{entries_of, bytes_of_kind, line_of, longest, wrong_data, wrong_for, unwritable, write_line}
use Rattle.base_rules.proofs.Laws.TestLaws.{none, all_passed, all_passing}
use Rattle.base_rules.proofs.Laws.Tests.{by_test}
use Rattle.base_characters.proofs.Laws.CharacterLaws.{bytes_of_lem, even_line, Carried, carried}
use Rattle.mbus_rules.proofs.Laws.LineLaws.{Round, frame_round, Reads, kind_reads, data_length, good_data, kind_length}
use Rattle.mbus_rules.specs.TelegramSizes.{Sized}

-- Every accepted line equals what is written for its reading, to the character, and its reading can be written.
pub record Rewritten (s : List ℕ) (t : Telegram) : Type 0 where
  pub same : s ≡ line_of t
  pub writable : unwritable t ≡ false
  pub sized : Sized t

pub read_then_write : (s : List ℕ) (t : Telegram) → read_line s ≡ reads t → Rewritten s t
unfolding read_line line_of
read_then_write s t r =
    let k = all_passed ((1, eqb (length s) 0) ∷ (2, any over s) ∷ (3, any odd s) ∷ []) (read_frame read_body (map byte_of s)) r in
    let o : Round (map byte_of s) t = frame_round (map byte_of s) t (bytes_of_lem s) k.1 in
    record { same = even_line s k.0.1.0 k.0.1.1.0 ∙ ap (map carrier) o.back; writable = o.writable; sized = o.sized }

-- Every telegram that can be written reads back as itself.
pub write_then_read : (t : Telegram) → Sized t → unwritable t ≡ false → read_line (line_of t) ≡ reads t
unfolding read_line line_of unwritable
write_then_read t z w =
    let b : List ℕ = bytes_of_kind t.kind t in
    let r : Reads b t = kind_reads t t.kind refl z w in
    let c : Carried b = carried b r.bytes in
    let n : length (map carrier b) ≡ length b = length-map b carrier in
    all_passing ((1, eqb (length (map carrier b)) 0) ∷ (2, any over (map carrier b)) ∷ (3, any odd (map carrier b)) ∷ [])
    (read_frame read_body (map byte_of (map carrier b)))
    (ne_eqb (length (map carrier b)) 0 (omega (arith, r.begun)), (c.range, (c.even, tt)))
    ∙ ap (read_frame read_body) c.back ∙ r.back

-- 20 as 01 has it: no accepted line reads as this telegram.
pub refusal_20 : (t : Telegram) → Sized t → (unwritable t ≡ true) ↔ ((s : List ℕ) → read_line s ≡ reads t → ⊥)
refusal_20 t z = (
  λ w s r. true≢false (sym w ∙ (read_then_write s t r).writable),
  λ none. by_test (unwritable t) (λ w. w) (λ w. absurd (none (line_of t) (write_then_read t z w))),
)

-- For a telegram that can be written there is exactly one accepted line.
pub one_line : (t : Telegram) → Sized t → unwritable t ≡ false → (read_line (line_of t) ≡ reads t) × ((s : List ℕ) → read_line s ≡ reads t → s ≡ line_of t)
one_line t z w = (write_then_read t z w, λ s r. (read_then_write s t r).same)

-- A line is accepted exactly where it is what is written for a telegram that can be written.
pub accepted_lines : (s : List ℕ) → Accepted s ↔ ((t : Telegram) × Sized t × (unwritable t ≡ false) × (s ≡ line_of t))
accepted_lines s = (
  λ a. let r : Rewritten s a.0 = read_then_write s a.0 a.1 in (a.0, r.sized, r.writable, r.same),
  λ w. (w.0, ap read_line w.3 ∙ write_then_read w.0 w.1 w.2),
)

-- A telegram that can be written is written, where the places are enough; so an accepted line, read and written, gives the same characters.
pub enough_places : (t : Telegram) (places : ℕ) → unwritable t ≡ false → length (line_of t) ≤ places → write_line t places ≡ reads (line_of t)
enough_places t places u h = rw (u, le-ltb places (length (line_of t)) h)

pub written_again : (s : List ℕ) (t : Telegram) (places : ℕ) → read_line s ≡ reads t → length s ≤ places → write_line t places ≡ reads s
written_again s t places r h =
    let again = read_then_write s t r in
    enough_places t places again.writable (rw (← again.same) h) ∙ ap reads (sym again.same)

-- Within 20 and 21 the lower goes first.
pub lower_first : (t : Telegram) (places : ℕ) → unwritable t ≡ true → write_line t places ≡ refusal 20
lower_first t places w = rw w

-- L runs from 35 to 83.
pub data_lengths : (t : Telegram) → wrong_for Data t ≡ false → (35 ≤ at (bytes_of_kind Data t) 1) × (at (bytes_of_kind Data t) 1 ≤ 83)
data_lengths t w =
    let k = none (ltb 0 t.method) (wrong_data t ∷ []) w in
    data_length t.address t.header (entries_of t) (good_data t k.1.0).good

-- No line is longer than the longest.
pub longest_line : (t : Telegram) → unwritable t ≡ false → length (line_of t) ≤ longest
unfolding unwritable line_of
longest_line t w = rw (length-map (bytes_of_kind t.kind t) carrier) (kind_length t t.kind w)
