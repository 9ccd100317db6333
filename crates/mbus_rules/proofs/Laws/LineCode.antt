-- Demand 3 for 01's lines: whatever the rules of the body are, and then for the lines that 01 accepts.
use Prim.Native.Nat.{ℕ, ◌≤◌}
use mathlib.Core.Bool.{true, true≢false}
use mathlib.Core.List.{List, [], ◌++◌, map, flatten}
use mathlib.Core.Path.{◌≡◌}
use lib.Dec.{eqb}
use lib.ListN.{length}
use Rattle.base_rules.specs.Lists.{any}
use Rattle.base_characters.specs.Characters.{over, odd, byte_of}
use Rattle.base_rules.specs.Answers.{Answer, reads, refusal}
use Rattle.mbus_rules.specs.Lines.{wrong_start, wrong_count, wrong_lengths, wrong_end, wrong_sum, read_frame, read_with, read_body, read_line, Accepted}
use Rattle.base_characters.specs.Flips.{Place, flips, Places}
use Rattle.base_characters.proofs.Laws.Codes
use Rattle.base_characters.proofs.Laws.Codes.{Sound, Code}
use Rattle.base_characters.proofs.Laws.Sent
use Rattle.base_rules.specs.Each.{Each}
use Rattle.base_rules.proofs.Laws.Tests.{passed}
use Rattle.mbus_rules.proofs.Laws.Frames.{Framed, framed_byte, framed_longer}

-- ---- what is asked, for any rules of the body

pub framed : {A : Type 0} (body : List ℕ → Answer A) (b : List ℕ) (a : A) → read_frame body b ≡ reads a → Framed b
framed body b a e =
    let start = passed 4 (wrong_start b) _ a e in
    let count = passed 5 (wrong_count b) _ a start.1 in
    let lengths = passed 6 (wrong_lengths b) _ a count.1 in
    let end = passed 7 (wrong_end b) _ a lengths.1 in
    let sum = passed 8 (wrong_sum b) _ a end.1 in
    record { start = start.0; count = count.0; lengths = lengths.0; end = end.0; sum = sum.0 }

sound : {A : Type 0} (body : List ℕ → Answer A) (s : List ℕ) (a : A) → read_with body s ≡ reads a → Sound Framed s
sound body s a e =
    let full = passed 1 (eqb (length s) 0) _ a e in
    let in_range = passed 2 (any over s) _ a full.1 in
    let even = passed 3 (any odd s) _ a in_range.1 in
    record { in_range = in_range.0; even = even.0; bytes = framed body (map byte_of s) a even.1 }

-- accepted, with any rules of the body
abbrev pub AcceptedBy : {A : Type 0} → (List ℕ → Answer A) → List ℕ → Type 0
AcceptedBy {A} body s = (a : A) × (read_with body s ≡ reads a)

-- Whatever the body's rules are, what is asked holds.
pub code_with : {A : Type 0} (body : List ℕ → Answer A) → Code (AcceptedBy body) Framed
code_with body = record {
  sound = λ s r. sound body s r.0 r.1;
  one_byte = framed_byte;
  no_longer = framed_longer;
  not_empty = λ r. true≢false (passed 1 true (refusal 1) r.0 r.1).0;
}

pub line_code : Code Accepted Framed
unfolding read_line
line_code = code_with read_body

-- ---- demand 3

-- For every accepted line and every one, two or three different places within it, the line flipped there is not accepted.
pub flips_refused : (s : List ℕ) (ps : List Place) → Accepted s → Places s ps → 1 ≤ length ps → length ps ≤ 3 → ¬ Accepted (flips ps s)
flips_refused = Codes.flips_refused line_code

-- So a received line with at most three flips that is accepted is the line that was sent.
pub accepted_is_sent : (s : List ℕ) (ps : List Place) → Accepted s → Places s ps → length ps ≤ 3 → Accepted (flips ps s) → flips ps s ≡ s
accepted_is_sent = Sent.accepted_is_sent line_code

-- No accepted line is a proper beginning of another.
pub no_proper_beginning : (s t : List ℕ) → Accepted s → Accepted (s ++ t) → t ≡ []
no_proper_beginning = Codes.no_proper_beginning line_code

-- Lists of accepted lines whose joins are equal are equal.
pub one_cut : (ss ts : List (List ℕ)) → Each Accepted ss → Each Accepted ts → flatten ss ≡ flatten ts → ss ≡ ts
one_cut = Codes.one_cut line_code
