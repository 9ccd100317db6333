-- What a shape leaves to be read: of a data shape the header and the entries, of others nothing.
use Rattle.std.proofs.Common.{◌≡◌, ℕ, ◌-◌, ◌<◌, ◌≤◌, Bool, true, false, cond, not, eqb, leb, List, [], ◌∷◌, length, take, drop, sym, refl, ap, ◌∙◌, subst, arith, length-take, drop-drop, lt-ltb, eqb-true, leb-true}
use borrow.Author.Tests.{not-false}
use Rattle.mbus_rules.specs.declared.Telegram.{Telegram}
use Rattle.mbus_rules.specs.declared.Request.{Request}
use Rattle.mbus_rules.specs.declared.Request.TheVariants.{Read, Enter, Leave}
use Rattle.mbus_rules.specs.declared.Outline.{Outline}
use Rattle.mbus_rules.specs.declared.Outline.TheVariants.{Refused, Ack, Asks, Data}
use Rattle.base_rules.specs.Lists.{at}
use Rattle.base_rules.specs.Answers.{Answer, reads, refusal, refuse}
use Rattle.mbus_rules.specs.declared.Kind.TheVariants as kinds
use Rattle.mbus_rules.specs.Telegrams.{bare, ack, read_of, enter_of, leave_of}
use Rattle.mbus_rules.specs.Lines.{field, is_ack, is_short, is_long, is_command, is_data, command_of, wrong_start, wrong_count, wrong_lengths, wrong_end, wrong_sum}
use Rattle.mbus_rules.specs.Lines.{read_short, read_long, read_data, read_body, read_frame}
use Rattle.base_rules.proofs.Laws.ListLaws.{drop_take}
use Rattle.base_rules.proofs.Laws.Tests.{by_test}
use Rattle.base_rules.proofs.Laws.TestLaws.{every}
use Rattle.mbus_rules.specs.Outlines.{outlined}
use Rattle.mbus_shape.specs.Shapes.{shape_long, shape_body, asked_of, whole_wrong, frame_by}

-- the header and the entries of a data shape, as the code cuts them out
abbrev pub part : List ℕ → List ℕ
part b = take (length b - 2 - 7) (drop 7 b)

-- what is read, by the shape
abbrev pub Left : List ℕ → Answer Telegram → Outline → Type 0
Left b x (Refused n) = x ≡ refusal n
Left b x Ack = x ≡ reads ack
Left b x (Asks q) = x ≡ reads (asked_of q)
Left b x (Data a) = (21 ≤ length b) × (x ≡ read_data a (part b))

left_refuse : (b : List ℕ) (n : ℕ) (test : Bool) (x y : Answer Telegram) → (test ≡ false → Left b x (outlined y)) → Left b (refuse n test x)
    (outlined (refuse n test y))
left_refuse b n true x y h = refl
left_refuse b n false x y h = h refl

left_short : (b f : List ℕ) → Left b (read_short f) (outlined (read_short f))
left_short b f = left_refuse b 9 (not (eqb (at f 0) 0x5B)) (reads (read_of (at f 1))) (reads (read_of (at f 1))) (λ e. refl)

left_command : (b f : List ℕ) → Left b (reads (command_of f)) (outlined (reads (command_of f)))
left_command b f = go (eqb (at f 3) 0x00)
  where
    go : (t : Bool) → Left b (reads (cond t (leave_of (at f 1)) (enter_of (at f 1) (at f 3))))
        (outlined (reads (cond t (leave_of (at f 1)) (enter_of (at f 1) (at f 3)))))
    go true = refl
    go false = refl

module _ (b : List ℕ) (long : is_long b ≡ true) where
  field_is : field b ≡ take (length b - 6) (drop 4 b)
  field_is = rw long

  -- past 9 a data telegram has 15 bytes from C on
  fifteen : is_data (field b) ≡ true → 15 ≤ length (field b)
  fifteen e = leb-true 15 (length (field b)) (every (leb 15 (length (field b))) (eqb (at (field b) 0) 0x08 ∷ eqb (at (field b) 2) 0x72 ∷ []) e).0

  part_is : drop 3 (field b) ≡ part b
  part_is =
      let nine : length b - 6 - 3 ≡ length b - 2 - 7 = omega arith in
      ap (drop 3) field_is ∙ drop_take 3 (length b - 6) (drop 4 b) ∙ rw (nine, drop-drop 3 4 b)

  left_data : is_data (field b) ≡ true → Left b (read_data (at (field b) 1) (drop 3 (field b))) (Data (at (field b) 1))
  left_data e =
      let most : length (field b) ≤ length b - 6 = rw field_is (omega (arith, length-take (length b - 6) (drop 4 b))) in
      (omega (arith, fifteen e), ap (read_data (at (field b) 1)) part_is)

  left_long : Left b (read_long (field b)) (outlined (shape_long (field b)))
  left_long = go (is_command (field b))
    where
      go : (t : Bool)
          → Left b (cond t (reads (command_of (field b))) (refuse 9 (not (is_data (field b))) (read_data (at (field b) 1) (drop 3 (field b)))))
          (outlined (cond t (reads (command_of (field b))) (refuse 9 (not (is_data (field b))) (reads (bare kinds.Data (at (field b) 1) 0)))))
      go true = left_command b (field b)
      go false =
          left_refuse b 9 (not (is_data (field b))) (read_data (at (field b) 1) (drop 3 (field b))) (reads (bare kinds.Data (at (field b) 1) 0))
          (λ e. left_data (not-false (is_data (field b)) e))

left_body : (b : List ℕ) → wrong_start b ≡ false → Left b (read_body b) (outlined (shape_body b))
unfolding read_body shape_body
left_body b start = go (is_ack b) (is_short b) refl refl
  where
    go : (t u : Bool) → is_ack b ≡ t → is_short b ≡ u
        → Left b (cond t (reads ack) (cond u (read_short (field b)) (read_long (field b))))
        (outlined (cond t (reads ack) (cond u (read_short (field b)) (shape_long (field b)))))
    go true u e f = refl
    go false true e f = left_short b (field b)
    go false false e f = left_long b (not-false (is_long b) (rw (e, f) at start))

left_chain : (b : List ℕ) (x y : Answer Telegram) (start count lengths end sum : Bool) → (start ≡ false → Left b x (outlined y))
    → Left b (refuse 4 start (refuse 5 count (refuse 6 lengths (refuse 7 end (refuse 8 sum x)))))
    (outlined (refuse 4 start (refuse 5 count (refuse 6 lengths (refuse 7 end (refuse 8 sum y))))))
left_chain b x y true count lengths end sum h = refl
left_chain b x y false true lengths end sum h = refl
left_chain b x y false false true end sum h = refl
left_chain b x y false false false true sum h = refl
left_chain b x y false false false false true h = refl
left_chain b x y false false false false false h = h refl

pub left : (b : List ℕ) (sum : ℕ) → Left b (frame_by sum read_body b) (outlined (frame_by sum shape_body b))
left b sum =
    left_chain b (read_body b) (shape_body b) (wrong_start b) (wrong_count b) (wrong_lengths b) (wrong_end b) (cond (is_long b) (whole_wrong sum b) (wrong_sum b))
    (left_body b)

-- A shape by which nothing is left to be read is the outline, and so it is where there are too few bytes for data.
outlined_asked : (q : Request) → outlined (reads (asked_of q)) ≡ Asks q
outlined_asked (Read a) = refl
outlined_asked (Enter a s) = refl
outlined_asked (Leave a) = refl

outlined_left : (b : List ℕ) (x : Answer Telegram) (v : Outline) → length b < 21 → Left b x v → v ≡ outlined x
outlined_left b x (Refused n) h e = rw e
outlined_left b x Ack h e = rw e
outlined_left b x (Asks q) h e = rw e (sym (outlined_asked q))
outlined_left b x (Data a) h e = absurd (omega arith)

-- what is too short for the long form has no header and no entries
pub brief_few : (b : List ℕ) → length b < 6 → outlined (refuse 5 (is_long b) (read_frame shape_body b)) ≡ outlined (read_frame read_body b)
brief_few b h =
    by_test (is_long b) (λ e. rw (eqb-true (at b 0) 0x68 e, lt-ltb (length b) 6 h))
    (λ e. ap (λ (long : Bool). outlined (refuse 5 long (read_frame shape_body b))) e
    ∙ outlined_left b (read_frame read_body b) (outlined (read_frame shape_body b)) (omega arith)
    (left_chain b (read_body b) (shape_body b) (wrong_start b) (wrong_count b) (wrong_lengths b) (wrong_end b) (wrong_sum b) (left_body b)))

-- what is left, by the shape that the code found
pub left_by : (b : List ℕ) (sum : ℕ) {v w : Outline} → v ≡ outlined (frame_by sum shape_body b) → v ≡ w → Left b (frame_by sum read_body b) w
left_by b sum e o = subst (λ (w : Outline). Left b (frame_by sum read_body b) w) (sym e ∙ o) (left b sum)

pub asks_left : (b : List ℕ) (sum : ℕ) (q : Request) → Left b (frame_by sum read_body b) (Asks q) → Asks q ≡ outlined (frame_by sum read_body b)
asks_left b sum q e = rw e (sym (outlined_asked q))
