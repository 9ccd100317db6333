-- The order of refusals of a line that is read.
use Prim.Native.Nat.{min, ℕ, ◌+◌, ◌-◌, ◌%◌, ◌<◌, ◌≤◌}
use native.Mathlib.Omega.{arith}
use native.Mathlib.Nat.{min-eq_left, le_refl}
use mathlib.Core.Bool.{Bool, true, false, cond, not, true≢false}
use mathlib.Core.List.{List, [], ◌∷◌}
use mathlib.Core.Logic.{◌↔◌, ◌⊎◌, inl, inr, ⊎_elim}
use mathlib.Core.Path.{◌≡◌, refl, sym, ap, subst, ◌∙◌}
use borrow.Author.Tests.{eqb-false}
use lib.Dec.{leb, eqb}
use lib.ListN.{length, take, drop, length-take, length-drop}
use lib.Seq.{get_or-take, get_or-drop, take-take, drop-drop}
use Rattle.base_rules.specs.Answers.{Answer, reads, refusal, refuse}
use Rattle.base_rules.specs.Lists.{at, any, total}
use Rattle.base_rules.specs.Bytes.{Bytes}
use Rattle.mbus_rules.specs.declared.Telegram.{Telegram}
use lib.Count.{ones_in}
use Rattle.base_characters.specs.Characters.{odd, chars}
use Rattle.base_characters.proofs.Laws.CharacterLaws.{bytes_of_lem}
use Rattle.base_rules.proofs.Laws.ByteLaws.{bytes_take, bytes_drop}
use Rattle.base_rules.proofs.Laws.ListLaws.{drop_take}
use Rattle.base_lent.specs.Lent.{told}
use Rattle.mbus_rules.specs.declared.Kind.{Kind}
use Rattle.mbus_rules.specs.declared.Kind.TheVariants.{Ack, Read, Enter, Leave, Data}
use Rattle.mbus_rules.specs.Entries.{read_entries}
use Rattle.mbus_rules.specs.Headers.{header_of, wrong_header}
use Rattle.mbus_rules.specs.Host.{kind_number, line_number}
use Rattle.mbus_rules.specs.Lines.{is_command, is_data, command_of, read_data, read_long, wrong_count, wrong_lengths, wrong_end, wrong_sum, read_body, read_frame}
use Rattle.mbus_rules.specs.Lines.{read_line}
use Rattle.mbus_rules.specs.TelegramSizes.{Sized}
use Rattle.mbus_rules.specs.Writing.{line_of, unwritable, write_line}
use Rattle.mbus_rules.proofs.Laws.RoundTrip.{refusal_20, one_line}
use Rattle.base_rules.proofs.Laws.Tests.{by_test}
use Rattle.mbus_rules.specs.Telegrams.{ack, read_of, data_of}
use Rattle.demands.specs.Orders.{Table, NumberOrder, only_if}
use Rattle.demands.specs.LineOrder.{OtherCount, OtherLengths, OtherEnd, OtherSum, OtherControl, IsCommand, IsData, entry_part, entries_table}
use Rattle.demands.specs.LineOrder.{data_table, frame_table, line_table}
use Rattle.demands.specs.LineOrder.{bytes_in, LineOrder, HostOrder, write_table, WriteOrder, LateParity}
use Rattle.demands.proofs.Laws.Orders.{Decides, surely, is_most, is_and_so, is_same, is_less, is_not, is_or, is_one, so_if, Tried, hit, miss, try}
use Rattle.demands.proofs.Laws.Orders.{not_asked, only_where, order_of, end}
use Rattle.demands.proofs.Laws.Orders.{by_same, is_any, within_try, number_of}
use Rattle.demands.proofs.Laws.EntryOrder.{is_header, entries_tried, same_none}

-- two numbers that are not the same
apart : {X : Type 0} (m n : ℕ) → eqb m n ≡ false → m ≡ n → X
apart m n e h = absurd (eqb-false m n e h)

-- the rows from 5 on
from_count : List ℕ → Table
from_count b =
    (5, OtherCount b) ∷ (6, OtherLengths b) ∷ (7, OtherEnd b) ∷ (8, OtherSum b) ∷ (9, OtherControl b)
    ∷ only_if ((at b 0 ≡ 0x68) × IsData b) (data_table b)

read_from5 : List ℕ → Answer Telegram
read_from5 b = refuse 5 (wrong_count b) (refuse 6 (wrong_lengths b) (refuse 7 (wrong_end b) (refuse 8 (wrong_sum b) (read_body b))))

ack_tried_from : (s : List ℕ) → Tried (read_from5 (0xE5 ∷ s)) (from_count (0xE5 ∷ s))
unfolding read_from5 from_count read_body
ack_tried_from s =
    (try 5 (so_if (λ h. inl (refl, h)) (⊎_elim (λ k. k.1) (⊎_elim (λ k. apart 0xE5 0x10 refl k.0) (λ k. apart 0xE5 0x68 refl k.0)))
    (is_not (is_same (length (0xE5 ∷ s)) 1)))
    (λ one. miss (λ k. apart 0xE5 0x68 refl k.0)
    (miss (λ k. ⊎_elim (apart 0xE5 0x10 refl) (⊎_elim (apart 0xE5 0x68 refl) (λ x. x)) k.0)
    (miss (⊎_elim (λ k. apart 0xE5 0x10 refl k.0) (λ k. apart 0xE5 0x68 refl k.0))
    (miss (⊎_elim (λ k. apart 0xE5 0x10 refl k.0) (λ k. apart 0xE5 0x68 refl k.0))
    (not_asked (data_table (0xE5 ∷ s)) ack (λ k. apart 0xE5 0x68 refl k.0) refl))))))

ack_tried : (b : List ℕ) → at b 0 ≡ 0xE5 → Tried (read_from5 b) (from_count b)
ack_tried [] e = absurd (apart 0 0xE5 refl e)
ack_tried (c ∷ s) e = subst (λ (k : ℕ). Tried (read_from5 (k ∷ s)) (from_count (k ∷ s))) (sym e) (ack_tried_from s)

-- what a short frame's places hold
short_sum : (b : List ℕ) → length b ≡ 5 → total (take 2 (drop 1 b)) ≡ at b 1 + at b 2
unfolding total
short_sum [] e = absurd (omega arith)
short_sum (x ∷ []) e = absurd (omega arith)
short_sum (x ∷ y ∷ []) e = absurd (omega arith)
short_sum (x ∷ y ∷ z ∷ b) e = omega arith

short_sums : (b : List ℕ) → length b ≡ 5 → (at b (length b - 2) ≡ total (take 2 (drop 1 b)) % 256) ↔ (at b 3 ≡ (at b 1 + at b 2) % 256)
short_sums b n = rw (n, short_sum b n) (λ k. k, λ k. k)

short_control : (b : List ℕ) → at (take 2 (drop 1 b)) 0 ≡ at b 1
short_control b = get_or-take 2 (drop 1 b) 0 0 (omega arith) ∙ get_or-drop 1 b 0 0

short_tried_from : (s : List ℕ) → Tried (read_from5 (0x10 ∷ s)) (from_count (0x10 ∷ s))
unfolding read_from5 from_count read_body
short_tried_from s =
    (try 5 (so_if (λ h. inr (inl (refl, h))) (⊎_elim (λ k. apart 0x10 0xE5 refl k.0) (⊎_elim (λ k. k.1) (λ k. apart 0x10 0x68 refl k.0)))
    (is_not (is_same (length (0x10 ∷ s)) 5)))
    (λ five. let n : length (0x10 ∷ s) ≡ 5 = surely (is_same (length (0x10 ∷ s)) 5) (λ k. five (inr (inl (refl, k)))) in
    miss (λ k. apart 0x10 0x68 refl k.0)
    (try 7 (so_if (λ h. (inl refl, h)) (λ k. k.1) (is_not (is_same (at (0x10 ∷ s) (length (0x10 ∷ s) - 1)) 0x16)))
    (λ ends. try 8 (so_if (λ h. inl (refl, λ k. h ((short_sums (0x10 ∷ s) n).1 k))) (⊎_elim (λ k j. k.1 ((short_sums (0x10 ∷ s) n).0 j)) (λ k. apart 0x10 0x68 refl k.0))
    (is_not (is_same (at (0x10 ∷ s) (length (0x10 ∷ s) - 2)) (total (take 2 (drop 1 (0x10 ∷ s))) % 256))))
    (λ sum. try 9 (so_if (λ h. inl (refl, λ k. h (short_control (0x10 ∷ s) ∙ k))) (⊎_elim (λ k j. k.1 (sym (short_control (0x10 ∷ s)) ∙ j)) (λ k. apart 0x10 0x68 refl k.0))
    (is_not (is_same (at (take 2 (drop 1 (0x10 ∷ s))) 0) 0x5B)))
    (λ read. not_asked (data_table (0x10 ∷ s)) (read_of (at (take 2 (drop 1 (0x10 ∷ s))) 1)) (λ k. apart 0x10 0x68 refl k.0) refl))))))

short_tried : (b : List ℕ) → at b 0 ≡ 0x10 → Tried (read_from5 b) (from_count b)
short_tried [] e = absurd (apart 0 0x10 refl e)
short_tried (c ∷ s) e = subst (λ (k : ℕ). Tried (read_from5 (k ∷ s)) (from_count (k ∷ s))) (sym e) (short_tried_from s)

-- the field of a long frame: what L counts
module _ (b : List ℕ) (count : length b ≡ at b 1 + 6) where
  field_length : length (take (length b - 6) (drop 4 b)) ≡ at b 1
  field_length = let l = length-take (length b - 6) (drop 4 b) in let k : length (drop 4 b) ≡ length b - 4 = length-drop 4 b in
      l ∙ ap (min (length b - 6)) k ∙ min-eq_left (omega arith) ∙ omega arith

  field_at : (i : ℕ) → i < at b 1 → at (take (length b - 6) (drop 4 b)) i ≡ at b (4 + i)
  field_at i l = get_or-take (length b - 6) (drop 4 b) i 0 (omega arith) ∙ get_or-drop 4 b i 0

  is_command_lem : Decides (IsCommand b) (is_command (take (length b - 6) (drop 4 b)))
  is_command_lem =
      so_if (λ k. (k.0.0.0, k.0.0.1, k.0.1, k.1)) (λ k. (((k.0, k.1), k.2), k.3))
      (is_and_so (is_and_so (is_and_so four (λ p. same p 0 0x53 (omega arith))) (λ p. same p.0 2 0x50 (omega arith)))
      (λ p. let e = field_at 3 (let y : at b 1 ≡ 4 = p.0.0 in omega arith) in
      rw e (is_one (at b 7) 0x90 (0x91 ∷ 0x92 ∷ 0x00 ∷ []))))
    where
      four : Decides (at b 1 ≡ 4) (eqb (length (take (length b - 6) (drop 4 b))) 4)
      four = rw field_length (is_same (at b 1) 4)

      same : at b 1 ≡ 4 → (i n : ℕ) → i < 4 → Decides (at b (4 + i) ≡ n) (eqb (at (take (length b - 6) (drop 4 b)) i) n)
      same y i n l = rw (field_at i (omega arith)) (is_same (at b (4 + i)) n)

  is_data_lem : Decides (IsData b) (is_data (take (length b - 6) (drop 4 b)))
  is_data_lem =
      so_if (λ k. (k.0.0, k.0.1, k.1)) (λ k. ((k.0, k.1), k.2))
      (is_and_so (is_and_so long (λ p. same p 0 0x08 (omega arith))) (λ p. same p.0 2 0x72 (omega arith)))
    where
      long : Decides (15 ≤ at b 1) (leb 15 (length (take (length b - 6) (drop 4 b))))
      long = rw field_length (is_most 15 (at b 1))

      same : 15 ≤ at b 1 → (i n : ℕ) → i < 4 → Decides (at b (4 + i) ≡ n) (eqb (at (take (length b - 6) (drop 4 b)) i) n)
      same y i n l = rw (field_at i (omega arith)) (is_same (at b (4 + i)) n)

-- the header of a field, and the entries behind it
header_front : (m : ℕ) (d : List ℕ) → 12 ≤ m → wrong_header (take m d) ≡ wrong_header d
unfolding wrong_header
header_front m d h =
    rw (
      take-take 4 m d (omega arith),
      get_or-take m d 5 0 (omega arith),
      get_or-take m d 4 0 (omega arith),
      get_or-take m d 7 0 (omega arith),
      get_or-take m d 10 0 (omega arith),
      get_or-take m d 11 0 (omega arith),
    )

module _ (b : List ℕ) (bytes : Bytes b) (count : length b ≡ at b 1 + 6) (long : 15 ≤ at b 1) where
  header_in : drop 3 (take (length b - 6) (drop 4 b)) ≡ take (length b - 6 - 3) (drop 7 b)
  header_in = drop_take 3 (length b - 6) (drop 4 b) ∙ ap (take (length b - 6 - 3)) (drop-drop 3 4 b)

  entries_in : drop 12 (drop 3 (take (length b - 6) (drop 4 b))) ≡ entry_part b
  entries_in =
      let left : length b - 6 - 15 ≡ at b 1 - 15 = omega arith in
      drop-drop 12 3 (take (length b - 6) (drop 4 b)) ∙ drop_take 15 (length b - 6) (drop 4 b) ∙ ap (take (length b - 6 - 15)) (drop-drop 15 4 b)
      ∙ ap (λ (n : ℕ). take n (drop 19 b)) left

  entries_behind : Tried (read_entries 0 (drop 12 (drop 3 (take (length b - 6) (drop 4 b)))) []) (entries_table (length (entry_part b)) [] (entry_part b))
  entries_behind =
      subst (λ (e : List ℕ). Tried (read_entries 0 e []) (entries_table (length (entry_part b)) [] (entry_part b))) (sym entries_in)
      (entries_tried (length (entry_part b)) [] [] (entry_part b) (bytes_take (at b 1 - 15) (drop 19 b) (bytes_drop 19 b bytes))
      (le_refl (length (entry_part b))) same_none)

  data_tried : (a : ℕ) → Tried (read_data a (drop 3 (take (length b - 6) (drop 4 b)))) (data_table b)
  data_tried a =
      let d : List ℕ = drop 3 (take (length b - 6) (drop 4 b)) in
      try 10
      (by_same (wrong_header d) (sym (ap wrong_header header_in ∙ header_front (length b - 6 - 3) (drop 7 b) (omega arith))) (is_header (drop 7 b)))
      (λ right. within_try (data_of a (header_of d)) entries_behind)

-- the rows from 9 on, of a line whose first byte is 68
long_body : (b : List ℕ) → Bytes b → length b ≡ at b 1 + 6 → (x : ℕ) → x ≡ 0x68
    → Tried (read_long (take (length b - 6) (drop 4 b)))
    ((9, ((x ≡ 0x10) × (¬ (at b 1 ≡ 0x5B))) ⊎ ((x ≡ 0x68) × (¬ IsCommand b) × (¬ IsData b))) ∷ only_if ((x ≡ 0x68) × IsData b) (data_table b))
long_body b bytes count x e = go (is_command (take (length b - 6) (drop 4 b))) (is_command_lem b count)
  where
    controls : IsCommand b → ((x ≡ 0x10) × (¬ (at b 1 ≡ 0x5B))) ⊎ ((x ≡ 0x68) × (¬ IsCommand b) × (¬ IsData b)) → ⊥
    controls c (inl k) = let y : x ≡ 0x10 = k.0 in omega arith
    controls c (inr k) = k.1 c

    short : IsCommand b → (x ≡ 0x68) × IsData b → ⊥
    short c k = let y : 15 ≤ at b 1 = k.1.0 in let z : at b 1 ≡ 4 = c.0 in omega arith

    go : (t : Bool) → Decides (IsCommand b) t
        → Tried (cond t (reads (command_of (take (length b - 6) (drop 4 b))))
        (refuse 9 (not (is_data (take (length b - 6) (drop 4 b))))
        (read_data (at (take (length b - 6) (drop 4 b)) 1) (drop 3 (take (length b - 6) (drop 4 b))))))
        ((9, ((x ≡ 0x10) × (¬ (at b 1 ≡ 0x5B))) ⊎ ((x ≡ 0x68) × (¬ IsCommand b) × (¬ IsData b))) ∷ only_if ((x ≡ 0x68) × IsData b) (data_table b))
    go true d =
        let c : IsCommand b = d.holds refl in
        miss (controls c)
        (not_asked (data_table b) (command_of (take (length b - 6) (drop 4 b)))
        (short c) refl)
    go false d =
        try 9 (so_if (λ h. inr (e, d.fails refl, h)) (⊎_elim (λ k. let y : x ≡ 0x10 = k.0 in absurd (omega arith)) (λ k. k.2)) (is_not (is_data_lem b count)))
        (λ nine. let tells : IsData b = surely (is_data_lem b count) (λ k. nine (inr (e, d.fails refl, k))) in
        only_where (e, tells) (data_tried b bytes count tells.0 (at (take (length b - 6) (drop 4 b)) 1)))

long_tried_from : (s : List ℕ) → Bytes (0x68 ∷ s) → Tried (read_from5 (0x68 ∷ s)) (from_count (0x68 ∷ s))
unfolding read_from5 from_count read_body
long_tried_from s bytes =
    (try 5 (so_if (λ h. inr (inr (refl, h))) (⊎_elim (λ k. apart 0x68 0xE5 refl k.0) (⊎_elim (λ k. apart 0x68 0x10 refl k.0) (λ k. k.1)))
    (is_or (is_less (length (0x68 ∷ s)) 6) (is_not (is_same (length (0x68 ∷ s)) (at (0x68 ∷ s) 1 + 6)))))
    (λ five. let n : length (0x68 ∷ s) ≡ at (0x68 ∷ s) 1 + 6 = surely (is_same (length (0x68 ∷ s)) (at (0x68 ∷ s) 1 + 6)) (λ k. five (inr (inr (refl, inr k)))) in
    try 6 (so_if (λ h. (refl, h)) (λ k. k.1) (is_or (is_not (is_same (at (0x68 ∷ s) 1) (at (0x68 ∷ s) 2))) (is_not (is_same (at (0x68 ∷ s) 3) 0x68))))
    (λ six. try 7 (so_if (λ h. (inr (inl refl), h)) (λ k. k.1) (is_not (is_same (at (0x68 ∷ s) (length (0x68 ∷ s) - 1)) 0x16)))
    (λ ends. try 8 (so_if (λ h. inr (refl, h)) (⊎_elim (λ k. apart 0x68 0x10 refl k.0) (λ k. k.1))
    (is_not (is_same (at (0x68 ∷ s) (length (0x68 ∷ s) - 2)) (total (take (length (0x68 ∷ s) - 6) (drop 4 (0x68 ∷ s))) % 256))))
    (λ sum. long_body (0x68 ∷ s) bytes n 0x68 refl)))))

long_tried : (b : List ℕ) → Bytes b → at b 0 ≡ 0x68 → Tried (read_from5 b) (from_count b)
long_tried [] bytes e = absurd (apart 0 0x68 refl e)
long_tried (c ∷ s) bytes e = subst (λ (k : ℕ). Bytes (k ∷ s) → Tried (read_from5 (k ∷ s)) (from_count (k ∷ s))) (sym e) (long_tried_from s) bytes

frame_tried : (b : List ℕ) → Bytes b → Tried (read_frame read_body b) (frame_table b)
unfolding read_from5 from_count
frame_tried b bytes =
    try 4 (is_not (is_one (at b 0) 0xE5 (0x10 ∷ 0x68 ∷ [])))
    (λ four. ⊎_elim (ack_tried b) (⊎_elim (short_tried b) (⊎_elim (long_tried b bytes) (λ x. absurd x)))
    (surely (is_one (at b 0) 0xE5 (0x10 ∷ 0x68 ∷ [])) four))

pub line_tried : (s : List ℕ) → Tried (read_line s) (line_table s)
unfolding read_line odd
line_tried s =
    try 1 (is_same (length s) 0)
    (λ one. try 2 (is_any (λ c. is_less 511 c) s)
    (λ two. try 3 (is_any (λ c. is_same (ones_in 9 c % 2) 1) s)
    (λ three. frame_tried (bytes_in s) (bytes_of_lem s))))

pub line_order : LineOrder
line_order s = order_of (line_tried s)

pub host_order : HostOrder
host_order b = go (eqb (length b % 2) 1) (is_same (length b % 2) 1)
  where
    small : (t : Telegram) → kind_number t.kind < 256
    small t = kinds t.kind
      where
        kinds : (k : Kind) → kind_number k < 256
        kinds Ack = omega arith
        kinds Read = omega arith
        kinds Enter = omega arith
        kinds Leave = omega arith
        kinds Data = omega arith

    as_told : (a : Answer Telegram) → told (λ (t : Telegram). kind_number t.kind) a ≡ line_number a
    as_told (refusal n) = refl
    as_told (reads t) = refl

    go : (t : Bool) → Decides (length b % 2 ≡ 1) t
        → NumberOrder ((17, length b % 2 ≡ 1) ∷ line_table (chars b)) (cond t (256 + 17) (line_number (read_line (chars b))))
    go true d = number_of {a = refusal 17} (λ (t : Telegram). kind_number t.kind) small (order_of (hit (d.holds refl) refl))
    go false d =
        subst (NumberOrder ((17, length b % 2 ≡ 1) ∷ line_table (chars b))) (as_told (read_line (chars b)))
        (number_of (λ (t : Telegram). kind_number t.kind) small (order_of (miss (d.fails refl) (line_tried (chars b)))))

pub write_tried : (t : Telegram) (places : ℕ) → Sized t → Tried (write_line t places) (write_table t places)
write_tried t places sized =
    try 20 twenty
    (λ some. try 21
    (so_if (λ l. (line_of t, (one some).0, l)) (λ k. subst (λ (s : List ℕ). places < length s) ((one some).1 k.0 k.1) k.2)
    (is_less places (length (line_of t))))
    (λ room. end (line_of t) refl))
  where
    twenty : Decides ((s : List ℕ) → read_line s ≡ reads t → ⊥) (unwritable t)
    twenty = record { holds = (refusal_20 t sized).0; fails = λ e h. absurd (true≢false (sym ((refusal_20 t sized).1 h) ∙ e)) }

    one : (((s : List ℕ) → read_line s ≡ reads t → ⊥) → ⊥) → (read_line (line_of t) ≡ reads t) × ((s : List ℕ) → read_line s ≡ reads t → s ≡ line_of t)
    one some = one_line t sized (by_test (unwritable t) (λ y. absurd (some (twenty.holds y))) (λ n. n))

pub write_order : WriteOrder
write_order t places sized = order_of (write_tried t places sized)

pub late_parity : LateParity
unfolding read_line read_body odd any total ones_in
late_parity = (refl, refl)
