-- 01, "Refusal numbers", 4 to 9: the shape of a line. Header and entries of a data telegram are not looked at.
use Rattle.std.specs.Prelude.{ℕ, ◌+◌, ◌-◌, ◌%◌, Bool, cond, not, List, length, ◌==◌}
use Rattle.mbus_rules.specs.declared.Kind.TheVariants.{Data}
use Rattle.mbus_rules.specs.declared.Request.{Request}
use Rattle.mbus_rules.specs.declared.Request.TheVariants.{Read, Enter, Leave}
use Rattle.mbus_rules.specs.declared.Telegram.{Telegram}
use Rattle.base_rules.specs.Lists.{at}
use Rattle.base_rules.specs.Answers.{Answer, reads, refuse}
use Rattle.mbus_rules.specs.Telegrams.{bare, ack, read_of, enter_of, leave_of}
use Rattle.mbus_rules.specs.Lines.{field, is_ack, is_short, is_long, is_command, is_data, read_short, command_of}
use Rattle.mbus_rules.specs.Lines.{wrong_start, wrong_count, wrong_lengths, wrong_end, wrong_sum}

-- Long form: L = 4 with C 53, CI 50 and an S, or L ≥ 15 with C 08 and CI 72; of the data telegram the address alone.
abbrev pub shape_long : List ℕ → Answer Telegram
shape_long f = cond (is_command f) (reads (command_of f)) (refuse 9 (not (is_data f)) (reads (bare Data (at f 1) 0)))

-- in the place of a body: its shape alone
unfoldable pub shape_body : List ℕ → Answer Telegram
shape_body b = cond (is_ack b) (reads ack) (cond (is_short b) (read_short (field b)) (shape_long (field b)))

-- the telegram of a request
abbrev pub asked_of : Request → Telegram
asked_of (Read a) = read_of a
asked_of (Enter a s) = enter_of a s
asked_of (Leave a) = leave_of a

-- 7 and 8 of either form, by the sum of the bytes from C up to before CS
abbrev pub end_wrong : List ℕ → Bool
end_wrong b = not (at b (length b - 1) == 0x16)

abbrev pub sum_wrong : ℕ → List ℕ → Bool
sum_wrong sum b = not (at b (length b - 2) == sum)

-- 02, 2026-02: 8 of the long form by the sum of all bytes, which are 68, L twice, 68, those that CS is the sum of, CS and 16
abbrev pub whole_wrong : ℕ → List ℕ → Bool
whole_wrong sum b =
    let l : ℕ = at b 1 in
    let cs : ℕ = at b (length b - 2) in
    not (sum == (0x68 + l + l + 0x68 + cs + cs + 0x16) % 256)

-- the frame of 01 with 8 told so: where the sum is that of all bytes, it is the same (proofs/Laws/WholeLaws)
abbrev pub frame_by : {A : Type 0} → ℕ → (List ℕ → Answer A) → List ℕ → Answer A
frame_by sum body b =
    refuse 4 (wrong_start b)
    (refuse 5 (wrong_count b)
    (refuse 6 (wrong_lengths b)
    (refuse 7 (wrong_end b)
    (refuse 8 (cond (is_long b) (whole_wrong sum b) (wrong_sum b))
    (body b)))))
