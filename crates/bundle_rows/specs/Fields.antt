-- 01, "The run bundle": the ranges of a row's fields.
use Rattle.std.specs.Prelude.{ℕ, ◌%◌, Bool, ◌||◌, ltb, eqb}

-- position 1–48
abbrev pub wrong_position : ℕ → Bool
wrong_position position = ltb position 1 || ltb 48 position

-- the same; direction 0 sent or 1 heard; body length even, 2 to 1,004
abbrev pub wrong_field : ℕ → ℕ → ℕ → Bool
wrong_field position direction size =
    wrong_position position || ltb 1 direction || eqb (size % 2) 1 || ltb size 2 || ltb 1004 size
