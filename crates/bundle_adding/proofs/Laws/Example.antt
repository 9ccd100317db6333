-- 01's example of 16 bytes, added to the empty bundle.
use Prim.Native.Nat.{ℕ}
use mathlib.Core.List.{List, [], ◌∷◌, ◌++◌}
use mathlib.Core.Path.{◌≡◌, refl}
use lib.ListN.{replicate}
use Rattle.base_rules.specs.Lists.{any}
use Rattle.base_rules.specs.Answers.{reads, refusal}
use Rattle.base_numbers.specs.Numbers.{number, bytes_of}
use Rattle.bundle_check.specs.Walks.{some_wrong, end_of}
use Rattle.bundle_rows.specs.Rows.{rows_of, bytes_of_rows}
use Rattle.base_characters.specs.Characters.{chars}
use Rattle.bundle_check.specs.Bundles.{check_of}
use Rattle.bundle_check.specs.Records.{records_in, rows_for, bodies_for}
use Rattle.bundle_check.specs.Example.{sixteen}
use Rattle.bundle_adding.specs.Adding.{new_record, add_of, buffer_after}

-- an empty bundle in a buffer of 20 bytes, and a line of one character, heard at position 7
abbrev buffer : List ℕ
buffer = 0x00 ∷ 0x00 ∷ replicate 18 0xFF

filled_16 : add_of buffer 2 (new_record 7 1 0 (0xE5 ∷ 0x01 ∷ [])) ≡ reads 16
unfolding add_of check_of number rows_of some_wrong end_of chars any
filled_16 = refl

is_the_example : buffer_after (reads 16) buffer 2 (new_record 7 1 0 (0xE5 ∷ 0x01 ∷ [])) ≡ sixteen ++ replicate 4 0xFF
unfolding number bytes_of rows_of records_in rows_for bodies_for bytes_of_rows
is_the_example = refl

-- position 0 is told before the character 512, and that before the lack of room
position_first : add_of buffer 2 (new_record 0 1 0 (replicate 8 0x02)) ≡ refusal 34
unfolding add_of check_of number rows_of some_wrong end_of chars any
position_first = refl

character_next : add_of buffer 2 (new_record 7 1 0 (replicate 8 0x02)) ≡ refusal 37
unfolding add_of check_of number rows_of some_wrong end_of chars any
character_next = refl

room_last : add_of buffer 2 (new_record 7 1 0 (replicate 8 0x01)) ≡ refusal 38
unfolding add_of check_of number rows_of some_wrong end_of chars any
room_last = refl
