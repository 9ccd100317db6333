-- A short run at position 7: a read that is sent four times, and acks that do not answer it.
use Rattle.std.specs.Prelude.{ℕ, List, [], ◌∷◌}
use Rattle.bundle_check.specs.Records.{Recorded}

-- a read of FE, and an ack
abbrev pub asked_fe : List ℕ
asked_fe = 0x10 ∷ 0x01 ∷ 0x5B ∷ 0x01 ∷ 0xFE ∷ 0x01 ∷ 0x59 ∷ 0x00 ∷ 0x16 ∷ 0x01 ∷ []

abbrev pub said_ack : List ℕ
said_ack = 0xE5 ∷ 0x01 ∷ []

abbrev pub at7 : ℕ → ℕ → List ℕ → Recorded
at7 direction time body = record { position = 7; direction = direction; time = time; body = body }

-- each send ends 55 after it began
abbrev pub four_reads : List Recorded
four_reads =
    at7 1 0 said_ack
    ∷ at7 0 100 asked_fe
    ∷ at7 0 1000 asked_fe
    ∷ at7 1 1100 said_ack
    ∷ at7 0 2000 asked_fe
    ∷ at7 0 3000 asked_fe
    ∷ at7 1 3054 said_ack
    ∷ at7 1 3506 said_ack
    ∷ at7 1 3507 said_ack
    ∷ []
