-- Proofs of the statements of specs/Writer.
use Prim.Native.Nat.{ℕ}
use mathlib.Core.List.{List}
use mathlib.Core.Path.{◌≡◌, ap}
use lib.ListN.{length}
use borrow.Author.Tests.{lt-ltb}
use Rattle.base_lent.specs.Lent.{stored}
use Rattle.base_rules.specs.Answers.{reads}
use Rattle.mbus_rules.specs.Writing.{line_of, write_line}
use Rattle.mbus_rules.proofs.Laws.RoundTrip.{write_then_read, enough_places, written_again, refusal_20}
use Rattle.demands.specs.Writer.{ReadAndWrite, WriteAndRead, TooFewPlaces, CannotBeWritten, RefusedBy20}

pub read_and_write : ReadAndWrite
read_and_write s t out r h =
    let written : write_line t (length out) ≡ reads s = written_again s t (length out) r h in
    (written, ap (stored (λ (line : List ℕ). line) out) written)

pub write_and_read : WriteAndRead
write_and_read t out z u h = (line_of t, enough_places t (length out) u h, write_then_read t z u)

pub too_few_places : TooFewPlaces
too_few_places t places u h = rw (u, lt-ltb places (length (line_of t)) h)

pub cannot_be_written : CannotBeWritten
cannot_be_written = refusal_20

pub refused_by_20 : RefusedBy20
refused_by_20 t places u = rw u
