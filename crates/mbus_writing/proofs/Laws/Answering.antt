-- The two ways out of the writer.
use Prim.Native.Nat.{ℕ, ◌≤◌}
use mathlib.Core.Bool.{true, false}
use mathlib.Core.List.{List}
use mathlib.Core.Path.{◌≡◌, sym, ◌∙◌}
use lib.ListN.{length, take, length-map}
use Rattle.mbus_rules.specs.declared.Telegram.{Telegram}
use Rattle.base_characters.specs.Characters.{carrier}
use Rattle.mbus_rules.specs.Writing.{bytes_of_kind, line_of, longest, unwritable, write_line}
use Rattle.mbus_rules.proofs.Laws.RoundTrip.{longest_line}
use Rattle.mbus_writing.specs.Laying.{BytesLaid}
use Rattle.std.proofs.Common.{Result, Err}
use Rattle.base_rules.specs.declared.refusals.Refusal.{Refusal}
use Rattle.base_rules.specs.Shown.{refused_by}
use Rattle.base_characters.specs.Carrying.{Writes, carried_in}

pub refused_20 : (t : Telegram) {before : List ℕ} → unwritable t ≡ true → Writes (write_line t (length before)) before before (Err (refused_by 20))
refused_20 t w = record { answer = rw w; places = rw w }

module _ (t : Telegram) {bytes : List ℕ} {count : ℕ} (w : unwritable t ≡ false) (b : BytesLaid (bytes_of_kind t.kind t) bytes count) where
  pub at_most : count ≤ longest
  unfolding line_of
  at_most = rw (b.so ∙ sym (length-map (bytes_of_kind t.kind t) carrier)) (longest_line t w)

  pub written : {before after : List ℕ} {r : Result ℕ Refusal} → Writes (carried_in (take count bytes) (length before)) before after r
      → Writes (write_line t (length before)) before after r
  unfolding line_of
  written g = rw w (rw b.bytes at g)
