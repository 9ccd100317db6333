-- The ways out of the writer.
use Prim.Native.Nat.{ℕ}
use mathlib.Core.Bool.{true, false}
use mathlib.Core.List.{List}
use mathlib.Core.Path.{◌≡◌, subst}
use lib.ListN.{length}
use Rattle.cjt_rules.specs.declared.CjtTelegram.{CjtTelegram}
use Rattle.cjt_rules.specs.CjtWriting.{bytes_of_telegram, cjt_line_of, unwritten, write_cjt_line}
use Rattle.std.proofs.Common.{Result, Err}
use Rattle.base_rules.specs.declared.refusals.Refusal.{Refusal}
use Rattle.base_rules.specs.Shown.{refused_by}
use Rattle.base_characters.specs.Carrying.{Writes, carried_in}

module _ (t : CjtTelegram) (before : List ℕ) where
  pub not_written : unwritten t ≡ true → Writes (write_cjt_line t (length before)) before before (Err (refused_by 20))
  not_written w = record { answer = rw w; places = rw w }

  pub line_written : unwritten t ≡ false → {bytes after : List ℕ} {r : Result ℕ Refusal} → bytes ≡ bytes_of_telegram t
      → Writes (carried_in bytes (length before)) before after r → Writes (write_cjt_line t (length before)) before after r
  unfolding cjt_line_of
  line_written w {bytes} {after} {r} e h = rw w (subst (λ (b : List ℕ). Writes (carried_in b (length before)) before after r) e h)
