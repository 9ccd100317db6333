-- `mbus_fields::headers::number_of` meets its contract: the word holds what the bytes hold.
use Prim.Native.Nat.{ℕ}
use mathlib.Core.Path.{ap, ◌∙◌}
use native.Mathlib.Omega.{arith}
use Rattle.base_numbers.specs.Numbers.{bytes_of}
use Rattle.base_digits.specs.Digits.{packed_of}
use Rattle.base_digits.proofs.Laws.GatherLaws.{word_packed}
use Rattle.mbus_fields.proofs.headers.number_of.Goals as goal

pub returns : goal.returns
returns c =
    c.packed_in.ensures ∙ ap (λ (n : ℕ). packed_of (bytes_of 8 n)) c.number_at.ensures.so
    ∙ word_packed 4 c.args.part.now (λ i. omega (arith, c.type_inv.part i)) (omega arith)
