-- `run_listing::texts::with_number` meets its contract: the digits stand behind the text.
use Rattle.text_filling.proofs.Laws.WritingLaws.{put_front, writes_length}
use Rattle.text_filling.proofs.Laws.DecimalLaws.{decimal_few}
use Rattle.text_filling.specs.Decimals.{decimal}
use lib.ListN.{length}
use native.Mathlib.Omega.{arith}
use Prim.Native.Nat.{◌≤◌, ◌^◌, ◌<◌}
use mathlib.Core.Path.{◌≡◌, ◌∙◌}
use borrow.Author.Rules.{rules}
use Rattle.run_listing.proofs.texts.with_number.Goals as goal

pub returns : goal.returns
returns c =
    let a = c.args in
    let w = c.put_number-size.ensures in
    let size : 48 ≡ length a.line.bytes = search rules in
    let small : a.n < 10 ^ 10 = omega arith in
    let few : length (decimal a.n) ≤ 10 = decimal_few 9 a.n small in
    let front = put_front w (omega (arith, few, size)) (omega (arith, size)) in
    record { small = omega (arith, few, front.0); whole = writes_length w ∙ search rules; so = front.1 }
