-- `bundle_columns::making::put_bytes` meets its contract: the three parts stand one behind the other.
use Prim.Native.Nat.{ℕ, ◌+◌, ◌≤◌, zero-le}
use mathlib.Core.List.{List}
use mathlib.Core.Path.{◌≡◌, ◌∙◌}
use native.Mathlib.Omega.{arith}
use lib.ListN.{length}
use Rattle.base_lent.proofs.Laws.Copying.{copied_fits}
use Rattle.base_numbers.specs.Numbers.{bytes_of}
use Rattle.base_numbers.proofs.Laws.Numbers.{length_bytes}
use Rattle.bundle_check.proofs.Laws.BodyLaws.{few_rows}
use Rattle.bundle_columns.specs.Record.{columns_size, list_bytes}
use Rattle.bundle_columns.specs.Making.{fields_in}
use Rattle.bundle_rows.proofs.Laws.Lists.{laid_three}
use Rattle.bundle_columns.proofs.Laws.Turning.{length_listed}
use Rattle.bundle_columns.proofs.making.put_bytes.Goals as goal

pub returns : goal.returns
returns c =
    let a = c.args in
    let b : List ℕ = a.bundle.bytes.now in
    let d : List ℕ = a.out.now in
    let n : ℕ = a.bundle.count in
    let room : columns_size ≤ length d = c.requires in
    let size : length (bytes_of 8 n) ≡ 8 = length_bytes 8 n in
    let first : 0 + length (bytes_of 8 n) ≤ length d = omega arith in
    laid_three d 0 8 520 (bytes_of 8 n) (list_bytes 1 (fields_in 0 1 n b)) (list_bytes 1 (fields_in 1 1 n b)) zero-le (omega arith)
    (omega (arith, length_listed 1 0 1 n b (few_rows a.bundle.bytes.now a.bundle.count a.bundle.accepted))) (c.put_number.ensures ∙ copied_fits d 0 (bytes_of 8 n) first) c.put_list.ensures
    c.put_list-2.ensures
