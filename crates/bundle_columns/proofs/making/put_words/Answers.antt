-- `bundle_columns::making::put_words` meets its contract: the three lists stand one behind the other.
use Prim.Native.Nat.{ℕ, ◌≤◌}
use mathlib.Core.List.{List}
use native.Mathlib.Omega.{arith}
use lib.ListN.{length}
use Rattle.bundle_check.proofs.Laws.BodyLaws.{few_rows}
use Rattle.bundle_columns.specs.Record.{columns_size, list_bytes}
use Rattle.bundle_columns.specs.Making.{fields_in}
use Rattle.bundle_rows.proofs.Laws.Lists.{laid_three}
use Rattle.bundle_columns.proofs.Laws.Turning.{length_listed}
use Rattle.bundle_columns.proofs.making.put_words.Goals as goal

pub returns : goal.returns
returns c =
    let a = c.args in
    let b : List ℕ = a.bundle.bytes.now in
    let d : List ℕ = a.out.now in
    let n : ℕ = a.bundle.count in
    let room : columns_size ≤ length d = c.requires in
    laid_three d 1032 3080 5128 (list_bytes 4 (fields_in 2 4 n b)) (list_bytes 4 (fields_in 6 4 n b)) (list_bytes 2 (fields_in 10 2 n b)) (omega arith)
    (omega (arith, length_listed 4 2 4 n b (few_rows a.bundle.bytes.now a.bundle.count a.bundle.accepted))) (omega (arith, length_listed 4 6 4 n b (few_rows a.bundle.bytes.now a.bundle.count a.bundle.accepted))) c.put_list.ensures
    c.put_list-2.ensures c.put_list-3.ensures
