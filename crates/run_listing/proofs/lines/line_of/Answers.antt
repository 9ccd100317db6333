-- `run_listing::lines::line_of` meets its contract: the columns are put together from the left.
use native.Mathlib.Omega.{arith}
use Rattle.run_listing.specs.Writing.{line_text}
use Rattle.run_listing.proofs.Laws.LineLaws.{row_joined}
use Rattle.std.proofs.Common.{◌≡◌, ℕ, ◌≤◌, List, length, take, sym, length-take-le}
use Rattle.run_listing.proofs.lines.line_of.Goals as goal

-- the word is cut from its bytes
cut : (n : ℕ) (s : List ℕ) → (n ≤ 18) × (length s ≡ 48) → n ≡ length (take n s)
cut n s h = sym (length-take-le n s (omega (arith, h.0, h.1)))

pub with-fifth-requires : goal.with-fifth-requires
with-fifth-requires c = omega (arith, cut c.args.word.size c.args.word.bytes c.requires)

pub with-requires : goal.with-requires
with-requires c = omega (arith, cut c.args.word.size c.args.word.bytes c.requires)

pub returns : goal.returns
returns c =
    let a = c.args in
    record {
      small = omega (arith, cut c.args.word.size c.args.word.bytes c.requires);
      whole = c.with.ensures.whole;
      so =
          row_joined a.position a.direction a.time (line_text a.word)
          c.blank.ensures.so
          c.with_number-first.ensures.so
          c.with_direction-second.ensures.so
          c.with_number-third.ensures.so
          c.with-fourth.ensures.so
          c.with-fifth.ensures.so
          c.with.ensures.so;
    }
