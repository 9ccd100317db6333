-- `run_listing::lines::word_of` meets its contract, case by case.
use mathlib.Core.Path.{sym, ◌∙◌}
use native.Mathlib.Omega.{arith}
use Rattle.run_listing.specs.Listings.{word_of}
use Rattle.run_listing.proofs.lines.word_of.Goals as goal

pub returns-in-Wake : goal.returns-in-Wake
unfolding word_of
returns-in-Wake c =
    record {
      small = omega arith;
      whole = c.begin.ensures.whole;
      so = rw (sym c.column_of.ensures ∙ c.in-Wake.is) c.begin.ensures.so;
    }

pub returns-in-Reads : goal.returns-in-Reads
unfolding word_of
returns-in-Reads c =
    record {
      small = omega arith;
      whole = c.word_for.ensures.whole;
      so = rw (sym c.column_of.ensures ∙ c.in-Reads.is) c.word_for.ensures.so;
    }
