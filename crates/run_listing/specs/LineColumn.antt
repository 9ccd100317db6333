-- 01, "The run bundle", its last paragraph: the line column of the listing.
use Rattle.std.specs.Prelude.{ℕ, cond, List}
use Rattle.mbus_rules.specs.Lines.{read_line}
use Rattle.mbus_rules.specs.Outlines.{outlined}
use Rattle.bench_clock.specs.Wakes.{is_wake}
use Rattle.run_listing.specs.declared.line_column.Column.{Column}
use Rattle.run_listing.specs.declared.line_column.Column.TheVariants.{Wake, Reads}

-- a wake-up is told before the line is read
unfoldable pub column_of : List ℕ → Column
column_of line = cond (is_wake line) Wake (Reads (outlined (read_line line)))
