-- 01, "Refusal numbers", 14 and 16, of the entries of a telegram taken together.
use Rattle.std.specs.Prelude.{Bool, ◌||◌, List, []}
use Rattle.mbus_rules.specs.declared.Entry.{Entry}
use Rattle.base_rules.specs.Lists.{any}
use Rattle.mbus_rules.specs.Entries.{missing}
use Rattle.mbus_rules.specs.Writing.{wrong_entry, repeats}

-- one is wrong, one repeats a quantity, or a required quantity is missing
abbrev pub wrong_together : List Entry → Bool
wrong_together es = any wrong_entry es || repeats [] es || missing es
