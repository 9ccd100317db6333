-- All entries of a data telegram.
use Rattle.std.specs.Prelude.{◌-◌, Bool, false, List, ◌++◌, length, get_or, replicate}
use Rattle.mbus_rules.specs.declared.Entry.{Entry}
use Rattle.mbus_rules.specs.Entries.{lacking}
use Rattle.mbus_rules.specs.Telegrams.{blank_entry}
use Rattle.mbus_entries.specs.declared.Entries.{Entries}

-- The entries in their places.
abbrev pub listed : List Entry → Entries
listed done = record { count = length done; entries = done ++ replicate (7 - length done) blank_entry }

-- 16 by the marks
abbrev pub unmarked : List Bool → Bool
unmarked marks = lacking (λ q. get_or marks q false)
