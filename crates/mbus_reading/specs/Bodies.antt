-- 01, "Refusal numbers": the rules of the body of a data telegram.
use Rattle.std.specs.Prelude.{ℕ, List, [], drop}
use Rattle.mbus_rules.specs.declared.Entry.{Entry}
use Rattle.base_rules.specs.Answers.{Answer, refuse}
use Rattle.mbus_rules.specs.Entries.{read_entries}
use Rattle.mbus_rules.specs.Headers.{wrong_header}

-- 10 to 16: the header, then the entries
abbrev pub body_of : List ℕ → Answer (List Entry)
body_of d = refuse 10 (wrong_header d) (read_entries 0 (drop 12 d) [])
