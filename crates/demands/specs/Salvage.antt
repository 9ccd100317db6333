-- 02, 2026-11: what is salvaged is a proper bundle of exactly the leading rows, and no more rows could be kept (`SalvageTold`: by what 01 says of a row).
use Rattle.std.specs.Prelude.{ℕ, ◌≤◌, ◌<◌, List, ◌≡◌, length, get_or, take, drop}
use Rattle.base_rules.specs.Answers.{reads}
use Rattle.base_rules.specs.Bytes.{Bytes}
use Rattle.bundle_rows.specs.Rows.{rows_of, first_offset, blank_row}
use Rattle.bundle_rows.specs.declared.Row.{Row}
use Rattle.bundle_check.specs.Bundles.{count_of, check_of, opened}
use Rattle.bundle_check.specs.Records.{records_of}
use Rattle.bundle_check.specs.RowRules.{row_time, bodies_end}
use Rattle.bundle_check.specs.Walks.{end_of}
use Rattle.bundle_salvage.specs.declared.Salvaged.{Salvaged}
use Rattle.bundle_salvage.specs.Salvaging.{rule_of, Keep, tell_of, leading_rows, salvage_of, new_bundle}

-- ---- a damaged bundle whose contents are whole, so that none of 30 to 33 applies, with n rows
module _ (b : List ℕ) (n : ℕ) (whole : opened b (reads (count_of b)) ≡ reads n) where
  abbrev pub rows : List Row
  rows = rows_of n (drop 2 b)

  abbrev pub told : Salvaged
  told = tell_of n b (leading_rows n b)

  -- What is told.
  abbrev pub SalvageIs : Type 0
  SalvageIs = salvage_of b ≡ reads told

  -- The rows that are kept each keep the rules,
  abbrev pub KeptKeepTheRules : Type 0
  KeptKeepTheRules = Keep b 0 (first_offset n) (take told.kept rows)

  -- and no larger number of leading rows does.
  abbrev pub NoMoreRows : Type 0
  NoMoreRows = (k : ℕ) → k ≤ n → Keep b 0 (first_offset n) (take k rows) → k ≤ told.kept

  -- The rule told is the lowest that applies to the first dropped row, and one does.
  abbrev pub RuleOfTheFirstDropped : Type 0
  RuleOfTheFirstDropped =
      (leading_rows n b).kept < n
      → ((leading_rows n b).rule
      ≡ rule_of b (end_of row_time 0 (take (leading_rows n b).kept rows)) (bodies_end (first_offset n) (take (leading_rows n b).kept rows))
      (get_or rows (leading_rows n b).kept blank_row))
      × (0 < (leading_rows n b).rule)

  -- What is written has the length that is told, is accepted by the check, and holds exactly the leading rows.
  abbrev pub WrittenLength : Type 0
  WrittenLength = length (new_bundle b told) ≡ told.filled

  abbrev pub WrittenAccepted : Type 0
  WrittenAccepted = Bytes b → check_of (new_bundle b told) ≡ reads told.kept

  abbrev pub WrittenHolds : Type 0
  WrittenHolds = Bytes b → records_of (new_bundle b told) ≡ take told.kept (records_of b)

-- ---- a bundle that the check accepts is salvaged as itself, with rule 0
module _ (b : List ℕ) (n : ℕ) (accepted : check_of b ≡ reads n) where
  abbrev pub all : Salvaged
  all = record { kept = n; dropped = 0; rule = 0; filled = length b }

  abbrev pub ProperTold : Type 0
  ProperTold = salvage_of b ≡ reads all

  abbrev pub ProperIsItself : Type 0
  ProperIsItself = Bytes b → new_bundle b all ≡ b

-- ---- salvaging twice changes nothing
module _ (b : List ℕ) (n : ℕ) (whole : opened b (reads (count_of b)) ≡ reads n) (bytes : Bytes b) where
  abbrev pub once : List ℕ
  once = new_bundle b (tell_of n b (leading_rows n b))

  abbrev pub again : Salvaged
  again = record { kept = (leading_rows n b).kept; dropped = 0; rule = 0; filled = length once }

  abbrev pub TwiceTold : Type 0
  TwiceTold = salvage_of once ≡ reads again

  abbrev pub TwiceTheSame : Type 0
  TwiceTheSame = new_bundle once again ≡ once
