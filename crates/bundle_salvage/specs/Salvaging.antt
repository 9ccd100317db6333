-- 02, 2026-11: the largest number of leading rows that each keep the rules for field, offset and character, written as a proper bundle.
use Rattle.std.specs.Prelude.{ℕ, suc, ◌+◌, ◌-◌, cond, List, [], ◌∷◌, ◌≡◌, ltb, eqb, length, take, drop}
use Rattle.base_rules.specs.Answers.{Answer, reads, refuse, follow}
use Rattle.base_characters.specs.Characters.{over, chars}
use Rattle.base_rules.specs.Lists.{any}
use Rattle.bundle_rows.specs.Rows.{rows_of, first_offset, body_in}
use Rattle.bundle_rows.specs.declared.Row.{Row}
use Rattle.bundle_check.specs.Bundles.{count_of, opened}
use Rattle.bundle_check.specs.Records.{records_of, bundle_of}
use Rattle.bundle_check.specs.RowRules.{wrong_row, next_offset, wrong_place}
use Rattle.bundle_salvage.specs.declared.Salvaged.{Salvaged}
use Rattle.bundle_salvage.specs.declared.leading.Leading.{Leading}

-- a row's own lowest of 34, 35 and 37, behind a row of this time and with its body due at this place; 0 where it keeps them
unfoldable pub rule_of : List ℕ → ℕ → ℕ → Row → ℕ
rule_of b before place r = cond (wrong_row before r) 34 (cond (wrong_place (length b) place r) 35 (cond (any over (chars (body_in b r))) 37 0))

-- rows that each keep the rules
unfoldable pub Keep : List ℕ → ℕ → ℕ → List Row → Type 0
Keep b before place [] = Unit {0}
Keep b before place (r ∷ rows) = (rule_of b before place r ≡ 0) × Keep b r.time (next_offset place r) rows

abbrev pub one_more : Leading → Leading
one_more l = record { kept = suc l.kept; rule = l.rule; end = l.end }

-- how many leading rows keep them, the rule that the next row breaks, and where the bodies of those that keep them end
unfoldable pub leading : List ℕ → ℕ → ℕ → List Row → Leading
leading b before place [] = record { kept = 0; rule = 0; end = place }
leading b before place (r ∷ rows) =
    cond (eqb (rule_of b before place r) 0) (one_more (leading b r.time (next_offset place r) rows))
    (record { kept = 0; rule = rule_of b before place r; end = place })

-- 36 is reported as the rule broken with all rows kept; 0 if none is broken
abbrev pub rule_told : ℕ → ℕ → ℕ → ℕ → ℕ → ℕ
rule_told rule kept n end size = cond (ltb kept n) rule (cond (ltb end size) 36 0)

-- the bytes of the new bundle: as many rows fewer, and the bodies of the rows that are kept
abbrev pub new_length : ℕ → ℕ → ℕ → ℕ
new_length kept n end = first_offset kept + (end - first_offset n)

-- how many rows were kept, how many were dropped, the rule broken, and the bytes of the new bundle
abbrev pub tell_of : ℕ → List ℕ → Leading → Salvaged
tell_of n b l = record {
  kept = l.kept;
  dropped = n - l.kept;
  rule = rule_told l.rule l.kept n l.end (length b);
  filled = new_length l.kept n l.end;
}

-- the offset that a row should have is counted with the damaged file's own count of rows
abbrev pub leading_rows : ℕ → List ℕ → Leading
leading_rows n b = leading b 0 (first_offset n) (rows_of n (drop 2 b))

-- 30 to 33 as before,
unfoldable pub salvage_of : List ℕ → Answer Salvaged
salvage_of b = opened b (reads (tell_of (count_of b) b (leading_rows (count_of b) b)))

-- 38 if the second buffer is too short.
abbrev pub salvage_into : List ℕ → List ℕ → Answer Salvaged
salvage_into b out = follow (salvage_of b) (λ s. refuse 38 (ltb (length out) s.filled) (reads s))

-- a proper bundle of the rows that are kept, with new offsets
abbrev pub new_bundle : List ℕ → Salvaged → List ℕ
new_bundle b s = bundle_of (take s.kept (records_of b))
