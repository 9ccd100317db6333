-- The number of an outline is that of the line.
use Prim.Native.Nat.{ℕ, ◌%◌}
use mathlib.Core.List.{List}
use mathlib.Core.Path.{◌≡◌, refl, sym, ap, ◌∙◌}
use borrow.Author.Tests.{eq-eqb, ne_eqb}
use lib.ListN.{length}
use Rattle.mbus_rules.specs.declared.Kind.{Kind}
use Rattle.mbus_rules.specs.declared.Kind.TheVariants.{Ack, Read, Enter, Leave, Data}
use Rattle.mbus_rules.specs.declared.Telegram.{Telegram}
use Rattle.mbus_rules.specs.declared.Outline.{Outline}
use Rattle.base_rules.specs.Answers.{Answer, reads, refusal}
use Rattle.base_characters.specs.Characters.{chars}
use Rattle.mbus_rules.specs.Host.{kind_number, line_number, host_number}
use Rattle.mbus_rules.specs.Lines.{read_line}
use Rattle.mbus_rules.specs.Outlines.{outline_of, outlined}
use Rattle.host_check.specs.Numbers.{outline_number}

kind_number_lem : (k : Kind) (a s : ℕ) → outline_number (outline_of k a s) ≡ kind_number k
kind_number_lem Ack a s = refl
kind_number_lem Read a s = refl
kind_number_lem Enter a s = refl
kind_number_lem Leave a s = refl
kind_number_lem Data a s = refl

outline_number_lem : (x : Answer Telegram) → outline_number (outlined x) ≡ line_number x
outline_number_lem (refusal n) = refl
outline_number_lem (reads t) = kind_number_lem t.kind t.address t.method

pub odd_number : (b : List ℕ) → length b % 2 ≡ 1 → 273 ≡ host_number b
odd_number b e = rw (eq-eqb (length b % 2) 1 e)

pub even_number : (b : List ℕ) → (length b % 2 ≡ 1 → ⊥) → {v : Outline} → v ≡ outlined (read_line (chars b)) → outline_number v ≡ host_number b
even_number b n e = ap outline_number e ∙ outline_number_lem (read_line (chars b)) ∙ sym (rw (ne_eqb (length b % 2) 1 n))
