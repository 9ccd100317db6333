-- 02, 2026-01, for C: what the search of both captures answers, and what it leaves.
use Rattle.std.specs.Prelude.{ℕ, List}
use Rattle.base_rules.specs.Answers.{Answer}
use Rattle.mbus_either.specs.declared.Interface.{Interface}
use Rattle.mbus_either.specs.declared.Interface.TheVariants.{Mbus, Optical}
use Rattle.mbus_either.specs.declared.LiveLine.{LiveLine}
use Rattle.mbus_either.specs.Interfaces.{find_either}
use Rattle.base_lent.specs.Lent.{placed, Leaves}
use Rattle.host_search.specs.Finding.{spot_bytes}

-- The answer says which capture, 1 for M-Bus and 2 for optical.
abbrev pub interface_number : Interface → ℕ
interface_number Mbus = 1
interface_number Optical = 2

abbrev pub line_interface : LiveLine → ℕ
line_interface l = interface_number l.interface

abbrev pub line_bytes : LiveLine → List ℕ
line_bytes l = spot_bytes l.spot

-- 18, then 21
abbrev pub either_for : List ℕ → List ℕ → List ℕ → Answer LiveLine
either_for mbus optical out = placed 16 out (find_either mbus optical)

-- 1 or 2, and place and length in the first places; or 256 plus the refusal number, and all as it was.
abbrev pub FindsEither : List ℕ → List ℕ → List ℕ → List ℕ → ℕ → Type 0
FindsEither mbus optical before after r = Leaves line_interface line_bytes (either_for mbus optical before) before after r
