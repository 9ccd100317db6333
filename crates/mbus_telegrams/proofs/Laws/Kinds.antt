-- Laws of `specs/Kinds`.
use mathlib.Core.Path.{◌≡◌, refl}
use Rattle.mbus_rules.specs.declared.Kind.{Kind}
use Rattle.mbus_rules.specs.declared.Kind.TheVariants.{Ack, Read, Enter, Leave, Data}
use Rattle.mbus_rules.specs.Host.{kind_number}
use Rattle.mbus_telegrams.specs.Kinds.{kind_in}

-- Law: a kind's number is its own.
pub kind_read : (k : Kind) → kind_in (kind_number k) ≡ k
kind_read Ack = refl
kind_read Read = refl
kind_read Enter = refl
kind_read Leave = refl
kind_read Data = refl
