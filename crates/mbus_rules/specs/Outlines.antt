-- A reading as the two ends of an exchange look at it: nobody else matches on kinds.
use Rattle.std.specs.Prelude.{ℕ, Result, Ok, Err}
use Rattle.mbus_rules.specs.declared.Kind.{Kind}
use Rattle.mbus_rules.specs.declared.Kind.TheVariants as kinds
use Rattle.base_rules.specs.declared.refusals.Refusal.{Refusal}
use Rattle.mbus_rules.specs.declared.Request.TheVariants.{Read, Enter, Leave}
use Rattle.mbus_rules.specs.declared.Outline.{Outline}
use Rattle.mbus_rules.specs.declared.Outline.TheVariants.{Refused, Ack, Asks, Data}
use Rattle.mbus_rules.specs.declared.Telegram.{Telegram}
use Rattle.base_rules.specs.Answers.{Answer, reads, refusal}

-- The outline of a telegram, by its kind.
abbrev pub outline_of : Kind → ℕ → ℕ → Outline
outline_of kinds.Ack address method = Ack
outline_of kinds.Read address method = Asks (Read address)
outline_of kinds.Enter address method = Asks (Enter address method)
outline_of kinds.Leave address method = Asks (Leave address)
outline_of kinds.Data address method = Data address

-- The outline of what reading answers.
abbrev pub outlined : Answer Telegram → Outline
outlined (refusal n) = Refused n
outlined (reads t) = outline_of t.kind t.address t.method

-- The outline of a program's reading.
abbrev pub outline_in : Result Telegram Refusal → Outline
outline_in (Ok t) = outline_of t.kind t.address t.method
outline_in (Err e) = Refused e.0
