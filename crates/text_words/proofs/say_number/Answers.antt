-- `text_words::say_number` meets its contract.
use mathlib.Core.Path.{◌≡◌}
use native.Mathlib.Omega.{arith}
use Rattle.base_rules.specs.Answers.{refusal}
use Rattle.text_words.proofs.Laws.Blocks.{no_words}
use Rattle.text_words.specs.Refusals.{text_of}
use Rattle.text_words.proofs.say_number.Goals as goal

pub returns : goal.returns
returns c =
    let none : text_of c.args.number ≡ refusal 100 = no_words c.args.number
    (omega arith) in
    record { answer = rw none c.told.ensures; holds = rw none }
