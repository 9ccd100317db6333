-- `host_incoming::unmarking::skarrowith_unmark` meets its contract: what is answered is put in the two places.
use mathlib.Core.Path.{refl, ap}
use Rattle.serial_marks.specs.declared.Unmarked.{Unmarked}
use Rattle.host_incoming.proofs.unmarking.skarrowith_unmark.Goals as goal

pub returns : goal.returns
returns c =
    let e = c.unmark-answer.ensures in
    record {
      answer = refl;
      left = e.left;
      bytes_used = ap (λ (u : Unmarked). u.used) e.answer;
      characters_made = ap (λ (u : Unmarked). u.made) e.answer;
    }
