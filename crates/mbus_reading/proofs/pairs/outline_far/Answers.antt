-- `mbus_reading::pairs::outline_far` meets its contract.
use native.Mathlib.Omega.{arith}
use mathlib.Core.Path.{sym, ap, ◌∙◌}
use Rattle.base_characters.specs.Characters.{byte_of, chars}
use Rattle.base_characters.proofs.Laws.CharacterLaws.{at_bytes}
use Rattle.mbus_rules.specs.Outlines.{outlined}
use Rattle.base_characters.proofs.Laws.PairLaws.{length_characters}
use Rattle.mbus_reading.proofs.Laws.TakingLaws.{far_line}
use Rattle.mbus_reading.proofs.pairs.outline_far.Goals as goal

pub returns : goal.returns
returns c =
    let b = c.args.bytes.now in
    let s = chars b in
    rw c.far_of-refused.ensures
    (ap outlined
    (sym
    (far_line s (omega (arith, length_characters b, c.requires)) c.soundness_of.ensures
    (ap byte_of c.character_at-first.ensures ∙ sym (at_bytes s 0)))))
