-- `mbus_fields::digits::signed_in` meets its contract: by its mark where a digit is over nine, else by its digits alone.
use Prim.Native.Nat.{min}
use mathlib.Core.Bool.{Bool, false, cond}
use mathlib.Core.Path.{◌≡◌, sym, ap, ◌∙◌}
use Rattle.base_digits.specs.Digits.{over_nine, packed_of}
use Rattle.base_rules.specs.Lists.{any}
use Rattle.base_numbers.specs.Numbers.{bytes_of}
use Rattle.base_digits.specs.declared.Packed.{Packed}
use Rattle.mbus_fields.specs.Fields.{mark_of, sign_on, marked_in}
use Rattle.mbus_fields.proofs.Laws.MarkLaws.{word_small}
use Rattle.mbus_fields.proofs.digits.signed_in.Goals.{After-packed_in-plain}
use Rattle.mbus_fields.proofs.digits.signed_in.Goals as goal

-- whether a digit of the word is over nine
told : (c : After-packed_in-plain) {t : Bool} → c.packed_in-plain.result.wrong ≡ t → any over_nine (bytes_of 8 c.args.word) ≡ t
told c w = sym (ap (λ (p : Packed). p.wrong) c.packed_in-plain.ensures) ∙ w

pub returns-then-plain : goal.returns-then-plain
returns-then-plain c = c.marked_of.ensures ∙ rw (c.mark_of-mark.ensures, told (goal.at.returns-then-plain c).After-packed_in-plain c.if-plain.true)

pub sign_on-requires : goal.sign_on-requires
sign_on-requires c = rw c.packed_in-plain.ensures (word_small c.args.word)

pub returns : goal.returns
returns c =
    let a = c.args in
    c.sign_on.ensures
    ∙ ap (sign_on false) c.packed_in-plain.ensures
    ∙ sym (ap (λ (t : Bool). cond t (marked_in (mark_of (min a.width 8)) a.word) (sign_on false (packed_of (bytes_of 8 a.word))))
    (told (goal.at.returns c).After-packed_in-plain c.if-plain.false))
