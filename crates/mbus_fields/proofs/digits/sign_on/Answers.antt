-- `mbus_fields::digits::sign_on` meets its contract: each sign.
use lib.IntN.{pos}
use mir.Syntax.{w64}
use mir.ValLaws.{to_z-of_z}
use Rattle.mbus_fields.proofs.digits.sign_on.Goals as goal

pub returns-then-falls : goal.returns-then-falls
returns-then-falls c =
    let n = c.negated-count in
    rw (c.if-falls.true, to_z-of_z w64 n.result (record { sfits = n.type_inv }), n.ensures)

pub returns : goal.returns
returns c = rw (c.if-falls.false, to_z-of_z w64 (pos c.args.size.count) (record { sfits = c.requires }))
