-- `run_picture::words::words_of` meets its contract: a row more each time.
use borrow.Author.Rules.{rules}
use Prim.Native.Nat.{zero-le}
use mathlib.Core.Path.{◌≡◌}
use native.Mathlib.Omega.{arith}
use Rattle.bundle_check.proofs.Laws.BodyLaws.{few_rows}
use Rattle.run_picture.proofs.Laws.Words.{worded_next}
use Rattle.run_picture.proofs.words.words_of.Goals as goal

pub loop-i-init : goal.loop-i-init
loop-i-init c = (zero-le, record { places = search rules; so = λ j h. absurd (omega (arith, h)) })

pub number_in-word-requires : goal.number_in-word-requires
number_in-word-requires c = c.loop-i-test.true

pub offset_bounds-words-i : goal.offset_bounds-words-i
offset_bounds-words-i c =
    omega (arith, few_rows c.args.bundle.bytes.now c.args.bundle.count c.args.bundle.accepted, c.loop-i-test.true)

pub bounds-words-i : goal.bounds-words-i
bounds-words-i c =
    omega (arith, few_rows c.args.bundle.bytes.now c.args.bundle.count c.args.bundle.accepted, c.loop-i-test.true)

pub loop-i-preserved : goal.loop-i-preserved
loop-i-preserved c =
    let test = c.loop-i-test.true in
    let few = few_rows c.args.bundle.bytes.now c.args.bundle.count c.args.bundle.accepted in
    (omega (arith, test), worded_next c.number_in-word.result c.loop-i.invariant.1 (omega (arith, few, test)) c.number_in-word.ensures)

pub returns : goal.returns
returns c =
    let inv = c.loop-i.invariant in
    let all : c.loop-i.i ≡ c.args.bundle.count = omega (arith, inv.0, c.loop-i-test.false) in
    rw all at inv.1
