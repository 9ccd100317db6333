-- `host_verdicts::put_records` meets its contract: so many records are laid.
use native.Mathlib.Omega.{arith}
use Rattle.base_lent.proofs.Laws.PieceLaws.{pieced_length, pieced_none, pieced_all}
use Rattle.host_verdicts.proofs.Laws.Told.{length_record, puts_next}
use Rattle.host_verdicts.proofs.put_records.Goals as goal

pub loop-i-init : goal.loop-i-init
loop-i-init c = pieced_none length_record (omega (arith, c.requires))

pub loop-i-preserved : goal.loop-i-preserved
loop-i-preserved c = puts_next _ c.loop-i.invariant c.loop-i-test.true c.record_of-bytes.ensures c.lay.ensures

pub shape_of-out : goal.shape_of-out
shape_of-out c = pieced_length c.loop-i.invariant

pub returns : goal.returns
returns c = pieced_all c.loop-i.invariant c.loop-i-test.false
