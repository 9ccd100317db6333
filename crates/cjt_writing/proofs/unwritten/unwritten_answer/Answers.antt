-- `cjt_writing::unwritten::unwritten_answer` meets its contract.
use Rattle.cjt_rules.specs.CjtWriting.{unwritten}
use Rattle.cjt_writing.proofs.unwritten.unwritten_answer.Goals as goal

pub returns : goal.returns
unfolding unwritten
returns c =
    rw (
      c.is_heat_type-known.ensures,
      c.unwritten_counts-long.ensures,
      c.wrong_clock-no_time.ensures,
      c.wrong_units-no_unit.ensures,
    )
