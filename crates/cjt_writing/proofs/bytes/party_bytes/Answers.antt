-- `cjt_writing::bytes::party_bytes` meets its contract.
use mathlib.Core.Path.{sym, ap, ◌∙◌}
use Rattle.cjt_rules.specs.CjtWriting.{bytes_of_party}
use Rattle.cjt_writing.proofs.bytes.party_bytes.Goals as goal

pub returns-in-Meter : goal.returns-in-Meter
returns-in-Meter c = c.packed_digits.ensures ∙ ap bytes_of_party (sym c.in-Meter.is)
