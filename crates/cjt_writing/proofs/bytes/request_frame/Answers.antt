-- `cjt_writing::bytes::request_frame` meets its contract.
use Prim.Native.Nat.{ℕ}
use mathlib.Core.List.{List, [], ◌∷◌}
use mathlib.Core.Path.{ap}
use Rattle.cjt_writing.proofs.Laws.Framing.{party_listed}
use Rattle.cjt_writing.proofs.bytes.request_frame.Goals as goal

pub returns : goal.returns
returns c = rw c.party_bytes-a.ensures (ap (λ (l : List ℕ). 0x68 ∷ c.args.q.meter_type ∷ l) (party_listed c.args.q.address
    (0x01 ∷ 0x03 ∷ 0x1F ∷ 0x90 ∷ c.args.q.serial ∷ [])))
