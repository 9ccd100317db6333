-- `run_picture::page::page_for` meets its contract.
use native.Mathlib.Omega.{arith}
use native.Mathlib.Nat.{mul-le-mul}
use Prim.Native.Nat.{◌*◌, ◌≤◌}
use Rattle.run_picture.proofs.page.page_for.Goals as goal

pub overflow_mul-result-6 : goal.overflow_mul-result-6
overflow_mul-result-6 c =
    let scale = c.scale_for-scale.result in
    let fields = c.fields_for-fields.result in
    let h : 240 * scale * fields ≤ 48000 * 8589934597 = mul-le-mul {n₁ = 240 * scale} {n₂ = 48000} (omega arith) c.fields_for-fields.ensures.1 in
    omega (arith, h)

pub returns : goal.returns
returns c = (
  rw (c.fields_for-fields.ensures.0, c.scale_for-scale.ensures.0),
  record { step = omega arith; fields = c.fields_for-fields.ensures.1; lanes = c.requires.0 },
)
