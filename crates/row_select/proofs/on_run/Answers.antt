-- `on_run` meets its contract: each turn is one step of the run. Assumes nothing.
use Prim.Native.Nat.{◌+◌}
use mathlib.Core.Path.{ap₂, ◌∙◌}
use native.Mathlib.Omega.{arith}
use Rattle.row_select.proofs.Steps.{steps-begin, steps_next, steps-end}
use Rattle.row_select.proofs.on_run.Goals as goal

pub loop-i-init : goal.loop-i-init
loop-i-init g c = (0, omega arith, λ h law. steps-begin _ _ _ _ _)

pub loop-i-preserved : goal.loop-i-preserved
loop-i-preserved g c =
    let u = c.loop-i.invariant in
    let v = c.index-row-i in (
      u.0 + 1,
      omega (arith, u.1),
      λ h law. steps_next v.result (omega arith) (u.2 h law) (omega arith) (law _ _ _ (omega arith) c.f.ensures ∙ ap₂ h (omega (arith, u.1)) v.is),
    )

pub returns : goal.returns
returns g c = λ h law. steps-end (c.loop-i.invariant.2 h law) (omega arith)
