-- `strides` meets its contract: each turn is one place of the walk. Assumes nothing.
use Prim.Native.Nat.{◌-◌}
use Rattle.row_black.specs.Rows.{step_rule}
use Rattle.row_black.proofs.Walks.{Walk}
use Rattle.row_black.proofs.strides.Given as goal

abbrev pub invariant-loop-j : goal.invariant-loop-j
invariant-loop-j g l =
    Walk l.from l.step l.pitch l.x (step_rule g.S.Sample.none g.S.Sample.to_float l.input l.a l.columns l.x l.pitch l.step) l.initial.out l.out l.j l.c

abbrev pub decreases-loop-j : goal.decreases-loop-j
decreases-loop-j g l = l.n - l.j
