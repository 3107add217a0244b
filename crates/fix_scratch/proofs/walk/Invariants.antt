-- `fix_scratch::walk` meets its contract: after each turn the span up to p is held besides what was held at the start.
-- Assumes nothing.
use Prim.Native.Nat.{◌-◌, ◌≤◌, max}
use Rattle.fix_scratch.proofs.Joining.{Steps}
use Rattle.fix_scratch.specs.Scratch.{span}
use Rattle.fix_scratch.proofs.walk.Given as goal

abbrev pub invariant-loop-p : goal.invariant-loop-p
invariant-loop-p l = Steps l.top (span l.a) l.initial.s l.fn.held.t l.s l.k l.p × (l.a ≤ l.p) × (l.p ≤ max l.a l.b)

abbrev pub decreases-loop-p : goal.decreases-loop-p
decreases-loop-p l = l.b - l.p
