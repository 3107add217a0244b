-- `fix_listed::patch` meets its contract: whole rows are one run; else, after each turn, the rows up to y are held besides what was held at the
-- start. Assumes nothing.
use Prim.Native.Nat.{◌≤◌, max}
use Rattle.fix_listed.specs.Listed.{block}
use Rattle.fix_scratch.proofs.Joining.{Steps}
use Rattle.fix_listed.proofs.patch.Given as goal

abbrev pub invariant-loop-y : goal.invariant-loop-y
invariant-loop-y l = Steps l.top (λ j. block l.width l.r.top l.r.left j l.r.right) l.initial.s l.fn.held.t l.s l.k l.y × (l.r.top ≤ l.y) × (l.y ≤ max l.r.top l.r.bottom)
