-- `first_column` meets its contract: up to left, at a pitch of 1, on a selected column, and between two. Assumes nothing.
use Prim.Native.Nat.{ℕ, ◌-◌, ◌≤◌, max}
use mathlib.Core.Path.{◌≡◌}
use native.Mathlib.Nat.{mul-one, mod-lt, div-le_self}
use native.Mathlib.Omega.{arith}
use Rattle.pointwise.proofs.Walk.{first-near, first-left, first_on, first_off}
use Rattle.pointwise.specs.Select.{First}
use Rattle.row_select.proofs.first_column.Lts as lts
use Rattle.row_select.proofs.first_column.Reads as reads
use Rattle.row_select.proofs.first_column.Tie as tie
use Rattle.row_select.proofs.first_column.Goals as goal

-- at a pitch of 1 every column from left on is selected
first-each : (lo pitch x0 : ℕ) → max pitch 1 ≡ 1 → lo ≤ x0 → First lo pitch x0 0 (x0 - lo)
first-each lo pitch x0 e h = first-near lo pitch x0 0 (x0 - lo) (rw e (omega (arith, mul-one (x0 - lo)))) (λ k. omega arith)

-- the distance from left
abbrev distance : lts.Start tie.the-claims reads.Pre reads.Post → ℕ
distance s = s.args.x0 - s.args.left

pub returns-then-at-lo : goal.returns-then-at-lo
returns-then-at-lo c =
    first-left c.args.left c.args.pitch c.args.x0 c.if-at-lo.true

pub returns-then-step-lt2 : goal.returns-then-step-lt2
returns-then-step-lt2 c =
    first-each c.args.left c.args.pitch c.args.x0 (omega arith) (omega arith)

pub returns-then-rest-eq0 : goal.returns-then-rest-eq0
returns-then-rest-eq0 c =
    let step = c.before.before.before in
    first_on c.args.left c.args.pitch c.args.x0 c.max-step.result c.max-step.ensures (omega arith) c.if-rest-eq0.true

pub overflow_sub-forward : goal.overflow_sub-forward
overflow_sub-forward c =
    let step = c.before.before.before in
    omega (arith, mod-lt (distance step.before) {m = c.max-step.result} (omega arith))

pub overflow_add-result : goal.overflow_add-result
overflow_add-result c =
    let step = c.before.before.before in
    omega (arith, div-le_self (distance step.before) c.max-step.result)

pub returns : goal.returns
returns c =
    let step = c.before.before.before in
    first_off c.args.left c.args.pitch c.args.x0 c.max-step.result c.max-step.ensures (omega arith) (omega arith)
