-- `row_selected` meets its contract: outside top..bottom, and inside it the pitch. Assumes nothing.
use Prim.Native.Nat.{ℕ, ◌-◌, ◌≤◌, ◌<◌, max}
use mathlib.Core.Path.{◌≡◌, sym}
use mathlib.Core.Bool.{true}
use native.Mathlib.Nat.{mul-one}
use native.Mathlib.Omega.{arith}
use borrow.Author.Tests.{le-leb, lt-ltb}
use Rattle.pointwise.proofs.Select.{selects_at, selects-low, selects-high}
use Rattle.pointwise.specs.Select.{selects}
use Rattle.row_select.proofs.row_selected.Goals as goal

-- a pitch of 1 selects every row of the region
selects-every : (lo hi pitch x : ℕ) → max pitch 1 ≡ 1 → lo ≤ x → x < hi → selects lo hi pitch x ≡ true
selects-every lo hi pitch x e l h = selects_at lo hi pitch x (x - lo) (rw e (omega (arith, mul-one (x - lo)))) h

pub returns-then-y-lo : goal.returns-then-y-lo
returns-then-y-lo c = sym (selects-low _ _ _ _ c.if-y-lo.true)

pub returns-then-hi-y : goal.returns-then-hi-y
returns-then-hi-y c = sym (selects-high _ _ _ _ c.if-hi-y.true)

pub returns-then-step-lt2 : goal.returns-then-step-lt2
returns-then-step-lt2 c =
    let step = c.max-step in
    let one : max c.args.pitch 1 ≡ 1 = omega (arith, c.if-step-lt2.true, step.ensures) in
    sym (selects-every c.args.top c.args.bottom c.args.pitch c.args.y one c.if-y-lo.false c.if-hi-y.false)

pub returns : goal.returns
unfolding selects
returns c =
    simp (le-leb _ _ c.if-y-lo.false, lt-ltb _ _ c.if-hi-y.false, c.max-step.ensures)
