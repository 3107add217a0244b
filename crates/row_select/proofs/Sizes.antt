-- The numbers of a walk are small: nothing that is worked out of them wraps. Assumes nothing.
use Prim.Native.Nat.{ℕ, ◌+◌, ◌*◌, ◌≤◌, ◌<◌, max}
use native.Mathlib.Nat.{mul-le-mul_left, mul-one}
use native.Mathlib.Omega.{arith}
use Rattle.pointwise.proofs.Walk.{first-bound}
use Rattle.row_select.specs.declared.Walk.{Walk}
use Rattle.row_select.specs.Walks.{Walks}

module _ {k : Walk} {n : ℕ} (w : Walks k n) where
  -- a number times the planes is at most 8 times the number, and no less than it
  pub by-planes : (x : ℕ) → x * k.planes ≤ x * 8
  by-planes x = mul-le-mul_left x w.few

  pub at_least : (x : ℕ) → x ≤ x * k.planes
  at_least x = omega (arith, mul-le-mul_left x w.some, mul-one x)

  pub begin-small : k.col * k.planes + k.plane < 68719476736
  begin-small =
      let first : k.col ≤ max k.left (max k.pitch 1) = first-bound k.left k.pitch k.x0 k.col k.nth w.first in
      omega (arith, by-planes k.col, w.left32, w.pitch32, w.inside, w.few)

  pub step_small : k.pitch * k.planes < 34359738368
  step_small = omega (arith, by-planes k.pitch, w.pitch32)

  pub step-goes : 1 ≤ k.pitch * k.planes
  step-goes = omega (arith, at_least k.pitch, w.spaced)

  pub nth-small : k.nth < 8589934592
  nth-small =
      let first : k.col ≤ max k.left (max k.pitch 1) = first-bound k.left k.pitch k.x0 k.col k.nth w.first in
      let more : k.nth * 1 ≤ k.nth * max k.pitch 1 = mul-le-mul_left k.nth (omega arith) in
      omega (arith, w.first.here, w.column, w.left32, w.pitch32)
