-- `each_plane` meets its contract: the planes from the region's first up to p are done. Assumes nothing.
use Prim.Native.Nat.{ℕ, ◌-◌, ◌≤◌, max}
use mathlib.Core.Path.{◌≡◌}
use Rattle.row_opcode.specs.Calls.{Does}
use Rattle.row_opcode.specs.Planes.{region_planes}
use Rattle.row_opcode.proofs.each_plane.Given as goal

abbrev pub invariant-loop-p : goal.invariant-loop-p
invariant-loop-p g l =
    (l.p ≤ max l.r.plane l.p-end)
    × ((h : ℕ → ℕ → g.row.T.Denot → g.row.T.Denot) → Does l.r (goal.F-post g l.one) h
    → l.row ≡ region_planes l.g l.r (l.p - l.r.plane) h l.initial.row)
