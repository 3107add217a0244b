-- `raise_pixels` meets its contract: the pixels before j are raised. Assumes nothing.
use Prim.Native.Nat.{◌+◌, ◌*◌}
use Rattle.row_vignette.proofs.Pixels.{Upto}
use Rattle.row_vignette.proofs.raise_pixels.Given as goal

abbrev pub invariant-loop-j : goal.invariant-loop-j
invariant-loop-j l = Upto l.gains l.a l.planes l.initial.row l.row l.j (l.a + l.j * l.planes)
