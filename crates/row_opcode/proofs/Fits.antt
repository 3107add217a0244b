-- What the bounds of a task give the kernels. Assumes nothing.
use Prim.Native.Nat.{ℕ, ◌*◌, max}
use mathlib.Core.Path.{◌≡◌}
use mathlib.Core.Bool.{true}
use native.Mathlib.Omega.{arith}
use borrow.Author.Tests.{leb-true}
use lib.Dec.{leb}
use Rattle.std.proofs.lemmas.Bool.{and_parts}
use Rattle.dng.specs.declared.Grid.{Grid}
use Rattle.row_gain.specs.Gain.{Sized}
use Rattle.row_opcode.specs.declared.Task.TheVariants.{Gain}
use Rattle.row_opcode.specs.Plans.{task_fits}
use Rattle.row_opcode.specs.Planes.{map_plane}

-- the map plane of any plane is one of the map's
pub gain-fits : (pv ph : ℕ) (g : Grid) (mp plane first : ℕ) {m : ℕ} → task_fits (Gain pv ph g mp) ≡ true → m ≡ map_plane plane first mp
    → Sized pv ph mp m
gain-fits pv ph g mp plane first h e =
    let f = and_parts (leb 1 (pv * ph * max mp 1)) (leb (pv * ph * max mp 1) 16777216) h in
    record { some = leb-true _ _ f.0; few = leb-true _ _ f.1; plane = omega arith }
