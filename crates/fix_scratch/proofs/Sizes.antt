-- A window's positions are at most 2^32. Assumes nothing.
use Prim.Native.Nat.{◌*◌, ◌≤◌}
use native.Mathlib.Nat.{mul-le-mul}
use Rattle.dng.specs.declared.Window.{Window}
use Rattle.fix_scratch.specs.Marks.{Fits}

pub area : (w : Window) → Fits w → w.width * w.height ≤ 4294967296
area w f = mul-le-mul f.width f.height
