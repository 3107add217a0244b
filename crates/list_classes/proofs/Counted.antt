-- A fact counted as a number. Assumes nothing.
use Rattle.std.specs.Prelude.{ℕ, ◌≤◌, Bool, true, false, cond, ◌≡◌, refl}
use mir.Val.{bool_byte}
use Rattle.std.proofs.Common.{arith}

pub counted : (b : Bool) → bool_byte b ≡ cond b 1 0
counted true = refl
counted false = refl

pub counted-most : (b : Bool) → bool_byte b ≤ 1
counted-most true = omega arith
counted-most false = omega arith
