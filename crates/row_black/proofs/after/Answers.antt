-- `after` meets its contract: a remainder counted. Assumes nothing.
use mathlib.Core.Path.{sym, ap, ◌∙◌}
use native.Mathlib.Omega.{arith}
use Prim.Native.Nat.{ℕ, ◌+◌}
use Rattle.row_black.proofs.Spots.{stays, turns}
use Rattle.row_black.proofs.after.Goals as goal

pub returns-then-i-n : goal.returns-then-i-n
returns-then-i-n c = λ k e. ap (λ (i : ℕ). i + 1) e ∙ sym (stays k _ (omega (arith, e))).0

pub returns-else-i-n : goal.returns-else-i-n
returns-else-i-n c = λ k e. sym (turns k _ (omega arith) (omega (arith, e))).0
