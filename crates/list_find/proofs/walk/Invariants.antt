-- `list_find::walk` meets its contract. The loop's invariant: the chain from here on gives the answer, and the table is right. The measure is
-- how many directories may still be gone to. Assumes nothing.
use Prim.Native.Nat.{◌-◌, ◌≤◌}
use mathlib.Core.Path.{◌≡◌}
use Rattle.num_zeros.specs.Zeros.{Known}
use Rattle.list_find.specs.Walk.{file_with, chain}
use Rattle.list_find.proofs.walk.Given as goal

abbrev pub invariant-loop-at : goal.invariant-loop-at
invariant-loop-at l =
    (l.gone ≤ 64)
    × (chain (file_with l.most l.file) l.tag 65 l.at l.gone ≡ chain (file_with l.most l.file) l.tag 65 l.first 0)
    × Known l.file l.known

abbrev pub decreases-loop-at : goal.decreases-loop-at
decreases-loop-at l = 65 - l.gone
