-- `num_zeros::blocks` meets its contract. The loop's invariant: the blocks up to k are zero, and the table is right. Assumes nothing.
use Prim.Native.Nat.{◌-◌}
use mathlib.Core.Path.{◌≡◌}
use lib.ListN.{length}
use Rattle.num_zeros.specs.Zeros.{Counted}
use Rattle.num_zeros.proofs.blocks.Given as goal

abbrev pub invariant-loop-k : goal.invariant-loop-k
invariant-loop-k l = Counted l.s l.j l.k l.known × (length l.known ≡ length l.initial.known)

abbrev pub decreases-loop-k : goal.decreases-loop-k
decreases-loop-k l = l.last - l.k
