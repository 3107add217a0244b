-- `list_find::subs` meets its contract. The loop's invariant: what the offsets from here on give is the whole, and the table is right.
-- Assumes nothing.
use Prim.Native.Nat.{◌+◌, ◌-◌, ◌*◌, ◌≤◌}
use mathlib.Core.Path.{◌≡◌}
use Rattle.num_zeros.specs.Zeros.{Known}
use Rattle.list_find.specs.Walk.{file_with, subs_from}
use Rattle.list_find.proofs.subs.Given as goal

abbrev pub invariant-loop-i : goal.invariant-loop-i
invariant-loop-i l =
    (l.i ≤ l.n)
    × (subs_from (file_with l.most l.file) l.tag (l.n - l.i) (l.o + 4 * l.i) l.gone ≡ subs_from (file_with l.most l.file) l.tag l.n l.o l.k)
    × Known l.file l.known

abbrev pub decreases-loop-i : goal.decreases-loop-i
decreases-loop-i l = l.n - l.i
