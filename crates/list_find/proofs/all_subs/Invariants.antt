-- `list_find::all_subs` meets its contract. The loop's invariant: what the entries from here on give is the whole, and the table is right.
-- Assumes nothing.
use Prim.Native.Nat.{◌+◌, ◌-◌, ◌*◌}
use mathlib.Core.Path.{◌≡◌}
use Rattle.num_zeros.specs.Zeros.{Known}
use Rattle.list_find.specs.Walk.{file_with, all_subs}
use Rattle.list_find.proofs.all_subs.Given as goal

abbrev pub invariant-loop-i : goal.invariant-loop-i
invariant-loop-i l =
    (all_subs (file_with l.most l.file) l.tag (l.n - l.i) (l.e + 12 * l.i) l.gone ≡ all_subs (file_with l.most l.file) l.tag l.n l.e l.k)
    × Known l.file l.known
