-- `list_find::own` meets its contract. The loop's invariant: what the entries from here on give is the whole. Assumes nothing.
use Prim.Native.Nat.{◌+◌, ◌-◌, ◌*◌}
use mathlib.Core.Path.{◌≡◌}
use Rattle.list_find.specs.Walk.{file_with, own_from}
use Rattle.list_find.proofs.own.Given as goal

abbrev pub invariant-loop-i : goal.invariant-loop-i
invariant-loop-i l =
    own_from (file_with l.most l.file) l.tag (l.n - l.i) (l.e + 12 * l.i) l.k ≡ own_from (file_with l.most l.file) l.tag l.n l.e l.k
