-- `say_note::collect` meets its contract. The loop's invariant: the names that are kept and those that are left from the cursor on are all names.
-- Assumes nothing.
use Prim.Native.Nat.{◌-◌, ◌≤◌}
use Rattle.num_text.proofs.Partly.{Partly}
use Rattle.dng.specs.List.{read_from, items_of}
use Rattle.dng.specs.Run.{names_of}
use Rattle.say_note.specs.Parts.{part_of}
use Rattle.say_note.proofs.collect.Given as goal

abbrev pub invariant-loop-k : goal.invariant-loop-k
invariant-loop-k l =
    (l.j ≤ l.k) ×
    Partly l.initial.codes 0 l.j l.codes (names_of (part_of l.part) (read_from l.list (l.n - l.k) l.c)) (names_of (part_of l.part) (items_of l.list))
