-- `say_note::put_about` meets its contract: the names that were collected are those of the part. Assumes nothing.
use Prim.Native.Nat.{ℕ}
use mathlib.Core.Path.{sym, ap}
use mathlib.Core.List.{List}
use native.Mathlib.Omega.{arith}
use lib.Seq.{length-take-le}
use Rattle.num_text.proofs.Laws.{appended-as}
use Rattle.say_note.specs.Note.{about}
use Rattle.say_note.specs.Parts.{part_of}
use Rattle.say_note.proofs.Room.{names-bound}
use Rattle.say_note.proofs.put_about.Goals as goal

pub slice_bounds-codes-end : goal.slice_bounds-codes-end
slice_bounds-codes-end c =
    let a = c.args in
    omega (arith, c.collect-m.auto.codes, c.collect-m.ensures.ends, names-bound (part_of a.part) a.list.now)

pub slice_bounds-put_line-end : goal.slice_bounds-put_line-end
slice_bounds-put_line-end c =
    let a = c.args in
    sym (length-take-le _ _
    (omega (arith, c.collect-m.auto.codes, c.collect-m.ensures.ends, names-bound (part_of a.part) a.list.now)))

pub put_line-requires : goal.put_line-requires
put_line-requires c = rw c.collect-m.ensures.written c.requires

pub returns : goal.returns
returns c =
    let a = c.args in
    appended-as (ap (λ (l : List ℕ). about a.head.now l a.end.now) c.collect-m.ensures.written)
    c.put_line.ensures
