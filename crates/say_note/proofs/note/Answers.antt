-- `say_note::note` meets its contract: the buffer's type says that there is room. Assumes nothing.
use Prim.Native.Nat.{◌≤◌}
use mathlib.Core.Path.{sym}
use native.Mathlib.Omega.{arith}
use lib.ListN.{length}
use lib.Seq.{length-take-le}
use Rattle.say_note.proofs.Room.{note-bound}
use Rattle.say_note.proofs.note.Goals as goal

pub returns : goal.returns
returns c =
    let e = c.put_note.ensures in
    let fits : c.put_note.result ≤ length c.put_note.new.out =
    omega (arith, e.ends, c.put_note.auto.out, note-bound c.args.list.now) in
    record { note = e; fits = fits; part = sym (length-take-le _ _ fits) }
