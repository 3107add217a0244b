-- `say_note::put_note` meets its contract, by the length and by what was read. Assumes nothing.
use mathlib.Core.Path.{sym, ◌∙◌}
use native.Mathlib.Omega.{arith}
use Rattle.say_note.proofs.Lines.{note-long, note-malformed, note-whole}
use Rattle.say_note.proofs.Room.{malformed-bound, lines-bound}
use Rattle.say_note.proofs.put_note.Goals as goal

pub returns-then-list-gt65535 : goal.returns-then-list-gt65535
returns-then-list-gt65535 c = note-long _ c.if-list-gt65535.true c.put.ensures

pub put_malformed-requires : goal.put_malformed-requires
put_malformed-requires c =
    omega (
      arith,
      c.requires,
      malformed-bound c.args.list.now
          (sym c.read.ensures ∙ c.in-Err.is),
    )

pub put_lines-requires : goal.put_lines-requires
put_lines-requires c =
    omega (arith, c.requires, lines-bound c.args.list.now)

pub returns-in-Err : goal.returns-in-Err
returns-in-Err c =
    note-malformed _ c.if-list-gt65535.false c.read.ensures c.in-Err.is
    c.put_malformed.ensures

pub returns-in-Ok : goal.returns-in-Ok
returns-in-Ok c =
    note-whole _ c.if-list-gt65535.false c.read.ensures c.in-Ok.is c.put_lines.ensures
