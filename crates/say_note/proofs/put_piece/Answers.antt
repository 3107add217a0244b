-- `say_note::put_piece` meets its contract, by whether the name occurs before and is the first. Assumes nothing.
use mathlib.Core.Path.{ap}
use native.Mathlib.Omega.{arith}
use lib.ListN.{length}
use Rattle.num_text.proofs.Laws.{appended-as, appended-none, appended_then}
use Rattle.say_note.proofs.Names.{piece-again, piece-first, piece-next, piece-length}
use Rattle.say_note.proofs.put_piece.Goals as goal

pub returns-then-again : goal.returns-then-again
returns-then-again c =
    appended-as (piece-again c.args.codes.now c.args.k c.requires.1 c.if-again.true) (appended-none _ _)

pub put_item-requires : goal.put_item-requires
put_item-requires c =
    omega (arith, c.requires.2, ap length (piece-first c.args.codes.now c.args.k c.requires.1 c.if-again.false c.if-k-eq0.true))

pub put-end-requires : goal.put-end-requires
put-end-requires c =
    omega (arith, c.requires.2, piece-length c.args.codes.now c.args.k c.requires.1 c.if-again.false c.if-k-eq0.false)

pub put_item-requires-else-k-eq0 : goal.put_item-requires-else-k-eq0
put_item-requires-else-k-eq0 c =
    omega (
      arith,
      c.put-end.auto.out,
      c.put-end.ensures.ends,
      c.requires.2,
      piece-length c.args.codes.now c.args.k c.requires.1 c.if-again.false c.if-k-eq0.false,
    )

pub returns-then-k-eq0 : goal.returns-then-k-eq0
returns-then-k-eq0 c =
    appended-as (piece-first c.args.codes.now c.args.k c.requires.1 c.if-again.false c.if-k-eq0.true) c.put_item.ensures

pub returns-else-k-eq0 : goal.returns-else-k-eq0
returns-else-k-eq0 c =
    appended-as (piece-next c.args.codes.now c.args.k c.requires.1 c.if-again.false c.if-k-eq0.false)
    (appended_then c.put-end.ensures c.put_item-else-k-eq0.ensures)
