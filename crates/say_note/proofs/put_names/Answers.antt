-- `say_note::put_names` meets its contract. The loop's invariant: what is put and what stands for the names from the k-th on are all names,
-- and the flags are those of the names before it. Assumes nothing.
use Prim.Native.Nat.{◌+◌, ◌<◌}
use mathlib.Core.Path.{ap}
use native.Mathlib.Omega.{arith}
use borrow.Author.Rules.{rules}
use lib.ListN.{length, length-append, get_or}
use Rattle.num_text.proofs.Partly.{partly-start, partly_more, partly-end}
use Rattle.say_note.specs.Parts.{piece_at}
use Rattle.say_note.proofs.Names.{from, from_start, from_more, from_end}
use Rattle.say_note.proofs.Seen.{seen_none, seen_more}
use Rattle.say_note.proofs.put_names.Goals as goal

pub loop-k-init : goal.loop-k-init
loop-k-init c = (partly-start _ _ (from_start _), seen_none)

pub put_piece-end-requires : goal.put_piece-end-requires
put_piece-end-requires c =
    let l = c.loop-k in
    let a = c.args in
    let k : l.k < length a.codes.now = omega arith in
    let b : get_or a.codes.now l.k 0 < 256 = search rules in (
      k,
      l.invariant.1.flag _ b,
      omega (
        arith,
        l.invariant.0.ends,
        ap length (from_more a.codes.now l.k k),
        length-append (piece_at a.codes.now l.k) (from a.codes.now (l.k + 1)),
      ),
    )

pub loop-k-preserved : goal.loop-k-preserved
loop-k-preserved c =
    let l = c.loop-k in
    let b : get_or c.args.codes.now l.k 0 < 256 = search rules in (
      partly_more (from_more _ _ (omega arith)) l.invariant.0 c.put_piece-end.ensures,
      seen_more _ l.k (omega arith) b l.invariant.1,
    )

pub returns : goal.returns
returns c = partly-end (from_end _ _ (omega arith)) c.loop-k.invariant.0
