-- `fix_scratch::compact` meets its contract: what is held ascends already, or comes out packed, or joined.
-- Assumes nothing.
use native.Mathlib.Omega.{arith}
use Rattle.fix_scratch.proofs.Filling.{tidied-runs}
use Rattle.fix_scratch.proofs.compact.Goals as goal

pub join-requires : goal.join-requires
join-requires c =
    let tidy = c.tidy-m in
    let into = c in
    let room = c.joins.ensures c.if-joins.true in
    tidied-runs _ _ _ _ _ _ tidy.ensures (omega (arith, tidy.ensures.within, tidy.auto.s, room, c.requires.order, c.requires.fits))
