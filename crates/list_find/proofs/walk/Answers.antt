-- `list_find::walk` meets its contract. The loop's invariant: the chain from here on gives the answer, and the table is right. The measure is
-- how many directories may still be gone to. Assumes nothing.
use Rattle.std.proofs.Common.{sym, ◌∙◌, arith}
use Rattle.list_find.proofs.Fine.{turn-whole, turn_more, chain-stop, chain-on, chain-end}
use Rattle.list_find.proofs.walk.Goals as goal

pub returns-in-Break : goal.returns-in-Break
returns-in-Break c =
    sym (chain-stop _ _ _ _ c.directory.ensures.value c.loop-at-test.true c.in-Break.is) ∙ c.loop-at.invariant.1

pub next-at-requires : goal.next-at-requires
next-at-requires c = turn-whole _ _ _ _ c.directory.ensures.value c.in-Continue.is

pub loop-at-smaller : goal.loop-at-smaller
loop-at-smaller c = omega (arith, turn_more _ _ _ _ c.directory.ensures.value c.in-Continue.is, c.loop-at.invariant.0)

pub loop-at-preserved : goal.loop-at-preserved
loop-at-preserved c = (
  (turn_more _ _ _ _ c.directory.ensures.value c.in-Continue.is).1,
  sym (chain-on _ _ _ _ c.directory.ensures.value c.loop-at-test.true c.in-Continue.is c.next-at.ensures) ∙ c.loop-at.invariant.1,
  c.directory.ensures.known,
)

pub returns : goal.returns
returns c = sym (chain-end _ _ _ _ c.loop-at-test.false) ∙ c.loop-at.invariant.1
