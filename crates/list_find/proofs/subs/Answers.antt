-- `list_find::subs` meets its contract. The loop's invariant: what the offsets from here on give is the whole, and the table is right.
-- Assumes nothing.
use Rattle.std.proofs.Common.{sym, ◌∙◌}
use Rattle.list_find.proofs.Laws.{subs-stop, subs-on, subs-end}
use Rattle.list_find.proofs.subs.Goals as goal

pub returns-in_err-gone-clause-value : goal.returns-in_err-gone-clause-value
returns-in_err-gone-clause-value c =
    c.from_residual.ensures ∙ sym (subs-stop _ _ _ _ _ _ c.loop-i-test.true c.word-at.ensures.0 c.sub.ensures c.in_err-gone.was) ∙ c.loop-i.invariant.1

pub loop-i-preserved : goal.loop-i-preserved
loop-i-preserved c = (
  c.next_sub-i.ensures.skipped.most,
  sym (subs-on _ _ _ _ _ _ c.loop-i-test.true c.word-at.ensures.0 c.sub.ensures c.in_ok-gone.was c.next_sub-i.ensures.skipped)
      ∙ c.loop-i.invariant.1,
  c.next_sub-i.ensures.known_2,
)

pub returns-clause-value : goal.returns-clause-value
returns-clause-value c = sym (subs-end _ _ _ _ _ _ c.loop-i-test.false) ∙ c.loop-i.invariant.1
