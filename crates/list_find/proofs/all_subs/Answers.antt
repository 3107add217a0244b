-- `list_find::all_subs` meets its contract. The loop's invariant: what the entries from here on give is the whole, and the table is right.
-- Assumes nothing.
use Rattle.std.proofs.Common.{sym, ◌∙◌}
use Rattle.list_find.proofs.Laws.{all-stop, all-on, all_end}
use Rattle.list_find.proofs.all_subs.Goals as goal

pub returns-in_err-gone-clause-value : goal.returns-in_err-gone-clause-value
returns-in_err-gone-clause-value c =
    c.from_residual.ensures ∙ sym (all-stop _ _ _ _ _ _ c.loop-i-test.true c.any_subs.ensures.value c.in_err-gone.was) ∙ c.loop-i.invariant.0

pub loop-i-preserved : goal.loop-i-preserved
loop-i-preserved c = (
  sym (all-on _ _ _ _ _ _ c.loop-i-test.true c.any_subs.ensures.value c.in_ok-gone.was) ∙ c.loop-i.invariant.0,
  c.any_subs.ensures.known_2,
)

pub returns-clause-value : goal.returns-clause-value
returns-clause-value c = sym (all_end _ _ _ _ _ _ c.loop-i-test.false) ∙ c.loop-i.invariant.0
