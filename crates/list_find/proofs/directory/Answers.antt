-- `list_find::directory` meets its contract. Assumes nothing.
use Rattle.std.proofs.Common.{◌∙◌, arith}
use Rattle.list_find.proofs.Laws.{whole_room}
use Rattle.list_find.proofs.Fine.{going-whole, dir-stop, dir-on}
use Rattle.list_find.proofs.directory.Goals as goal

pub returns-in_err-gone-clause-value : goal.returns-in_err-gone-clause-value
returns-in_err-gone-clause-value c = c.from_residual.ensures ∙ dir-stop _ _ _ _ c.visit.ensures c.in_err-gone.was

pub overflow_add-at : goal.overflow_add-at
overflow_add-at c = omega (arith, whole_room _ _ (going-whole _ _ _ _ c.visit.ensures c.in_ok-gone.was))

pub all_subs-requires-clause-n_in_bounds : goal.all_subs-requires-clause-n_in_bounds
all_subs-requires-clause-n_in_bounds c =
    omega (arith, whole_room _ _ (going-whole _ _ _ _ c.visit.ensures c.in_ok-gone.was), c.half.ensures.0)

pub returns-clause-value : goal.returns-clause-value
returns-clause-value c = dir-on _ _ _ _ c.visit.ensures c.in_ok-gone.was c.half.ensures.0 c.all_subs.ensures.value
