-- `try_call::call_at` meets its contract. Assumes nothing.
use Rattle.try_call.proofs.Laws.{read-list}
use Rattle.try_call.proofs.call_at.Goals as goal

pub returns : goal.returns
returns c = read-list _ _ c.counted.ensures c.in_ok-counted.was c.with_list.ensures
