-- The definition's tests in their order.
use Rattle.std.proofs.Common.{rules}
use Rattle.fix_repair.proofs.Windows.{complete-none, complete-narrow, complete-flat, complete-is}
use Rattle.fix_repair.proofs.full.Goals as goal

pub returns-then-w-eq0 : goal.returns-then-w-eq0
returns-then-w-eq0 c = search (rules, complete-none, complete-narrow, complete-flat)

pub returns : goal.returns
returns c = search (rules, complete-is)
