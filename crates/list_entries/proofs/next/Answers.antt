-- `list_entries::next` meets its contract: at each `return` the tests that led there say which case of `next_at` holds. Assumes nothing.
use mathlib.Core.Path.{ap, ◌∙◌}
use Rattle.std.specs.Prelude.{Err}
use native.Mathlib.Omega.{arith}
use Rattle.list_entries.proofs.Laws.{cut, long, found}
use Rattle.list_entries.proofs.next.Goals as goal

pub returns-then-n-lt16 : goal.returns-then-n-lt16
returns-then-n-lt16 c = ap Err c.ends.ensures ∙ cut _ _ (omega arith)

pub returns-then-n-at : goal.returns-then-n-at
returns-then-n-at c = ap Err c.ends-then-n-at.ensures ∙ cut _ _ (omega arith)

pub returns-then-n-at-2 : goal.returns-then-n-at-2
returns-then-n-at-2 c = long _ _ c.header-e.ensures (omega arith) (omega arith)

pub returns : goal.returns
returns c = found _ _ c.header-e.ensures (omega arith) (omega arith)
