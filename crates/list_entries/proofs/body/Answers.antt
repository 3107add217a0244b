-- `list_entries::body` meets its contract, by where the body lies. Assumes nothing.
use native.Mathlib.Omega.{arith}
use Rattle.list_entries.proofs.Laws.{outside, across, inside}
use Rattle.list_entries.proofs.body.Goals as goal

pub returns-then-n-at : goal.returns-then-n-at
returns-then-n-at c = let a = c.args in outside a.list.now a.e.at a.e.len (omega arith)

pub returns-then-n-at-2 : goal.returns-then-n-at-2
returns-then-n-at-2 c = let a = c.args in across a.list.now a.e.at a.e.len (omega arith)

pub returns : goal.returns
returns c = let a = c.args in inside a.list.now a.e.at a.e.len
