-- `list_counts::values_fit` meets its contract: each return says how far the comparisons came. Assumes nothing.
use Rattle.list_counts.proofs.Laws.{values-no, values-yes, below}
use native.Mathlib.Omega.{arith}
use borrow.Author.Rules.{rules}
use Rattle.list_counts.proofs.values_fit.Goals as goal

pub returns-then-len-lt36 : goal.returns-then-len-lt36
returns-then-len-lt36 c = values-no _ c.word-n.ensures (λ h i j. omega arith)

pub returns-then-n : goal.returns-then-n
returns-then-n c = values-no _ c.word-n.ensures (λ h i j. omega arith)

pub overflow_mul-size : goal.overflow_mul-size
overflow_mul-size c = record { fits = below 32 32 (search rules) (search rules) }

pub returns-then-len-size : goal.returns-then-len-size
returns-then-len-size c = values-no _ c.word-n.ensures (λ h i j. omega arith)

pub returns : goal.returns
returns c = values-yes _ c.word-n.ensures (omega arith) (omega arith) (omega arith)
