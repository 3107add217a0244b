-- `list_counts::degree_fits` meets its contract: each return says how far the comparisons came. Assumes nothing.
use Rattle.list_counts.proofs.Laws.{degree-no, degree-yes}
use native.Mathlib.Omega.{arith}
use Rattle.list_counts.proofs.degree_fits.Goals as goal

pub returns-then-len-lt36 : goal.returns-then-len-lt36
returns-then-len-lt36 c = degree-no c.word-d.ensures (λ h i j. omega arith)

pub returns-then-d : goal.returns-then-d
returns-then-d c = degree-no c.word-d.ensures (λ h i j. omega arith)

pub returns-then-len-d : goal.returns-then-len-d
returns-then-len-d c = degree-no c.word-d.ensures (λ h i j. omega arith)

pub returns : goal.returns
returns c = degree-yes c.word-d.ensures (omega arith) (omega arith) (omega arith)
