-- `list_counts::bad_list_fits` meets its contract: each return says how far the comparisons came. Assumes nothing.
use Rattle.list_counts.proofs.Laws.{bad-list-no, bad-list-yes}
use native.Mathlib.Omega.{arith}
use Rattle.list_counts.proofs.bad_list_fits.Goals as goal

pub returns-then-len-lt12 : goal.returns-then-len-lt12
returns-then-len-lt12 c = bad-list-no c.word-np.ensures c.word-nr.ensures (λ h i. omega arith)

pub returns-then-len-np : goal.returns-then-len-np
returns-then-len-np c = bad-list-no c.word-np.ensures c.word-nr.ensures (λ h i. omega arith)

pub returns : goal.returns
returns c = bad-list-yes c.word-np.ensures c.word-nr.ensures (omega arith) (omega arith)
