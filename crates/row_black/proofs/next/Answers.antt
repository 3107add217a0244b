-- `next` meets its contract: the same pixel, or the one to the right. Assumes nothing.
use native.Mathlib.Omega.{arith}
use Rattle.row_black.proofs.Spots.{same-pixel, next-pixel}
use Rattle.row_black.proofs.next.Goals as goal

pub returns-then-s-planes : goal.returns-then-s-planes
returns-then-s-planes c = λ x0 i e. same-pixel _ _ x0 i _ e (omega arith)

pub returns : goal.returns
returns c = λ x0 i e. next-pixel _ _ x0 i _ e _ (omega arith) (omega arith) c.after.ensures
