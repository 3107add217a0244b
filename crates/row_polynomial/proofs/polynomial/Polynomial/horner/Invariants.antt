-- `Polynomial::horner` meets its contract: what is left of the sum, over the low k. Assumes nothing.
use mathlib.Core.Path.{◌≡◌}
use lib.ListN.{get_or}
use Rattle.dng.specs.Value.{nought}
use Rattle.row_polynomial.specs.Terms.{over, value_of}
use Rattle.row_polynomial.proofs.polynomial.Polynomial.horner.Given as goal

abbrev pub invariant-loop-k : goal.invariant-loop-k
invariant-loop-k g l = over (λ k. get_or l.self.terms k nought) l.x l.k l.sum ≡ value_of l.self l.x
