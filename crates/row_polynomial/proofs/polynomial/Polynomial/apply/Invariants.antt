-- `Polynomial::apply` meets its contract: the walk stands at sample i, in some column. Assumes nothing.
use Prim.Native.Nat.{ℕ}
use Rattle.row_select.proofs.Going.{Going}
use Rattle.row_polynomial.proofs.Passes.{mapped}
use Rattle.row_polynomial.proofs.polynomial.Polynomial.apply.Given as goal

abbrev pub invariant-loop-i : goal.invariant-loop-i
invariant-loop-i l = (c : ℕ) × Going l.fn.k (mapped l.self) l.initial.row l.row c l.i
