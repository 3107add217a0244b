-- `Polynomial::read` meets its contract: the coefficients up to the degree are read, the others are 0. Assumes nothing.
use Prim.Native.Nat.{◌+◌}
use mathlib.Core.Path.{refl, sym, ◌∙◌}
use native.Mathlib.Omega.{arith}
use Rattle.pointwise.proofs.Each.{below_or}
use Rattle.row_polynomial.proofs.Horner.{term_in, term-out}
use Rattle.row_polynomial.proofs.polynomial.Polynomial.read.Goals as goal

pub returns : goal.returns
returns c =
    let u = c.loop-k.invariant in
    record {
      degree_is = refl;
      scale_is = refl;
      terms_are = λ k.
          below_or k (c.args.degree + 1) (λ h. u.0 k (omega arith) ∙ sym (term_in _ _ k (omega arith)))
          (λ h. u.1 k (omega arith) ∙ sym (term-out _ _ k (omega arith)));
    }
