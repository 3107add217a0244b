-- `polynomial_row` meets its contract: what is read is the definition's polynomial. Assumes nothing.
use Prim.Native.Nat.{ℕ}
use mathlib.Core.Path.{ap, fun_ext, ◌∙◌}
use lib.Ieee.{Float}
use Rattle.row_select.specs.Walks.{walked}
use Rattle.row_polynomial.proofs.Passes.{mapped-is}
use Rattle.row_polynomial.proofs.polynomial_row.Goals as goal

pub returns : goal.returns
returns c =
    c.apply.ensures
    ∙ ap (λ (g : ℕ → ℕ → Float → Float). walked c.args.k g c.args.row.now)
    (fun_ext (λ x. fun_ext (λ q. fun_ext (mapped-is c.read.result c.read.ensures x q))))
