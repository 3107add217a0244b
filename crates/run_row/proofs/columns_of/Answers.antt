-- `run_row::columns_of` meets its contract. Assumes nothing.
use mathlib.Core.Path.{sym, subst}
use native.Mathlib.Nat.{mul-le-mul_right, mul-le-mul_left}
use native.Mathlib.Omega.{arith}
use Rattle.run_row.specs.Rows.{Begun}
use Rattle.run_row.proofs.Single.{begun-whole, begun-cut}
use Rattle.run_row.proofs.columns_of.Goals as goal

pub overflow_mul-width : goal.overflow_mul-width
overflow_mul-width c =
    let a = c.args in
    omega (arith, mul-le-mul_right a.planes c.requires.3, mul-le-mul_left 65536 c.requires.1)

pub returns-then-width-p : goal.returns-then-width-p
returns-then-width-p c =
    begun-whole c.requires.0 c.requires.2 c.requires.4 c.if-width-p.true

pub overflow_add-len : goal.overflow_add-len
overflow_add-len c =
    omega (arith, c.requires.1, c.requires.4, mul-le-mul_right c.args.planes c.requires.3, mul-le-mul_left 65536 c.requires.1)

pub overflow_sub-len : goal.overflow_sub-len
overflow_sub-len c = omega (arith, c.requires.0)

pub nonzero_div-len : goal.nonzero_div-len
nonzero_div-len c = omega (arith, c.requires.0)

pub returns : goal.returns
returns c =
    subst (Begun c.args.len c.args.planes) (sym c.max.ensures) (begun-cut c.requires.0)
