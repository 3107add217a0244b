-- `num_narrow::to_f32` meets its contract: what is above 0 is no NaN, and `normal` and `by_cases` give its f32.
use mathlib.Core.Path.{sym, ◌∙◌, subst}
use native.Mathlib.Omega.{arith}
use borrow.Author.Tests.{ltb-true}
use lib.Dec.{T}
use Rattle.num_narrow.proofs.Sign.{above-nought, of-its-bits}
use Rattle.num_narrow.proofs.to_f32.Goals as goal

pub float_to_bits-b : goal.float_to_bits-b
float_to_bits-b c = above-nought c.args.x c.if-x.true

pub normal-requires : goal.normal-requires
normal-requires c = (omega (arith, ltb-true), omega (arith, ltb-true))

pub returns-then-b-lt5183643170835005440 : goal.returns-then-b-lt5183643170835005440
returns-then-b-lt5183643170835005440 c =
    c.normal.ensures ∙ of-its-bits c.args.x (subst T (sym c.well_formed.0.1) tt)
