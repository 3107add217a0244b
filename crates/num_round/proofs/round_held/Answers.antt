-- `num_round::round_held` meets its contract: its test is what the two halves ask. Assumes nothing.
use mathlib.Core.Path.{sym, subst}
use lib.Dec.{T}
use lib.Ieee.{of_bits}
use Rattle.num_round.proofs.round_held.Goals as goal

pub round_small-requires : goal.round_small-requires
unfolding of_bits
round_small-requires c = subst T (sym c.if-x.true) tt

pub round_large-requires : goal.round_large-requires
unfolding of_bits
round_large-requires c = c.if-x.false
