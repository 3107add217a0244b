-- `run_stored::held_above` meets its contract. Assumes nothing.
use native.Mathlib.Omega.{arith}
use Rattle.run_stored.proofs.Laws.{by-encoder, by-rounding}
use Rattle.run_stored.proofs.held_above.Goals as goal

pub returns-then-maxval-lt65535 : goal.returns-then-maxval-lt65535
returns-then-maxval-lt65535 c = by-encoder c.args.maxval _ _ (omega (arith, c.if-maxval-lt65535.true))

pub returns-else-maxval-lt65535 : goal.returns-else-maxval-lt65535
returns-else-maxval-lt65535 c = by-rounding c.args.maxval _ _ (omega (arith, c.if-maxval-lt65535.false))
