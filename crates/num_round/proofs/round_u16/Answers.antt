-- `num_round::round_u16` meets its contract: what is held to 65535 is a `u16`. Assumes nothing.
use native.Mathlib.Omega.{arith}
use Rattle.num_round.proofs.Laws.{round-le}
use Rattle.num_round.proofs.round_u16.Goals as goal

pub overflow_cast-result : goal.overflow_cast-result
overflow_cast-result c = record { fits = omega (arith, c.round_held.ensures, round-le 65535 c.args.x) }
