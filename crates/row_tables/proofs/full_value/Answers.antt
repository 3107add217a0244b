-- `full_value` meets its contract: the definition's steps, one after another. The rounded number is at most the last, so the entry is inside.
-- Assumes nothing.
use Prim.Native.Nat.{◌-◌}
use native.Mathlib.Omega.{arith}
use lib.Ieee.{binary32, mul}
use Rattle.num_round.proofs.Laws.{round-le}
use Rattle.row_tables.proofs.full_value.Goals as goal

pub full_entry-requires : goal.full_entry-requires
full_entry-requires c =
    let a = c.args in
    omega (arith, c.index_below.ensures, round-le (a.n - 1) (mul binary32 a.v a.scale))
