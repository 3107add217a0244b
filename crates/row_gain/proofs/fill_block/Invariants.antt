-- `fill_block` meets its contract: the first n entries are filled, and `at` is the next column. Assumes nothing.
use Prim.Native.Nat.{◌+◌, ◌<◌, max}
use Rattle.row_gain.specs.Gain.{map_position}
use Rattle.row_gain.proofs.Tables.{Filling}
use Rattle.row_gain.proofs.fill_block.Given as goal

abbrev pub invariant-loop-at : goal.invariant-loop-at
invariant-loop-at l =
    Filling (map_position l.fn.map l.fn.full_width) l.x l.pitch l.initial.columns l.columns l.at l.n × (l.at < max l.x l.end + l.pitch)
