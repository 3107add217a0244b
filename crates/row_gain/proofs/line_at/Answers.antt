-- `line_at` meets its contract: up to the last map column no position wraps, and the two gains are mixed as `mix` says. Assumes nothing.
use Rattle.dng.specs.Value.{mix}
use Rattle.row_gain.specs.Strip.{line_of}
use Rattle.row_gain.proofs.line_at.Goals as goal

pub returns : goal.returns
unfolding line_of mix
returns c = cc
