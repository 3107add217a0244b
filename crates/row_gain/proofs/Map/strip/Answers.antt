-- `Map::strip` meets its contract: the axis lies on the map, so its two map rows are rows of the map. Assumes nothing.
use Rattle.row_gain.proofs.Rows.{beside, strip-at}
use Rattle.row_gain.proofs.Map.strip.Goals as goal

pub strip_of-requires : goal.strip_of-requires
strip_of-requires c = beside _ c.args.self.points_v _ c.args.self.planes _ _ c.max.ensures c.requires.0 c.requires.1

pub returns : goal.returns
returns c = strip-at _ c.args.self _ _ _ c.max.ensures c.requires.0 c.requires.1 c.strip_of.ensures
