-- `gain_block` meets its contract: along the strip of the row's position the rule is the map's, in the block as in the row. Assumes nothing.
use mathlib.Core.Path.{◌∙◌}
use native.Mathlib.Omega.{arith}
use Rattle.row_gain.proofs.Blocks.{within-agree}
use Rattle.row_gain.proofs.Rows.{walked-agree, along-is}
use Rattle.row_gain.proofs.Tables.{entry-le}
use Rattle.row_gain.proofs.gain_block.Goals as goal

pub block_along-requires : goal.block_along-requires
block_along-requires c =
    let s = c.strip.ensures in
    let a = c.args in (
      c.requires.0,
      c.requires.3,
      record { lower_in = λ j h. omega (arith, s.last-is, entry-le _ _ _ a.map.points_h _ _ _ _ c.requires.4 (omega arith) j h) },
      s.reaches,
    )

pub returns : goal.returns
returns c =
    let a = c.args in
    λ f on.
    c.block_along.ensures _ c.requires.4
    ∙ walked-agree a.k _ _ _
    (λ x v. within-agree _ _ _ _ x a.k.plane v (along-is _ a.map _ _ a.v _ f c.strip.ensures on x a.k.plane v))
