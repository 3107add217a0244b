-- `gain_row` meets its contract: along the strip of the row's position the rule is the map's. Assumes nothing.
use mathlib.Core.Path.{◌∙◌}
use Rattle.row_gain.proofs.Rows.{walked-agree, along-ruler, ends-at}
use Rattle.row_gain.proofs.gain_row.Goals as goal

pub row_along-requires : goal.row_along-requires
row_along-requires c =
    let s = c.strip.ensures in
    (c.requires.0, s.reaches, ends-at s.last-is c.ruler.ensures)

pub returns : goal.returns
returns c =
    let a = c.args in
    λ f on. c.row_along.ensures ∙ walked-agree a.k _ _ _ (λ x v. along-ruler _ a.map _ _ a.v _ f c.strip.ensures c.ruler.ensures on x a.k.plane v)
