-- `row_block` meets its contract: a row that has none of the region's samples stays. Assumes nothing.
use Prim.Native.Nat.{ℕ, ◌+◌, ◌*◌}
use mathlib.Core.Path.{◌∙◌}
use mathlib.Core.List.{List}
use lib.Ieee.{Float}
use lib.ListN.{length}
use Rattle.row_gain.specs.Blocks.{within}
use Rattle.row_opcode.specs.declared.Place.{Place}
use Rattle.row_opcode.proofs.Planes.{row_in, row-untouched}
use Rattle.win_gain.specs.declared.GainMap.{GainMap}
use Rattle.win_gain.specs.Columns.{pitch_of, gain_rule}
use Rattle.win_gain.proofs.row_block.Goals as goal

-- the rule of the block of n columns, in any row
abbrev rule : Place → GainMap → (from n : ℕ) → List ℕ → ℕ → ℕ → ℕ → Float → Float
rule g gain from n body y =
    within (g.x0 + from) (g.x0 + from + n * pitch_of gain.region) (gain_rule g.full_width g.full_height body gain y)

pub returns-then-touched : goal.returns-then-touched
returns-then-touched c =
    let a = c.args in
    c.planes_block.ensures
    ∙ row_in a.g a.gain.region (rule a.g a.gain a.from (length a.columns.now) a.body.now) a.row.now (c.touched.ensures.0 c.if-touched.true)

pub returns-else-touched : goal.returns-else-touched
returns-else-touched c =
    let a = c.args in
    row-untouched a.g a.gain.region (rule a.g a.gain a.from (length a.columns.now) a.body.now) a.row.now
    (c.touched.ensures.1 c.if-touched.false)
