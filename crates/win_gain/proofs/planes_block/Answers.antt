-- `planes_block` meets its contract: each turn is one plane. Assumes nothing.
use mathlib.Core.Path.{sym, subst, ◌∙◌}
use native.Mathlib.Omega.{arith}
use lib.ListN.{length}
use Rattle.dng.specs.Bounds.{RowFits}
use Rattle.row_opcode.proofs.Planes.{walks-of, planes-begin, planes-turn, planes-done}
use Rattle.win_gain.proofs.Columns.{begins-of, filled_of, columns_of}
use Rattle.win_gain.proofs.planes_block.Invariants.{rule}
use Rattle.win_gain.proofs.planes_block.Goals as goal

pub loop-p-init : goal.loop-p-init
loop-p-init c = let a = c.args in (planes-begin a.g a.gain.region _ a.row.now, omega arith)

pub plane_block-requires : goal.plane_block-requires
plane_block-requires c =
    let a = c.args in (
      walks-of c.walk_at-k.ensures (subst (RowFits a.g.x0 a.g.planes a.g.y) (sym c.loop-p.auto.row) c.requires.0) c.requires.1
          (omega (arith, c.loop-p-test.true, c.planes_end-p-end.ensures)),
      c.requires.2,
      begins-of c.walk_at-k.ensures c.requires.3,
      filled_of c.walk_at-k.ensures c.requires.3,
      c.row_axis-v.ensures,
    )

pub loop-p-preserved : goal.loop-p-preserved
loop-p-preserved c =
    let a = c.args in (
      planes-turn c.walk_at-k.ensures (rule a.g a.gain a.from (length a.columns.now) a.body.now) a.row.now c.loop-p.row _ (omega arith)
          c.loop-p.invariant.0
          (columns_of c.walk_at-k.ensures a.from (length a.columns.now) _ c.loop-p.row _ c.plane_block.ensures),
      omega (arith, c.loop-p-test.true),
    )

pub returns : goal.returns
returns c =
    let a = c.args in
    c.loop-p.invariant.0
    ∙ planes-done a.g a.gain.region _ a.row.now c.loop-p.p c.planes_end-p-end.result c.requires.0.some c.planes_end-p-end.ensures
    c.loop-p-test.false c.loop-p.invariant.1
