-- `each_plane` meets its contract: the planes from the region's first up to p are done. Assumes nothing.
use Prim.Native.Nat.{◌<◌}
use mathlib.Core.Path.{sym, subst, ◌∙◌}
use native.Mathlib.Omega.{arith}
use Rattle.dng.specs.Bounds.{RowFits}
use Rattle.row_opcode.proofs.Planes.{walks-of, along-of, planes-begin, planes-turn, planes-done}
use Rattle.row_opcode.proofs.each_plane.Goals as goal

pub one-requires : goal.one-requires
one-requires g c =
    let a = c.args in
    let fits = subst (RowFits a.g.x0 a.g.planes a.g.y) (sym c.loop-p.auto.row) c.requires.fits.0 in
    let below : c.loop-p.p < a.g.planes = omega (arith, c.loop-p-test.true, c.planes_end-p-end.ensures) in
    c.requires.calls _ _ (walks-of c.walk_at.ensures fits c.requires.fits.1 below) (along-of c.walk_at.ensures)

pub loop-p-init : goal.loop-p-init
loop-p-init g c = (omega arith, λ h does. planes-begin c.args.g c.args.r h c.args.row.now)

pub loop-p-preserved : goal.loop-p-preserved
loop-p-preserved g c =
    let a = c.args in
    let fits = subst (RowFits a.g.x0 a.g.planes a.g.y) (sym c.loop-p.auto.row) c.requires.fits.0 in
    let below : c.loop-p.p < a.g.planes = omega (arith, c.loop-p-test.true, c.planes_end-p-end.ensures) in (
      omega (arith, c.loop-p-test.true),
      λ h does.
          planes-turn c.walk_at.ensures h a.row.now c.loop-p.row _ c.loop-p.auto.p (c.loop-p.invariant.1 h does)
          (does _ _ _ (walks-of c.walk_at.ensures fits c.requires.fits.1 below) (along-of c.walk_at.ensures) c.one.ensures),
    )

pub returns : goal.returns
returns g c =
    let a = c.args in
    λ h does.
    c.loop-p.invariant.1 h does
    ∙ planes-done a.g a.r h a.row.now c.loop-p.p c.planes_end-p-end.result c.requires.fits.0.some c.planes_end-p-end.ensures
    c.loop-p-test.false c.loop-p.invariant.0
