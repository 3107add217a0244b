-- `all_strides` meets its contract: each turn is the walk from one place of a period. Assumes nothing.
use lib.ListN.{length}
use Rattle.row_black.proofs.Spots.{first-spot}
use Rattle.row_black.proofs.Filling.{spread-start, spread-next, spread_end}
use Rattle.row_black.proofs.Classes.{alike, spot-rule, step-some}
use Rattle.row_black.proofs.all_strides.Goals as goal

pub loop-i-init : goal.loop-i-init
loop-i-init g c = (spread-start, first-spot _ _ _ _ c.args.row.placed.first)

pub loop-i-preserved : goal.loop-i-preserved
loop-i-preserved g c =
    let v = c.args in
    let r = c.args.row in
    let t = r.lent in (
      spread-next c.loop-i.invariant.0 _ c.strides.ensures
          (λ j h e.
          spot-rule g.S.Sample.none g.S.Sample.to_float v.input.now t.pattern t.blacks.now t.scales.now t.rows.now t.columns.now r.planes r.x r.y
          c.min-pitch.result c.min-step.result c.loop-i.i j c.level_at-a.result c.loop-i.s c.level_at-a.ensures c.loop-i.invariant.1
          (alike r.placed.some t.pattern.width r.x (length v.out.now) c.min-step.ensures c.min-pitch.ensures c.loop-i.i j h e)),
      c.next-s.ensures r.x c.loop-i.i c.loop-i.invariant.1,
    )

pub returns : goal.returns
returns g c = spread_end c.loop-i.invariant.0 c.loop-i-test.false (λ j h. step-some c.args.row.placed c.min-step.ensures h)
