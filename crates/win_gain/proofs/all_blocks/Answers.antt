-- `all_blocks` meets its contract: each turn is a block. Assumes nothing.
use Prim.Native.Nat.{ℕ, ◌+◌}
use mathlib.Core.Path.{refl, ap₂, ◌∙◌}
use mathlib.Core.List.{List}
use native.Mathlib.Omega.{arith}
use lib.ListN.{length}
use lib.Ieee.{Float}
use Rattle.pointwise.specs.Points.{each}
use Rattle.dng.specs.Select.{on_window}
use Rattle.win_gain.specs.Columns.{gain_rule, block_rule}
use Rattle.win_gain.proofs.Columns.{block-begin, block-next, block-all, lies-first}
use Rattle.win_gain.proofs.all_blocks.Goals as goal

pub loop-from-init : goal.loop-from-init
loop-from-init c =
    let a = c.args in (
      block-begin a.w (length a.samples.now) a.gain.region (a.w.x0 + a.start.col) _ a.samples.now,
      omega arith,
      lies-first c.requires.first (omega arith) (omega arith),
      refl,
    )

pub loop-from-preserved : goal.loop-from-preserved
loop-from-preserved c =
    let a = c.args in
    let o = c.one_block-from in
    let f = gain_rule a.w.full_width a.w.full_height a.body.now a.gain in
    let r = a.gain.region in
    let n = length a.samples.now in (
      o.ensures.0
          ∙ ap₂
          (λ (m : ℕ) (l : List Float). each (on_window a.w m (block_rule r (a.w.x0 + c.loop-from.from) (a.w.x0 + o.result) f)) l)
          (omega arith) c.loop-from.invariant.0
          ∙ block-next a.w n r (a.w.x0 + a.start.col) (a.w.x0 + c.loop-from.from) (a.w.x0 + o.result) f a.samples.now
          (omega (arith, c.loop-from.invariant.1)) (omega (arith, o.ensures.2)),
      omega (arith, c.loop-from.invariant.1, o.ensures.2),
      o.ensures.1,
      o.auto.table ∙ c.loop-from.invariant.3,
    )

pub returns : goal.returns
returns c =
    let a = c.args in
    let w = c.requires.window in
    c.loop-from.invariant.0
    ∙ block-all a.w (record { some = w.some; wide = c.requires.ordered.wide; strided = c.requires.ordered.strided }) (length a.samples.now)
    a.gain.region a.start.col a.start.nth (a.w.x0 + c.loop-from.from) _ a.samples.now c.requires.first
    (omega (arith, c.columns_end-end.ensures, c.loop-from-test.false))
