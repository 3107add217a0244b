-- `Line::wide_gains` meets its contract: each turn stores the gain of one column. Assumes nothing.
use mathlib.Core.Path.{sym, ap, ◌∙◌}
use native.Mathlib.Omega.{arith}
use lib.Ieee.{Float, nan, binary64, sub}
use Rattle.pointwise.proofs.Each.{each-agree}
use Rattle.pointwise.proofs.Parts.{between_in, each-between-empty, store}
use Rattle.row_vignette.specs.Rows.{wide_gain, wide_at}
use Rattle.row_vignette.proofs.Line.wide_gains.Goals as goal

pub loop-j-init : goal.loop-j-init
loop-j-init c = sym (each-between-empty 0 0 _ _ (omega arith))

pub loop-j-preserved : goal.loop-j-preserved
unfolding wide_at
loop-j-preserved c =
    let s = c.args in
    let a = c.loop-j in
    let value = c.wide_gain.ensures ∙ ap (λ (x : Float). wide_gain s.self (sub binary64 x s.self.centre)) c.f64_of_u32.ensures in
    store nan (wide_at s.self s.x0) 0 a.j s.gains.now a.gains _ a.invariant value (omega arith) (omega arith)

pub returns : goal.returns
returns c =
    let s = c.args in
    c.loop-j.invariant ∙ each-agree _ _ s.gains.now (λ i v h. between_in 0 c.loop-j.j (wide_at s.self s.x0) i v (omega arith) (omega arith))
