-- `one_block` meets its contract: the table is that of the columns from `from` on, and `fill_block` says how many. Assumes nothing.
use Prim.Native.Nat.{ℕ, ◌+◌, ◌*◌}
use mathlib.Core.Path.{◌≡◌, sym, ap, ◌∙◌}
use native.Mathlib.Omega.{arith}
use lib.ListN.{length, take}
use lib.Seq.{length-take-le}
use Rattle.pointwise.specs.Points.{each}
use Rattle.dng.specs.Select.{on_window}
use Rattle.win_gain.specs.Columns.{pitch_of, gain_rule, block_rule}
use Rattle.win_gain.proofs.Columns.{far-fits, lies-next, far-on, far-is}
use Rattle.win_gain.proofs.one_block.Goals as goal

pub returns : goal.returns
returns c =
    let s = c.requires in
    let a = c.args in
    let l = c.max-pitch.ensures in
    let count = c.fill_block-count in
    let n = count.ensures.1 in
    let r = a.gain.region in
    let f = gain_rule a.w.full_width a.w.full_height a.body.now a.gain in
    let here : a.w.x0 + (a.from + count.result * c.max-pitch.result)
    ≡ a.w.x0 + a.from + length (take count.result count.new.columns) * pitch_of r =
    far-is a.w.x0 a.from r n l
    ∙ ap (λ (m : ℕ). a.w.x0 + a.from + m * pitch_of r) (sym (length-take-le count.result count.new.columns count.ensures.0.room)) in (
      c.block_rows.ensures
          ∙ ap (λ (e : ℕ). each (on_window a.w (length a.samples.now) (block_rule r (a.w.x0 + a.from) e f)) a.samples.now) (sym here),
      lies-next a.w.x0 a.from r n l s.4 (far-fits a.w.x0 a.from r n l s.5 s.6 (omega arith)),
      far-on a.w.x0 a.from r n l s.5 (omega (arith, s.7.some)),
    )
