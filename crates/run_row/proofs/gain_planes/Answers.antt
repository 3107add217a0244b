-- `run_row::gain_planes` meets its contract: the window that has the row alone, or a row with no sample of the region. Assumes nothing.
use mathlib.Core.Path.{sym, ap, subst, ◌∙◌}
use lib.Ieee.{Float}
use lib.ListN.{length}
use Rattle.pointwise.specs.Points.{each}
use Rattle.pointwise.specs.Select.{First}
use Rattle.dng.specs.declared.Region.{Region}
use Rattle.dng.specs.declared.Window.{Window}
use Rattle.dng.specs.Select.{Rule, on_region, on_window}
use Rattle.dng.specs.Value.{gained}
use Rattle.row_opcode.proofs.Planes.{row-untouched}
use Rattle.win_gain.specs.Columns.{gain_rule}
use Rattle.run_row.specs.Rows.{every_row}
use Rattle.run_row.proofs.Single.{begun-spans, single-fits, single-ordered, single-row, every-row}
use Rattle.run_row.proofs.gain_planes.Goals as goal

pub columns_of-columns-requires : goal.columns_of-columns-requires
columns_of-columns-requires c =
    (c.requires.0.some, c.requires.0.few, c.requires.1.some, c.requires.1.most, c.requires.1.holds)

pub blocks-requires : goal.blocks-requires
blocks-requires c =
    let start = c.first_column-start in
    let a = c.args in
    let spans = begun-spans c.requires.0.some c.requires.1 c.columns_of-columns.ensures in
    let is = c.window_of.ensures in (
      single-fits is c.requires.0 spans,
      single-ordered is spans,
      subst (λ (w : Window). First c.every_row.result.left c.every_row.result.col_pitch w.x0 start.result.col start.result.nth)
          (sym is)
          (subst (λ (q : Region). First q.left q.col_pitch a.g.x0 start.result.col start.result.nth) (sym c.every_row.ensures)
          start.ensures),
      c.requires.2,
    )

pub returns-then-touched : goal.returns-then-touched
unfolding gained
returns-then-touched c =
    let a = c.args in
    let F : Region → Window → Rule Float = λ q w.
    on_region q
    (gain_rule w.full_width w.full_height a.body.now (record { region = q; map = a.gain.map })) in
    single-row c.window_of.ensures a.row.now c.requires.0
    (begun-spans c.requires.0.some c.requires.1 c.columns_of-columns.ensures) (F (every_row a.gain.region))
    (c.blocks-then-touched.ensures
    ∙ ap (λ (q : Region). each (on_window c.window_of.result (length a.row.now) (F q c.window_of.result)) a.row.now)
    c.every_row.ensures)
    ∙ every-row a.gain.region
    (gain_rule a.g.full_width a.g.full_height a.body.now a.gain)
    a.g.x0 a.g.planes a.g.y a.row.now (c.touched.ensures.0 c.if-touched.true)

pub returns-else-touched : goal.returns-else-touched
returns-else-touched c =
    let a = c.args in
    row-untouched a.g a.gain.region
    (gain_rule a.g.full_width a.g.full_height a.body.now a.gain) a.row.now
    (c.touched.ensures.1 c.if-touched.false)
