-- `each_row` meets its contract: the rows before y are done. Assumes nothing.
use Prim.Native.Nat.{ℕ, ◌+◌, ◌*◌, ◌<◌}
use mathlib.Core.Path.{◌≡◌, refl, sym, subst}
use mathlib.Core.List.{List}
use native.Mathlib.Nat.{zero-mul}
use native.Mathlib.Omega.{arith}
use lib.ListN.{length}
use denote.Ref.{MutBor}
use Rattle.pointwise.specs.Points.{each}
use Rattle.dng.specs.declared.Window.{Window}
use Rattle.dng.specs.Bounds.{RowFits}
use Rattle.dng.specs.Select.{Rule, on_row}
use Rattle.row_opcode.specs.declared.Place.{Place}
use Rattle.win_rows.specs.Calls.{Runs}
use Rattle.win_rows.specs.Windows.{place_of}
use Rattle.win_rows.proofs.Turns.{Rows, wide_fits, step_fits, start_fits, next_start, rows_start, part-fits, rows-turn, rows_all, rows_short}
use Rattle.win_rows.proofs.each_row.Goals as goal

-- a call at row y's place, as it was worked out
ran : {A : Type 0} (w : Window) (post : MutBor (List A) → Place → Unit {0} → MutBor (List A) → Type 0) (f : Rule A) → Runs w post f
    → {s t : MutBor (List A)} {p : Place} {y : ℕ} → p ≡ place_of w y → y < w.height → RowFits p.x0 p.planes p.y (length s.now)
    → post s p tt t → t.now ≡ each (on_row p.x0 p.planes p.y (length s.now) f) s.now
ran w post f runs {s} {t} {p} {y} e high fits q =
    subst (λ (p : Place). RowFits p.x0 p.planes p.y (length s.now) → post s p tt t → t.now ≡ each (on_row p.x0 p.planes p.y (length s.now) f) s.now)
    (sym e) (λ fits q. runs s t y high fits q) fits q

pub loop-y-init : goal.loop-y-init
loop-y-init g c = (sym (zero-mul (c.args.w.stride * c.args.w.planes)), λ f runs. rows_start _ _ _)

pub returns-then-n-at : goal.returns-then-n-at
returns-then-n-at g c = λ f runs. rows_short c.args.w f _ (c.loop-y.invariant.1 f runs) c.if-n-at.true

pub overflow_add-at : goal.overflow_add-at
overflow_add-at g c =
    omega (
      arith,
      c.row_width-width.ensures,
      wide_fits c.args.w c.requires.fits.0,
      start_fits c.args.w _ _ c.requires.fits.0 c.loop-y.invariant.0 (omega arith),
    )

pub overflow_add-at-in-loop-y : goal.overflow_add-at-in-loop-y
overflow_add-at-in-loop-y g c =
    omega (
      arith,
      c.row_stride-step.ensures,
      step_fits c.args.w c.requires.fits.0,
      start_fits c.args.w _ _ c.requires.fits.0 c.loop-y.invariant.0 (omega arith),
    )

pub loop-y-preserved : goal.loop-y-preserved
loop-y-preserved g c =
    let w = c.args.w in
    let s = c.args.samples.now in
    let turn : (f : Rule _) → Runs w (goal.F-post g c.args.one) f → Rows w f s _ (c.loop-y.y + 1) (c.loop-y.at + c.row_stride-step.result) =
    λ f runs.
    let r = c.loop-y.invariant.1 f runs in
    let fits = part-fits w f s c.requires.fits.0 r c.loop-y-test.true c.row_width-width.ensures c.min.ensures c.place_at.ensures in
    rows-turn w f s c.requires.fits.0 c.requires.fits.1 r c.loop-y-test.true c.row_width-width.ensures c.row_stride-step.ensures c.min.ensures
    (omega (arith, c.if-n-at.false)) (λ p. f) refl c.place_at.ensures
    (ran w (goal.F-post g c.args.one) f runs c.place_at.ensures c.loop-y-test.true fits c.one.ensures) in
    (next_start w _ c.loop-y.invariant.0 c.row_stride-step.ensures, turn)

pub returns : goal.returns
returns g c = λ f runs. rows_all _ _ _ (c.loop-y.invariant.1 f runs) c.loop-y-test.false
