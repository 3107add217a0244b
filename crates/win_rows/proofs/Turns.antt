-- The loop over the rows of a window, in the numbers that the code carries: `at` is where row y starts, `end` where its samples end. Over any
-- sample kind A and any rule. Assumes nothing.
use Prim.Native.Nat.{ℕ, ◌+◌, ◌-◌, ◌*◌, ◌≤◌, ◌<◌, min}
use mathlib.Core.Path.{◌≡◌, refl, sym, ap, subst, ◌∙◌}
use mathlib.Core.Bool.{true, false}
use mathlib.Core.List.{List, ◌++◌}
use native.Mathlib.Nat.{add-mul, one-mul, zero-mul, mul-le-mul_right, mul-le-mul_left}
use native.Mathlib.Omega.{arith}
use borrow.Author.Tests.{leb-true}
use Rattle.std.proofs.lemmas.Bool.{and_parts}
use lib.Dec.{leb}
use lib.Ieee.{Float}
use lib.ListN.{length, take, drop, length-take}
use Rattle.pointwise.specs.Points.{each}
use Rattle.pointwise.proofs.Each.{length-each}
use Rattle.dng.specs.declared.Window.{Window}
use Rattle.dng.specs.Select.{Rule, active, on_window, on_row}
use Rattle.dng.specs.Bounds.{RowFits}
use Rattle.dng.specs.Answer.{in_range}
use Rattle.dng.specs.Value.{Frame}
use Rattle.row_opcode.specs.declared.Place.{Place}
use Rattle.law_rows.specs.RowForm.{row_start}
use Rattle.law_rows.proofs.Place.{Laid}
use Rattle.law_rows.proofs.Rows.{rows_before, rows-begin, rows_next, rows_end, rows-past, rows_none}
use Rattle.law_rows.proofs.Calls.{ranged}
use Rattle.win_rows.specs.Windows.{WindowFits, Ordered, place_of}

-- what a run's ranges give
pub window-fits : (w : Window) (period : ℕ) → in_range w period ≡ true → WindowFits w
window-fits w period h =
    let g = ranged w period h in
    record {
      widest = g.widest;
      highest = g.highest;
      farthest = g.farthest;
      some = g.some;
      most = g.most;
      left = g.left;
      lowest = omega (arith, g.top, g.highest);
      full_wide = g.full_wide;
      full_high = g.full_high;
    }

-- no product wraps
pub wide_fits : (w : Window) → WindowFits w → w.width * w.planes ≤ 524288
wide_fits w f = omega (arith, mul-le-mul_right w.planes f.widest, mul-le-mul_left 65536 f.most)

pub step_fits : (w : Window) → WindowFits w → w.stride * w.planes ≤ 524288
step_fits w f = omega (arith, mul-le-mul_right w.planes f.farthest, mul-le-mul_left 65536 f.most)

pub start_fits : (w : Window) (y at : ℕ) → WindowFits w → at ≡ row_start w y → y ≤ w.height → at ≤ 34359738368
start_fits w y at f p h =
    omega (
      arith,
      p,
      mul-le-mul_right (w.stride * w.planes) f.highest,
      mul-le-mul_right (w.stride * w.planes) h,
      mul-le-mul_left 65536 (step_fits w f),
    )

-- a row starts a stride behind the one before
pub next_start : (w : Window) (y : ℕ) {at step : ℕ} → at ≡ row_start w y → step ≡ w.stride * w.planes → at + step ≡ row_start w (y + 1)
next_start w y h e = omega (arith, h, e, add-mul y 1 (w.stride * w.planes), one-mul (w.stride * w.planes))

-- a window that has columns, and whose rows do not overlap, as it is tested
pub ordered : (w : Window) → active w ≡ true → Ordered w
unfolding active
ordered w h = let f = and_parts (leb 1 w.width) (leb w.width w.stride) h in record { wide = leb-true _ _ f.0; strided = leb-true _ _ f.1 }

-- the frame of a row's place
abbrev pub frame_in : Float → Place → Frame
frame_in scale g = record { scale = scale; full_width = g.full_width; full_height = g.full_height }

module _ {A : Type 0} (w : Window) (f : Rule A) (s : List A) where
  -- the rows before y are done, and row y starts at `at`
  pub record Rows (t : List A) (y at : ℕ) : Type 0 where
    pub done : t ≡ each (rows_before w (length s) y f) s
    pub here : at ≡ row_start w y
    pub near : y ≤ w.height
    pub same : length t ≡ length s

  pub rows_start : Rows s 0 0
  rows_start = record { done = sym (rows-begin w (length s) f s); here = omega (arith, zero-mul (w.stride * w.planes)); near = omega arith; same = refl }

  -- the part that is lent of row y may be stepped
  pub part-fits : {t : List A} {y at width end : ℕ} {g : Place} → WindowFits w → Rows t y at → y < w.height
      → width ≡ w.width * w.planes → end ≡ min (at + width) (length s) → g ≡ place_of w y
      → RowFits g.x0 g.planes g.y (length (take (end - at) (drop at t)))
  part-fits {t} {y} {at} {width} {end} {g} fits r high ew e is =
      subst (λ (h : Place). RowFits h.x0 h.planes h.y (length (take (end - at) (drop at t)))) (sym is)
      (record {
        some = fits.some;
        few = fits.most;
        column = fits.left;
        row = omega (arith, fits.lowest);
        short = omega (arith, length-take (end - at) (drop at t), wide_fits w fits);
      })

  -- a turn: row y is stepped where it was lent, by the rule at its place. `F` is the rule as it goes by the place.
  pub rows-turn : {t row : List A} {y at width step end : ℕ} {g : Place} → WindowFits w → Ordered w → Rows t y at → y < w.height
      → width ≡ w.width * w.planes → step ≡ w.stride * w.planes → end ≡ min (at + width) (length s) → at ≤ length s
      → (F : Place → Rule A) → F (place_of w y) ≡ f → g ≡ place_of w y
      → row ≡ each (on_row g.x0 g.planes g.y (length (take (end - at) (drop at t))) (F g)) (take (end - at) (drop at t))
      → Rows (take at t ++ (row ++ drop (end - at) (drop at t))) (y + 1) (at + step)
  rows-turn {t} {row} {y} {at} {width} {step} {end} {g} fits ordered r high ew es e inside F rule is ran =
      record {
        done = next;
        here = omega (arith, r.here, add-mul y 1 (w.stride * w.planes), one-mul (w.stride * w.planes));
        near = omega arith;
        same = ap length next ∙ length-each (rows_before w (length s) (y + 1) f) s;
      }
    where
      part : List A
      part = take (end - at) (drop at t)

      laid : Laid w
      laid = record { some = fits.some; wide = ordered.wide; strided = ordered.strided }

      stepped : row ≡ each (on_row w.x0 w.planes (w.y0 + y) (length part) f) part
      stepped =
          ran
          ∙ ap (λ (h : Place). each (on_row h.x0 h.planes h.y (length part) (F h)) part) is
          ∙ ap (λ (h : Rule A). each (on_row w.x0 w.planes (w.y0 + y) (length part) h) part) rule

      next : take at t ++ (row ++ drop (end - at) (drop at t)) ≡ each (rows_before w (length s) (y + 1) f) s
      next = rows_next w laid y high at (end - at) f s t row r.done r.here (omega (arith, r.here)) stepped

  -- past the last row, or where the next would start past the data, all is done
  pub rows_all : {t : List A} {y at : ℕ} → Rows t y at → w.height ≤ y → t ≡ each (on_window w (length s) f) s
  rows_all {t} {y} r h = r.done ∙ rows_end w (length s) y f s h

  pub rows_short : {t : List A} {y at : ℕ} → Rows t y at → length s ≤ at → t ≡ each (on_window w (length s) f) s
  rows_short {t} {y} r h = r.done ∙ rows-past w (length s) y f s (omega (arith, r.here))

  -- a window without columns, or whose rows overlap, stays
  pub unordered : active w ≡ false → s ≡ each (on_window w (length s) f) s
  unordered h = sym (rows_none w (length s) f s h)
