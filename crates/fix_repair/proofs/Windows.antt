-- A window in range: its samples, whether they are all there, and that its numbers fit. Assumes nothing.
use Prim.Native.Nat.{ℕ, ◌+◌, ◌-◌, ◌*◌, ◌≤◌, ◌<◌}
use mathlib.Core.Path.{◌≡◌, refl, sym}
use mathlib.Core.Bool.{true, false, ◌&&◌, and-false}
use native.Mathlib.Nat.{le_trans, mul-le-mul_left}
use native.Mathlib.Omega.{arith}
use borrow.Author.Tests.{leb-true, le-leb, lt-leb}
use lib.Dec.{leb}
use Rattle.dng.specs.declared.Window.{Window}
use Rattle.dng.specs.Select.{active}
use Rattle.dng.specs.Repair.{complete}
use Rattle.dng.specs.Answer.{in_range}
use Rattle.fix_scratch.specs.Marks.{Fits}
use Rattle.fix_constant.proofs.Places.{and_first, and_second}
use Rattle.fix_repair.specs.Works.{Ranges}

pub ranges-of : (w : Window) (period : ℕ) → in_range w period ≡ true → Ranges w × (period ≤ 65536)
unfolding in_range
ranges-of w period e =
    let e1 = and_second (leb w.width 65536) _ e in
    let e2 = and_second (leb w.height 65536) _ e1 in
    let e3 = and_second (leb w.stride 65536) _ e2 in
    let e4 = and_second (leb 1 w.planes) _ e3 in
    let e5 = and_second (leb w.planes 8) _ e4 in
    let e6 = and_second (leb w.x0 16777216) _ e5 in
    let e7 = and_second (leb w.y0 16777216) _ e6 in
    let e8 = and_second (leb w.full_width 16777216) _ e7 in
    let e9 = and_second (leb w.full_height 16777216) _ e8 in (
      record {
        width = leb-true w.width 65536 (and_first (leb w.width 65536) _ e);
        height = leb-true w.height 65536 (and_first (leb w.height 65536) _ e1);
        stride = leb-true w.stride 65536 (and_first (leb w.stride 65536) _ e2);
        some = leb-true 1 w.planes (and_first (leb 1 w.planes) _ e3);
        planes = leb-true w.planes 8 (and_first (leb w.planes 8) _ e4);
        x0 = leb-true w.x0 16777216 (and_first (leb w.x0 16777216) _ e5);
        y0 = leb-true w.y0 16777216 (and_first (leb w.y0 16777216) _ e6);
      },
      leb-true period 65536 e9,
    )

-- the last sample's place and what leads to it fit 64 bits
pub window-fits : (w : Window) → Ranges w
    → ((w.height - 1) * w.stride ≤ 4294967296) × ((w.height - 1) * w.stride + w.width ≤ 8589934592)
    × (((w.height - 1) * w.stride + w.width) * w.planes ≤ 68719476736)
window-fits w r = (rows, omega (arith, rows, r.width), pixels)
  where
    rows : (w.height - 1) * w.stride ≤ 4294967296
    rows = le_trans (mul-le-mul_left (w.height - 1) r.stride) (omega (arith, r.height))

    pixels : ((w.height - 1) * w.stride + w.width) * w.planes ≤ 68719476736
    pixels = le_trans (mul-le-mul_left ((w.height - 1) * w.stride + w.width) r.planes) (omega (arith, rows, r.width))

-- whether its samples are all there, test by test
module _ (w : Window) (n : ℕ) where
  pub complete-none : w.width ≡ 0 → false ≡ complete w n
  unfolding complete active
  complete-none e = rw (lt-leb 1 w.width (omega arith)) refl

  pub complete-narrow : w.stride < w.width → false ≡ complete w n
  unfolding complete active
  complete-narrow h = rw (le-leb 1 w.width (omega arith), lt-leb w.width w.stride h) refl

  pub complete-flat : w.height ≡ 0 → false ≡ complete w n
  unfolding complete active
  complete-flat e = rw (lt-leb 1 w.height (omega arith)) (sym (and-false (active w)))

  pub complete-is : (w.width ≡ 0 → ⊥) → w.width ≤ w.stride → (w.height ≡ 0 → ⊥)
      → leb (((w.height - 1) * w.stride + w.width) * w.planes) n ≡ complete w n
  unfolding complete active
  complete-is a b c = rw (le-leb 1 w.width (omega arith), le-leb w.width w.stride b, le-leb 1 w.height (omega arith)) refl

-- a window in range whose samples are all there
pub fits-of : (w : Window) (n : ℕ) → Ranges w → complete w n ≡ true → Fits w
unfolding complete active
fits-of w n r e =
    let a : (leb 1 w.width && leb w.width w.stride) ≡ true = and_first (leb 1 w.width && leb w.width w.stride) _ e in
    let b = and_second (leb 1 w.width && leb w.width w.stride) _ e in
    record {
      wide = leb-true 1 w.width (and_first (leb 1 w.width) _ a);
      width = r.width;
      tall = leb-true 1 w.height (and_first (leb 1 w.height) _ b);
      height = r.height;
      strided = leb-true w.width w.stride (and_second (leb 1 w.width) _ a);
      stride = r.stride;
      some = r.some;
      planes = r.planes;
      x0 = r.x0;
      y0 = r.y0;
    }
