-- Bands of whole rows are a cut. Assumes nothing.
use Prim.Native.Nat.{ℕ, zero, suc, ◌+◌, ◌*◌, ◌≤◌, ◌<◌}
use mathlib.Core.Path.{◌≡◌, refl, sym, ap, ap₂, ◌∙◌}
use mathlib.Core.Bool.{Bool, ◌&&◌, cond, and-false}
use native.Mathlib.Omega.{arith}
use native.Mathlib.Nat.{mul-le-mul_right}
use borrow.Author.Tests.{lt-ltb, le-ltb}
use lib.Dec.{ltb}
use Rattle.pointwise.proofs.Each.{below_or}
use Rattle.dng.specs.declared.Window.{Window}
use Rattle.law_rows.proofs.Calls.{Ranged, ranged, in-range}
use Rattle.law_tiles.specs.Tiles.{tile_window, within, hits, Cut, Fit, Fits}
use Rattle.law_tiles.specs.Bands.{band, bands_from, BandsCut}
use Rattle.law_tiles.proofs.Parts.{within_in, within-right, within-above, within-below}

in_window : (w : Window) (x q : ℕ) → x < w.width → q < w.height → cond {A = ℕ} (ltb x w.width && ltb q w.height) 1 0 ≡ 1
in_window w x q a b = ap₂ (λ (c d : Bool). cond {A = ℕ} (c && d) 1 0) (lt-ltb x w.width a) (lt-ltb q w.height b)

pub out-right : (w : Window) (x q : ℕ) → w.width ≤ x → cond {A = ℕ} (ltb x w.width && ltb q w.height) 1 0 ≡ 0
out-right w x q a = ap (λ (c : Bool). cond {A = ℕ} (c && ltb q w.height) 1 0) (le-ltb x w.width a)

pub out_below : (w : Window) (x q : ℕ) → w.height ≤ q → cond {A = ℕ} (ltb x w.width && ltb q w.height) 1 0 ≡ 0
out_below w x q a = ap (λ (c : Bool). cond {A = ℕ} (ltb x w.width && c) 1 0) (le-ltb q w.height a)
    ∙ ap (λ (c : Bool). cond {A = ℕ} c 1 0) (and-false (ltb x w.width))

module _ (w : Window) (r : ℕ) (low : 1 ≤ r) (x q : ℕ) where
  abbrev hit : ℕ → ℕ
  hit y = cond (within (band w r y) x q) 1 0

  hit-yes : (y : ℕ) → x < w.width → y ≤ q → q < y + r → q < w.height → hit y ≡ 1
  hit-yes y a b c d = ap (λ (t : Bool). cond {A = ℕ} t 1 0) (within_in (band w r y) x q (omega arith) (omega arith) b (omega arith))

  hit-right : (y : ℕ) → w.width ≤ x → hit y ≡ 0
  hit-right y a = ap (λ (t : Bool). cond {A = ℕ} t 1 0) (within-right (band w r y) x q (omega arith))

  hit-above : (y : ℕ) → q < y → hit y ≡ 0
  hit-above y a = ap (λ (t : Bool). cond {A = ℕ} t 1 0) (within-above (band w r y) x q a)

  hit-below : (y : ℕ) → y + r ≤ q → hit y ≡ 0
  hit-below y a = ap (λ (t : Bool). cond {A = ℕ} t 1 0) (within-below (band w r y) x q (omega arith))

  hit-past : (y : ℕ) → w.height ≤ q → y ≤ q → hit y ≡ 0
  hit-past y a b = ap (λ (t : Bool). cond {A = ℕ} t 1 0) (within-below (band w r y) x q (omega arith))

  -- above the first band, right of the window, and past its height: none
  no-hits : (n y : ℕ) → (q < y) → hits x q (bands_from w r n y) ≡ 0
  unfolding hits bands_from
  no-hits zero y a = refl
  no-hits (suc n) y a = omega (arith, hit-above y a, no-hits n (y + r) (omega arith))

  right-hits : (n y : ℕ) → w.width ≤ x → hits x q (bands_from w r n y) ≡ 0
  unfolding hits bands_from
  right-hits zero y a = refl
  right-hits (suc n) y a = omega (arith, hit-right y a, right-hits n (y + r) a)

  past-hits : (n y : ℕ) → w.height ≤ q → hits x q (bands_from w r n y) ≡ 0
  unfolding hits bands_from
  past-hits zero y a = refl
  past-hits (suc n) y a =
      below_or q y (λ b. omega (arith, hit-above y b, past-hits n (y + r) a)) (λ b. omega (arith, hit-past y a b, past-hits n (y + r) a))

  one_hit : (n y : ℕ) → x < w.width → q < w.height → y ≤ q → w.height ≤ y + n * r → hits x q (bands_from w r n y) ≡ 1
  unfolding hits bands_from
  one_hit zero y a b c d = absurd (omega arith)
  one_hit (suc n) y a b c d =
      below_or q (y + r) (λ e. omega (arith, hit-yes y a c e b, no-hits n (y + r) e))
      (λ e. omega (arith, hit-below y e, one_hit n (y + r) a b e (omega arith)))

cut : (w : Window) (r n : ℕ) → 1 ≤ r → w.height ≤ n * r → Cut w (bands_from w r n 0)
cut w r n low high x q =
    below_or x w.width
    (λ a.
    below_or q w.height (λ b. one_hit w r low x q n 0 a b (omega arith) (omega arith) ∙ sym (in_window w x q a b))
    (λ b. past-hits w r low x q n 0 b ∙ sym (out_below w x q b)))
    (λ a. right-hits w r low x q n 0 a ∙ sym (out-right w x q a))

fit : (w : Window) (r period y : ℕ) → Ranged w period → w.width ≤ w.stride → w.y0 + y ≤ 16777216 → Fit w period (band w r y)
fit w r period y g strided low =
    record {
      ranges = in-range (tile_window w (band w r y)) period
          (record {
            widest = g.widest;
            highest = omega (arith, g.highest);
            farthest = g.farthest;
            some = g.some;
            most = g.most;
            left = omega (arith, g.left);
            top = low;
            full_wide = g.full_wide;
            full_high = g.full_high;
            longest = g.longest;
          });
      full = λ x q a h.
          let rows : (q + 1) * (w.stride * w.planes) ≤ r * (w.stride * w.planes) = mul-le-mul_right (w.stride * w.planes) (omega arith) in
          let wide : (x + 1) * w.planes ≤ w.stride * w.planes = mul-le-mul_right w.planes (omega arith) in
          omega (arith, rows, wide);
    }

fits : (w : Window) (r period : ℕ) → Ranged w period → w.width ≤ w.stride → (n y : ℕ) → w.y0 + (y + n * r) ≤ 16777216 + r → Fits w period (bands_from w r n y)
unfolding bands_from
fits w r period g strided zero y low = tt
fits w r period g strided (suc n) y low = (fit w r period y g strided (omega arith), fits w r period g strided n (y + r) (omega arith))

pub bands-cut : BandsCut
bands-cut w r n period low high ranges strided far =
    (cut w r n low high, fits w r period (ranged w period ranges) strided n 0 (omega arith))
