-- Where a mark lies: its row and column in the window, and what is said of these is said of the mark. Assumes nothing.
use Prim.Native.Nat.{ℕ, ◌+◌, ◌/◌, ◌%◌, ◌^◌, ◌<◌}
use mathlib.Core.Path.{◌≡◌, subst, ap₂, ◌∙◌}
use mathlib.Core.Bool.{Bool, true}
use mathlib.Core.List.{List}
use native.Mathlib.Nat.{mod-lt, div-lt_iff_lt-mul, mul_comm, add-zero}
use lib.ListN.{length, get_or}
use Rattle.dng.specs.declared.Window.{Window}
use Rattle.dng.specs.Repair.{positions}
use Rattle.fix_scratch.specs.Marks.{Fits}
use Rattle.fix_constant.specs.Parts.{Pixel, Finds}
use Rattle.fix_near.specs.Looks.{Asks, Lone, first_of}
use Rattle.num_sorted.specs.Sorts.{has}
use Rattle.num_sorted.proofs.Occ.{occ-at, some-has}
use Rattle.fix_fills.specs.Fills.{Marking, Lies, pixel_of}

module _ (w : Window) (f : Fits w) (q : ℕ) (h : q < positions w) where
  pub column-in : q % w.width < w.width
  column-in = mod-lt q f.wide

  pub row_in : q / w.width < w.height
  row_in = (div-lt_iff_lt-mul f.wide).1 (subst (λ (n : ℕ). q < n) (mul_comm w.width w.height) h)

module _ (marks : List ℕ) (w : Window) (step : ℕ) (m : Marking marks w step) (i : ℕ) (h : i < length marks) where
  pub mark-has : has marks (get_or marks i 0) ≡ true
  mark-has = some-has marks (get_or marks i 0) (occ-at marks i h)

  pub mark-in : get_or marks i 0 < positions w
  mark-in = m.inside (get_or marks i 0) mark-has

  pub mark-asks : Asks marks w step (get_or marks i 0 % w.width) (get_or marks i 0 / w.width)
  mark-asks =
      record {
        fits = m.fits;
        column = column-in w m.fits (get_or marks i 0) mark-in;
        row = row_in w m.fits (get_or marks i 0) mark-in;
        step = m.low;
        far = m.far;
        rises = m.rises;
      }

  pub mark-finds : (part : ℕ) → part ≡ 2 ^ 32 / w.width → Finds marks i w part
  mark-finds part e = record { fits = m.fits; held = h; inside = mark-in; part = e }

module _ (w : Window) (step : ℕ) (bad : ℕ → Bool) (q x y : ℕ) (s : Lies w q x y) where
  pub spot-asks : {marks : List ℕ} → Asks marks w step (q % w.width) (q / w.width) → Asks marks w step x y
  spot-asks a = rw (s.0, s.1) a

  pub spot-lone : Lone bad w step (q % w.width) (q / w.width) → Lone bad w step x y
  spot-lone l = rw (s.0, s.1) l

  -- its first sample
  pub spot-first : (from : ℕ) → from ≡ first_of w x y + 0 → from ≡ pixel_of w q
  spot-first from e = e ∙ add-zero (first_of w x y) ∙ ap₂ (λ (x y : ℕ). first_of w x y) s.0 s.1

-- the spot of a mark is a pixel of the window, whose plane 0 is there
pub mark-pixel : (marks : List ℕ) (w : Window) (step : ℕ) (m : Marking marks w step) (i : ℕ) → i < length marks → (x y : ℕ)
    → Lies w (get_or marks i 0) x y → Pixel w x y × (0 < w.planes)
mark-pixel marks w step m i h x y s =
    let a : Asks marks w step x y = rw (s.0, s.1) (mark-asks marks w step m i h) in
    (record { fits = a.fits; column = a.column; row = a.row }, a.fits.some)
