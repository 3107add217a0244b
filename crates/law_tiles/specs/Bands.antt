-- Bands of whole rows are tiles: they are a cut of the window, and may be lent as stretches of the samples that do not
-- overlap (document 02, M-110).
use Rattle.std.specs.Prelude.{ℕ, zero, suc, ◌+◌, ◌-◌, ◌*◌, ◌≤◌, min, List, [], ◌∷◌, ◌≡◌, true}
use Rattle.dng.specs.declared.Window.{Window}
use Rattle.dng.specs.Answer.{in_range}
use Rattle.law_tiles.specs.Tiles.{Tile, Cut, Fits}

-- the band from row y on: r rows, or what is left of the window, lent as the stretch of r rows with their gaps
abbrev pub band : Window → (r y : ℕ) → Tile
band w r y =
    record { x = 0; y = y; width = w.width; height = min r (w.height - y); lent = r * (w.stride * w.planes) }

-- n bands, from row y on
unfoldable pub bands_from : Window → (r n y : ℕ) → List Tile
bands_from w r zero y = []
bands_from w r (suc n) y = band w r y ∷ bands_from w r n (y + r)

-- enough bands are a cut, and each fits, where the last of them starts in range
abbrev pub BandsCut : Type 0
BandsCut =
    (w : Window) (r n period : ℕ) → 1 ≤ r → w.height ≤ n * r → in_range w period ≡ true → w.width ≤ w.stride
    → w.y0 + n * r ≤ 16777216 + r → Cut w (bands_from w r n 0) × Fits w period (bands_from w r n 0)
