-- Marks in the u32 scratch: the distinct marked positions, ascending, or too many for it. Document 01, 'What comes
-- back' (5) and Repair.
use Rattle.std.specs.Prelude.{ℕ, zero, suc, ◌≤◌, ◌<◌, Bool, cond, List, [], ◌∷◌, ◌≡◌, length, take, Option, Some, None}
use Rattle.dng.specs.declared.Window.{Window}
use Rattle.dng.specs.Repair.{count_below}

-- the numbers from a on, n of them looked at, for which m holds: ascending, each once
unfoldable pub chosen : (ℕ → Bool) → (a n : ℕ) → List ℕ
chosen m a zero = []
chosen m a (suc n) = cond (m a) (a ∷ chosen m (suc a) n) (chosen m (suc a) n)

-- the scratch s' starts with all n marked numbers below top, and s had room for them
pub record Holds (top : ℕ) (m : ℕ → Bool) (s s' : List ℕ) (n : ℕ) : Type 0 where
  pub all : n ≡ count_below top m
  pub fits : n ≤ length s
  pub front : take n s' ≡ chosen m 0 top

-- what gathering the marks below top answers: all of them, or that there are more than the scratch has entries
abbrev pub Gathered : (top : ℕ) → (ℕ → Bool) → (s s' : List ℕ) → Option ℕ → Type 0
Gathered top m s s' (Some n) = Holds top m s s' n
Gathered top m s s' None = length s < count_below top m

-- what a repair has checked of its window
pub record Fits (w : Window) : Type 0 where
  pub wide : 1 ≤ w.width
  pub width : w.width ≤ 65536
  pub tall : 1 ≤ w.height
  pub height : w.height ≤ 65536
  pub strided : w.width ≤ w.stride
  pub stride : w.stride ≤ 65536
  pub some : 1 ≤ w.planes
  pub planes : w.planes ≤ 8
  pub x0 : w.x0 ≤ 16777216
  pub y0 : w.y0 ≤ 16777216
