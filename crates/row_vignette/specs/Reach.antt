-- What the vignette's m2 is answered as, and what a row may rely on. Document 01, 'What each does to a value':
-- FixVignetteRadial.
use Rattle.std.specs.Prelude.{ℕ, true, cond, ◌≡◌, Float, Option, Some, None}
use Rattle.dng.specs.declared.Radial.{Radial}
use Rattle.dng.specs.Value.{Frame, usable, m2_of}

-- the frame of these full sizes, at any scale: a vignette does not look at it
abbrev pub frame_at : Float → (full_width full_height : ℕ) → Frame
frame_at scale fw fh = record { scale = scale; full_width = fw; full_height = fh }

-- "not above 0 or not finite: no effect"
unfoldable pub reach_of : Float → Option Float
reach_of m = cond (usable m) (Some m) None

-- m2 as a run hands it to its rows: worked out once, and usable
pub record Reaches (q : Radial) (m2 : Float) (fw fh : ℕ) : Type 0 where
  pub farthest : (scale : Float) → m2 ≡ m2_of (frame_at scale fw fh) q
  pub positive : usable m2 ≡ true
