-- Which marks a repair mends, and where their samples and those of their neighbours lie; and the repair, of either
-- sample kind. Document 01, 'What each does to a value', Repair.
use Rattle.std.specs.Prelude.{ℕ, ◌+◌, ◌/◌, ◌%◌, ◌≤◌, ◌<◌, Bool, true, cond, List, [], ◌∷◌, ◌≡◌, leb, Float, length, get_or}
use Rattle.std.specs.Float.{binary32}
use Rattle.num_round.specs.Whole.{round_held}
use Rattle.num_convert.specs.Convert.{whole_in}
use Rattle.pointwise.specs.Points.{each}
use Rattle.dng.specs.declared.Window.{Window}
use Rattle.dng.specs.Repair.{positions, steps, sound_on, repair_at}
use Rattle.fix_scratch.specs.Marks.{Fits}
use Rattle.fix_near.specs.Looks.{first_of, near_of}
use Rattle.fix_means.specs.Means.{Reads}
use Rattle.num_sorted.specs.Sorts.{has, Rises}

-- ---- what is asked

-- the marks are positions of the window, ascending, and the step is in range
pub record Marking (marks : List ℕ) (w : Window) (step : ℕ) : Type 0 where
  pub fits : Fits w
  pub low : 1 ≤ step
  pub far : step ≤ 65536
  pub rises : Rises 0 marks
  pub inside : (q : ℕ) → has marks q ≡ true → q < positions w

-- position q is column x of row y
abbrev pub Lies : Window → (q x y : ℕ) → Type 0
Lies w q x y = (x ≡ q % w.width) × (y ≡ q / w.width)

-- the samples of each plane are there for the pixels
abbrev pub Sees : (samples : ℕ) → (at : List ℕ) → (planes : ℕ) → Type 0
Sees samples at planes = (k : ℕ) → k < planes → Reads samples at k

-- and none of them is one of the samples from `from` on
abbrev pub Apart : (at : List ℕ) → (planes from : ℕ) → Type 0
Apart at planes from =
    (i k : ℕ) → i < length at → k < planes → from ≤ get_or at i 0 + k → get_or at i 0 + k < from + planes → ⊥

-- ---- a position

-- its first sample
abbrev pub pixel_of : Window → ℕ → ℕ
pixel_of w q = first_of w (q % w.width) (q / w.width)

-- where the samples of its sound neighbours begin
abbrev pub near_at : Window → (step : ℕ) → (ℕ → Bool) → ℕ → List ℕ
near_at w step bad q = near_of w step bad (q % w.width) (q / w.width)

-- it has one
unfoldable pub mendable : Window → (step : ℕ) → (ℕ → Bool) → ℕ → Bool
mendable w step bad q = leb 1 (sound_on w.width w.height step bad (q % w.width) (q / w.width) steps)

-- ---- how many are repaired

-- at how many entries of a list
unfoldable pub count_in : (ℕ → Bool) → List ℕ → ℕ
count_in f [] = 0
count_in f (q ∷ l) = cond (f q) 1 0 + count_in f l

-- how many of the marks
abbrev pub mended : List ℕ → Window → (step : ℕ) → ℕ
mended marks w step = count_in (mendable w step (has marks)) marks

-- ---- the repair, from the samples s at its start

abbrev pub repair_of : {A : Type 0} → A → (A → Float) → (Float → A) → Window → (step : ℕ) → (ℕ → Bool) → List A → List A
repair_of none to_float of_mean w step bad s = each (repair_at none to_float of_mean w step bad s) s

-- of u16: means are rounded to whole and held to 0..65535
abbrev pub repair16 : Window → (step : ℕ) → (ℕ → Bool) → List ℕ → List ℕ
repair16 w step bad s = repair_of 0 (λ u. whole_in binary32 u) (λ u. round_held 65535 u) w step bad s
