-- What a scan over a part of a row asks of its caller, and the finding of a mark's row.
-- Document 01, 'What each does to a value', Repair: plane 0 equal to the constant.
use Rattle.std.specs.Prelude.{ℕ, ◌+◌, ◌*◌, ◌/◌, ◌^◌, ◌≤◌, ◌<◌, Bool, true, false, List, Option, Some, None, ◌≡◌, length, get_or, set}
use Rattle.dng.specs.declared.Window.{Window}
use Rattle.dng.specs.Repair.{positions, complete, bad_value}
use Rattle.fix_scratch.specs.Marks.{Fits, Holds}

-- column x of row y of a window in range
pub record Pixel (w : Window) (x y : ℕ) : Type 0 where
  pub fits : Fits w
  pub column : x < w.width
  pub row : y < w.height

-- entry i of the scratch is a position of a window in range, and m the reciprocal of its width
pub record Finds (marks : List ℕ) (i : ℕ) (w : Window) (m : ℕ) : Type 0 where
  pub fits : Fits w
  pub held : i < length marks
  pub inside : get_or marks i 0 < positions w
  pub part : m ≡ 2 ^ 32 / w.width

-- the window's samples are all there
pub record Whole (samples : ℕ) (w : Window) : Type 0 where
  pub fits : Fits w
  pub full : complete w samples ≡ true

-- columns `from` up to `end` of row y
pub record Part (w : Window) (y from end : ℕ) : Type 0 where
  pub row : y < w.height
  pub order : from ≤ end
  pub edge : end ≤ w.width

-- the positions before column x of row y are gathered, n of them, at the front of the scratch
abbrev pub Before : Window → (ℕ → Bool) → List ℕ → (n y x : ℕ) → Type 0
Before w m s n y x = Holds (y * w.width + x) m s s n

-- q is stored behind the first n, k with it; or there is no room for it
abbrev pub Keeps : (s s' : List ℕ) → (n q : ℕ) → Option ℕ → Type 0
Keeps s s' n q (Some k) = (n < length s) × (s' ≡ set s n q) × (k ≡ n + 1)
Keeps s s' n q None = length s ≤ n

-- no position of the part is marked
abbrev pub Clear : Window → (ℕ → Bool) → (y from end : ℕ) → Type 0
Clear w m y from end = (x : ℕ) → from ≤ x → x < end → m (y * w.width + x) ≡ false

-- the marks: plane 0 equal to k
abbrev pub same : {A : Type 0} → A → (A → A → Bool) → Window → A → List A → ℕ → Bool
same none eq w k s = bad_value none w (λ v. eq v k) s
