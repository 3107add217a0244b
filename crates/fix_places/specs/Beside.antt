-- What is seen of ascending marks from one place among them. Nothing here has to be believed: what it comes to is said
-- in the words of `num_sorted` `has` and of fix_near/specs/Looks.
use Rattle.std.specs.Prelude.{ℕ, ◌≤◌, ◌<◌, false, List, ◌≡◌, length, get_or}
use Rattle.num_sorted.specs.Sorts.{has}

-- r is the first entry at or after `from` that is not below lo; where there is none, it is past them all
pub record Reached (marks : List ℕ) (from lo r : ℕ) : Type 0 where
  pub on : from ≤ r
  pub within : from ≤ length marks → r ≤ length marks
  pub stays : length marks ≤ from → r ≡ from
  pub passed : (j : ℕ) → from ≤ j → j < r → get_or marks j 0 < lo
  pub stops : r < length marks → lo ≤ get_or marks r 0

-- every entry before `at` is below lo; those from it on are above hi
abbrev pub Under : List ℕ → (at lo : ℕ) → Type 0
Under marks at lo = (j : ℕ) → j < at → get_or marks j 0 < lo

abbrev pub Over : List ℕ → (at hi : ℕ) → Type 0
Over marks at hi = (j : ℕ) → at ≤ j → j < length marks → hi < get_or marks j 0

-- no position from lo up to hi is marked
abbrev pub Free : List ℕ → (lo hi : ℕ) → Type 0
Free marks lo hi = (t : ℕ) → lo ≤ t → t ≤ hi → has marks t ≡ false
