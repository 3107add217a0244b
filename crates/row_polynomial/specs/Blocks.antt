-- Samples of a row, i, i + step and so on, done a block at a time: evaluated, then written. Nothing here has to be
-- believed: what a row comes to is `polynomial_row`'s contract, in the words of dng/specs/Value.
use Rattle.std.specs.Prelude.{ℕ, zero, suc, ◌+◌, ◌*◌, ◌≤◌, ◌<◌, ◌≡◌, List, length, get_or, set, Float}
use Rattle.std.specs.Float.{nan}
use Rattle.num_narrow.specs.Narrow.{narrow}
use Rattle.row_polynomial.specs.declared.polynomial.Polynomial.{Polynomial}
use Rattle.row_polynomial.specs.Terms.{wide_of}

-- n samples from i on: at least one, and all before `stop`
pub record Counted (i step stop n : ℕ) : Type 0 where
  pub some : 1 ≤ n
  pub few : n ≤ 64
  pub ends : i + n * step < stop + step
  pub all : n < 64 → stop ≤ i + n * step

-- n samples of a row of len
pub record Block (i step n len : ℕ) : Type 0 where
  pub few : n ≤ 64
  pub ends : i + n * step < len + step
  pub short : len ≤ 524288
  pub near : step < 34359738368

-- xs are what is narrowed to the samples' new values
abbrev pub Evaluated : Polynomial → (i step : ℕ) → List Float → List Float → Type 0
Evaluated p i step row xs = (j : ℕ) → j < length xs → get_or xs j nan ≡ wide_of p (get_or row (i + j * step) nan)

-- the row with the first n of xs, narrowed, at i, i + step and so on
unfoldable pub written : (i step : ℕ) → List Float → (n : ℕ) → List Float → List Float
written i step xs zero row = row
written i step xs (suc n) row = set (written i step xs n row) (i + n * step) (narrow (get_or xs n nan))
