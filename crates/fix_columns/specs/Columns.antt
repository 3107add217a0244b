-- Positions counted by columns, and by rows. Nothing here has to be believed: proofs/Turning says what it comes to.
use Rattle.std.specs.Prelude.{ℕ, ◌+◌, ◌*◌, ◌/◌, ◌%◌, ◌≤◌, ◌<◌, ◌≡◌, true, List}
use Rattle.num_sorted.specs.Sorts.{has}

-- position q, counted by columns of the height h, as it is counted by rows of the width w
unfoldable pub turned : (w h q : ℕ) → ℕ
turned w h q = q % h * w + q / h

-- what turning positions may rely on
pub record Turns (w h : ℕ) (s : List ℕ) : Type 0 where
  pub tall : 1 ≤ h
  pub wide : w ≤ 65536
  pub high : h ≤ 65536
  pub below : (q : ℕ) → has s q ≡ true → q < w * h
