-- What a loop over offsets may pass over.
use Rattle.std.specs.Prelude.{ℕ, ◌+◌, ◌*◌, ◌≤◌, List}
use Rattle.num_zeros.specs.Zeros.{Zeros}

-- of n offsets from o on, those behind offset i and before offset r are 0
pub record Skipped (s : List ℕ) (n o i r : ℕ) : Type 0 where
  pub from : i + 1 ≤ r
  pub most : r ≤ n
  pub zeros : Zeros s (o + 4 * (i + 1)) (o + 4 * r)
