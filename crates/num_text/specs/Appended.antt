-- What appending to a lent buffer means.
use Rattle.std.specs.Prelude.{ℕ, ◌+◌, ◌≡◌, List, ◌++◌, length, take, drop}

-- Of the buffer b, whose first `at` bytes are text, the bytes p were put behind that text, up to r; the buffer is now
-- o.
pub record Appended (b : List ℕ) (at : ℕ) (p : List ℕ) (r : ℕ) (o : List ℕ) : Type 0 where
  pub ends : r ≡ at + length p
  pub written : take r o ≡ take at b ++ p
  pub after : drop r o ≡ drop r b
