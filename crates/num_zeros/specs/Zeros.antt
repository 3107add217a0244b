-- Stretches of zeros, and what a table keeps of them.
use Rattle.std.specs.Prelude.{ℕ, ◌+◌, ◌*◌, ◌/◌, ◌≤◌, ◌<◌, ◌≡◌, cond, List, leb, length, get_or, set}

-- the bytes of s from a on and before b are 0
pub record Zeros (s : List ℕ) (a b : ℕ) : Type 0 where
  pub all : (i : ℕ) → a ≤ i → i < b → get_or s i 0 ≡ 0

-- from `at` on, up to r and at most to `end`, nothing but zeros was met
pub record Passed (s : List ℕ) (at end r : ℕ) : Type 0 where
  pub from : at ≤ r
  pub most : r ≤ end
  pub zeros : Zeros s at r

-- n bytes are cut into blocks of so many
abbrev pub block_of : ℕ → ℕ
block_of n = n / 65536 * 8 + 8

-- the entry j of the table t says how many blocks from block j on are known to be zero
pub record Known (s t : List ℕ) : Type 0 where
  pub each : (j : ℕ) → Zeros s (j * block_of (length s)) ((j + get_or t j 0) * block_of (length s))

-- the table t after m blocks from block j on were found to be zero; a number that an entry does not hold is not kept
unfoldable pub noted : List ℕ → (j m : ℕ) → List ℕ
noted t j m = cond (leb m 65535) (set t j m) t

-- from block j on and before block k nothing but zeros was met, and the table t is right
pub record Counted (s : List ℕ) (j k : ℕ) (t : List ℕ) : Type 0 where
  pub from : j ≤ k
  pub zeros : Zeros s (j * block_of (length s)) (k * block_of (length s))
  pub known : Known s t
