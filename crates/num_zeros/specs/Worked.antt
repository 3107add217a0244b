-- Worked values, each by computing.
use Rattle.std.specs.Prelude.{◌≡◌, refl, [], ◌∷◌}
use Rattle.num_zeros.specs.Zeros.{block_of, noted}

pub record Blocks : Type 0 where
  -- 8,192 blocks are always enough: a byte below 64 KiB, at 64 KiB, a megabyte
  pub small : block_of 65535 ≡ 8
  pub more : block_of 65536 ≡ 16
  pub megabyte : block_of 1048576 ≡ 136
  -- an entry is replaced; a place past the table and a number past 16 bits are dropped
  pub kept : noted (0 ∷ 0 ∷ 0 ∷ []) 1 2 ≡ 0 ∷ 2 ∷ 0 ∷ []
  pub past : noted (0 ∷ 0 ∷ []) 2 1 ≡ 0 ∷ 0 ∷ []
  pub long : noted (0 ∷ 7 ∷ []) 1 65536 ≡ 0 ∷ 7 ∷ []

pub blocks : Blocks
unfolding noted
blocks = record { small = refl; more = refl; megabyte = refl; kept = refl; past = refl; long = refl }
