-- From a float to a whole number.
use Rattle.std.specs.Prelude.{ℕ, ◌+◌, ◌*◌, ◌/◌, min, ◌≡◌, cond, pos, Float}
use Rattle.std.specs.Float.{nan, inf, fin, binary64}
use Rattle.std.specs.Float.Ieee.{up, down, to_unsigned, of_int, sub}

-- Rounded to whole, half away from zero, and held to 0..last; NaN gives 0. A negative value is below 0 or rounds to −0:
-- 0 either way.
-- A value num / den rounds to (2 num + den) / (2 den), rounded down. Document 01, MapTable and the u16 means: "rounded
-- to whole, held to 0..last; NaN gives 0".
unfoldable pub round_held : ℕ → Float → ℕ
round_held last nan = 0
round_held last (inf s) = cond s 0 last
round_held last (fin s m e) = cond s 0 (min ((2 * (m * up e) + down e) / (2 * down e)) last)

-- Rounded down, 0 for NaN and below 0, and held to 32 bits, which a gain position held to 0..n−1 never passes.
-- Document 01, GainMap: "i0 is f rounded down, 0 for NaN".
abbrev pub floor_of : Float → ℕ
floor_of f = to_unsigned 32 f

-- what is left of f, in f64. Document 01, GainMap: "t = f − i0"
abbrev pub rest_of : Float → Float
rest_of f = sub binary64 f (of_int binary64 (pos (floor_of f)))

-- the two parts of f as `floor` gives them
pub record FloorIs (f : Float) (index : ℕ) (rest : Float) : Type 0 where
  pub index_is : index ≡ floor_of f
  pub rest-is : rest ≡ rest_of f
