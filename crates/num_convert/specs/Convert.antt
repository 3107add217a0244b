-- Whole numbers as floats, and a value held between two others.
use Rattle.std.specs.Prelude.{ℕ, cond, pos, Float}
use Rattle.std.specs.Float.{Format}
use Rattle.std.specs.Float.Ieee.{lt, of_int}

-- the whole number n in the format f, to nearest even where the format does not hold it (Rust's `n as f32`, `n as f64`)
abbrev pub whole_in : Format → ℕ → Float
whole_in f n = of_int f (pos n)

-- Held to a..b: below a becomes a, above b becomes b, all else stays, so −0 and NaN stay (document 01, 'What each does
-- to a value').
unfoldable pub held_to : Float → Float → Float → Float
held_to a b x = cond (lt x a) a (cond (lt b x) b x)
