-- From f64 to f32: the nearest f32, at a tie the even one (IEEE 754, roundTiesToEven; Rust's `x as f32`).
-- A value past the range is an infinity, −0 stays −0, and NaN stays NaN.
-- Document 01, 'What each does to a value': "then to f32", "to f32, times v", "t = f − i0 as f32".
use Rattle.std.specs.Prelude.{◌*◌, Float}
use Rattle.std.specs.Float.{nan, inf, fin, binary32}
use Rattle.std.specs.Float.Ieee.{up, down, round}

unfoldable pub narrow : Float → Float
narrow nan = nan
narrow (inf s) = inf s
narrow (fin s m e) = round binary32 s (m * up e) (down e)
