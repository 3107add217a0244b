-- A row raised pixel by pixel: what is the same for the whole row, the centre's column and dy², stands beside m2 in a
-- `Line`.
use Rattle.std.specs.Prelude.{ℕ, ◌+◌, ◌-◌, ◌*◌, ◌/◌, List, Float, length, get_or}
use Rattle.std.specs.Float.{nan, binary32, binary64}
use Rattle.std.specs.Float.Ieee.{add, sub, mul, div}
use Rattle.pointwise.specs.Points.{before, between}
use Rattle.num_narrow.specs.Narrow.{narrow}
use Rattle.num_convert.specs.Convert.{whole_in}
use Rattle.row_vignette.specs.declared.Line.{Line}
use Rattle.dng.specs.Value.{square, radial_gain}

-- the gain of a pixel that lies dx from the centre along the row, dy2 being dy²: r2 = (dx²+dy²)/m2; in f64, and to f32
unfoldable pub wide_gain : Line → (dx : Float) → Float
wide_gain t dx = radial_gain t.radial (div binary64 (add binary64 (square dx) t.dy2) t.m2)

unfoldable pub gain_of : Line → (dx : Float) → Float
gain_of t dx = narrow (wide_gain t dx)

-- the gain of pixel j of those from image column x0 on, whatever stood in its place
unfoldable pub wide_at : Line → (x0 : ℕ) → ℕ → Float → Float
wide_at t x0 j v = wide_gain t (sub binary64 (whole_in binary64 (x0 + j)) t.centre)

-- the pixels of p samples from sample a on, a gain to each
unfoldable pub raised_by : (gains : List Float) → (a p : ℕ) → ℕ → Float → Float
raised_by gains a p = between a (a + length gains * p) (λ i v. mul binary32 v (narrow (get_or gains ((i - a) / p) nan)))

-- sample i of a row of p planes that starts at image column x0, its pixel whole or not
unfoldable pub raised : Line → (x0 p : ℕ) → ℕ → Float → Float
raised t x0 p i v = mul binary32 v (gain_of t (sub binary64 (whole_in binary64 (x0 + i / p)) t.centre))

-- the whole pixels of a row of n samples
unfoldable pub whole_ones : Line → (x0 p n : ℕ) → ℕ → Float → Float
whole_ones t x0 p n = before (n / p * p) (raised t x0 p)
