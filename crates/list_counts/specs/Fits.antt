-- The tests of a body's counts, as the layout in dng/specs/List has them, for a body of `len` bytes. Document 01, 'The
-- list'.
use Rattle.std.specs.Prelude.{ℕ, ◌+◌, ◌*◌, max, Bool, ◌&&◌, List, leb}
use Rattle.dng.specs.List.{u32_at}

-- 1: n in 1..4, then 6n+2 f64
unfoldable pub warp_fits : (n len : ℕ) → Bool
warp_fits n len = leb 4 len && (leb 1 n && (leb n 4 && leb (4 + (6 * n + 2) * 8) len))

-- 5: phase, np, nr, then np pairs and nr times four numbers
unfoldable pub bad_list_fits : (np nr len : ℕ) → Bool
bad_list_fits np nr len = leb 12 len && leb (12 + (8 * np + 16 * nr)) len

-- 7 and 10 to 13: a region, n, and n values of `size` bytes
unfoldable pub values_fit : (size n len : ℕ) → Bool
values_fit size n len = leb 36 len && (leb n 16777216 && leb (36 + size * n) len)

-- 8: a region, the degree 0..8, and degree+1 f64
unfoldable pub degree_fits : (d len : ℕ) → Bool
degree_fits d len = leb 36 len && (leb d 8 && leb (36 + 8 * (d + 1)) len)

-- 9: `total` gains, 1 to 16,777,216
unfoldable pub gains_fit : (total len : ℕ) → Bool
gains_fit total len = leb 76 len && (leb 1 total && (leb total 16777216 && leb (76 + 4 * total) len))

-- 9: v·h·planes gains; planes of 0 become 1
abbrev pub gains_at : List ℕ → ℕ → ℕ
gains_at s at = u32_at s (at + 32) * u32_at s (at + 36) * max (u32_at s (at + 72)) 1
