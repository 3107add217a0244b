-- What each opcode does to a value. Document 01, 'What each does to a value v'. Every operation is rounded once, in the
-- order written; none is fused.
-- b is the opcode's body: a region takes its first 32 bytes, so tables, coefficients, deltas and scales start at 36,
-- gains at 76.
use Rattle.std.specs.Prelude.{ℕ, zero, suc, ◌+◌, ◌-◌, ◌*◌, ◌/◌, min, max, Bool, false, ◌&&◌, cond, List, ltb, eqb, pos, Float}
use Rattle.std.specs.Float.{inf, fin, binary32, binary64}
use Rattle.std.specs.Float.Ieee.{of_bits, add, sub, mul, div, lt}
use Rattle.num_words.specs.Words.{big}
use Rattle.num_narrow.specs.Narrow.{narrow}
use Rattle.num_round.specs.Whole.{round_held, floor_of, rest_of}
use Rattle.num_convert.specs.Convert.{whole_in, held_to}
use Rattle.dng.specs.declared.Region.{Region}
use Rattle.dng.specs.declared.Grid.{Grid}
use Rattle.dng.specs.declared.Radial.{Radial}
use Rattle.dng.specs.declared.Opcode.{Opcode}
use Rattle.dng.specs.declared.Opcode.TheVariants.{WarpRectilinear, WarpFisheye, FixVignetteRadial, FixBadPixelsConstant, FixBadPixelsList, TrimBounds, MapTable, MapPolynomial, GainMap, DeltaPerRow, DeltaPerColumn, ScalePerRow, ScalePerColumn, Other}
use Rattle.dng.specs.List.{f64_at}
use Rattle.dng.specs.Select.{Rule, on_region}

abbrev pub nought : Float
nought = fin false 0 (pos 0)

abbrev pub one : Float
one = fin false 1 (pos 0)

abbrev pub f32_at : List ℕ → ℕ → Float
f32_at b at = of_bits binary32 (big 4 b at)

-- ---- MapTable: v·scale, rounded to whole, held to 0..last; new value entry / scale

abbrev pub table_at : List ℕ → ℕ → ℕ
table_at b i = big 2 b (36 + 2 * i)

unfoldable pub map_table : Float → ℕ → List ℕ → Float → Float
map_table scale n b v =
    div binary32 (whole_in binary32 (table_at b (round_held (n - 1) (mul binary32 v scale)))) scale

-- the whole-number form's own rule: table[min(v, last)]
unfoldable pub map_table16 : ℕ → List ℕ → ℕ → ℕ
map_table16 n b v = table_at b (min v (n - 1))

-- ---- MapPolynomial: x = v·scale/65535 in f32, widened; Horner in f64 from 0 with the highest coefficient first; times
-- 65535, over scale, to f32

unfoldable pub horner : List ℕ → Float → ℕ → Float → Float
horner b x zero acc = acc
horner b x (suc k) acc = horner b x k (add binary64 (mul binary64 acc x) (f64_at b (36 + 8 * k)))

unfoldable pub map_polynomial : Float → ℕ → List ℕ → Float → Float
map_polynomial scale degree b v =
    let x = div binary32 (mul binary32 v scale) (whole_in binary32 65535) in
    narrow (div binary64 (mul binary64 (horner b x (suc degree) nought) (whole_in binary64 65535)) scale)

-- ---- Delta: v + (d·65535)/scale, a missing d is 0.0. Scale: v·s, a missing s is 1.0

unfoldable pub nth : ℕ → List ℕ → Float → ℕ → Float
nth n b missing i = cond (ltb i n) (f32_at b (36 + 4 * i)) missing

unfoldable pub delta : Float → Float → Float → Float
delta scale d v = add binary32 v (div binary32 (mul binary32 d (whole_in binary32 65535)) scale)

unfoldable pub scaled : Float → Float → Float
scaled s v = mul binary32 v s

-- the index counts selected rows or columns from top or left
abbrev pub row_index : Region → ℕ → ℕ
row_index r y = (y - r.top) / max r.row_pitch 1

abbrev pub column_index : Region → ℕ → ℕ
column_index r x = (x - r.left) / max r.col_pitch 1

-- ---- GainMap: f = (rel − origin)/spacing held to 0..n−1, or 0 unless spacing > 0; rel = image coordinate / max(full
-- size, 1), in f64

unfoldable pub position : (at full : ℕ) → (origin spacing : Float) → (n : ℕ) → Float
position at full origin spacing n =
    cond (lt nought spacing)
    (held_to nought (whole_in binary64 (n - 1))
    (div binary64 (sub binary64 (div binary64 (whole_in binary64 at) (whole_in binary64 (max full 1))) origin) spacing))
    nought

-- i0 is f rounded down, 0 for NaN; i1 = min(i0+1, n−1); t = f − i0 as f32
abbrev pub lower : Float → ℕ
lower f = floor_of f

abbrev pub upper : ℕ → Float → ℕ
upper n f = min (floor_of f + 1) (n - 1)

abbrev pub share : Float → Float
share f = narrow (rest_of f)

-- a+(b−a)·t
unfoldable pub mix : Float → Float → Float → Float
mix a b t = add binary32 a (mul binary32 (sub binary32 b a) t)

-- the gain at map row v, map column h, map plane m, of ph columns and mp planes: planes fastest, v slowest
abbrev pub gain_at : List ℕ → (ph mp v h m : ℕ) → Float
gain_at b ph mp v h m = f32_at b (76 + 4 * ((v * ph + h) * mp + m))

-- the two map rows around fv mixed, at map column h
unfoldable pub line_at : List ℕ → (pv ph mp m : ℕ) → Float → ℕ → Float
line_at b pv ph mp m fv h = mix (gain_at b ph mp (lower fv) h m) (gain_at b ph mp (upper pv fv) h m) (share fv)

-- rows first, then columns the same way
unfoldable pub gain_of : List ℕ → (pv ph mp m : ℕ) → (fv fh : Float) → Float
gain_of b pv ph mp m fv fh =
    mix (line_at b pv ph mp m fv (lower fh)) (line_at b pv ph mp m fv (upper ph fh)) (share fh)

-- ---- FixVignetteRadial

abbrev pub square : Float → Float
square a = mul binary64 a a

-- the squared distance between (x, y) and the centre
abbrev pub apart : (cx cy x y : Float) → Float
apart cx cy x y = add binary64 (square (sub binary64 x cx)) (square (sub binary64 y cy))

-- the larger of the two, NaN passed over
abbrev pub larger : Float → Float → Float
larger a b = cond (lt a b) b a

-- m2, the largest squared distance from the centre to a corner
unfoldable pub farthest : (cx cy fw fh : Float) → Float
farthest cx cy fw fh =
    larger
    (larger
    (larger (larger nought (apart cx cy nought nought)) (apart cx cy fw nought))
    (apart cx cy nought fh))
    (apart cx cy fw fh)

-- above 0 and finite; if not, the opcode has no effect
unfoldable pub usable : Float → Bool
usable m = lt nought m && lt m (inf false)

-- 1+r2·(k0+r2·(k1+…+r2·k4))
unfoldable pub radial_gain : Radial → Float → Float
radial_gain q r2 =
    add binary64 one (mul binary64 r2
    (add binary64 q.k0 (mul binary64 r2
    (add binary64 q.k1 (mul binary64 r2
    (add binary64 q.k2 (mul binary64 r2
    (add binary64 q.k3 (mul binary64 r2 q.k4)))))))))

-- The frame that values refer to: the scale, and the full width and height.
pub record Frame : Type 0 where
  pub scale : Float
  pub full_width : ℕ
  pub full_height : ℕ

-- the centre is cx·full width, cy·full height
abbrev pub centre_x : Frame → Radial → Float
centre_x fr q = mul binary64 q.cx (whole_in binary64 fr.full_width)

abbrev pub centre_y : Frame → Radial → Float
centre_y fr q = mul binary64 q.cy (whole_in binary64 fr.full_height)

unfoldable pub m2_of : Frame → Radial → Float
m2_of fr q =
    farthest (centre_x fr q) (centre_y fr q) (whole_in binary64 fr.full_width) (whole_in binary64 fr.full_height)

-- r2 = (dx²+dy²)/m2; the gain to f32, times v
unfoldable pub vignetted : Frame → Radial → (y x : ℕ) → Float → Float
vignetted fr q y x v =
    mul binary32 v
    (narrow (radial_gain q (div binary64 (apart (centre_x fr q) (centre_y fr q) (whole_in binary64 x) (whole_in binary64 y))
    (m2_of fr q))))

-- every whole pixel in rows y < full height; no region, no limit on columns
unfoldable pub vignette : Frame → Radial → Rule Float
vignette fr q whole y x k v =
    cond (whole && (ltb y fr.full_height && usable (m2_of fr q))) (vignetted fr q y x v) v

-- ---- the opcodes that change a sample by itself and its position alone. All others leave it as it is; the repairs are
-- in specs/Repair

-- map plane min(k, last), k counted from the region's first plane
unfoldable pub gained : Frame → List ℕ → Region → (pv ph : ℕ) → Grid → (mp : ℕ) → (y x k : ℕ) → Float → Float
gained fr b r pv ph g mp y x k v =
    mul binary32 v
    (gain_of b pv ph (max mp 1) (min (k - r.plane) (max mp 1 - 1))
    (position y fr.full_height g.origin_v g.spacing_v pv)
    (position x fr.full_width g.origin_h g.spacing_h ph))

abbrev pub rule_of : Frame → Opcode → List ℕ → Rule Float
rule_of fr (WarpRectilinear n cx cy) b = λ whole y x k v. v
rule_of fr WarpFisheye b = λ whole y x k v. v
rule_of fr (FixVignetteRadial q) b = vignette fr q
rule_of fr (FixBadPixelsConstant c p) b = λ whole y x k v. v
rule_of fr (FixBadPixelsList p np nr) b = λ whole y x k v. v
rule_of fr (TrimBounds t l bm r) b = λ whole y x k v. v
rule_of fr (MapTable r n) b = on_region r (λ y x k v. cond (eqb n 0) v (map_table fr.scale n b v))
rule_of fr (MapPolynomial r d) b = on_region r (λ y x k v. map_polynomial fr.scale d b v)
rule_of fr (GainMap r pv ph g mp) b = on_region r (gained fr b r pv ph g mp)
rule_of fr (DeltaPerRow r n) b = on_region r (λ y x k v. delta fr.scale (nth n b nought (row_index r y)) v)
rule_of fr (DeltaPerColumn r n) b = on_region r (λ y x k v. delta fr.scale (nth n b nought (column_index r x)) v)
rule_of fr (ScalePerRow r n) b = on_region r (λ y x k v. scaled (nth n b one (row_index r y)) v)
rule_of fr (ScalePerColumn r n) b = on_region r (λ y x k v. scaled (nth n b one (column_index r x)) v)
rule_of fr (Other i) b = λ whole y x k v. v

-- the whole-number form knows tables alone
abbrev pub rule16_of : Opcode → List ℕ → Rule ℕ
rule16_of (WarpRectilinear n cx cy) b = λ whole y x k v. v
rule16_of WarpFisheye b = λ whole y x k v. v
rule16_of (FixVignetteRadial q) b = λ whole y x k v. v
rule16_of (FixBadPixelsConstant c p) b = λ whole y x k v. v
rule16_of (FixBadPixelsList p np nr) b = λ whole y x k v. v
rule16_of (TrimBounds t l bm r) b = λ whole y x k v. v
rule16_of (MapTable r n) b = on_region r (λ y x k v. cond (eqb n 0) v (map_table16 n b v))
rule16_of (MapPolynomial r d) b = λ whole y x k v. v
rule16_of (GainMap r pv ph g mp) b = λ whole y x k v. v
rule16_of (DeltaPerRow r n) b = λ whole y x k v. v
rule16_of (DeltaPerColumn r n) b = λ whole y x k v. v
rule16_of (ScalePerRow r n) b = λ whole y x k v. v
rule16_of (ScalePerColumn r n) b = λ whole y x k v. v
rule16_of (Other i) b = λ whole y x k v. v
