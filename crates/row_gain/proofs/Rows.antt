-- What the steps of a row come to in the words of the definitions. Assumes nothing.
use Prim.Native.Nat.{ℕ, ◌+◌, ◌-◌, ◌*◌, ◌/◌, ◌%◌, ◌≤◌, ◌<◌, min, max}
use mathlib.Core.Path.{◌≡◌, sym, ap, ap₂, subst, ◌∙◌}
use mathlib.Core.Bool.{cond}
use mathlib.Core.List.{List}
use native.Mathlib.Nat.{mul_assoc, mul-le-mul_left, mul-le-mul_right}
use native.Mathlib.Omega.{arith}
use lib.ListN.{get_or}
use lib.Ieee.{Float, nan, binary32, binary64, add, mul, sub}
use Rattle.pointwise.specs.Select.{selects, in_row}
use Rattle.pointwise.proofs.Each.{below_or, each-agree}
use Rattle.pointwise.proofs.Select.{on-plane, on_below, on-above}
use Rattle.row_select.specs.declared.Walk.{Walk}
use Rattle.row_select.specs.Walks.{walked}
use Rattle.dng.specs.declared.Grid.{Grid}
use Rattle.dng.specs.declared.Region.{Region}
use Rattle.dng.specs.Value.{Frame, mix, position, lower, upper, share, line_at, gain_of, gained}
use Rattle.row_gain.specs.declared.Axis.{Axis}
use Rattle.row_gain.specs.declared.Map.{Map}
use Rattle.row_gain.specs.declared.Column.{Column}
use Rattle.row_gain.specs.declared.Ruler.{Ruler}
use Rattle.row_gain.specs.declared.Strip.{Strip}
use Rattle.row_gain.specs.declared.Pair.{Pair}
use Rattle.row_gain.specs.Blocks.{within, Filled}
use Rattle.num_convert.specs.Convert.{whole_in}
use Rattle.row_gain.specs.Gain.{AxisIs, OnMap, Sized, MapSized, times_gain, map_gain, map_position}
use Rattle.row_gain.specs.Strip.{RulerIs, ColumnIs, place_on, Beside, StripIs, StripAt, Reaches, PairIs, line_of, along_strip}
use Rattle.row_gain.proofs.Laws.{place_is}
use Rattle.row_gain.proofs.Blocks.{within_in, within-agree}

-- a value raised by the pair of its own map column is what `along_strip` says
pub raised_is : (b : List ℕ) (s : Strip) (f : ℕ → Float) (x p : ℕ) {q : Pair} {c : Column} (v : Float) → PairIs b s q → ColumnIs (f x) c
    → q.h ≡ c.lower → mul binary32 v (add binary32 q.a (mul binary32 q.d c.share)) ≡ along_strip b s f x p v
unfolding along_strip mix
raised_is b s f x p {q} {c} v is on h =
    let line : q.a ≡ line_of b s q.h = is.line in
    let rise : q.d ≡ sub binary32 (line_of b s (min (q.h + 1) s.last)) (line_of b s q.h) = is.rise in
    let low : q.h ≡ lower (f x) = h ∙ on.lower-is in
    let part : c.share ≡ share (f x) = on.share-is in
    cc

-- and so, in a block, where the map column and the share come from the table
pub block-value : (b : List ℕ) (s : Strip) (f : ℕ → Float) (a pitch w : ℕ) {cs : List Column} (x j p : ℕ) {q : Pair} (v : Float) → PairIs b s q
    → Filled f a pitch w cs → 1 ≤ pitch → j < w → x ≡ a + j * pitch
    → let c = get_or cs j (record { lower = 0; share = nan }) in
    q.h ≡ c.lower
    → mul binary32 v (add binary32 q.a (mul binary32 q.d c.share)) ≡ within a (a + w * pitch) (along_strip b s f) x p v
block-value b s f a pitch w {cs} x j p v is filled some h at i =
    let more : (j + 1) * pitch ≤ w * pitch = mul-le-mul_right pitch (omega arith) in
    raised_is b s f (a + j * pitch) p v is (filled.columns j h) i
    ∙ ap (λ (y : ℕ). along_strip b s f y p v) (sym at)
    ∙ sym (within_in a (a + w * pitch) (along_strip b s f) x p v (omega arith) (omega arith))

-- ---- a strip is two rows of the map

-- gains stand planes fastest, rows slowest
place : (v ph h mp m near step : ℕ) → near ≡ 76 + 4 * (v * (ph * mp) + m) → step ≡ 4 * mp → near + h * step ≡ 76 + 4 * ((v * ph + h) * mp + m)
place v ph h mp m near step e f =
    rw (e, f) (omega arith)

-- the gain of a map column on the strip is the one of the definitions
pub line-is : (b : List ℕ) (v : Axis) (pv ph mp m : ℕ) (fv : Float) (s : Strip) (h : ℕ) → AxisIs fv pv v → StripIs v ph mp m s
    → line_of b s h ≡ line_at b pv ph mp m fv h
unfolding line_of line_at
line-is b v pv ph mp m fv s h a is =
    let near : s.near + h * s.step ≡ 76 + 4 * ((v.lower * ph + h) * mp + m) = place v.lower ph h mp m _ _ is.near-is is.step_is in
    let far : s.far + h * s.step ≡ 76 + 4 * ((v.upper * ph + h) * mp + m) = place v.upper ph h mp m _ _ is.far-is is.step_is in
    cc

-- so that along the strip of its position a row is changed as the definitions say
pub along-is : (b : List ℕ) (map : Map) (m full : ℕ) (v : Axis) (s : Strip) (fv : Float) → StripAt map m v s → AxisIs fv map.points_v v
    → (x k : ℕ) (u : Float) → along_strip b s (map_position map full) x k u ≡ map_gain b map m full fv x k u
unfolding along_strip times_gain gain_of
along-is b map m full v s fv is a x k u =
    let f : Float = map_position map full x in
    ap (λ (n : ℕ). mul binary32 u (mix (line_of b s (lower f)) (line_of b s (min (lower f + 1) n)) (share f))) is.last-is
    ∙ (ap₂ (λ (i j : Float). mul binary32 u (mix i j (share f))) (is.lines fv a b (lower f)) (is.lines fv a b (upper map.points_h f)))

-- and so where a ruler of the map measures
pub along-ruler : (b : List ℕ) (map : Map) (m full : ℕ) (v : Axis) (s : Strip) (fv : Float) {r : Ruler} → StripAt map m v s
    → RulerIs full map.grid.origin_h map.grid.spacing_h map.points_h r → AxisIs fv map.points_v v
    → (x k : ℕ) (u : Float) → along_strip b s (place_on r) x k u ≡ map_gain b map m full fv x k u
unfolding along_strip
along-ruler b map m full v s fv {r} is ruler a x k u =
    ap (λ (z : Float). mul binary32 u (mix (line_of b s (lower z)) (line_of b s (min (lower z + 1) s.last)) (share z)))
    (place_is _ _ _ _ r ruler x)
    ∙ along-is b map m full v s fv is a x k u

-- ---- no position wraps

-- two map rows of the map are so far
pub beside : (v : Axis) (pv ph mp m n : ℕ) → n ≡ max mp 1 → Sized pv ph mp m → OnMap v pv → Beside v ph n m
beside v pv ph mp m n e z a =
    record {
      some = columns;
      plane = omega (arith, z.plane);
      lower_in = omega (arith, few, mul-le-mul_right {m = v.lower + 1} {n = pv} (ph * n) (omega (arith, rows, a.lower_in)));
      upper_in = omega (arith, few, mul-le-mul_right {m = v.upper + 1} {n = pv} (ph * n) (omega (arith, rows, a.upper_in)));
    }
  where
    all : pv * ph * max mp 1 ≡ pv * (ph * n)
    all = rw e (mul_assoc pv ph (max mp 1))

    few : pv * (ph * n) ≤ 16777216
    few = omega (arith, z.few, all)

    rows : 1 ≤ pv
    rows =
        below_or pv 1
        (λ q. let none : pv ≡ 0 = omega arith in omega (arith, z.some, all, ap (λ (i : ℕ). i * (ph * n)) none))
        (λ q. q)

    columns : 1 ≤ ph
    columns =
        below_or ph 1
        (λ q.
        let none : ph ≡ 0 = omega arith in
        omega (arith, z.some, all, ap (λ (i : ℕ). pv * (i * n)) none))
        (λ q. q)

reach : (i ph mp m near last step : ℕ) → 1 ≤ ph → m < mp → (i + 1) * (ph * mp) ≤ 16777216 → near ≡ 76 + 4 * (i * (ph * mp) + m)
    → step ≡ 4 * mp → last ≡ ph - 1 → near + last * step < 4294967296
reach i ph mp m near last step some plane few e f l =
    let columns : (ph - 1 + 1) * mp ≡ ph * mp = ap (λ (n : ℕ). n * mp) (omega arith) in
    rw (e, f, l)
    (omega arith)

pub reaches : (v : Axis) (ph mp m : ℕ) (s : Strip) → Beside v ph mp m → StripIs v ph mp m s → Reaches s
reaches v ph mp m s b is =
    let planes : 1 ≤ mp = omega (arith, b.plane) in
    record {
      near = reach v.lower ph mp m _ _ _ b.some b.plane b.lower_in is.near-is is.step_is is.last-is;
      far = reach v.upper ph mp m _ _ _ b.some b.plane b.upper_in is.far-is is.step_is is.last-is;
      last32 = omega (
        arith,
        is.last-is,
        b.lower_in,
        mul-le-mul_left ph planes,
        mul-le-mul_right {m = 1} {n = v.lower + 1} (ph * mp) (omega arith),
      );
    }

-- a ruler of the map ends at the strip's last column
pub ends-at : {full : ℕ} {origin spacing : Float} {ph : ℕ} {r : Ruler} {last : ℕ} → last ≡ ph - 1 → RulerIs full origin spacing ph r
    → r.last ≡ whole_in binary64 last
ends-at is r = r.last-is ∙ ap (whole_in binary64) (sym is)

-- the strip of an axis is that of each position which has that axis
pub strip-at : (v : Axis) (map : Map) (m n : ℕ) (s : Strip) → n ≡ max map.planes 1 → MapSized map m → OnMap v map.points_v
    → StripIs v map.points_h n m s → StripAt map m v s
strip-at v map m n s e z a is =
    record {
      lines = λ f on b h. line-is b v map.points_v map.points_h n m f s h on is
          ∙ ap (λ (i : ℕ). line_at b map.points_v map.points_h i m f h) e;
      last-is = is.last-is;
      reaches = reaches v map.points_h n m s (beside v map.points_v map.points_h map.planes m n e z a) is;
    }

-- ---- rules that agree on the walk's plane

pub walked-agree : {A : Type 0} (k : Walk) (g g' : ℕ → ℕ → A → A) (l : List A) → ((x : ℕ) (v : A) → g x k.plane v ≡ g' x k.plane v)
    → walked k g l ≡ walked k g' l
unfolding walked in_row
walked-agree {A} k g g' l same =
    each-agree _ _ l
    (λ i v h.
    let x : ℕ = k.x0 + i / k.planes in
    let p : ℕ = i % k.planes in
    below_or p k.plane (λ q. on_below _ _ _ _ _ g x p v q ∙ sym (on_below _ _ _ _ _ g' x p v q))
    (λ q.
    below_or k.plane p
    (λ r. on-above _ _ _ _ _ g x p v (omega arith) ∙ sym (on-above _ _ _ _ _ g' x p v (omega arith)))
    (λ r.
    on-plane _ _ _ _ _ g x p v q (omega arith)
    ∙ ap (λ (w : A). cond (selects k.left k.right k.pitch x) w v) (at x p v (omega arith))
    ∙ sym (on-plane _ _ _ _ _ g' x p v q (omega arith)))))
  where
    at : (x p : ℕ) (v : A) → p ≡ k.plane → g x p v ≡ g' x p v
    at x p v e = subst (λ (j : ℕ). g x j v ≡ g' x j v) (sym e) (same x v)

-- with the row's own place and the plane's own map plane, it is the rule of a gain map: at a sample, in a row, in a block of a row
module _ (fr : Frame) (b : List ℕ) (r : Region) (pv ph : ℕ) (g : Grid) (mp y m : ℕ) where
  abbrev rule : ℕ → ℕ → Float → Float
  rule = times_gain b g pv ph (max mp 1) m fr.full_width (position y fr.full_height g.origin_v g.spacing_v pv)

  pub gained-at : (x k : ℕ) (v : Float) → m ≡ min (k - r.plane) (max mp 1 - 1) → rule x k v ≡ gained fr b r pv ph g mp y x k v
  unfolding times_gain gained
  gained-at x k v e = rw e

  pub gained-row : (k : Walk) (l : List Float) → m ≡ min (k.plane - r.plane) (max mp 1 - 1)
      → walked k rule l ≡ walked k (gained fr b r pv ph g mp y) l
  gained-row k l e = walked-agree k _ _ l (λ x v. gained-at x k.plane v e)

  pub gained-block : (k : Walk) (a z : ℕ) (l : List Float) → m ≡ min (k.plane - r.plane) (max mp 1 - 1)
      → walked k (within a z rule) l ≡ walked k (within a z (gained fr b r pv ph g mp y)) l
  gained-block k a z l e = walked-agree k _ _ l (λ x v. within-agree a z _ _ x k.plane v (gained-at x k.plane v e))
