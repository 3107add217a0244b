-- The marks of rows, of image positions cut to the window, of points and rectangles, and of all of a list; and what is held when all have come.
-- Assumes nothing.
use Prim.Native.Nat.{ℕ, zero, suc, ◌+◌, ◌-◌, ◌*◌, ◌/◌, ◌%◌, ◌≤◌, ◌<◌, min, max}
use mathlib.Core.Path.{◌≡◌, refl, sym, ap, ap₂, subst, ◌∙◌}
use mathlib.Core.Bool.{Bool, true, false, ◌&&◌, ◌||◌, or_comm, and_comm, and_assoc}
use mathlib.Core.List.{List}
use native.Mathlib.Nat.{le_trans, div-add-mod', mod-lt, le-div_iff_mul-le, div-lt_iff_lt-mul, mul_comm, mul-le-mul_right, suc-mul}
use native.Mathlib.Numerals.{add-one}
use native.Mathlib.Omega.{arith}
use borrow.Author.Tests.{eq-eqb, eqb-true}
use lib.Arith.{digits_div, digits_mod}
use lib.Dec.{leb, ltb, eqb}
use lib.ListN.{length, take}
use lib.Seq.{length-take-le}
use Rattle.dng.specs.declared.Window.{Window}
use Rattle.dng.specs.List.{u32_at}
use Rattle.dng.specs.Repair.{count_below, any_below, positions, point_at, rect_at, listed}
use Rattle.std.specs.Prelude.{Option, Some, None}
use Rattle.fix_scratch.specs.declared.Held.{Held}
use Rattle.fix_scratch.specs.Marks.{chosen, Holds, Fits}
use Rattle.num_sorted.specs.Sorts.{occ, has, Rises}
use Rattle.fix_scratch.specs.Scratch.{Front, Packed, Gains, Joined, span}
use Rattle.fix_listed.specs.Listed.{block, Inside, Within, Cutting, row_at, column_at, in_image, at_point, in_rect, listed_in}
use Rattle.num_sorted.proofs.Occ.{equal-or}
use Rattle.fix_scratch.proofs.Chosen.{both, count-le, count_same, chosen-count, is-chosen-has}
use Rattle.fix_scratch.proofs.Sizes.{area}
use Rattle.fix_scratch.proofs.Joining.{iff-eq, or_cases, or_left, or_right, and_both, and-of, span_of, span-is, gains-held, joined-next}

-- ---- rows

pub block_of : (width r0 c0 r1 c1 q : ℕ) → (r0 ≤ q / width) → (q / width < r1) → (c0 ≤ q % width) → (q % width < c1)
    → block width r0 c0 r1 c1 q ≡ true
unfolding block
block_of width r0 c0 r1 c1 q a b d e = and-of _ _ (span_of r0 r1 (q / width) a b) (span_of c0 c1 (q % width) d e)

pub block-is : (width r0 c0 r1 c1 q : ℕ) → block width r0 c0 r1 c1 q ≡ true
    → (r0 ≤ q / width) × (q / width < r1) × (c0 ≤ q % width) × (q % width < c1)
unfolding block
block-is width r0 c0 r1 c1 q e =
    let w = and_both (span r0 r1 (q / width)) (span c0 c1 (q % width)) e in
    let y = span-is r0 r1 (q / width) w.0 in
    let x = span-is c0 c1 (q % width) w.1 in
    (y.0, y.1, x.0, x.1)

-- a position of row y, by its place in the row
in-row : (width y q : ℕ) → y * width ≤ q → q < y * width + width → (q / width ≡ y) × (q % width ≡ q - y * width)
in-row width y q h k =
    let r : ℕ = q - y * width in
    let e : y * width + r ≡ q = omega arith in
    let l : r < width = omega arith in
    (subst (λ (x : ℕ). x / width ≡ y) e (digits_div y l), subst (λ (x : ℕ). x % width ≡ r) e (digits_mod y l))

pub block_none : (width r0 c0 c1 q : ℕ) → block width r0 c0 r0 c1 q ≡ true → ⊥
block_none width r0 c0 c1 q e = let w = block-is width r0 c0 r0 c1 q e in omega (arith, w.0, w.1)

-- one more row
pub block_more : (width r0 c0 c1 y q : ℕ) → r0 ≤ y → c1 ≤ width
    → block width r0 c0 (y + 1) c1 q ≡ (block width r0 c0 y c1 q || span (y * width + c0) (y * width + c1) q)
block_more width r0 c0 c1 y q h k =
    iff-eq _ _
    (λ e.
    let w = block-is width r0 c0 (y + 1) c1 q e in
    equal-or (q / width) y
    (λ d. or_right (block width r0 c0 y c1 q) _
    (let z : y * width + q % width ≡ q = subst (λ (x : ℕ). x * width + q % width ≡ q) d (div-add-mod' q width) in
    span_of (y * width + c0) (y * width + c1) q (omega (arith, w.2)) (omega (arith, w.3))))
    (λ d. or_left _ (span (y * width + c0) (y * width + c1) q) (block_of width r0 c0 y c1 q w.0 (omega (arith, w.1)) w.2 w.3)))
    (λ e. or_cases (block width r0 c0 y c1 q) (span (y * width + c0) (y * width + c1) q) e
    (λ d. let w = block-is width r0 c0 y c1 q d in block_of width r0 c0 (y + 1) c1 q w.0 (omega (arith, w.1)) w.2 w.3)
    (λ d.
    let w = span-is (y * width + c0) (y * width + c1) q d in
    let i = in-row width y q (omega (arith, w.0)) (omega (arith, w.1)) in
    block_of width r0 c0 (y + 1) c1 q (omega (arith, i.0)) (omega (arith, i.0)) (omega (arith, i.1, w.0)) (omega (arith, i.1, w.1))))

pub block-low : (width r0 c0 r1 c1 y q : ℕ) → y ≤ r1 → block width r0 c0 y c1 q ≡ true → block width r0 c0 r1 c1 q ≡ true
block-low width r0 c0 r1 c1 y q h e = let w = block-is width r0 c0 y c1 q e in block_of width r0 c0 r1 c1 q w.0 (omega (arith, w.1))
    w.2 w.3

pub block_row : (width r0 c0 r1 c1 y q : ℕ) → r0 ≤ y → y < r1 → c1 ≤ width → span (y * width + c0) (y * width + c1) q ≡ true
    → block width r0 c0 r1 c1 q ≡ true
block_row width r0 c0 r1 c1 y q h l k e =
    block-low width r0 c0 r1 c1 (y + 1) q (omega arith) (block_more width r0 c0 c1 y q h k ∙ or_right (block width r0 c0 y c1 q) _ e)

pub block-whole : (width r0 c0 r1 c1 y q : ℕ) → r1 ≤ y → y ≤ max r0 r1 → block width r0 c0 y c1 q ≡ block width r0 c0 r1 c1 q
block-whole width r0 c0 r1 c1 y q h k =
    iff-eq _ _
    (λ e. let w = block-is width r0 c0 y c1 q e in block_of width r0 c0 r1 c1 q w.0 (omega (arith, w.0, w.1)) w.2 w.3)
    (λ e. let w = block-is width r0 c0 r1 c1 q e in block_of width r0 c0 y c1 q w.0 (omega (arith, w.1)) w.2 w.3)

-- a row's end lies below top
pub row_in : (width y r1 top c : ℕ) → y < r1 → r1 * width ≤ top → c ≤ width → y * width + c ≤ top
row_in width y r1 top c h k l = omega (arith, suc-mul y width, mul-le-mul_right {m = suc y} {n = r1} width h)

-- whole rows are one span
pub block-rows : (width r0 r1 q : ℕ) → 1 ≤ width → span (r0 * width) (r1 * width) q ≡ block width r0 0 r1 width q
block-rows width r0 r1 q h =
    let lo = le-div_iff_mul-le {k = width} {x = r0} {y = q} h in
    let hi = div-lt_iff_lt-mul {k = width} {x = q} {y = r1} h in
    iff-eq _ _
    (λ e. let w = span-is (r0 * width) (r1 * width) q e in block_of width r0 0 r1 width q (lo.1 w.0) (hi.1 w.1) (omega arith)
    (mod-lt q h))
    (λ e. let w = block-is width r0 0 r1 width q e in span_of (r0 * width) (r1 * width) q (lo.0 w.0) (hi.0 w.1))

pub patch-rows : (width r0 c0 r1 c1 top q : ℕ) → Inside width c0 r1 c1 top → c1 - c0 ≡ width
    → span (r0 * width) (r1 * width) q ≡ block width r0 c0 r1 c1 q
patch-rows width r0 c0 r1 c1 top q i e =
    let z : c0 ≡ 0 = omega (arith, i.wide, i.order, i.columns) in
    let w : c1 ≡ width = omega (arith, i.wide, i.order, i.columns) in
    rw (z, w) (block-rows width r0 r1 q i.wide)

pub patch-start : (width r0 c0 r1 c1 top : ℕ) → Inside width c0 r1 c1 top → r0 ≤ r1 → r0 * width ≤ top
patch-start width r0 c0 r1 c1 top i h = le_trans (mul-le-mul_right width h) i.rows

-- ---- image positions, cut to the window

cut-span : (a b o n y : ℕ) → y < n → span a b (o + y) ≡ span (a - o) (min (b - o) n) y
cut-span a b o n y h =
    iff-eq _ _ (λ e. let w = span-is a b (o + y) e in span_of (a - o) (min (b - o) n) y (omega (arith, w.0)) (omega (arith, w.1)))
    (λ e. let w = span-is (a - o) (min (b - o) n) y e in span_of a b (o + y) (omega (arith, w.0)) (omega (arith, w.1)))

pub cut-rows : (w : Window) (r0 c0 r1 c1 q : ℕ) → 1 ≤ w.width → q < positions w
    → block w.width (r0 - w.y0) (c0 - w.x0) (min (r1 - w.y0) w.height) (min (c1 - w.x0) w.width) q ≡ in_image false w r0 c0 r1 c1 q
unfolding block in_image
cut-rows w r0 c0 r1 c1 q h l =
    let y : q / w.width < w.height = (div-lt_iff_lt-mul {k = w.width} {x = q} {y = w.height} h).1
    (rw (mul_comm w.height w.width) l) in
    let x : q % w.width < w.width = mod-lt q h in
    sym (ap₂ ◌&&◌ (cut-span r0 r1 w.y0 w.height (q / w.width) y) (cut-span c0 c1 w.x0 w.width (q % w.width) x))

-- by columns, a column is what a row is
pub cut-columns : (w : Window) (r0 c0 r1 c1 q : ℕ) → 1 ≤ w.height → q < positions w
    → block w.height (c0 - w.x0) (r0 - w.y0) (min (c1 - w.x0) w.width) (min (r1 - w.y0) w.height) q ≡ in_image true w r0 c0 r1 c1 q
unfolding block in_image
cut-columns w r0 c0 r1 c1 q h l =
    let x : q / w.height < w.width = (div-lt_iff_lt-mul {k = w.height} {x = q} {y = w.width} h).1 l in
    let y : q % w.height < w.height = mod-lt q h in
    and_comm (span (c0 - w.x0) (min (c1 - w.x0) w.width) (q / w.height)) (span (r0 - w.y0) (min (r1 - w.y0) w.height) (q % w.height))
    ∙ sym (ap₂ ◌&&◌ (cut-span r0 r1 w.y0 w.height (q % w.height) y) (cut-span c0 c1 w.x0 w.width (q / w.height) x))

module _ (w : Window) (r0 c0 r1 c1 y0 x0 y1 x1 : ℕ) (f : Fits w) (v : Cutting w r0 c0 r1 c1 y0 x0 y1 x1) where
  pub row-marks : (q : ℕ) → q < positions w → block w.width y0 x0 y1 x1 q ≡ in_image false w r0 c0 r1 c1 q
  row-marks q l = rw (v.top, v.left, v.bottom, v.right) (cut-rows w r0 c0 r1 c1 q f.wide l)

  pub column-marks : (q : ℕ) → q < positions w → block w.height x0 y0 x1 y1 q ≡ in_image true w r0 c0 r1 c1 q
  column-marks q l = rw (v.top, v.left, v.bottom, v.right) (cut-columns w r0 c0 r1 c1 q f.tall l)

  -- a marked position lies in rows and columns that are left
  left_over : (across : Bool) (q : ℕ) → q < positions w → in_image across w r0 c0 r1 c1 q ≡ true → (y0 < y1) × (x0 < x1)
  left_over true q l e = let b = block-is w.height x0 y0 x1 y1 q (column-marks q l ∙ e) in (omega (arith, b.2, b.3), omega (arith, b.0, b.1))
  left_over false q l e = let b = block-is w.width y0 x0 y1 x1 q (row-marks q l ∙ e) in (omega (arith, b.0, b.1), omega (arith, b.2, b.3))

  pub cut-none : (across : Bool) → (y0 < y1 → x0 < x1 → ⊥) → (s : List ℕ) (n t : ℕ) → Front (positions w) s n t
      → Gains (positions w) (in_image across w r0 c0 r1 c1) s t s n t
  cut-none across h s n t g =
      gains-held (positions w) (in_image across w r0 c0 r1 c1) s n t g
      (λ q l e. let b = left_over across q l e in absurd (h b.0 b.1))

  pub rows_inside : x0 < x1 → Inside w.width x0 y1 x1 (w.width * w.height)
  rows_inside h =
      record {
        wide = f.wide;
        order = omega arith;
        columns = omega (arith, v.right);
        rows = rw (mul_comm w.width w.height) (mul-le-mul_right w.width (omega (arith, v.bottom)));
        small = area w f;
      }

  pub columns-inside : y0 < y1 → Inside w.height y0 x1 y1 (w.width * w.height)
  columns-inside h =
      record {
        wide = f.tall;
        order = omega arith;
        columns = omega (arith, v.bottom);
        rows = mul-le-mul_right w.height (omega (arith, v.right));
        small = area w f;
      }

-- which way positions are counted, as a test told
pub lies_so : (across b : Bool) (w : Window) (r0 c0 r1 c1 : ℕ) (s : List ℕ) (t : ℕ) (s' : List ℕ) (r : Option Held) → across ≡ b
    → Joined (positions w) (in_image b w r0 c0 r1 c1) s t s' r → Joined (positions w) (in_image across w r0 c0 r1 c1) s t s' r
lies_so across b w r0 c0 r1 c1 s t s' r e j =
    subst (λ (x : Bool). Joined (positions w) (in_image x w r0 c0 r1 c1) s t s' r) (sym e) j

-- ---- points and rectangles

-- a position's row and column are the window's
at-window : (across : Bool) (w : Window) (q : ℕ) → Fits w → q < positions w → (row_at across w q < w.height) × (column_at across w q < w.width)
at-window true w q f l = (mod-lt q f.tall, (div-lt_iff_lt-mul {k = w.height} {x = q} {y = w.width} f.tall).1 l)
at-window false w q f l =
    ((div-lt_iff_lt-mul {k = w.width} {x = q} {y = w.height} f.wide).1 (rw (mul_comm w.height w.width) l), mod-lt q f.wide)

-- and tell it
same_place : (across : Bool) (w : Window) (q p : ℕ) → row_at across w q ≡ row_at across w p → column_at across w q ≡ column_at across w p → q ≡ p
same_place true w q p e d =
    omega (arith, div-add-mod' q w.height, div-add-mod' p w.height, ap (λ (x : ℕ). x * w.height) d, e)
same_place false w q p e d =
    omega (arith, div-add-mod' q w.width, div-add-mod' p w.width, ap (λ (y : ℕ). y * w.width) e, d)

-- the position of a row and a column
abbrev pub Lies : Bool → Window → (y x q : ℕ) → Type 0
Lies across w y x q = (q < positions w) × (row_at across w q ≡ y) × (column_at across w q ≡ x)

pub by-column : (across : Bool) (w : Window) (y x : ℕ) → across ≡ true → y < w.height → x < w.width → Lies across w y x (x * w.height + y)
by-column across w y x e a b =
    subst (λ (t : Bool). Lies t w y x (x * w.height + y)) (sym e)
    (omega (arith, suc-mul x w.height, mul-le-mul_right {m = suc x} {n = w.width} w.height b), digits_mod x a, digits_div x a)

pub by_row : (across : Bool) (w : Window) (y x : ℕ) → across ≡ false → y < w.height → x < w.width → Lies across w y x (y * w.width + x)
by_row across w y x e a b =
    subst (λ (t : Bool). Lies t w y x (y * w.width + x)) (sym e) (
      omega (arith, suc-mul y w.width, mul-le-mul_right {m = suc y} {n = w.height} w.width a, mul_comm w.width w.height),
      digits_div y b,
      digits_mod y b,
    )

module _ (across : Bool) (w : Window) (b : List ℕ) (i r c : ℕ) (f : Fits w) (row : r ≡ u32_at b (12 + 8 * i)) (column : c ≡ u32_at b (16 + 8 * i)) where
  -- a point that is named lies there
  named : (q : ℕ) → at_point across w b i q ≡ true → (r ≡ w.y0 + row_at across w q) × (c ≡ w.x0 + column_at across w q)
  unfolding point_at
  named q e =
      let t = and_both (eqb (u32_at b (12 + 8 * i)) (w.y0 + row_at across w q)) (eqb (u32_at b (16 + 8 * i)) (w.x0 + column_at across w q)) e in
      (row ∙ eqb-true _ _ t.0, column ∙ eqb-true _ _ t.1)

  -- inside the window it is one position
  pub point-marks : (p : ℕ) → Within w r c → Lies across w (r - w.y0) (c - w.x0) p → (q : ℕ) → eqb q p ≡ at_point across w b i q
  unfolding point_at
  point-marks p v l q =
      iff-eq _ _
      (λ e.
      let z : q ≡ p = eqb-true q p e in
      let y : row_at across w q ≡ r - w.y0 = ap (row_at across w) z ∙ l.1 in
      let x : column_at across w q ≡ c - w.x0 = ap (column_at across w) z ∙ l.2 in
      let a : u32_at b (12 + 8 * i) ≡ w.y0 + row_at across w q = omega (arith, row, y, v.top) in
      let d : u32_at b (16 + 8 * i) ≡ w.x0 + column_at across w q = omega (arith, column, x, v.left) in
      and-of _ _ (eq-eqb _ _ a) (eq-eqb _ _ d))
      (λ e.
      let t = named q e in
      eq-eqb q p
      (same_place across w q p (omega (arith, t.0, l.1)) (omega (arith, t.1, l.2))))

  -- and outside it none
  pub point-outside : (Within w r c → ⊥) → (s : List ℕ) (n t : ℕ) → Front (positions w) s n t → Gains (positions w) (at_point across w b i) s t s n t
  point-outside h s n t g =
      gains-held (positions w) (at_point across w b i) s n t g
      (λ q l e.
      let t = named q e in
      let m = at-window across w q f l in
      absurd (h (record { top = omega (arith, t.0); left = omega (arith, t.1); bottom = omega (arith, t.0, m.0); right = omega (arith, t.1, m.1) })))

pub rect-marks : (across : Bool) (w : Window) (b : List ℕ) (np i r0 c0 r1 c1 : ℕ) → r0 ≡ u32_at b (12 + 8 * np + 16 * i)
    → c0 ≡ u32_at b (12 + 8 * np + 16 * i + 4)
    → r1 ≡ u32_at b (12 + 8 * np + 16 * i + 8) → c1 ≡ u32_at b (12 + 8 * np + 16 * i + 12) → (q : ℕ)
    → in_image across w r0 c0 r1 c1 q ≡ in_rect across w b np i q
unfolding in_image rect_at span
rect-marks across w b np i r0 c0 r1 c1 e₀ d₀ e₁ d₁ q =
    let y : ℕ = w.y0 + row_at across w q in
    let x : ℕ = w.x0 + column_at across w q in
    and_assoc (leb r0 y) (ltb y r1) (leb c0 x && ltb x c1) ∙ rw (e₀, d₀, e₁, d₁) refl

-- ---- one more of them

pub any_none : (f : ℕ → Bool) → any_below 0 f ≡ true → ⊥
unfolding any_below
any_none f e = both {b = false} e refl

pub any-more : (i : ℕ) (f : ℕ → Bool) → any_below (i + 1) f ≡ (any_below i f || f i)
unfolding any_below
any-more i f = rw add-one (or_comm (f i) (any_below i f))

pub any-low : (i n : ℕ) (f : ℕ → Bool) → i ≤ n → any_below i f ≡ true → any_below n f ≡ true
unfolding any_below
any-low i zero f h e = let z : i ≡ 0 = omega arith in subst (λ (k : ℕ). any_below k f ≡ true) z e
any-low i (suc n) f h e =
    equal-or i (suc n) (λ d. subst (λ (k : ℕ). any_below k f ≡ true) d e)
    (λ d. or_right (f n) (any_below n f) (any-low i n f (omega arith) e))

pub any_at : (i n : ℕ) (f : ℕ → Bool) → i < n → f i ≡ true → any_below n f ≡ true
any_at i n f h e = any-low (i + 1) n f (omega arith) (any-more i f ∙ or_right (any_below i f) (f i) e)

-- ---- the end

no-has : (s : List ℕ) (q : ℕ) → has (take 0 s) q ≡ false
unfolding has occ
no-has s q = refl

-- nothing is held at the start
pub front-none : (top : ℕ) (s : List ℕ) → Front top s 0 0
unfolding Rises
front-none top s = record { order = omega arith; fits = omega arith; rises = tt; below = λ q e. both e (no-has s q) }

pub listed-over : (top : ℕ) (m : ℕ → Bool) (s : List ℕ) → length s < count_below top (λ q. has (take 0 s) q || m q)
    → length s < count_below top m
listed-over top m s h =
    let e : count_below top (λ q. has (take 0 s) q || m q) ≡ count_below top m =
    count_same top (λ q. has (take 0 s) q || m q) m (λ q l. ap (λ (b : Bool). b || m q) (no-has s q)) in
    omega arith

pub listed-all : (top : ℕ) (m : ℕ → Bool) (s s₁ : List ℕ) (n t : ℕ) (s₂ : List ℕ) (k : ℕ) → Gains top m s 0 s₁ n t → Packed top s₁ t s₂ k
    → length s₁ ≡ length s → length s₂ ≡ length s₁ → Holds top m s s₂ k
listed-all top m s s₁ n t s₂ k g v e d =
    record {
      all = sym (length-take-le k s₂ v.front.fits) ∙ ap length front ∙ chosen-count m top;
      fits = omega (arith, v.front.fits);
      front = front;
    }
  where
    front : take k s₂ ≡ chosen m 0 top
    front =
        is-chosen-has m top (take k s₂) v.front.rises v.front.below
        (λ q l. v.same q ∙ g.same q l ∙ ap (λ (b : Bool). b || m q) (no-has s q))

-- points first, rectangles behind them
pub listed-both : (across : Bool) (w : Window) (b : List ℕ) (np nr : ℕ) (q : ℕ)
    → listed_in across w b np nr q ≡ (any_below np (λ i. at_point across w b i q) || any_below nr (λ i. in_rect across w b np i q))
unfolding listed
listed-both across w b np nr q = refl

module _ (across : Bool) (w : Window) (b : List ℕ) (np nr : ℕ) (s : List ℕ) where
  -- the points alone are too many
  pub points-over : length s < count_below (positions w) (λ q. has (take 0 s) q || any_below np (λ i. at_point across w b i q))
      → length s < count_below (positions w) (listed_in across w b np nr)
  points-over over =
      let h : length s < count_below (positions w) (λ q. any_below np (λ i. at_point across w b i q)) =
      listed-over (positions w) (λ q. any_below np (λ i. at_point across w b i q)) s over in
      let k : count_below (positions w) (λ q. any_below np (λ i. at_point across w b i q)) ≤ count_below (positions w) (listed_in across w b np nr) =
      count-le (positions w) (λ q. any_below np (λ i. at_point across w b i q)) (listed_in across w b np nr)
      (λ q l d. listed-both across w b np nr q ∙ or_left _ (any_below nr (λ i. in_rect across w b np i q)) d) in
      omega arith

  module _ (s₁ : List ℕ) (h : Held) (g : Gains (positions w) (λ q. any_below np (λ i. at_point across w b i q)) s 0 s₁ h.n h.t)
      (long : length s₁ ≡ length s) where
    both-joined : (s₂ : List ℕ) (r : Option Held) → Joined (positions w) (λ q. any_below nr (λ i. in_rect across w b np i q)) s₁ h.t s₂ r
        → Joined (positions w) (listed_in across w b np nr) s 0 s₂ r
    both-joined s₂ r =
        joined-next (positions w) (λ q. any_below np (λ i. at_point across w b i q)) (λ q. any_below nr (λ i. in_rect across w b np i q))
        (listed_in across w b np nr) s 0 s₁ h.n h.t s₂ r g long (λ q l. listed-both across w b np nr q)

    -- with the rectangles they are too many
    pub rects-over : length s₁ < count_below (positions w) (λ q. has (take h.t s₁) q || any_below nr (λ i. in_rect across w b np i q))
        → length s < count_below (positions w) (listed_in across w b np nr)
    rects-over over = listed-over (positions w) (listed_in across w b np nr) s (both-joined s₁ None over)

    pub list_done : (s₂ : List ℕ) (k : Held) → Gains (positions w) (λ q. any_below nr (λ i. in_rect across w b np i q)) s₁ h.t s₂ k.n k.t
        → length s₂ ≡ length s₁ → (s₃ : List ℕ) (m : ℕ) → Packed (positions w) s₂ k.t s₃ m → length s₃ ≡ length s₂
        → Holds (positions w) (listed_in across w b np nr) s s₃ m
    list_done s₂ k v d s₃ m p l =
        listed-all (positions w) (listed_in across w b np nr) s s₂ k.n k.t s₃ m (both-joined s₂ (Some k) v) p (d ∙ long) l
