-- A rule run on one tile as its own window and put back is that rule on the tile's positions alone. Over any sample kind A and any rule.
-- Assumes nothing.
use Prim.Native.Nat.{ℕ, suc, ◌+◌, ◌-◌, ◌*◌, ◌/◌, ◌%◌, ◌≤◌, ◌<◌}
use mathlib.Core.Path.{◌≡◌, sym, ap, ap₂, ◌∙◌}
use mathlib.Core.Bool.{Bool, true, false, ◌&&◌, cond, and-false}
use mathlib.Core.List.{List}
use native.Mathlib.Nat.{mul-le-mul_right}
use native.Mathlib.Omega.{arith}
use borrow.Author.Tests.{lt-ltb, le-ltb, le-leb, lt-leb}
use lib.Arith.{digits_lt, digits_div, digits_mod}
use lib.Dec.{leb, ltb}
use lib.ListN.{length, drop, length-take, length-drop}
use Rattle.pointwise.specs.Points.{each, between}
use Rattle.pointwise.proofs.Each.{below_or, each-agree}
use Rattle.pointwise.proofs.Parts.{between_in, between-low, between-high}
use Rattle.dng.specs.declared.Window.{Window}
use Rattle.dng.specs.Select.{Rule, plane_of, column_of, row_of, in_window, whole_pixel, on_window}
use Rattle.law_rows.proofs.Place.{Laid, place_is, plane-below, column-below, row-outside, column-outside, on-window-in, on-window-out}
use Rattle.law_rows.proofs.Rows.{part-within}
use Rattle.law_rows.proofs.Tests.{only}
use Rattle.law_tiles.specs.Tiles.{Tile, tile_window, tile_start, tile_length, tile_part, tile_put, within, Lent}

-- a tile whose positions lie in the window, and which is lent up to its last sample
pub record Sits (w : Window) (t : Tile) : Type 0 where
  pub inside : (x y : ℕ) → within t x y ≡ true → x < w.width
  pub lower : (x y : ℕ) → within t x y ≡ true → y < w.height
  pub full : Lent (tile_window w t) t.lent

-- the tests of `within`
pub within_in : (t : Tile) (x y : ℕ) → t.x ≤ x → x < t.x + t.width → t.y ≤ y → y < t.y + t.height → within t x y ≡ true
unfolding within
within_in t x y a b c d =
    ap₂ ◌&&◌ (le-leb t.x x a) (ap₂ ◌&&◌ (lt-ltb x (t.x + t.width) b) (ap₂ ◌&&◌ (le-leb t.y y c) (lt-ltb y (t.y + t.height) d)))

pub within-left : (t : Tile) (x y : ℕ) → x < t.x → within t x y ≡ false
unfolding within
within-left t x y a = ap (λ (b : Bool). b && (ltb x (t.x + t.width) && (leb t.y y && ltb y (t.y + t.height)))) (lt-leb t.x x a)

pub within-right : (t : Tile) (x y : ℕ) → t.x + t.width ≤ x → within t x y ≡ false
unfolding within
within-right t x y a =
    ap (λ (b : Bool). leb t.x x && (b && (leb t.y y && ltb y (t.y + t.height)))) (le-ltb x (t.x + t.width) a) ∙ and-false (leb t.x x)

pub within-above : (t : Tile) (x y : ℕ) → y < t.y → within t x y ≡ false
unfolding within
within-above t x y a =
    ap (λ (b : Bool). leb t.x x && (ltb x (t.x + t.width) && (b && ltb y (t.y + t.height)))) (lt-leb t.y y a)
    ∙ ap (◌&&◌ (leb t.x x)) (and-false (ltb x (t.x + t.width))) ∙ and-false (leb t.x x)

pub within-below : (t : Tile) (x y : ℕ) → t.y + t.height ≤ y → within t x y ≡ false
unfolding within
within-below t x y a =
    ap (λ (b : Bool). leb t.x x && (ltb x (t.x + t.width) && (leb t.y y && b))) (le-ltb y (t.y + t.height) a)
    ∙ ap (λ (b : Bool). leb t.x x && (ltb x (t.x + t.width) && b)) (and-false (leb t.y y))
    ∙ ap (◌&&◌ (leb t.x x)) (and-false (ltb x (t.x + t.width))) ∙ and-false (leb t.x x)

-- the place of column c, plane k, of row r
pub place_at : (w : Window) (i r c k : ℕ) → c < w.stride → k < w.planes → i ≡ (r * w.stride + c) * w.planes + k
    → (row_of w i ≡ r) × ((column_of w i ≡ c) × (plane_of w i ≡ k))
place_at w i r c k hc hk e =
    let pixel : i / w.planes ≡ r * w.stride + c = ap (λ (m : ℕ). m / w.planes) e ∙ digits_div (r * w.stride + c) hk in (
      ap (λ (m : ℕ). m / w.stride) pixel ∙ digits_div r hc,
      (
        ap (λ (m : ℕ). m % w.stride) pixel ∙ digits_mod r hc,
        ap (λ (m : ℕ). m % w.planes) e ∙ digits_mod (r * w.stride + c) hk,
      ),
    )

-- a place of the frame, counted from the tile's first sample: u rows below its first row, c columns right of its first column
local_at : (j R C K ty tx u c S p : ℕ) → j ≡ R * (S * p) + (C * p + K) → R ≡ ty + u → C ≡ tx + c
    → j ≡ (ty * S + tx) * p + ((u * S + c) * p + K)
local_at j R C K ty tx u c S p at r q = omega (arith, at, ap (λ (m : ℕ). m * (S * p)) r, ap (λ (m : ℕ). m * p) q)

-- the same left of the tile: the end of the row above
left_at : (j R C K ty tx u S p : ℕ) → j ≡ R * (S * p) + (C * p + K) → R ≡ ty + suc u → tx ≤ S
    → j ≡ (ty * S + tx) * p + ((u * S + (S - tx + C)) * p + K)
left_at j R C K ty tx u S p at r h =
    let gap : S ≡ tx + (S - tx) = omega arith in
    omega (arith, at, ap (λ (m : ℕ). m * (S * p)) r, ap (λ (m : ℕ). m * p) gap)

-- a pixel all of whose samples are among the first n is whole
whole-at : (w : Window) (n i r c k : ℕ) → k < w.planes → i ≡ (r * w.stride + c) * w.planes + k → (r * w.stride + (c + 1)) * w.planes ≤ n
    → whole_pixel w.planes n i ≡ true
unfolding whole_pixel
whole-at w n i r c k hk e h =
    let pixel : i / w.planes ≡ r * w.stride + c = ap (λ (m : ℕ). m / w.planes) e ∙ digits_div (r * w.stride + c) hk in
    le-leb ((i / w.planes + 1) * w.planes) n (omega (arith, ap (λ (m : ℕ). (m + 1) * w.planes) pixel, h))

-- place j lies in the tile
abbrev pub in_tile : Window → Tile → ℕ → Bool
in_tile w t j = within t (column_of w j) (row_of w j)

module _ {A : Type 0} where
  -- on the tile's positions alone
  abbrev pub only_tile : Window → (n : ℕ) → Tile → Rule A → ℕ → A → A
  only_tile w n t f = only (in_tile w t) (on_window w n f)

  only-in : (w : Window) (n : ℕ) (t : Tile) (f : Rule A) (j : ℕ) (v : A) → in_tile w t j ≡ true
      → only_tile w n t f j v ≡ on_window w n f j v
  unfolding only
  only-in w n t f j v h = ap (λ (b : Bool). cond b (on_window w n f j v) v) h

  only_out : (w : Window) (n : ℕ) (t : Tile) (f : Rule A) (j : ℕ) (v : A) → in_tile w t j ≡ false → only_tile w n t f j v ≡ v
  unfolding only
  only_out w n t f j v h = ap (λ (b : Bool). cond b (on_window w n f j v) v) h

  -- at each place of the data, the rule at its place in the tile is the rule on the tile's positions
  pub tile-at : (w : Window) → Laid w → (t : Tile) → Sits w t → (n : ℕ) → Lent w n → (f : Rule A) (j : ℕ) (v : A) → j < n
      → between (tile_start w t) (tile_start w t + tile_length w n t) (λ i. on_window (tile_window w t) (tile_length w n t) f (i - tile_start w t)) j v
      ≡ only_tile w n t f j v
  tile-at w l t sits n full f j v below =
      below_or (row_of w j) t.y
      (λ q. before (omega (arith, at, in_row, mul-le-mul_right (w.stride * w.planes) q)) (within-above t C R q))
      (λ q.
      below_or C t.x
      (λ r. left q r)
      (λ r. here q r))
    where
      R : ℕ
      R = row_of w j

      C : ℕ
      C = column_of w j

      K : ℕ
      K = plane_of w j

      p : ℕ
      p = w.planes

      S : ℕ
      S = w.stride

      a : ℕ
      a = tile_start w t

      k : ℕ
      k = tile_length w n t

      tw : Window
      tw = tile_window w t

      g : ℕ → A → A
      g i = on_window tw k f (i - a)

      at : j ≡ R * (S * p) + (C * p + K)
      at = place_is w j

      in_row : C * p + K < S * p
      in_row = digits_lt (column-below w l j) (plane-below w l j)

      -- the tile's last column
      edge : (y : ℕ) → 0 < t.width → t.y ≤ y → y < t.y + t.height → t.x + t.width - 1 < w.width
      edge y some q r =
          sits.inside (t.x + t.width - 1) y (within_in t (t.x + t.width - 1) y (omega arith) (omega arith) q r)

      before : j < a → within t C R ≡ false → between a (a + k) g j v ≡ only_tile w n t f j v
      before low out = between-low a (a + k) g j v low ∙ sym (only_out w n t f j v out)

      -- whatever lies outside the tile's own window stays
      outside : within t C R ≡ false → in_window tw (j - a) ≡ false → between a (a + k) g j v ≡ only_tile w n t f j v
      outside out gone =
          below_or j a (λ q. before q out)
          (λ q.
          below_or j (a + k)
          (λ r. between_in a (a + k) g j v q r ∙ on-window-out tw k f (j - a) v gone ∙ sym (only_out w n t f j v out))
          (λ r. between-high a (a + k) g j v r ∙ sym (only_out w n t f j v out)))

      -- left of the tile: in the tile's own window that is the end of the row above
      left : t.y ≤ R → C < t.x → between a (a + k) g j v ≡ only_tile w n t f j v
      left q r =
          below_or t.y R
          (λ d.
          below_or 0 t.height
          (λ high.
          below_or 0 t.width
          (λ wide.
          let far : t.x + t.width - 1 < w.width = edge t.y wide (omega arith) (omega arith) in
          let strided : w.width ≤ w.stride = l.strided in
          let spot : j ≡ a + (((R - t.y - 1) * S + (S - t.x + C)) * p + K) =
          left_at j R C K t.y t.x (R - t.y - 1) S p at (omega arith) (omega arith)
          in
          let at_left = place_at w (j - a) (R - t.y - 1) (S - t.x + C) K (omega arith) (plane-below w l j) (omega arith) in
          outside (within-left t C R r) (column-outside tw (j - a) (omega (arith, at_left.1.0))))
          (λ none. outside (within-left t C R r) (column-outside tw (j - a) (omega arith))))
          (λ none. outside (within-left t C R r) (row-outside tw (j - a) (omega arith))))
          (λ d. before (omega (arith, at, ap (λ (m : ℕ). m * (S * p)) (same d), mul-le-mul_right p r, plane-below w l j)) (within-left t C R r))
        where
          same : R ≤ t.y → R ≡ t.y
          same d = omega arith

      here : t.y ≤ R → t.x ≤ C → between a (a + k) g j v ≡ only_tile w n t f j v
      here q r =
          below_or C (t.x + t.width)
          (λ c. below_or R (t.y + t.height) (λ d. inside c d) (λ d. outside (within-below t C R d) (row-outside tw (j - a) (omega (arith, place.0)))))
          (λ c. outside (within-right t C R c) (column-outside tw (j - a) (omega (arith, place.1.0))))
        where
          spot : j ≡ a + (((R - t.y) * S + (C - t.x)) * p + K)
          spot = local_at j R C K t.y t.x (R - t.y) (C - t.x) S p at (omega arith) (omega arith)

          place : (row_of w (j - a) ≡ R - t.y) × ((column_of w (j - a) ≡ C - t.x) × (plane_of w (j - a) ≡ K))
          place =
              place_at w (j - a) (R - t.y) (C - t.x) K (omega (arith, column-below w l j)) (plane-below w l j) (omega (arith, spot))

          inside : C < t.x + t.width → R < t.y + t.height → between a (a + k) g j v ≡ only_tile w n t f j v
          inside c d =
              let held : within t C R ≡ true = within_in t C R r c q d in
              let wide : C < w.width = sits.inside C R held in
              let high : R < w.height = sits.lower C R held in
              let far : t.x + t.width - 1 < w.width = edge R (omega arith) q d in
              let strided : w.width ≤ w.stride = l.strided in
              let laid : Laid tw = record { some = l.some; wide = omega arith; strided = omega arith } in
              let u : ℕ = R - t.y in
              let x : ℕ = C - t.x in
              let lent : (u * S + (x + 1)) * p ≤ t.lent = sits.full x u (omega arith) (omega arith) in
              let there : (R * S + (C + 1)) * p ≤ n = full C R wide high in
              let below-p : K < p = plane-below w l j in
              let pixel : a + (u * S + (x + 1)) * p ≤ n = omega (arith, at, spot, there) in
              let end : j < a + k = omega (arith, spot, lent, below, below-p) in
              let in-tile : whole_pixel p k (j - a) ≡ true = whole-at w k (j - a) u x K below-p (omega (arith, spot)) (omega (arith, lent, pixel)) in
              let in_frame : whole_pixel p n j ≡ true = whole-at w n j R C K below-p (omega (arith, at)) there in
              between_in a (a + k) g j v (omega (arith, spot)) end
              ∙ on-window-in tw laid k f (j - a) v (omega (arith, place.0)) (omega (arith, place.1.0))
              ∙ ap₂ (λ (b : Bool) (m : ℕ). f b (w.y0 + t.y + row_of w (j - a)) (w.x0 + t.x + column_of w (j - a)) m v) (in-tile ∙ sym in_frame) place.1.1
              ∙ ap₂ (λ (y x : ℕ). f (whole_pixel p n j) y x K v) (omega (arith, place.0)) (omega (arith, place.1.0))
              ∙ sym (on-window-in w l n f j v high wide)
              ∙ sym (only-in w n t f j v held)

  -- One tile lent from its own start and put back: the rule on that tile alone.
  pub tile-run : (w : Window) → Laid w → (t : Tile) → Sits w t → (f : Rule A) (s : List A) → Lent w (length s)
      → tile_put w t (each (on_window (tile_window w t) (length (tile_part w t s)) f) (tile_part w t s)) s ≡ each (only_tile w (length s) t f) s
  tile-run w l t sits f s full =
      ap (λ (m : ℕ). tile_put w t (each (on_window (tile_window w t) m f) (tile_part w t s)) s) long
      ∙ part-within (on_window (tile_window w t) k f) (tile_start w t) k s (omega arith)
      ∙ each-agree _ _ s (tile-at w l t sits (length s) full f)
    where
      k : ℕ
      k = tile_length w (length s) t

      long : length (tile_part w t s) ≡ k
      long = omega (arith, length-take k (drop (tile_start w t) s), length-drop (tile_start w t) s)
