-- A rule run on one lent row of a window and put back is that rule on the row alone; row after row, it is the rule on the window.
-- Rows that the data does not reach are empty, and a row may end in the middle of a pixel. Over any sample kind A and any rule.
-- Assumes nothing.
use Prim.Native.Nat.{ℕ, ◌+◌, ◌-◌, ◌*◌, ◌/◌, ◌%◌, ◌≤◌, ◌<◌}
use mathlib.Core.Path.{◌≡◌, sym, ap, ap₂, ◌∙◌}
use mathlib.Core.Bool.{Bool, false, ◌&&◌, cond}
use mathlib.Core.List.{List, [], ◌∷◌, ◌++◌, append-nil}
use native.Mathlib.Nat.{div-add-mod', mul-le-mul_right, not-suc-le-zero}
use native.Mathlib.Omega.{arith}
use borrow.Author.Tests.{lt-ltb, le-ltb, le-leb, lt-leb, eq-eqb, ne_eqb}
use lib.Arith.{digits_lt, digits_div, digits_mod}
use lib.Dec.{leb, ltb, eqb}
use lib.ListN.{length, take, drop, length-take, length-drop, drop_of_length-le}
use lib.Seq.{take_all, take-nil, drop-nil}
use Rattle.pointwise.specs.Points.{each, between}
use Rattle.pointwise.proofs.Each.{below_or, length-each, each-agree, each_none, each-each}
use Rattle.pointwise.proofs.Parts.{between_in, between-low, between-high, each-between-past, part}
use Rattle.dng.specs.declared.Window.{Window}
use Rattle.dng.specs.Select.{Rule, plane_of, column_of, row_of, active, in_window, whole_pixel, on_window, on_row}
use Rattle.law_rows.specs.RowForm.{row_start, row_length, row_part, row_put}
use Rattle.law_rows.proofs.Place.{Laid, place_is, plane-below, column-below, row-outside, column-outside, on-window-in, on-window-out}

-- ---- a rule on some rows of the window

-- on row y of the window alone
unfoldable pub only_row : {A : Type 0} → Window → (n y : ℕ) → Rule A → ℕ → A → A
only_row w n y f j v = cond (eqb (row_of w j) y) (on_window w n f j v) v

-- on the rows of the window before y
unfoldable pub rows_before : {A : Type 0} → Window → (n y : ℕ) → Rule A → ℕ → A → A
rows_before w n y f j v = cond (ltb (row_of w j) y) (on_window w n f j v) v

-- two tests that hold together
same_test : (a b c d : ℕ) → (a ≤ b → c ≤ d) → (c ≤ d → a ≤ b) → leb a b ≡ leb c d
same_test a b c d to from =
    below_or b a (λ q. lt-leb a b q ∙ sym (lt-leb c d (below_or d c (λ r. r) (λ r. let z : a ≤ b = from r in omega arith))))
    (λ q. le-leb a b q ∙ sym (le-leb c d (to q)))

-- a row has what its window's width has, or what the data has left
pub row-length : {A : Type 0} (w : Window) (y : ℕ) (s : List A) → length (row_part w y s) ≡ row_length w (length s) y
row-length w y s =
    omega (arith, length-take (row_length w (length s) y) (drop (row_start w y) s), length-drop (row_start w y) s)

-- a pixel of row y is whole in the row where it is whole in the data
whole_same : (w : Window) → Laid w → (n y j : ℕ) → row_of w j ≡ y → column_of w j < w.width
    → leb ((column_of w j + 1) * w.planes) (row_length w n y) ≡ whole_pixel w.planes n j
unfolding whole_pixel
whole_same w l n y j here c =
    same_test ((column_of w j + 1) * w.planes) (row_length w n y) ((j / w.planes + 1) * w.planes) n
    (λ q. omega (arith, pixel))
    (λ q. omega (arith, pixel, inside))
  where
    pixel : (j / w.planes + 1) * w.planes ≡ row_start w y + (column_of w j + 1) * w.planes
    pixel =
        omega
        (arith, ap (λ (m : ℕ). m * w.planes) (div-add-mod' (j / w.planes) w.stride), ap (λ (m : ℕ). m * (w.stride * w.planes)) here)

    inside : (column_of w j + 1) * w.planes ≤ w.width * w.planes
    inside = mul-le-mul_right w.planes (omega arith)

module _ {A : Type 0} where
  pub only_here : (w : Window) (n y : ℕ) (f : Rule A) (j : ℕ) (v : A) → row_of w j ≡ y → only_row w n y f j v ≡ on_window w n f j v
  unfolding only_row
  only_here w n y f j v h = ap (λ (b : Bool). cond b (on_window w n f j v) v) (eq-eqb (row_of w j) y h)

  pub only-other : (w : Window) (n y : ℕ) (f : Rule A) (j : ℕ) (v : A) → (row_of w j ≡ y → ⊥) → only_row w n y f j v ≡ v
  unfolding only_row
  only-other w n y f j v h = ap (λ (b : Bool). cond b (on_window w n f j v) v) (ne_eqb (row_of w j) y h)

  pub rows_in : (w : Window) (n y : ℕ) (f : Rule A) (j : ℕ) (v : A) → row_of w j < y → rows_before w n y f j v ≡ on_window w n f j v
  unfolding rows_before
  rows_in w n y f j v h = ap (λ (b : Bool). cond b (on_window w n f j v) v) (lt-ltb (row_of w j) y h)

  pub rows_out : (w : Window) (n y : ℕ) (f : Rule A) (j : ℕ) (v : A) → y ≤ row_of w j → rows_before w n y f j v ≡ v
  unfolding rows_before
  rows_out w n y f j v h = ap (λ (b : Bool). cond b (on_window w n f j v) v) (le-ltb (row_of w j) y h)

  -- ---- one row

  -- a part run by itself and put back, also where it starts past the end
  pub part-within : (g : ℕ → A → A) (a k : ℕ) (l : List A) → k ≤ length l - a
      → take a l ++ (each g (take k (drop a l)) ++ drop k (drop a l)) ≡ each (between a (a + k) (λ i. g (i - a))) l
  unfolding each
  part-within g a k l h = below_or a (length l) (inside l h) past
    where
      inside : (l : List A) → k ≤ length l - a → a < length l
          → take a l ++ (each g (take k (drop a l)) ++ drop k (drop a l)) ≡ each (between a (a + k) (λ i. g (i - a))) l
      inside [] h q = absurd (not-suc-le-zero q)
      inside (x ∷ xs) h q = part x g a k (x ∷ xs) (omega arith)

      none : each g (take k []) ++ drop k [] ≡ []
      none = ap₂ (λ (t m : List A). each g t ++ m) (take-nil k) (drop-nil k)

      past : length l ≤ a → take a l ++ (each g (take k (drop a l)) ++ drop k (drop a l)) ≡ each (between a (a + k) (λ i. g (i - a))) l
      past q =
          ap₂ (λ (t m : List A). t ++ (each g (take k m) ++ drop k m)) (take_all a l q) (drop_of_length-le l q)
          ∙ ap (◌++◌ l) none ∙ append-nil l ∙ sym (each-between-past a (a + k) (λ i. g (i - a)) l q)

  -- sample c * p + k of a lent row, with k below p, is plane k of column c
  pub on-row-at : (x0 p y n : ℕ) (f : Rule A) (i c k : ℕ) (v : A) → i ≡ c * p + k → k < p
      → on_row x0 p y n f i v ≡ f (leb ((c + 1) * p) n) y (x0 + c) k v
  unfolding on_row whole_pixel
  on-row-at x0 p y n f i c k v e h =
      ap₂ (λ (x m : ℕ). f (leb ((x + 1) * p) n) y (x0 + x) m v)
      (ap (λ (m : ℕ). m / p) e ∙ digits_div c h) (ap (λ (m : ℕ). m % p) e ∙ digits_mod c h)

  -- at each place of the data, the rule at its place in row y is the rule on that row of the window
  row_at : (w : Window) → Laid w → (n y : ℕ) (f : Rule A) → y < w.height → (j : ℕ) (v : A) → j < n
      → between (row_start w y) (row_start w y + row_length w n y)
      (λ i. on_row w.x0 w.planes (w.y0 + y) (row_length w n y) f (i - row_start w y)) j v
      ≡ only_row w n y f j v
  row_at w l n y f high j v below =
      below_or (row_of w j) y
      (λ q.
      between-low a (a + k) g j v (omega (arith, at, in_row, mul-le-mul_right (w.stride * w.planes) q))
      ∙ sym (only-other w n y f j v (λ z. omega arith)))
      (λ q.
      below_or y (row_of w j)
      (λ r.
      between-high a (a + k) g j v (omega (arith, at, wide, mul-le-mul_right (w.stride * w.planes) r))
      ∙ sym (only-other w n y f j v (λ z. omega arith)))
      (λ r. here (omega arith)))
    where
      a : ℕ
      a = row_start w y

      k : ℕ
      k = row_length w n y

      c : ℕ
      c = column_of w j

      g : ℕ → A → A
      g i = on_row w.x0 w.planes (w.y0 + y) k f (i - a)

      at : j ≡ row_of w j * (w.stride * w.planes) + (c * w.planes + plane_of w j)
      at = place_is w j

      in_row : c * w.planes + plane_of w j < w.stride * w.planes
      in_row = digits_lt (column-below w l j) (plane-below w l j)

      wide : w.width * w.planes ≤ w.stride * w.planes
      wide = mul-le-mul_right w.planes l.strided

      -- row y itself: its columns below the width, and the gap
      here : row_of w j ≡ y → between a (a + k) g j v ≡ only_row w n y f j v
      here e =
          let in-row : j ≡ a + (c * w.planes + plane_of w j) = omega (arith, at, ap (λ (m : ℕ). m * (w.stride * w.planes)) e) in
          below_or c w.width
          (λ q.
          let inside : c * w.planes + plane_of w j < w.width * w.planes = digits_lt q (plane-below w l j) in
          between_in a (a + k) g j v (omega arith) (omega arith)
          ∙ on-row-at w.x0 w.planes (w.y0 + y) k f (j - a) c (plane_of w j) v (omega arith) (plane-below w l j)
          ∙ ap₂ (λ (b : Bool) (r : ℕ). f b (w.y0 + r) (w.x0 + c) (plane_of w j) v) (whole_same w l n y j e q) (sym e)
          ∙ sym (on-window-in w l n f j v (omega arith) q)
          ∙ sym (only_here w n y f j v e))
          (λ q.
          let outside : w.width * w.planes ≤ c * w.planes = mul-le-mul_right w.planes q in
          between-high a (a + k) g j v (omega arith)
          ∙ sym (only_here w n y f j v e ∙ on-window-out w n f j v (column-outside w j q)))

  -- One row lent from its own start and put back: the rule on that row of the window alone.
  pub row-run : (w : Window) → Laid w → (y : ℕ) → y < w.height → (f : Rule A) (s : List A)
      → row_put w y (each (on_row w.x0 w.planes (w.y0 + y) (length (row_part w y s)) f) (row_part w y s)) s
      ≡ each (only_row w (length s) y f) s
  row-run w l y high f s =
      ap (λ (m : ℕ). row_put w y (each (on_row w.x0 w.planes (w.y0 + y) m f) (row_part w y s)) s) (row-length w y s)
      ∙ part-within (on_row w.x0 w.planes (w.y0 + y) k f) (row_start w y) k s (omega arith)
      ∙ each-agree _ _ s (row_at w l (length s) y f high)
    where
      k : ℕ
      k = row_length w (length s) y

  -- The same as a lent part comes back, `put_mid a k s row` in a goal: k samples from a on, a and k known to be the row's start and length.
  pub row_put_lem : (w : Window) → Laid w → (y : ℕ) → y < w.height → (a k : ℕ) (f : Rule A) (s row : List A) → a ≡ row_start w y
      → k ≡ row_length w (length s) y
      → row ≡ each (on_row w.x0 w.planes (w.y0 + y) (length (take k (drop a s))) f) (take k (drop a s))
      → take a s ++ (row ++ drop k (drop a s)) ≡ each (only_row w (length s) y f) s
  row_put_lem w l y high a k f s row ea ek er =
      ap (λ (r : List A). take a s ++ (r ++ drop k (drop a s))) er
      ∙ ap₂
      (λ (a k : ℕ).
      take a s
      ++ (each (on_row w.x0 w.planes (w.y0 + y) (length (take k (drop a s))) f) (take k (drop a s)) ++ drop k (drop a s)))
      ea ek
      ∙ row-run w l y high f s

  -- ---- row after row

  pub rows-begin : (w : Window) (n : ℕ) (f : Rule A) (s : List A) → each (rows_before w n 0 f) s ≡ s
  rows-begin w n f s = each_none (rows_before w n 0 f) s (λ j v q. rows_out w n 0 f j v (omega arith))

  -- the rows before y, then row y: the rows before y + 1
  pub rows_more : (w : Window) (n y : ℕ) (f : Rule A) (s : List A)
      → each (only_row w n y f) (each (rows_before w n y f) s) ≡ each (rows_before w n (y + 1) f) s
  rows_more w n y f s = each-each (rows_before w n y f) (only_row w n y f) s ∙ each-agree _ _ s at
    where
      at : (j : ℕ) (v : A) → j < length s → only_row w n y f j (rows_before w n y f j v) ≡ rows_before w n (y + 1) f j v
      at j v q =
          below_or (row_of w j) y
          (λ r. only-other w n y f j _ (λ z. omega arith) ∙ rows_in w n y f j v r ∙ sym (rows_in w n (y + 1) f j v (omega arith)))
          (λ r.
          ap (only_row w n y f j) (rows_out w n y f j v r)
          ∙ below_or y (row_of w j)
          (λ t. only-other w n y f j v (λ z. omega arith) ∙ sym (rows_out w n (y + 1) f j v (omega arith)))
          (λ t. only_here w n y f j v (omega arith) ∙ sym (rows_in w n (y + 1) f j v (omega arith))))

  -- a turn of the loop over the rows: t has the rows before y done, row y is lent from its own start and put back
  pub rows_next : (w : Window) → Laid w → (y : ℕ) → y < w.height → (a k : ℕ) (f : Rule A) (s t row : List A)
      → t ≡ each (rows_before w (length s) y f) s → a ≡ row_start w y → k ≡ row_length w (length s) y
      → row ≡ each (on_row w.x0 w.planes (w.y0 + y) (length (take k (drop a t))) f) (take k (drop a t))
      → take a t ++ (row ++ drop k (drop a t)) ≡ each (rows_before w (length s) (y + 1) f) s
  rows_next w l y high a k f s t row done ea ek er =
      row_put_lem w l y high a k f t row ea (ek ∙ ap (λ (n : ℕ). row_length w n y) (sym same)) er
      ∙ ap (λ (n : ℕ). each (only_row w n y f) t) same
      ∙ ap (each (only_row w (length s) y f)) done
      ∙ rows_more w (length s) y f s
    where
      same : length t ≡ length s
      same = ap length done ∙ length-each (rows_before w (length s) y f) s

  -- past the last row all is done
  pub rows_end : (w : Window) (n y : ℕ) (f : Rule A) (s : List A) → w.height ≤ y → each (rows_before w n y f) s ≡ each (on_window w n f) s
  rows_end w n y f s h = each-agree _ _ s at
    where
      at : (j : ℕ) (v : A) → j < length s → rows_before w n y f j v ≡ on_window w n f j v
      at j v q =
          below_or (row_of w j) y (rows_in w n y f j v)
          (λ r. rows_out w n y f j v r ∙ sym (on-window-out w n f j v (row-outside w j (omega arith))))

  -- and so it is once the next row starts past the data
  pub rows-past : (w : Window) (n y : ℕ) (f : Rule A) (s : List A) → length s ≤ row_start w y
      → each (rows_before w n y f) s ≡ each (on_window w n f) s
  rows-past w n y f s h =
      each-agree _ _ s
      (λ j v q.
      below_or (row_of w j) y (rows_in w n y f j v)
      (λ r. absurd (omega (arith, place_is w j, mul-le-mul_right (w.stride * w.planes) r))))

  -- a window without columns, or whose rows overlap, is left as it is
  pub rows_none : (w : Window) (n : ℕ) (f : Rule A) (s : List A) → active w ≡ false → each (on_window w n f) s ≡ s
  unfolding in_window
  rows_none w n f s h =
      each_none (on_window w n f) s
      (λ j v q. on-window-out w n f j v (ap (λ (b : Bool). b && (ltb (row_of w j) w.height && ltb (column_of w j) w.width)) h))
