-- A row as the only row of a window: the numbers that a window is asked for, and what a rule over it does to the row. Over any sample kind A and
-- any rule. Assumes nothing.
use Prim.Native.Nat.{ℕ, ◌+◌, ◌-◌, ◌*◌, ◌/◌, ◌%◌, ◌≤◌, ◌<◌, max}
use mathlib.Core.Path.{◌≡◌, ap, ap₂, subst, sym, ◌∙◌}
use mathlib.Core.Bool.{true}
use mathlib.Core.List.{List}
use native.Mathlib.Nat.{le_trans, add-mul, one-mul, zero-mul, mul-le-mul_right, div-add-mod', mod-lt, div-lt_iff_lt-mul, div-eq_of_lt, mod-eq_of_lt}
use native.Mathlib.Omega.{arith}
use lib.ListN.{length}
use Rattle.pointwise.specs.Points.{each}
use Rattle.pointwise.specs.Select.{selects}
use Rattle.pointwise.proofs.Each.{below_or, each-agree}
use Rattle.pointwise.proofs.Select.{selects-only, selects_at}
use Rattle.dng.specs.declared.Region.{Region}
use Rattle.dng.specs.declared.Window.{Window}
use Rattle.dng.specs.Select.{Rule, plane_of, column_of, row_of, whole_pixel, on_window, on_region, on_row}
use Rattle.dng.specs.Bounds.{RowFits}
use Rattle.row_opcode.specs.declared.Place.{Place}
use Rattle.law_rows.proofs.Place.{Laid, on-window-in}
use Rattle.win_rows.specs.Windows.{WindowFits, Ordered}
use Rattle.run_row.specs.Rows.{Spans, Begun, every_row, window_of}

-- ---- the numbers

module _ {g : Place} {width n : ℕ} {w : Window} (is : w ≡ window_of g width) where
  pub single-fits : RowFits g.x0 g.planes g.y n → Spans g width n → WindowFits w
  single-fits f s =
      subst WindowFits (sym is)
      (record {
        widest = s.most;
        highest = omega arith;
        farthest = s.most;
        some = f.some;
        most = f.few;
        left = f.column;
        lowest = omega (arith, f.row);
        full_wide = s.wide;
        full_high = s.high;
      })

  pub single-ordered : Spans g width n → Ordered w
  single-ordered s = subst Ordered (sym is) (record { wide = s.some; strided = omega arith })

-- a row that is not cut short begins them all; of another, the last one may be cut
pub begun-whole : {n p width : ℕ} → 1 ≤ p → 1 ≤ width → n ≤ width * p → width * p ≤ n → Begun n p width
begun-whole {n} {p} {width} some wide h k =
    record {
      some = wide;
      holds = h;
      last =
          let q = add-mul (width - 1) 1 p in
          let e : width * p ≡ (width - 1 + 1) * p = ap (λ (t : ℕ). t * p) (omega arith) in
          omega (arith, q, e, one-mul p);
    }

pub begun-cut : {n p : ℕ} → 1 ≤ p → Begun n p (max ((n + p - 1) / p) 1)
begun-cut {n} {p} some =
    below_or q 1 (λ a. subst (Begun n p) (omega arith) (one a)) (λ a. subst (Begun n p) (omega arith) (several a))
  where
    q : ℕ
    q = (n + p - 1) / p

    whole : q * p + (n + p - 1) % p ≡ n + p - 1
    whole = div-add-mod' (n + p - 1) p

    rest : (n + p - 1) % p < p
    rest = mod-lt (n + p - 1) some

    one : q < 1 → Begun n p 1
    one a =
        let z : q * p ≤ 0 * p = mul-le-mul_right p (omega arith) in
        record { some = omega arith; holds = omega (arith, whole, rest, zero-mul p, one-mul p); last = omega (arith, zero-mul p) }

    several : 1 ≤ q → Begun n p q
    several a =
        let k = add-mul (q - 1) 1 p in
        let e : q * p ≡ (q - 1 + 1) * p = ap (λ (t : ℕ). t * p) (omega arith) in
        record { some = a; holds = omega (arith, whole, rest); last = omega (arith, whole, rest, k, e, one-mul p) }

-- so many columns are no more than the row may have
pub begun-spans : {g : Place} {width n c : ℕ} → 1 ≤ g.planes → Spans g width n → Begun n g.planes c → Spans g c n
begun-spans {g} {width} {n} {c} some s b =
    record { some = b.some; most = le_trans near s.most; holds = b.holds; wide = s.wide; high = s.high }
  where
    near : c ≤ width
    near =
        below_or width c
        (λ h.
        let m : width * g.planes ≤ (c - 1) * g.planes = mul-le-mul_right g.planes (omega arith) in
        let o : 1 * g.planes ≤ width * g.planes = mul-le-mul_right g.planes s.some in
        absurd (omega (arith, b.last, s.holds, one-mul g.planes)))
        (λ h. h)

-- ---- the rule

-- the samples of a window's first row, in data that has no other
module _ {A : Type 0} (w : Window) (l : Laid w) (high : 1 ≤ w.height) where
  first-row : (n : ℕ) (f : Rule A) (j : ℕ) (v : A) → n ≤ w.width * w.planes → j < n
      → on_window w n f j v ≡ on_row w.x0 w.planes w.y0 n f j v
  unfolding on_row
  first-row n f j v short below =
      on-window-in w l n f j v (omega (arith, row)) (omega (arith, column, pixel))
      ∙ ap₂ (λ (y x : ℕ). f (whole_pixel w.planes n j) y (w.x0 + x) (plane_of w j) v) (omega (arith, row)) column
    where
      pixel : j / w.planes < w.width
      pixel = (div-lt_iff_lt-mul l.some).1 (omega arith)

      column : column_of w j ≡ j / w.planes
      column = mod-eq_of_lt (omega (arith, pixel, l.strided))

      row : row_of w j ≡ 0
      row = div-eq_of_lt (omega (arith, pixel, l.strided))

  pub one-row : (f : Rule A) (s : List A) → length s ≤ w.width * w.planes
      → each (on_window w (length s) f) s ≡ each (on_row w.x0 w.planes w.y0 (length s) f) s
  one-row f s short = each-agree _ _ s (λ j v below. first-row (length s) f j v short below)

-- a rule over the window of a row is the rule on the row. `F` is the rule as it goes by the window.
module _ {A : Type 0} {g : Place} {width : ℕ} {w : Window} (is : w ≡ window_of g width) (s : List A) where
  pub single-row : {t : List A} → RowFits g.x0 g.planes g.y (length s) → Spans g width (length s) → (F : Window → Rule A)
      → t ≡ each (on_window w (length s) (F w)) s
      → t ≡ each (on_row g.x0 g.planes g.y (length s) (F (window_of g width))) s
  single-row f spans F ran =
      ran
      ∙ ap (λ (v : Window). each (on_window v (length s) (F v)) s) is
      ∙ one-row (window_of g width) laid (omega arith) (F (window_of g width)) s spans.holds
    where
      laid : Laid (window_of g width)
      laid = record { some = f.some; wide = spans.some; strided = omega arith }

-- a row that a region selects is selected also at a row pitch of 1
pub every-row : {A : Type 0} (r : Region) (f : ℕ → ℕ → ℕ → A → A) (x0 p y : ℕ) (s : List A)
    → selects r.top r.bottom r.row_pitch y ≡ true
    → each (on_row x0 p y (length s) (on_region (every_row r) f)) s ≡ each (on_row x0 p y (length s) (on_region r f)) s
unfolding on_row on_region
every-row r f x0 p y s h =
    let t = selects-only r.top r.bottom r.row_pitch y h in
    let e : selects r.top r.bottom 1 y ≡ true = selects_at r.top r.bottom 1 y (y - r.top) (omega (arith, t.0)) t.1 in
    each-agree _ _ s (λ j v below. rw (e, h))
