-- The repair of both runs, sample by sample: from exact samples the tallies are the same, their sums are exact,
-- and the means are near. Assumes nothing.
use Prim.Native.Nat.{ℕ, suc, ◌+◌, ◌*◌, ◌≤◌, ◌<◌}
use mathlib.Core.Path.{◌≡◌, refl, sym, ap, subst, ◌∙◌}
use mathlib.Core.Bool.{Bool, true, false, ◌&&◌, cond}
use mathlib.Core.List.{List, [], ◌∷◌}
use native.Mathlib.Nat.{le_trans, mod-lt}
use native.Mathlib.Omega.{arith}
use borrow.Author.Tests.{ltb-true, eqb-false}
use lib.Dec.{eqb, ltb, lit≤}
use lib.IntN.{ℤ}
use lib.Ieee.{Float, nan, binary32, add}
use lib.Ieee.Exact.{HasValue}
use lib.ListN.{length, get_or}
use Rattle.num_round.specs.Whole.{round_held}
use Rattle.num_convert.specs.Convert.{whole_in}
use Rattle.dng.specs.declared.Window.{Window}
use Rattle.dng.specs.declared.Opcode.{Opcode}
use Rattle.dng.specs.Select.{active, in_window, row_of, column_of, plane_of}
use Rattle.dng.specs.Value.{nought}
use Rattle.dng.specs.Repair.{positions, Tally, complete, sample_at, marks_on, marks_of, sound, steps, tally_on, tally_at, mean_of, step_of, repair_at}
use Rattle.law_wholes.proofs.Wholes.{add-whole}
use Rattle.law_wholes.proofs.Near.{Exact, Near, exact-near, sample-value, mean-near}
use Rattle.law_wholes.proofs.Pairs.{Pairs}
use Rattle.law_wholes.proofs.Marks.{Agree, and_first, and_second, bad16, bad32, marks-same, place_in, position_in, sound-any, sound-same}

-- one neighbour more
abbrev more : (ℕ → ℕ → Float) → Tally → ℕ → ℕ → Tally
more value t xx yy = record { sum = add binary32 t.sum (value xx yy); n = t.n + 1 }

-- a tally of at most m whole numbers of 16 bits, its sum exact
record Sum (t : Tally) (m : ℕ) : Type 0 where
  total : ℕ
  value : HasValue t.sum false total 1
  bound : total ≤ 65535 * t.n
  few : t.n ≤ m

-- a float that is a whole number of 16 bits
record Whole16 (v : Float) : Type 0 where
  number : ℕ
  small : number < 65536
  value : HasValue v false number 1

module _ (w : Window) (period : ℕ) where
  tally-same : (bad bad' : ℕ → Bool) → Agree w bad bad' → (f g : ℕ → ℕ → Float)
      → ((xx yy : ℕ) → xx < w.width → yy < w.height → f xx yy ≡ g xx yy) → (x y : ℕ) (ds : List (ℤ × ℤ)) (t : Tally)
      → tally_on w.width w.height period bad f x y ds t ≡ tally_on w.width w.height period bad' g x y ds t
  unfolding tally_on
  tally-same bad bad' same f g h x y [] t = refl
  tally-same bad bad' same f g h x y (d ∷ ds) t =
      tally-same bad bad' same f g h x y ds (sound w.width w.height period bad x y d (more f t) t)
      ∙ ap (tally_on w.width w.height period bad' g x y ds)
      (sound-same w period bad bad' same x y d (more f t) (more g t) t t
      (λ xx yy p q. ap (λ (v : Float). record { sum = add binary32 t.sum v; n = t.n + 1 }) (h xx yy p q))
      refl)

  one_more : (t : Tally) (v : Float) (m : ℕ) → suc m ≤ 256 → Whole16 v → Sum t m
      → Sum (record { sum = add binary32 t.sum v; n = t.n + 1 }) (suc m)
  one_more t v m h a s =
      record {
        total = s.total + a.number;
        value = add-whole binary32 t.sum v s.total a.number
            (le_trans (sums s.total a.number t.n m s.bound a.small s.few h) (lit≤ {m = 16776960} {n = 16777216} tt))
            s.value a.value;
        bound = omega (arith, s.bound, a.small);
        few = omega (arith, s.few);
      }
    where
      sums : (a b n m : ℕ) → a ≤ 65535 * n → b < 65536 → n ≤ m → suc m ≤ 256 → a + b ≤ 16776960
      sums a b n m p q r h = omega arith

  tally-sum : (bad : ℕ → Bool) (f : ℕ → ℕ → Float) → ((xx yy : ℕ) → xx < w.width → yy < w.height → Whole16 (f xx yy))
      → (x y : ℕ) (ds : List (ℤ × ℤ)) (t : Tally) (m : ℕ) → length ds + m ≤ 256 → Sum t m
      → Sum (tally_on w.width w.height period bad f x y ds t) (length ds + m)
  unfolding tally_on
  tally-sum bad f h x y [] t m r s = subst (λ (n : ℕ). Sum t n) (omega arith) s
  tally-sum bad f h x y (d ∷ ds) t m r s =
      subst (λ (n : ℕ). Sum (tally_on w.width w.height period bad f x y (d ∷ ds) t) n) (omega arith)
      (tally-sum bad f h x y ds (sound w.width w.height period bad x y d (more f t) t) (suc m) (omega arith)
      (sound-any w period (λ (u : Tally). Sum u (suc m)) bad x y d (more f t) t
      (λ xx yy p q. one_more t (f xx yy) m (omega arith) (h xx yy p q) s)
      (record { total = s.total; value = s.value; bound = s.bound; few = omega (arith, s.few) })))

  tally-at : (bad : ℕ → Bool) (f : ℕ → ℕ → Float) → ((xx yy : ℕ) → xx < w.width → yy < w.height → Whole16 (f xx yy))
      → (x y : ℕ) → Sum (tally_at w.width w.height period bad f x y) 8
  tally-at bad f h x y =
      tally-sum bad f h x y steps (record { sum = nought; n = 0 }) 0 (omega arith)
      (record { total = 0; value = (refl, refl); bound = omega arith; few = omega arith })

mean-of : (t : Tally) → Sum t 8 → eqb t.n 0 ≡ false → Near (round_held 65535 (mean_of t)) (mean_of t)
mean-of t s e =
    mean-near t.sum s.total t.n (above t.n (eqb-false t.n 0 e)) (le_trans s.few (lit≤ {m = 8} {n = 16777216} tt))
    s.bound s.value
  where
    above : (n : ℕ) → (n ≡ 0 → ⊥) → 0 < n
    above n h = omega arith

-- ---- one sample

in_window_lem : (w : Window) (j : ℕ) → in_window w j ≡ true → row_of w j * w.width + column_of w j < positions w
unfolding in_window
in_window_lem w j e =
    let both : (ltb (row_of w j) w.height && ltb (column_of w j) w.width) ≡ true =
    and_second (active w) (ltb (row_of w j) w.height && ltb (column_of w j) w.width) e in
    position_in w (column_of w j) (row_of w j)
    (ltb-true (column_of w j) w.width (and_second (ltb (row_of w j) w.height) (ltb (column_of w j) w.width) both))
    (ltb-true (row_of w j) w.height (and_first (ltb (row_of w j) w.height) (ltb (column_of w j) w.width) both))

choose : (a c c' : Bool) (u : ℕ) (v : Float) (t t' : Tally) → (a ≡ true → c ≡ c') → (a ≡ true → c' ≡ true → (t ≡ t') × Sum t' 8) → Near u v
    → Near (cond (a && c') (cond (eqb t'.n 0) u (round_held 65535 (mean_of t'))) u) (cond (a && c) (cond (eqb t.n 0) v (mean_of t)) v)
choose false c c' u v t t' marks tallies near = near
choose true c false u v t t' marks tallies near =
    subst (λ (z : Bool). Near u (cond z (cond (eqb t.n 0) v (mean_of t)) v)) (sym (marks refl)) near
choose true c true u v t t' marks tallies near =
    subst (λ (z : Bool). Near (mended t') (cond z (cond (eqb t.n 0) v (mean_of t)) v)) (sym (marks refl))
    (subst (λ (z : Tally). Near (mended t') (cond (eqb z.n 0) v (mean_of z))) (sym (tallies refl refl).0) (go (eqb t'.n 0) refl))
  where
    mended : Tally → ℕ
    mended z = cond (eqb z.n 0) u (round_held 65535 (mean_of z))

    go : (z : Bool) → eqb t'.n 0 ≡ z → Near (cond z u (round_held 65535 (mean_of t'))) (cond z v (mean_of t'))
    go true e = near
    go false e = mean-of t' (tallies refl refl).1 e

-- what a repair with the marks `bad` makes of the sample at a place, in either run
abbrev pub mend16 : Window → (period : ℕ) → (ℕ → Bool) → List ℕ → ℕ → ℕ → ℕ
mend16 w period bad s = repair_at 0 (λ (v : ℕ). whole_in binary32 v) (λ (v : Float). round_held 65535 v) w period bad s

abbrev pub mend32 : Window → (period : ℕ) → (ℕ → Bool) → List Float → ℕ → Float → Float
mend32 w period bad t = repair_at nan (λ (v : Float). v) (λ (v : Float). v) w period bad t

module _ (w : Window) (period : ℕ) (s : List ℕ) (t : List Float) (p : Pairs Exact s t) (planes : 0 < w.planes) (op : Opcode)
    (b : List ℕ) where
  marked-complete : (q : ℕ) → marks_of 0 w bad16 op b s q ≡ true → complete w (length s) ≡ true
  unfolding marks_of
  marked-complete q e = and_first (complete w (length s)) (marks_on 0 w bad16 op b s q) e

  sample-exact : complete w (length s) ≡ true → (k : ℕ) → k < w.planes → (xx yy : ℕ) → xx < w.width → yy < w.height
      → Exact (sample_at 0 w s xx yy k) (sample_at nan w t xx yy k)
  sample-exact full k h xx yy m n = p.at ((yy * w.stride + xx) * w.planes + k) (place_in w (length s) xx yy k full m n h)

  pub repair-near : (j : ℕ) → j < length s
      → Near (mend16 w period (marks_of 0 w bad16 op b s) s j (get_or s j 0)) (mend32 w period (marks_of nan w bad32 op b t) t j (get_or t j nan))
  unfolding repair_at
  repair-near j h =
      choose (in_window w j) (bad here) (bad' here) (get_or s j 0) (get_or t j nan)
      (tally_at w.width w.height (step_of period) bad value x y) (tally_at w.width w.height (step_of period) bad' value' x y)
      (λ i. marks-same w s t p planes op b here (inside i))
      (λ i m. let full : complete w (length s) ≡ true = marked-complete here m in (
        tally-same w (step_of period) bad bad' (marks-same w s t p planes op b) value value'
            (λ xx yy q r. (sample-exact full k plane xx yy q r).same) x y steps (record { sum = nought; n = 0 }),
        tally-at w (step_of period) bad' value'
            (λ xx yy q r. whole16 (sample-exact full k plane xx yy q r)) x y,
      ))
      (exact-near (p.at j h))
    where
      x : ℕ
      x = column_of w j

      y : ℕ
      y = row_of w j

      k : ℕ
      k = plane_of w j

      here : ℕ
      here = y * w.width + x

      bad : ℕ → Bool
      bad = marks_of nan w bad32 op b t

      bad' : ℕ → Bool
      bad' = marks_of 0 w bad16 op b s

      value : ℕ → ℕ → Float
      value xx yy = sample_at nan w t xx yy k

      value' : ℕ → ℕ → Float
      value' xx yy = whole_in binary32 (sample_at 0 w s xx yy k)

      plane : k < w.planes
      plane = mod-lt j planes

      inside : in_window w j ≡ true → here < w.width * w.height
      inside i = in_window_lem w j i

      whole16 : {a : ℕ} {v : Float} → Exact a v → Whole16 (whole_in binary32 a)
      whole16 {a} {v} e = record { number = a; small = e.small; value = sample-value a e.small }
