-- What the sound neighbours of a mark say of it: whether it is repaired, that their samples are there and none of them is its own, and what the
-- repair of this one position is. Assumes nothing.
use Prim.Native.Nat.{ℕ, ◌+◌, ◌-◌, ◌*◌, ◌/◌, ◌%◌, ◌≤◌, ◌<◌, max}
use mathlib.Core.Path.{◌≡◌, refl, sym, ap, ap₂, subst, ◌∙◌}
use mathlib.Core.Bool.{Bool, true, false, cond, false≢true}
use mathlib.Core.List.{List}
use native.Mathlib.Omega.{arith}
use borrow.Author.Tests.{eq-eqb, ne_eqb}
use lib.Dec.{leb, eqb}
use lib.Ieee.{Float}
use lib.ListN.{length, get_or}
use Rattle.pointwise.specs.Points.{each, between}
use Rattle.pointwise.proofs.Each.{each-agree, each_none}
use Rattle.pointwise.proofs.Parts.{between_in, between-low, between-high}
use Rattle.dng.specs.declared.Window.{Window}
use Rattle.dng.specs.Select.{in_window}
use Rattle.dng.specs.Repair.{Tally, complete, positions, sample_at, tally_at, mean_of, repair_at}
use Rattle.num_sorted.proofs.Occ.{by_cases, below_or}
use Rattle.fix_scratch.specs.Marks.{Fits}
use Rattle.fix_near.specs.Looks.{first_of}
use Rattle.fix_means.specs.Means.{Reads, mean_over, mean_in}
use Rattle.fix_means.proofs.Tallies.{tally-count}
use Rattle.fix_means.proofs.Sums.{near-count, near-few, near-all, near-there, near-mean}
use Rattle.fix_fills.specs.InPlace.{position_of, one_at}
use Rattle.fix_fills.specs.Fills.{mendable, near_at, pixel_of, Sees, Apart}
use Rattle.fix_fills.proofs.Lying.{column-in, row_in}
use Rattle.fix_fills.proofs.Placing.{active-fits, plane-at, column-at, row_at, position_at, window-at, pixel-of, pixel-is}

module _ (w : Window) (step : ℕ) (bad : ℕ → Bool) (q : ℕ) (at : List ℕ) (l : at ≡ near_at w step bad q) where
  -- it is repaired where there is one
  pub near-mends : leb 1 (length at) ≡ mendable w step bad q
  unfolding mendable
  near-mends = ap (λ (z : List ℕ). leb 1 (length z)) l ∙ ap (leb 1) (near-count w step bad (q % w.width) (q / w.width))

  pub near-sees : (samples : ℕ) → complete w samples ≡ true → Sees samples at w.planes
  near-sees samples full k h =
      subst (λ (z : List ℕ). Reads samples z k) (sym l)
      (record {
        few = near-few w step bad (q % w.width) (q / w.width);
        there = λ j m. near-there w step bad (q % w.width) (q / w.width) samples k full h j m;
      })

  module _ (f : Fits w) (h : q < positions w) (b : bad q ≡ true) where
    -- a sample of an unmarked position is none of a mark's
    apart_of : (xx yy : ℕ) → xx < w.width → yy < w.height → bad (yy * w.width + xx) ≡ false → (k : ℕ) → k < w.planes
        → pixel_of w q ≤ first_of w xx yy + k → first_of w xx yy + k < pixel_of w q + w.planes → ⊥
    apart_of xx yy hx hy sound k m low high =
        let j : ℕ = first_of w xx yy + k in
        let e : pixel_of w q + (j - pixel_of w q) ≡ j = omega arith in
        let here : position_of w j ≡ q = ap (position_of w) (sym e) ∙ pixel-is w f q h (j - pixel_of w q) (omega arith) in
        false≢true (sym sound ∙ ap bad (sym (position_at w (active-fits w f) xx yy k hx hy m) ∙ here) ∙ b)

    pub near_apart : Apart at w.planes (pixel_of w q)
    near_apart =
        subst (λ (z : List ℕ). Apart z w.planes (pixel_of w q)) (sym l)
        (λ i k m.
        near-all w step bad (q % w.width) (q / w.width) (λ (a : ℕ). k < w.planes → pixel_of w q ≤ a + k → a + k < pixel_of w q + w.planes → ⊥)
        (λ xx yy hx hy sound. apart_of xx yy hx hy sound k) i m)

    module _ {A : Type 0} (d : A) (to_float : A → Float) (keep : Float → A) (low : 1 ≤ step) (s : List A) where
      -- the mean of plane k, by the record
      abbrev mean_by : ℕ → Float
      mean_by k = mean_in d to_float s at k

      -- the repair of its plane k
      here : (k : ℕ) (v : A) → k < w.planes
          → repair_at d to_float keep w step bad s (pixel_of w q + k) v ≡ cond (eqb (length at) 0) v (keep (mean_by k))
      unfolding repair_at
      here k v m =
          let x : ℕ = q % w.width in
          let y : ℕ = q / w.width in
          let hx : x < w.width = column-in w f q h in
          let hy : y < w.height = row_in w f q h in
          let t : Tally = tally_at w.width w.height step bad (λ xx yy. to_float (sample_at d w s xx yy k)) x y in
          let one : max step 1 ≡ step = omega arith in
          let count : t.n ≡ length at = tally-count w.width w.height step bad (λ xx yy. to_float (sample_at d w s xx yy k)) x y
          ∙ sym (near-count w step bad x y) ∙ ap length (sym l) in
          let mean : mean_of t ≡ mean_by k = sym (near-mean w step bad x y d to_float s k)
          ∙ ap (mean_over (λ a. to_float (get_or s (a + k) d))) (sym l) in
          rw (
            one,
            window-at w (active-fits w f) x y k hx hy m,
            pixel-is w f q h k m,
            b,
            plane-at w (active-fits w f) x y k hx hy m,
            column-at w (active-fits w f) x y k hx hy m,
            row_at w (active-fits w f) x y k hx hy m,
          ) (ap₂ (λ (n : ℕ) (u : Float). cond (eqb n 0) v (keep u)) count mean)

      -- other samples stay
      beside : (j : ℕ) (v : A) → (pixel_of w q ≤ j → j < pixel_of w q + w.planes → ⊥)
          → cond (eqb (position_of w j) q) (repair_at d to_float keep w step bad s j v) v ≡ v
      unfolding repair_at
      beside j v out =
          by_cases (in_window w j)
          (λ e. rw (ne_eqb (position_of w j) q (λ z. let i = pixel-of w j e q f.some z in out i.0 i.1)) refl)
          (λ e. rw e (either (eqb (position_of w j) q)))
        where
          either : (c : Bool) → cond c v v ≡ v
          either true = refl
          either false = refl

      -- one of the pixel's
      of_pixel : (j : ℕ) (v : A) → pixel_of w q ≤ j → j < pixel_of w q + w.planes
          → cond (eqb (position_of w j) q) (repair_at d to_float keep w step bad s j v) v ≡ cond (eqb (length at) 0) v (keep (mean_by (j - pixel_of w q)))
      of_pixel j v m n =
          let p : ℕ = pixel_of w q in
          let e : p + (j - p) ≡ j = omega arith in
          subst (λ (i : ℕ). cond (eqb (position_of w i) q) (repair_at d to_float keep w step bad s i v) v ≡ cond (eqb (length at) 0) v (keep (mean_by (j - p)))) e
          (rw (eq-eqb (position_of w (p + (j - p))) q (pixel-is w f q h (j - p) (omega arith))) (here (j - p) v (omega arith)))

      -- the means put in are the repair of the position
      pub one-mended : 1 ≤ length at → (s' : List A) → s' ≡ each (between (pixel_of w q) (pixel_of w q + w.planes) (λ j v. keep (mean_by (j - pixel_of w q)))) s
          → s' ≡ one_at d to_float keep w step bad q s
      one-mended some s' e =
          let p : ℕ = pixel_of w q in
          let g : ℕ → A → A = λ j v. keep (mean_by (j - p)) in
          e
          ∙ each-agree _ _ s
          (λ j v z.
          below_or j p (λ m. between-low p (p + w.planes) g j v m ∙ sym (beside j v (λ x y. omega arith)))
          (λ m. below_or j (p + w.planes)
          (λ n. between_in p (p + w.planes) g j v m n ∙ sym (rw (ne_eqb (length at) 0 (λ z. omega arith)) at (of_pixel j v m n)))
          (λ n. between-high p (p + w.planes) g j v n ∙ sym (beside j v (λ x y. omega arith)))))

      -- with no neighbour there is none
      pub one_left : length at < 1 → s ≡ one_at d to_float keep w step bad q s
      one_left none =
          let p : ℕ = pixel_of w q in
          sym (each_none _ s
          (λ j v z.
          below_or j p (λ m. beside j v (λ x y. omega arith))
          (λ m. below_or j (p + w.planes) (λ n. rw (eq-eqb (length at) 0 (omega arith)) at (of_pixel j v m n)) (λ n. beside j v (λ x y. omega arith)))))
