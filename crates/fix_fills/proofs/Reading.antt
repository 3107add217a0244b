-- What a repair reads: samples of unmarked positions of the window, and nothing else. So it may be worked out from any samples that agree
-- there. Over any sample kind. Assumes nothing.
use Prim.Native.Nat.{ℕ, ◌≤◌, ◌<◌}
use mathlib.Core.Path.{◌≡◌, refl, ap, ◌∙◌}
use mathlib.Core.Bool.{Bool, true, false, ◌&&◌, cond}
use mathlib.Core.List.{List}
use native.Mathlib.Nat.{mod-lt}
use lib.Dec.{eqb}
use lib.Ieee.{Float}
use Rattle.dng.specs.declared.Window.{Window}
use Rattle.dng.specs.Select.{plane_of, column_of, row_of, active, in_window}
use Rattle.dng.specs.Repair.{Tally, sample_at, tally_at, mean_of, step_of, repair_at}
use Rattle.num_sorted.proofs.Occ.{by_cases}
use Rattle.fix_means.proofs.Tallies.{tally-ext}
use Rattle.fix_fills.specs.InPlace.{position_of, Agrees, ReadsUnmarked}
use Rattle.fix_fills.proofs.Placing.{active-of, position_at, window-at}

module _ {A : Type 0} (d : A) (to_float : A → Float) (of_mean : Float → A) (w : Window) (period : ℕ) (bad : ℕ → Bool) where
  -- the tally of sample j of (x, y)
  abbrev tally_in : List A → (j x y : ℕ) → Tally
  tally_in s j x y = tally_at w.width w.height (step_of period) bad (λ xx yy. to_float (sample_at d w s xx yy (plane_of w j))) x y

  reads-tally : (s t : List A) → 1 ≤ w.planes → Agrees d to_float of_mean w period bad s t → active w ≡ true → (j x y : ℕ)
      → tally_in t j x y ≡ tally_in s j x y
  reads-tally s t some agree act j x y =
      tally-ext w (step_of period) bad bad (λ q h. refl) x y (λ xx yy. to_float (sample_at d w t xx yy (plane_of w j)))
      (λ xx yy. to_float (sample_at d w s xx yy (plane_of w j)))
      (λ xx yy hx hy sound.
      let k : plane_of w j < w.planes = mod-lt j some in
      ap to_float
      (agree _ (window-at w act xx yy (plane_of w j) hx hy k) (ap bad (position_at w act xx yy (plane_of w j) hx hy k) ∙ sound)))

  pub reads : (s t : List A) → 1 ≤ w.planes → Agrees d to_float of_mean w period bad s t → (j : ℕ) (v : A)
      → repair_at d to_float of_mean w period bad t j v ≡ repair_at d to_float of_mean w period bad s j v
  unfolding repair_at
  reads s t some agree j v =
      by_cases (in_window w j)
      (λ e.
      ap (λ (u : Tally). cond (in_window w j && bad (position_of w j)) (cond (eqb u.n 0) v (of_mean (mean_of u))) v)
      (reads-tally s t some agree (active-of w j e) j (column_of w j) (row_of w j)))
      (λ e. rw e refl)

  -- what is repaired takes a value that does not hang on the one before: twice is once
  pub twice : (s : List A) (j : ℕ) (v : A)
      → repair_at d to_float of_mean w period bad s j (repair_at d to_float of_mean w period bad s j v) ≡ repair_at d to_float of_mean w period bad s j v
  unfolding repair_at
  twice s j v =
      let u : Tally = tally_in s j (column_of w j) (row_of w j) in
      go (in_window w j && bad (position_of w j)) (eqb u.n 0) (of_mean (mean_of u))
    where
      go : (a b : Bool) (m : A) → cond a (cond b (cond a (cond b v m) v) m) (cond a (cond b v m) v) ≡ cond a (cond b v m) v
      go true true m = refl
      go true false m = refl
      go false b m = refl

  -- what is not marked stays
  pub stays : (s : List A) (j : ℕ) (v : A) → (in_window w j ≡ true → bad (position_of w j) ≡ false) → repair_at d to_float of_mean w period bad s j v ≡ v
  unfolding repair_at
  stays s j v h = by_cases (in_window w j) (λ e. rw (e, h e) refl) (λ e. rw e refl)

pub reads-unmarked : ReadsUnmarked
reads-unmarked A d to_float of_mean w period bad s t some agree j v = reads d to_float of_mean w period bad s t some agree j v
