-- The totals are those of the definition, and what the stages answer is what the run's definition has. Over any sample kind.
-- Assumes nothing.
use Prim.Native.Nat.{ℕ, ◌+◌, ◌-◌, ◌*◌, ◌/◌, ◌%◌, ◌≤◌, ◌<◌}
use mathlib.Core.Path.{◌≡◌, refl, ap, ◌∙◌}
use mathlib.Core.Bool.{Bool, true, false, not, ◌&&◌, cond, and-false}
use mathlib.Core.List.{List}
use native.Mathlib.Omega.{arith}
use borrow.Author.Tests.{eq-eqb, ne_eqb, le-leb, lt-leb}
use lib.Dec.{leb, eqb}
use lib.Ieee.{Float}
use lib.ListN.{length}
use Rattle.pointwise.specs.Points.{each}
use Rattle.pointwise.proofs.Each.{each-agree, each_none}
use Rattle.dng.specs.declared.Window.{Window}
use Rattle.dng.specs.Select.{in_window, row_of, column_of, plane_of}
use Rattle.dng.specs.Repair.{positions, sample_at, steps, step_of, sound_at, marked_in, repaired_in, left_in, repair_at}
use Rattle.dng.specs.Run.{Kind, Room, going, marks_full, repair_on}
use Rattle.fix_scratch.specs.Marks.{chosen}
use Rattle.fix_scratch.proofs.Chosen.{count_same, chosen-has}
use Rattle.fix_means.proofs.Tallies.{sound-on-ext, tally-ext}
use Rattle.num_sorted.specs.Sorts.{has}
use Rattle.num_sorted.proofs.Occ.{by_cases, equal-or}
use Rattle.std.specs.Prelude.{Some, None}
use Rattle.fix_repair.specs.declared.Repaired.{Repaired}
use Rattle.fix_repair.specs.Fixes.{Fixes}
use Rattle.fix_fills.specs.Fills.{mendable, count_in, mended}
use Rattle.fix_repair.specs.Works.{settled}
use Rattle.fix_fills.proofs.Placing.{position-of}
use Rattle.fix_repair.proofs.Counting.{count-chosen, count-parts, count_none, count-below}

-- ---- the totals

-- what is repaired and what is left are the marks
pub totals : (w : Window) (period : ℕ) (bad : ℕ → Bool) → repaired_in w period bad + left_in w period bad ≡ marked_in w bad
unfolding repaired_in left_in marked_in
totals w period bad =
    count-parts (positions w) bad (λ q. leb 1 (sound_at w period bad q)) (λ q. eqb (sound_at w period bad q) 0) (λ q. other (sound_at w period bad q))
  where
    other : (n : ℕ) → eqb n 0 ≡ not (leb 1 n)
    other n = equal-or n 0 (λ e. rw (eq-eqb n 0 e, lt-leb 1 n (omega arith)) refl) (λ e. rw (ne_eqb n 0 e, le-leb 1 n (omega arith)) refl)

-- the marks stand in a list, each once
module _ (w : Window) (period step : ℕ) (bad : ℕ → Bool) (l : List ℕ) (e : l ≡ chosen bad 0 (positions w)) (d : step ≡ step_of period) where
  pub held_same : (q : ℕ) → q < positions w → has l q ≡ bad q
  held_same q h = ap (λ (r : List ℕ). has r q) e ∙ chosen-has bad (positions w) q h

  mends-same : (q : ℕ) → mendable w step (has l) q ≡ leb 1 (sound_at w period bad q)
  unfolding mendable
  mends-same q = ap (leb 1) (sound-on-ext w step (has l) bad held_same (q % w.width) (q / w.width) steps) ∙ rw d refl

  pub repaired-is : count_in (mendable w step (has l)) l ≡ repaired_in w period bad
  unfolding repaired_in
  repaired-is =
      ap (count_in (mendable w step (has l))) e
      ∙ count-chosen (mendable w step (has l)) bad (positions w)
      ∙ count_same (positions w) (λ q. bad q && mendable w step (has l) q) (λ q. bad q && leb 1 (sound_at w period bad q))
      (λ q h. ap (λ (b : Bool). bad q && b) (mends-same q))

-- ---- the new samples depend on the marks below the number of positions only, and on the step

module _ {A : Type 0} (none : A) (to_float : A → Float) (of_mean : Float → A) (w : Window) (bad bad' : ℕ → Bool)
    (same : (q : ℕ) → q < positions w → bad q ≡ bad' q) where
  repair-same : (step : ℕ) (s : List A) (j : ℕ) (v : A) → repair_at none to_float of_mean w step bad s j v ≡ repair_at none to_float of_mean w step bad' s j v
  unfolding repair_at
  repair-same step s j v =
      let x : ℕ = column_of w j in
      let y : ℕ = row_of w j in
      let f : ℕ → ℕ → Float = λ xx yy. to_float (sample_at none w s xx yy (plane_of w j)) in
      by_cases (in_window w j)
      (λ e. rw (
        e,
        same (y * w.width + x) (position-of w j e),
        tally-ext w (step_of step) bad bad' same x y f f (λ xx yy p q r. refl),
      ) refl)
      (λ e. rw e refl)

  pub repair-ext : (period step : ℕ) (s : List A) → step ≡ step_of period
      → each (repair_at none to_float of_mean w step bad s) s ≡ each (repair_at none to_float of_mean w period bad' s) s
  unfolding repair_at
  repair-ext period step s d =
      each-agree (repair_at none to_float of_mean w step bad s) (repair_at none to_float of_mean w step bad' s) s (λ j v h. repair-same step s j v)
      ∙ each-agree (repair_at none to_float of_mean w step bad' s) (repair_at none to_float of_mean w period bad' s) s
      (λ j v h. let one : step_of step ≡ step_of period = omega arith in rw one refl)

pub repair-none : {A : Type 0} (none : A) (to_float : A → Float) (of_mean : Float → A) (w : Window) (bad : ℕ → Bool) → ((q : ℕ) → bad q ≡ false)
    → (period : ℕ) (s : List A) → each (repair_at none to_float of_mean w period bad s) s ≡ s
unfolding repair_at
repair-none none to_float of_mean w bad h period s =
    each_none (repair_at none to_float of_mean w period bad s) s (λ j v l. rw (h (row_of w j * w.width + column_of w j), and-false) refl)

-- ---- the answer

module _ {A : Type 0} (kind : Kind A) (w : Window) (period : ℕ) (room : Room) (bad : ℕ → Bool) (s : List A) where
  -- no marks: nothing, whatever the scratch
  pub fixes-none : ((q : ℕ) → bad q ≡ false) → Fixes kind w period room bad s s (Some (record { repaired = 0; left = 0 }))
  unfolding repair_on marked_in repaired_in left_in
  fixes-none h k a b =
      rw (
        count_none (positions w) bad h,
        le-leb 0 room.marks (omega arith),
        count_none (positions w) (λ q. bad q && leb 1 (sound_at w period bad q)) (λ q. rw (h q) refl),
        count_none (positions w) (λ q. bad q && eqb (sound_at w period bad q) 0) (λ q. rw (h q) refl),
        repair-none kind.none kind.to_float kind.of_mean w bad h period s,
      ) refl

  -- what is answered are the totals: so their sum is the number of marks, and at most that of the positions
  pub fixes-totals : (s' : List A) (a b : ℕ) → Fixes kind w period room bad s s' (Some (record { repaired = a; left = b })) → (a ≡ repaired_in w period bad) × (b ≡ left_in w period bad)
  unfolding repair_on
  fixes-totals s' a b f = go (leb (marked_in w bad) room.marks) (f 0 0 0)
    where
      go : (x : Bool)
          → going s' (0 + a) (0 + b)
          ≡ cond x
          (going (each (repair_at kind.none kind.to_float kind.of_mean w period bad s) s) (0 + repaired_in w period bad) (0 + left_in w period bad))
          (marks_full s 0)
          → (a ≡ repaired_in w period bad) × (b ≡ left_in w period bad)
      go true e =
          let p : 0 + a ≡ 0 + repaired_in w period bad = cc in
          let q : 0 + b ≡ 0 + left_in w period bad = cc in
          (omega arith, omega arith)
      go false e = absurd (let z : ◌≡◌ {A = ℕ} 0 1 = cc in omega arith)

  pub fixes-few : (s' : List A) (a b : ℕ) → Fixes kind w period room bad s s' (Some (record { repaired = a; left = b })) → (a + b ≡ marked_in w bad) × (a + b ≤ positions w)
  unfolding marked_in
  fixes-few s' a b f =
      let t = fixes-totals s' a b f in
      let few : marked_in w bad ≤ positions w = count-below (positions w) bad in
      (omega (arith, t.0, t.1, totals w period bad), omega (arith, few, t.0, t.1, totals w period bad))

  pub fixes-marks : room.marks < marked_in w bad → Fixes kind w period room bad s s None
  unfolding repair_on
  fixes-marks h k a b = rw (lt-leb (marked_in w bad) room.marks h) refl

  -- the marks in a list, all of them settled
  module _ (marks : List ℕ) (step : ℕ) (d : step ≡ step_of period) (e : marks ≡ chosen bad 0 (positions w)) (c : length marks ≡ marked_in w bad)
      (fit : length marks ≤ room.marks) where
    pub fixes-settled : (s' : List A) (r : Repaired) → r ≡ settled marks w step
        → s' ≡ each (repair_at kind.none kind.to_float kind.of_mean w step (has marks) s) s → Fixes kind w period room bad s s' (Some r)
    unfolding repair_on
    fixes-settled s' r done new k u v =
        let many : mended marks w step ≡ repaired_in w period bad = repaired-is w period step bad marks e d in
        let rest : length marks - mended marks w step ≡ left_in w period bad = omega (arith, many, totals w period bad) in
        let all : s' ≡ each (repair_at kind.none kind.to_float kind.of_mean w period bad s) s =
        new ∙ repair-ext kind.none kind.to_float kind.of_mean w (has marks) bad (held_same w period step bad marks e d) period step s d in
        rw (done, le-leb (marked_in w bad) room.marks (omega arith), rest, many, all) refl
