-- The marks of an opcode by its kind, and what a repair asks and answers around its stages. Over any sample kind. Assumes nothing.
use Prim.Native.Nat.{ℕ, zero, suc, ◌≤◌, ◌<◌}
use mathlib.Core.Path.{◌≡◌, refl, sym, ap₂, subst, fun_ext, ◌∙◌}
use mathlib.Core.Bool.{Bool, true, false}
use mathlib.Core.List.{List, [], ◌∷◌}
use native.Mathlib.Omega.{arith}
use lib.Ieee.{Float}
use lib.ListN.{length, take}
use lib.Seq.{length-take-le}
use Rattle.dng.specs.declared.Window.{Window}
use Rattle.dng.specs.declared.Opcode.{Opcode}
use Rattle.dng.specs.declared.Opcode.TheVariants.{WarpRectilinear, WarpFisheye, FixVignetteRadial, FixBadPixelsConstant, FixBadPixelsList, TrimBounds, MapTable, MapPolynomial, GainMap, DeltaPerRow, DeltaPerColumn, ScalePerRow, ScalePerColumn, Other}
use Rattle.dng.specs.Repair.{complete, positions, step_of, bad_value, count_below, marked_in, marks_on, marks_of, repair_at}
use Rattle.dng.specs.Run.{Kind}
use Rattle.std.specs.Prelude.{Option, Some, None}
use Rattle.fix_scratch.specs.Marks.{Fits, Gathered, Holds, chosen}
use Rattle.fix_listed.specs.Listed.{listed_at}
use Rattle.fix_scratch.proofs.Chosen.{chosen-rises, chosen-in}
use Rattle.num_sorted.specs.Sorts.{occ, has}
use Rattle.num_sorted.proofs.Occ.{has-true}
use Rattle.pointwise.specs.Points.{each}
use Rattle.fix_repair.specs.declared.Repaired.{Repaired}
use Rattle.fix_repair.specs.Fixes.{Fixes}
use Rattle.fix_fills.specs.Fills.{Marking, count_in}
use Rattle.fix_repair.specs.Works.{settled}
use Rattle.fix_repair.proofs.Counting.{count_none}
use Rattle.fix_repair.proofs.Totals.{repair-none, fixes-none, fixes-marks, fixes-settled}

-- ---- the marks of an opcode

chosen_none : (m : ℕ → Bool) → ((q : ℕ) → m q ≡ false) → (a n : ℕ) → chosen m a n ≡ []
unfolding chosen
chosen_none m h a zero = refl
chosen_none m h a (suc n) = rw (h a) (chosen_none m h (suc a) n)

-- an opcode that is no repair
abbrev pub NoConstant : Opcode → Type 0
NoConstant op = (c p : ℕ) → op ≡ FixBadPixelsConstant c p → ⊥

abbrev pub NoList : Opcode → Type 0
NoList op = (p np nr : ℕ) → op ≡ FixBadPixelsList p np nr → ⊥

module _ {A : Type 0} (d : A) (w : Window) (test : ℕ → A → Bool) where
  -- what is no repair marks nothing
  no-marks : (op : Opcode) → NoConstant op → NoList op → (b : List ℕ) (s : List A) (q : ℕ) → marks_on d w test op b s q ≡ false
  no-marks (WarpRectilinear n cx cy) h k b s q = refl
  no-marks WarpFisheye h k b s q = refl
  no-marks (FixVignetteRadial r) h k b s q = refl
  no-marks (FixBadPixelsConstant c p) h k b s q = absurd (h c p refl)
  no-marks (FixBadPixelsList p np nr) h k b s q = absurd (k p np nr refl)
  no-marks (TrimBounds t l bm r) h k b s q = refl
  no-marks (MapTable r n) h k b s q = refl
  no-marks (MapPolynomial r n) h k b s q = refl
  no-marks (GainMap r pv ph g mp) h k b s q = refl
  no-marks (DeltaPerRow r n) h k b s q = refl
  no-marks (DeltaPerColumn r n) h k b s q = refl
  no-marks (ScalePerRow r n) h k b s q = refl
  no-marks (ScalePerColumn r n) h k b s q = refl
  no-marks (Other i) h k b s q = refl

  module _ (op : Opcode) (b : List ℕ) (s : List A) (top : ℕ) (m m' : List ℕ) where
    pub marks-none : NoConstant op → NoList op → Holds top (marks_on d w test op b s) m m 0
    marks-none h k =
        record {
          all = sym (count_none top (marks_on d w test op b s) (no-marks op h k b s));
          fits = omega arith;
          front = sym (chosen_none (marks_on d w test op b s) (no-marks op h k b s) 0 top);
        }

    pub marks-constant : (c p : ℕ) (t : A → Bool) (r : Option ℕ) → op ≡ FixBadPixelsConstant c p → t ≡ test c
        → Gathered top (bad_value d w t s) m m' r → Gathered top (marks_on d w test op b s) m m' r
    marks-constant c p t r e f g =
        subst (λ (o : Opcode). Gathered top (marks_on d w test o b s) m m' r) (sym e)
        (subst (λ (u : A → Bool). Gathered top (bad_value d w u s) m m' r) f g)

    pub marks-list : (p np nr : ℕ) (r : Option ℕ) → op ≡ FixBadPixelsList p np nr
        → Gathered top (listed_at w b np nr) m m' r → Gathered top (marks_on d w test op b s) m m' r
    marks-list p np nr r e g = subst (λ (o : Opcode). Gathered top (marks_on d w test o b s) m m' r) (sym e) g

-- ---- the stages one after another

-- what the stages ask of gathered marks
pub marking : (w : Window) (bad : ℕ → Bool) (l : List ℕ) (period step : ℕ) → Fits w → period ≤ 65536 → step ≡ step_of period
    → l ≡ chosen bad 0 (positions w) → Marking l w step
marking w bad l period step f far e h =
    record {
      fits = f;
      low = omega arith;
      far = omega arith;
      rises = rw h (chosen-rises bad 0 (positions w));
      inside = λ q i.
          let low = chosen-in bad 0 (positions w) q (has-true (chosen bad 0 (positions w)) q (rw h at i)) in omega (arith, low.0);
    }

-- no marks: nothing is repaired, and the samples stay
module _ (w : Window) (step : ℕ) where
  pub settled-none : (r : Repaired) → (r.repaired ≡ 0) × (r.left ≡ 0) → (marks : List ℕ) → length marks ≡ 0 → r ≡ settled marks w step
  unfolding count_in
  settled-none r d [] e = ap₂ (λ (n k : ℕ). record { repaired = n; left = k }) d.0 d.1
  settled-none r d (q ∷ l) e = absurd (let z : suc (length l) ≡ 0 = e in omega arith)

  pub samples-none : {A : Type 0} (none : A) (to_float : A → Float) (of_mean : Float → A) (s : List A) (marks : List ℕ) → length marks ≡ 0
      → s ≡ each (repair_at none to_float of_mean w step (has marks) s) s
  unfolding has occ
  samples-none none to_float of_mean s [] e = sym (repair-none none to_float of_mean w (has []) (λ q. refl) step s)
  samples-none none to_float of_mean s (q ∷ l) e = absurd (let z : suc (length l) ≡ 0 = e in omega arith)

module _ {A : Type 0} (kind : Kind A) (w : Window) (period : ℕ) (op : Opcode) (b : List ℕ) (s : List A) (m : List ℕ) where
  -- the window is not whole: no marks
  pub fix_none : complete w (length s) ≡ false
      → Fixes kind w period (record { marks = length m }) (marks_of kind.none w kind.is_bad op b s) s s (Some (record { repaired = 0; left = 0 }))
  unfolding marks_of
  fix_none e = fixes-none kind w period (record { marks = length m }) (marks_of kind.none w kind.is_bad op b s) s (λ q. rw e refl)

  module _ (e : complete w (length s) ≡ true) where
    marks-as : marks_on kind.none w kind.is_bad op b s ≡ marks_of kind.none w kind.is_bad op b s
    unfolding marks_of
    marks-as = fun_ext (λ q. rw e refl)

    pub fix-marks : length m < count_below (positions w) (marks_on kind.none w kind.is_bad op b s)
        → Fixes kind w period (record { marks = length m }) (marks_of kind.none w kind.is_bad op b s) s s None
    unfolding marked_in
    fix-marks g =
        fixes-marks kind w period (record { marks = length m }) (marks_of kind.none w kind.is_bad op b s) s
        (subst (λ (f : ℕ → Bool). length m < count_below (positions w) f) marks-as g)

    -- all n marks were gathered
    module _ (m' : List ℕ) (n : ℕ) (g : Holds (positions w) (marks_on kind.none w kind.is_bad op b s) m m' n) where
      held : Holds (positions w) (marks_of kind.none w kind.is_bad op b s) m m' n
      held = subst (λ (f : ℕ → Bool). Holds (positions w) f m m' n) marks-as g

      pub fix-asks : (step : ℕ) → Fits w → period ≤ 65536 → step ≡ step_of period → Marking (take n m') w step
      fix-asks step f far p = marking w (marks_of kind.none w kind.is_bad op b s) (take n m') period step f far p held.front

      pub fix-settled : (step : ℕ) (s' : List A) (o : Repaired) → step ≡ step_of period → length m' ≡ length m → o ≡ settled (take n m') w step
          → s' ≡ each (repair_at kind.none kind.to_float kind.of_mean w step (has (take n m')) s) s
          → Fixes kind w period (record { marks = length m }) (marks_of kind.none w kind.is_bad op b s) s s' (Some o)
      unfolding marked_in
      fix-settled step s' o p same done new =
          let long : length (take n m') ≡ n = length-take-le n m' (omega (arith, held.fits)) in
          fixes-settled kind w period (record { marks = length m }) (marks_of kind.none w kind.is_bad op b s) s (take n m') step p
          held.front (long ∙ held.all) (omega (arith, held.fits)) s' o done new
