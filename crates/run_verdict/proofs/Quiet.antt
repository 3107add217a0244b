-- An opcode that had no effect changed nothing, f32 and u16. Assumes nothing.
use Prim.Native.Nat.{ℕ}
use mathlib.Core.Path.{◌≡◌, refl, sym, ap, ◌∙◌}
use mathlib.Core.Bool.{Bool, true, false, ◌&&◌, cond, and-false, false≢true}
use mathlib.Core.List.{List}
use lib.Dec.{eqb}
use lib.Ieee.{Float}
use lib.ListN.{length}
use Rattle.pointwise.specs.Points.{each}
use Rattle.pointwise.proofs.Each.{each_none}
use Rattle.dng.specs.declared.Window.{Window}
use Rattle.dng.specs.declared.Radial.{Radial}
use Rattle.dng.specs.declared.Region.{Region}
use Rattle.dng.specs.declared.Opcode.{Opcode}
use Rattle.dng.specs.declared.Opcode.TheVariants.{WarpRectilinear, WarpFisheye, FixVignetteRadial, FixBadPixelsConstant, FixBadPixelsList, TrimBounds, MapTable, MapPolynomial, GainMap, DeltaPerRow, DeltaPerColumn, ScalePerRow, ScalePerColumn, Other}
use Rattle.dng.specs.Select.{Rule, on_window}
use Rattle.dng.specs.Value.{m2_of, usable, vignette, rule16_of}
use Rattle.dng.specs.declared.Class.TheVariants.{Table, Empty}
use Rattle.dng.specs.Run.{class_of, Kind, f32_kind, u16_kind, Room, going, perform_on}
use Rattle.dng.specs.Answer.{frame_of}
use Rattle.law_rows.proofs.Place.{on-window-none}
use Rattle.run_verdict.specs.Verdict.{applied, sized, had_effect, NoEffect}

-- what cannot be, since the opcode had its effect
had : {X : Type 0} → true ≡ false → X
had e = absurd (false≢true (sym e))

-- m2 goes by the full size alone
m2-sized : (w : Window) (scale : Float) (q : Radial) → m2_of (sized w.full_width w.full_height) q ≡ m2_of (frame_of w scale) q
unfolding m2_of
m2-sized w scale q = refl

module _ {A : Type 0} (kind : Kind A) (w : Window) (period : ℕ) (room : Room) where
  -- a rule that changes nothing
  quiet : (f : Rule A) (s : List A) (r l : ℕ) → ((whole : Bool) (y x k : ℕ) (v : A) → f whole y x k v ≡ v)
      → going (each (on_window w (length s) f) s) r l ≡ going s r l
  quiet f s r l h = ap (λ (u : List A). going u r l) (each_none _ s (λ j v b. on-window-none w (length s) f j v h))

  -- a table with no entries
  table_none : (g : Region) (n : ℕ) (b : List ℕ) (k : ℕ) (s : List A) (r l : ℕ)
      → had_effect w.full_width w.full_height (MapTable g n) ≡ false
      → perform_on kind w period room (class_of (MapTable g n)) (MapTable g n) b k s r l ≡ going s r l
  table_none g n b k s r l = go (eqb n 0)
    where
      go : (z : Bool) → (applied (cond z Empty Table) && true) ≡ false
          → perform_on kind w period room (cond z Empty Table) (MapTable g n) b k s r l ≡ going s r l
      go true e = refl
      go false e = had e

still : (w : Window) (scale : Float) (q : Radial) → usable (m2_of (frame_of w scale) q) ≡ false
    → (whole : Bool) (y x k : ℕ) (v : Float) → vignette (frame_of w scale) q whole y x k v ≡ v
unfolding vignette
still w scale q e whole y x k v = rw (e, and-false, and-false) refl

f32-none : (w : Window) (scale : Float) (period : ℕ) (room : Room) (op : Opcode) (b : List ℕ) (k : ℕ) (s : List Float) (r l : ℕ)
    → had_effect w.full_width w.full_height op ≡ false → perform_on (f32_kind (frame_of w scale)) w period room (class_of op) op b k s r l ≡ going s r l
f32-none w scale period room (WarpRectilinear n cx cy) b k s r l e = refl
f32-none w scale period room WarpFisheye b k s r l e = refl
f32-none w scale period room (FixVignetteRadial q) b k s r l e =
    quiet (f32_kind (frame_of w scale)) w period room (vignette (frame_of w scale) q) s r l (still w scale q (ap usable (sym (m2-sized w scale q)) ∙ e))
f32-none w scale period room (FixBadPixelsConstant c p) b k s r l e = had e
f32-none w scale period room (FixBadPixelsList p np nr) b k s r l e = had e
f32-none w scale period room (TrimBounds t lf bm rt) b k s r l e = refl
f32-none w scale period room (MapTable g n) b k s r l e = table_none (f32_kind (frame_of w scale)) w period room g n b k s r l e
f32-none w scale period room (MapPolynomial g d) b k s r l e = had e
f32-none w scale period room (GainMap g pv ph gr mp) b k s r l e = had e
f32-none w scale period room (DeltaPerRow g n) b k s r l e = had e
f32-none w scale period room (DeltaPerColumn g n) b k s r l e = had e
f32-none w scale period room (ScalePerRow g n) b k s r l e = had e
f32-none w scale period room (ScalePerColumn g n) b k s r l e = had e
f32-none w scale period room (Other i) b k s r l e = refl

u16-none : (w : Window) (period : ℕ) (room : Room) (op : Opcode) (b : List ℕ) (k : ℕ) (s : List ℕ) (r l : ℕ)
    → had_effect w.full_width w.full_height op ≡ false → perform_on u16_kind w period room (class_of op) op b k s r l ≡ going s r l
u16-none w period room (WarpRectilinear n cx cy) b k s r l e = refl
u16-none w period room WarpFisheye b k s r l e = refl
-- the whole-number form knows no vignette
u16-none w period room (FixVignetteRadial q) b k s r l e =
    quiet u16_kind w period room (rule16_of (FixVignetteRadial q) b) s r l (λ whole y x j v. refl)
u16-none w period room (FixBadPixelsConstant c p) b k s r l e = had e
u16-none w period room (FixBadPixelsList p np nr) b k s r l e = had e
u16-none w period room (TrimBounds t lf bm rt) b k s r l e = refl
u16-none w period room (MapTable g n) b k s r l e = table_none u16_kind w period room g n b k s r l e
u16-none w period room (MapPolynomial g d) b k s r l e = had e
u16-none w period room (GainMap g pv ph gr mp) b k s r l e = had e
u16-none w period room (DeltaPerRow g n) b k s r l e = had e
u16-none w period room (DeltaPerColumn g n) b k s r l e = had e
u16-none w period room (ScalePerRow g n) b k s r l e = had e
u16-none w period room (ScalePerColumn g n) b k s r l e = had e
u16-none w period room (Other i) b k s r l e = refl

pub no-effect : NoEffect
no-effect = record { f32 = f32-none; u16 = u16-none }
