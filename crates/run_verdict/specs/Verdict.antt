-- Whether a frame is whole. Document 02, M-103: it is when the run answers 0 and every opcode without the optional flag
-- had its effect. It takes the place of document 01's verdict, in both forms. Of a preview the entries that are left
-- count, and no others (M-111).
use Rattle.std.specs.Prelude.{ℕ, Bool, true, false, ◌&&◌, ◌||◌, List, [], ◌∷◌, ◌↔◌, ◌≡◌, eqb, Float, drop}
use Rattle.dng.specs.declared.Window.{Window}
use Rattle.dng.specs.declared.Opcode.{Opcode}
use Rattle.dng.specs.declared.Opcode.TheVariants.{WarpRectilinear, WarpFisheye, FixVignetteRadial, FixBadPixelsConstant, FixBadPixelsList, TrimBounds, MapTable, MapPolynomial, GainMap, DeltaPerRow, DeltaPerColumn, ScalePerRow, ScalePerColumn, Other}
use Rattle.dng.specs.List.{Item, optional_of}
use Rattle.dng.specs.Value.{Frame, one, m2_of, usable}
use Rattle.dng.specs.declared.Class.{Class}
use Rattle.dng.specs.declared.Class.TheVariants.{Table, Empty, Local, Repair, Unapplied}
use Rattle.dng.specs.Run.{kept_in, class_of, f32_kind, u16_kind, Room, going, perform_on}
use Rattle.dng.specs.Answer.{frame_of}

-- "not skipped, not an empty table"
abbrev pub applied : Class → Bool
applied Table = true
applied Empty = false
applied Local = true
applied Repair = true
applied Unapplied = false

-- a vignette's m2 goes by the full size alone, whatever the window and the scale
abbrev pub sized : (full_width full_height : ℕ) → Frame
sized fw fh = record { scale = one; full_width = fw; full_height = fh }

-- "not a vignette whose m2 is refused"
abbrev pub reaches : (full_width full_height : ℕ) → Opcode → Bool
reaches fw fh (WarpRectilinear n cx cy) = true
reaches fw fh WarpFisheye = true
reaches fw fh (FixVignetteRadial q) = usable (m2_of (sized fw fh) q)
reaches fw fh (FixBadPixelsConstant c p) = true
reaches fw fh (FixBadPixelsList p np nr) = true
reaches fw fh (TrimBounds t l bm r) = true
reaches fw fh (MapTable r n) = true
reaches fw fh (MapPolynomial r d) = true
reaches fw fh (GainMap r pv ph g mp) = true
reaches fw fh (DeltaPerRow r n) = true
reaches fw fh (DeltaPerColumn r n) = true
reaches fw fh (ScalePerRow r n) = true
reaches fw fh (ScalePerColumn r n) = true
reaches fw fh (Other i) = true

-- an opcode whose region selects no sample had its effect
abbrev pub had_effect : (full_width full_height : ℕ) → Opcode → Bool
had_effect fw fh op = applied (class_of op) && reaches fw fh op

-- "every opcode without the optional flag had its effect"
unfoldable pub whole_items : (full_width full_height : ℕ) → List Item → Bool
whole_items fw fh [] = true
whole_items fw fh (i ∷ is) = (optional_of i.entry || had_effect fw fh i.op) && whole_items fw fh is

-- of a list; a caller by rows, which have no verdict of their own, asks this once
abbrev pub whole_list : (full_width full_height : ℕ) → (preview : Bool) → List ℕ → Bool
whole_list fw fh preview list = whole_items fw fh (kept_in preview list)

-- of a frame, by the number that the run over it answered
abbrev pub whole_frame : (full_width full_height : ℕ) → (preview : Bool) → List ℕ → (number : ℕ) → Bool
whole_frame fw fh preview list number = eqb number 0 && whole_list fw fh preview list

-- A frame is whole exactly when its run answered 0 and each opcode that is left and has no optional flag had its
-- effect. proofs/Exactly proves it.
abbrev pub ExactlyWhole : Type 0
ExactlyWhole =
    (fw fh : ℕ) (preview : Bool) (list : List ℕ) (number : ℕ)
    → (whole_frame fw fh preview list number ≡ true)
    ↔ ((number ≡ 0) × ((n : ℕ) (i : Item) (rest : List Item) → drop n (kept_in preview list) ≡ i ∷ rest
    → optional_of i.entry ≡ false → had_effect fw fh i.op ≡ true))

-- The verdict is not too strict: an opcode that had no effect changed no sample and no total, in the f32 run as in the
-- whole-number run. proofs/Quiet proves it.
pub record NoEffect : Type 0 where
  pub f32 : (w : Window) (scale : Float) (period : ℕ) (room : Room) (op : Opcode) (b : List ℕ) (k : ℕ) (s : List Float)
      (r l : ℕ) → had_effect w.full_width w.full_height op ≡ false
      → perform_on (f32_kind (frame_of w scale)) w period room (class_of op) op b k s r l ≡ going s r l
  pub u16 : (w : Window) (period : ℕ) (room : Room) (op : Opcode) (b : List ℕ) (k : ℕ) (s : List ℕ) (r l : ℕ)
      → had_effect w.full_width w.full_height op ≡ false
      → perform_on u16_kind w period room (class_of op) op b k s r l ≡ going s r l
