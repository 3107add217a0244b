-- A repair never reads what it has written: it reads unmarked positions, and writes marked ones. So the marked
-- positions may be repaired one after another, each from the samples as they are by then and written at once: that is
-- the repair as dng/specs/Repair has it, from the samples at its start. Over any sample kind. Document 02, M-104.
use Rattle.std.specs.Prelude.{ℕ, ◌+◌, ◌*◌, ◌≤◌, ◌<◌, Bool, true, false, cond, List, [], ◌∷◌, ◌≡◌, eqb, Float, get_or}
use Rattle.pointwise.specs.Points.{each}
use Rattle.dng.specs.declared.Window.{Window}
use Rattle.dng.specs.Select.{in_window, row_of, column_of}
use Rattle.dng.specs.Repair.{positions, repair_at}
use Rattle.num_sorted.specs.Sorts.{has}

-- the position that sample j belongs to
abbrev pub position_of : Window → ℕ → ℕ
position_of w j = row_of w j * w.width + column_of w j

module _ {A : Type 0} (d : A) (to_float : A → Float) (of_mean : Float → A)
    (w : Window) (period : ℕ) (bad : ℕ → Bool) where
  -- position q alone, from the samples s
  abbrev pub one_at : ℕ → List A → List A
  one_at q s = each (λ j v. cond (eqb (position_of w j) q) (repair_at d to_float of_mean w period bad s j v) v) s

  -- one position after another
  unfoldable pub in_place : List ℕ → List A → List A
  in_place [] s = s
  in_place (q ∷ qs) s = in_place qs (one_at q s)

  -- t has the samples of s at the unmarked positions of the window
  abbrev pub Agrees : (s t : List A) → Type 0
  Agrees s t = (j : ℕ) → in_window w j ≡ true → bad (position_of w j) ≡ false → get_or t j d ≡ get_or s j d

-- what a repair reads: unmarked positions of the window, and nothing else
abbrev pub ReadsUnmarked : Type 1
ReadsUnmarked =
    (A : Type 0) (d : A) (to_float : A → Float) (of_mean : Float → A)
    (w : Window) (period : ℕ) (bad : ℕ → Bool) (s t : List A)
    → 1 ≤ w.planes → Agrees d to_float of_mean w period bad s t → (j : ℕ) (v : A)
    → repair_at d to_float of_mean w period bad t j v ≡ repair_at d to_float of_mean w period bad s j v

-- the list qs has every marked position; its order, repetitions and other entries are its own
abbrev pub InPlace : Type 1
InPlace =
    (A : Type 0) (d : A) (to_float : A → Float) (of_mean : Float → A)
    (w : Window) (period : ℕ) (bad : ℕ → Bool) (s : List A)
    → 1 ≤ w.planes → (qs : List ℕ) → ((q : ℕ) → q < positions w → bad q ≡ true → has qs q ≡ true)
    → in_place d to_float of_mean w period bad qs s ≡ each (repair_at d to_float of_mean w period bad s) s
