-- Demand 3, the whole-number form: it equals widen, run at scale 1, round once and hold. The two runs go by different
-- rules (specs/Run of dng: f32_kind and u16_kind); this is the bridge.
use Rattle.std.specs.Prelude.{ℕ, ◌≤◌, ◌<◌, Bool, true, cond, List, [], ◌∷◌, map, ◌≡◌, eqb, Float, length, get_or, Ok}
use Rattle.std.specs.Float.{binary32}
use Rattle.num_round.specs.Whole.{round_held}
use Rattle.num_convert.specs.Convert.{whole_in}
use Rattle.dng.specs.declared.Window.{Window}
use Rattle.dng.specs.declared.Settings.{Settings}
use Rattle.dng.specs.declared.Answer.TheVariants as Ans
use Rattle.dng.specs.List.{reading_of}
use Rattle.dng.specs.Value.{one}
use Rattle.dng.specs.Repair.{positions}
use Rattle.dng.specs.Run.{kept_in, Room, names_of, skipped, skipped16, takes16}
use Rattle.dng.specs.Answer.{in_range, f32_out, u16_out}

-- every element is below n: what a slice of u8 or u16 is
abbrev pub Below : ℕ → List ℕ → Type 0
Below n l = (i : ℕ) → i < length l → get_or l i 0 < n

-- u16 samples as f32, and back: rounded once, half away from zero, and held to 0..65535
abbrev pub widened : List ℕ → List Float
widened s = map (λ (v : ℕ). whole_in binary32 v) s

abbrev pub narrowed : List Float → List ℕ
narrowed s = map (λ (v : Float). round_held 65535 v) s

-- the names but for empty tables: 7 names nothing else, since a table with entries is never skipped
unfoldable pub without_tables : List ℕ → List ℕ
without_tables [] = []
without_tables (n ∷ ns) = cond (eqb n 7) (without_tables ns) (n ∷ without_tables ns)

-- room enough for any repair of the window, in the scratch's length
pub record Enough (w : Window) (room : Room) : Type 0 where
  pub marks : positions w ≤ room.marks

abbrev pub at_one : ℕ → (preview : Bool) → Settings
at_one period preview = record { period = period; scale = one; preview = preview }

-- what the whole-number form promises; names and names' are the two runs' skip buffers
pub record WholeForm (w : Window) (period : ℕ) (preview : Bool) (room room' : Room) (list s names names' : List ℕ)
    : Type 0 where
  -- both runs answer 0, with the same totals
  pub repaired : ℕ
  pub left : ℕ
  pub run16 : (u16_out w period preview room list s names).answer
      ≡ Ans.Done (length (names_of skipped16 (kept_in preview list))) repaired left
  pub run32 : (f32_out w (at_one period preview) room' list (widened s) names').answer
      ≡ Ans.Done (length (names_of skipped (kept_in preview list))) repaired left
  pub samples : (u16_out w period preview room list s names).samples
      ≡ narrowed (f32_out w (at_one period preview) room' list (widened s) names').samples
  pub named : names_of skipped16 (kept_in preview list) ≡ without_tables (names_of skipped (kept_in preview list))

-- when it does
pub record WholeFormIf (w : Window) (period : ℕ) (preview : Bool) (room room' : Room) (list s names names' : List ℕ)
    : Type 0 where
  pub bytes : Below 256 list
  pub words : Below 65536 s
  pub ranges : in_range w period ≡ true
  pub opcodes : ℕ
  pub whole : reading_of list ≡ Ok opcodes
  pub taken : takes16 (kept_in preview list) ≡ true
  pub enough : Enough w room
  pub enough' : Enough w room'
  pub roomy : length (names_of skipped16 (kept_in preview list)) ≤ length names
  pub roomy' : length (names_of skipped (kept_in preview list)) ≤ length names'

-- the theorem's statement; proofs/Theorem proves it
abbrev pub WholeFormHolds : Type 0
WholeFormHolds =
    (w : Window) (period : ℕ) (preview : Bool) (room room' : Room) (list s names names' : List ℕ)
    → WholeFormIf w period preview room room' list s names names'
    → WholeForm w period preview room room' list s names names'
