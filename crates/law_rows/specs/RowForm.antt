-- Demand 3, the row form: every row once, in any order, under its own number, equals the whole-window run. Document 01,
-- 'Taken and left', the row form; data that ends early included. The run goes opcode by opcode over the window
-- (specs/Run of dng); here each row goes through all opcodes on its own. In a preview both go by what is left of the
-- list (document 02, M-111).
use Rattle.std.specs.Prelude.{ℕ, ◌+◌, ◌-◌, ◌*◌, ◌≤◌, ◌<◌, min, Bool, true, cond, List, [], ◌∷◌, ◌++◌, ◌≡◌, eqb, ltb, Float, length, take, drop, Ok}
use Rattle.dng.specs.declared.Window.{Window}
use Rattle.dng.specs.declared.RowWindow.{RowWindow}
use Rattle.dng.specs.declared.Settings.{Settings}
use Rattle.dng.specs.declared.Answer.TheVariants as Ans
use Rattle.dng.specs.declared.RowAnswer.TheVariants as Row
use Rattle.dng.specs.List.{reading_of}
use Rattle.dng.specs.Run.{kept_in, Room, names_of, skipped, takes_rows}
use Rattle.dng.specs.Answer.{in_range, f32_out, row_out}

-- how often y stands in ys
unfoldable pub occurs : ℕ → List ℕ → ℕ
occurs y [] = 0
occurs y (z ∷ zs) = cond (eqb y z) 1 0 + occurs y zs

-- each row of a window of height h stands exactly once, and nothing else does: any order of the rows
abbrev pub Once : (h : ℕ) → List ℕ → Type 0
Once h ys = (y : ℕ) → occurs y ys ≡ cond (ltb y h) 1 0

-- where row y of the window starts in n lent samples, and how many of them it has: width·planes, or what the data has
-- left
abbrev pub row_start : Window → ℕ → ℕ
row_start w y = y * (w.stride * w.planes)

abbrev pub row_length : Window → (n y : ℕ) → ℕ
row_length w n y = min (w.width * w.planes) (n - row_start w y)

-- the row, lent from its own start
abbrev pub row_part : {A : Type 0} → Window → ℕ → List A → List A
row_part w y s = take (row_length w (length s) y) (drop (row_start w y) s)

-- the samples with the row put back
abbrev pub row_put : {A : Type 0} → Window → ℕ → List A → List A → List A
row_put w y row s = take (row_start w y) s ++ (row ++ drop (row_length w (length s) y) (drop (row_start w y) s))

abbrev pub row_window_of : Window → RowWindow
row_window_of w =
    record {
      width = w.width;
      planes = w.planes;
      x0 = w.x0;
      full_width = w.full_width;
      full_height = w.full_height;
    }

-- one row call on row y of the window, under its own number y0 + y
abbrev pub one_row : Window → (scale : Float) → (preview : Bool) → List ℕ → (y : ℕ) → List Float → List Float
one_row w scale preview list y s =
    row_put w y (row_out (row_window_of w) scale preview (w.y0 + y) list (row_part w y s)).row s

-- the rows ys, one after another, through one list of samples
unfoldable pub all_rows : Window → (scale : Float) → (preview : Bool) → List ℕ → List ℕ → List Float → List Float
all_rows w scale preview list [] s = s
all_rows w scale preview list (y ∷ ys) s = all_rows w scale preview list ys (one_row w scale preview list y s)

-- what the row form promises
pub record RowForm (w : Window) (set : Settings) (room : Room) (list : List ℕ) (s : List Float) (names : List ℕ)
    (ys : List ℕ) : Type 0 where
  -- every row call answers 0, whatever the samples are by then
  pub calls : (y : ℕ) (t : List Float) → y < w.height
      → (row_out (row_window_of w) set.scale set.preview (w.y0 + y) list (row_part w y t)).answer
      ≡ Row.Done (length (names_of skipped (kept_in set.preview list)))
  -- and so does the run, with nothing repaired and nothing left
  pub run : (f32_out w set room list s names).answer
      ≡ Ans.Done (length (names_of skipped (kept_in set.preview list))) 0 0
  pub samples : all_rows w set.scale set.preview list ys s ≡ (f32_out w set room list s names).samples

-- when it does
pub record RowFormIf (w : Window) (set : Settings) (list names ys : List ℕ) : Type 0 where
  pub ranges : in_range w set.period ≡ true
  pub opcodes : ℕ
  pub whole : reading_of list ≡ Ok opcodes
  pub taken : takes_rows (kept_in set.preview list) ≡ true
  pub wide : 1 ≤ w.width
  pub strided : w.width ≤ w.stride
  pub roomy : length (names_of skipped (kept_in set.preview list)) ≤ length names
  pub once : Once w.height ys

-- the theorem's statement; proofs/Theorem proves it
abbrev pub RowFormHolds : Type 0
RowFormHolds =
    (w : Window) (set : Settings) (room : Room) (list : List ℕ) (s : List Float) (names ys : List ℕ)
    → RowFormIf w set list names ys → RowForm w set room list s names ys
