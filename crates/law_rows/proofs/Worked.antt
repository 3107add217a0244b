-- A worked instance: two rows of two pixels with two planes, a gap of one pixel, the second row cut in the middle of its second pixel, and ScalePerRow.
-- The theorem's hypotheses can be met, and the samples it speaks of are these, by computing, from the rows and from the run.
use Prim.Native.Nat.{ℕ, zero, suc, ◌+◌, ◌/◌, ◌%◌}
use mathlib.Core.Path.{◌≡◌, refl, sym, ap, ap₂, ◌∙◌}
use mathlib.Core.Bool.{Bool, false, cond}
use mathlib.Core.List.{List, [], ◌∷◌, map}
use native.Mathlib.Omega.{arith}
use borrow.Author.Tests.{le-ltb, ne_eqb}
use lib.Ieee.{Float, binary32, of_int, of_bits, round, mul, units, odd, size, span, climb}
use lib.IntN.{pos}
use Rattle.num_words.specs.Words.{big}
use Rattle.pointwise.specs.Points.{each}
use Rattle.pointwise.specs.Select.{selects, on_columns}
use Rattle.dng.specs.declared.Window.{Window}
use Rattle.dng.specs.declared.Settings.{Settings}
use Rattle.dng.specs.declared.Answer.TheVariants as Ans
use Rattle.dng.specs.List.{reading_of, items_of, counted, read_from, step_at, next_at, parsed_at, counted_at}
use Rattle.dng.specs.Select.{on_region, on_window, on_row, in_window, active, whole_pixel}
use Rattle.dng.specs.Value.{nth, scaled}
use Rattle.dng.specs.Run.{kept_of, names_of, takes_rows, perform_all, row_on, Room}
use Rattle.dng.specs.Answer.{in_range, row_in_range, ran_on, run_out, f32_out, row_out}
use Rattle.law_rows.specs.RowForm.{occurs, Once, all_rows, RowForm, RowFormIf}
use Rattle.law_rows.proofs.Theorem.{row-form}

abbrev words : List ℕ → List ℕ
words [] = []
words (n ∷ ns) = n / 16777216 % 256 ∷ n / 65536 % 256 ∷ n / 256 % 256 ∷ n % 256 ∷ words ns

-- one ScalePerRow over rows 0..3, columns 0..2 and both planes: by 8 on row 0, by 2 on row 1, by 4 on row 2
abbrev list : List ℕ
list = words (1 ∷ 12 ∷ 16973824 ∷ 0 ∷ 48 ∷ 0 ∷ 0 ∷ 3 ∷ 2 ∷ 0 ∷ 2 ∷ 1 ∷ 1 ∷ 3 ∷ 0x41000000 ∷ 0x40000000 ∷ 0x40800000 ∷ [])

-- the image's rows 1 and 2
abbrev window : Window
window = record { width = 2; height = 2; planes = 2; stride = 3; x0 = 0; y0 = 1; full_width = 2; full_height = 3 }

abbrev whole : ℕ → Float
whole n = of_int binary32 (pos n)

abbrev settings : Settings
settings = record { period = 1; scale = whole 1; preview = false }

abbrev room : Room
room = record { marks = 0 }

-- nine samples: the first row, the gap, and a pixel and a half of the second row
abbrev before : List Float
before = map whole (1 ∷ 2 ∷ 3 ∷ 4 ∷ 5 ∷ 6 ∷ 7 ∷ 8 ∷ 9 ∷ [])

abbrev after : List Float
after = map whole (2 ∷ 4 ∷ 6 ∷ 8 ∷ 5 ∷ 6 ∷ 28 ∷ 32 ∷ 36 ∷ [])

-- the second row first
abbrev order : List ℕ
order = 1 ∷ 0 ∷ []

once : Once 2 order
unfolding occurs
once zero = refl
once (suc zero) = refl
once (suc (suc y)) =
    ap₂ (λ (b c : Bool). cond b 1 0 + (cond c 1 0 + 0)) (ne_eqb (suc (suc y)) 1 (λ z. omega arith)) (ne_eqb (suc (suc y)) 0 (λ z. omega arith))
    ∙ sym (ap (λ (b : Bool). cond b 1 0) (le-ltb (suc (suc y)) 2 (omega arith)))

-- the hypotheses hold
pub held : RowFormIf window settings list [] order
unfolding big reading_of items_of counted read_from step_at next_at parsed_at counted_at kept_of names_of takes_rows in_range
held =
    record {
      ranges = refl;
      opcodes = 1;
      whole = refl;
      taken = refl;
      wide = omega arith;
      strided = omega arith;
      roomy = omega arith;
      once = once;
    }

-- what the theorem says of it
pub worked : RowForm window settings room list before [] order
worked = row-form window settings room list before [] order held

-- both sides, computed
pub rows-worked : all_rows window settings.scale settings.preview list order before ≡ after
unfolding big each selects on_columns reading_of items_of counted read_from step_at next_at parsed_at counted_at on_region on_window on_row in_window active whole_pixel nth
    scaled kept_of names_of takes_rows perform_all row_on in_range row_in_range ran_on run_out row_out all_rows of_int round units odd size span climb mul of_bits
rows-worked = refl

pub run-worked : f32_out window settings room list before [] ≡ record { answer = Ans.Done 0 0 0; samples = after; names = [] }
unfolding big each selects on_columns reading_of items_of counted read_from step_at next_at parsed_at counted_at on_region on_window on_row in_window active whole_pixel nth
    scaled kept_of names_of takes_rows perform_all row_on in_range row_in_range ran_on run_out row_out all_rows of_int round units odd size span climb mul of_bits
run-worked = refl
