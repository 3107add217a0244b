-- The promises at work on P5 of document 01, 'Bench frames': u16 10 0 19, a repair of the constant 0, period 1. With one mark of scratch it is done;
-- without it, it is 5 at opcode 0 with the samples as they were. One mark is enough for two planes too; and a run that goes on past one repair can meet 5
-- at the next, with what the first has written. Assumes nothing.
use Prim.Native.Nat.{ℕ}
use mathlib.Core.Path.{◌≡◌, refl, ap, ◌∙◌}
use mathlib.Core.Bool.{false}
use mathlib.Core.List.{List, [], ◌∷◌}
use lib.Ieee.{fin, of_int, round, mul, div, add, eq, units, odd, size, span, climb}
use lib.IntN.{negsuc}
use Rattle.num_words.specs.Words.{big}
use Rattle.pointwise.specs.Points.{each}
use Rattle.num_round.specs.Whole.{round_held}
use Rattle.dng.specs.declared.Window.{Window}
use Rattle.dng.specs.declared.Answer.TheVariants as Ans
use Rattle.dng.specs.List.{reading_of, items_of, counted, read_from, step_at, next_at, parsed_at, constant_at, trim_at, bad_list_at}
use Rattle.dng.specs.Select.{in_window, active, whole_pixel}
use Rattle.dng.specs.Repair.{any_below, count_below, complete, point_at, rect_at, listed, bad_value, marks_of, marked_in, repaired_in, left_in, moved, sound, tally_on, repair_at, sound_on}
use Rattle.dng.specs.Run.{kept_of, Room, names_of, takes16_on, takes16_from, repair_on, perform_all}
use Rattle.dng.specs.Answer.{Out, in_range, ran_on, run_out, f32_out, u16_out}
use Rattle.dng.specs.Frames.{words, entry, constant, frame, list_of, out, whole}
use Rattle.law_promises.specs.Promises.{End, Meets, u16_call, Totals}
use Rattle.law_promises.proofs.Theorems.{adds-up}

abbrev room : ℕ → Room
room m = record { marks = m }

abbrev window : Window
window = frame 3 1

abbrev list : List ℕ
list = list_of (constant 0 ∷ [])

abbrev samples : List ℕ
samples = 10 ∷ 0 ∷ 19 ∷ []

abbrev run : Room → Out ℕ
run r = u16_out window 1 false r list samples []

-- so many planes
abbrev deep : ℕ → Window
deep n = record { width = 3; height = 1; planes = n; stride = 3; x0 = 0; y0 = 0; full_width = 3; full_height = 1 }

-- a trim, and a repair of the listed rectangle of row 0, columns 0 and 1
abbrev trim : List ℕ
trim = entry 6 (words (0 ∷ 0 ∷ 0 ∷ 0 ∷ []))

abbrev pair : List ℕ
pair = entry 5 (words (0 ∷ 0 ∷ 1 ∷ 0 ∷ 0 ∷ 1 ∷ 2 ∷ []))

record Computed : Type 0 where
  enough : run (room 1) ≡ out (Ans.Done 0 1 0) (10 ∷ 15 ∷ 19 ∷ []) []
  marks : run (room 0) ≡ out (Ans.Marks 0) samples []
  planes : u16_out (deep 2) 1 false (room 1) list (10 ∷ 20 ∷ 0 ∷ 0 ∷ 19 ∷ 29 ∷ []) [] ≡ out (Ans.Done 0 1 0) (10 ∷ 20 ∷ 15 ∷ 25 ∷ 19 ∷ 29 ∷ []) []
  later : f32_out window (record { period = 1; scale = whole 1; preview = false }) (room 1) (list_of (constant 0 ∷ pair ∷ []))
      (whole 10 ∷ whole 0 ∷ whole 19 ∷ []) []
      ≡ out (Ans.Marks 1) (whole 10 ∷ fin false 29 (negsuc 0) ∷ whole 19 ∷ []) []
  -- the order of the refusals: nine planes and a list that is cut, two repairs and no room for a name
  range-first : u16_out (deep 9) 1 false (room 1) (1 ∷ []) samples [] ≡ out Ans.Range samples []
  not-taken-first : u16_out window 1 false (room 1) (list_of (constant 0 ∷ constant 0 ∷ trim ∷ [])) samples [] ≡ out Ans.NotTaken samples []

computed : Computed
unfolding big each round_held reading_of items_of counted read_from step_at next_at parsed_at constant_at trim_at bad_list_at in_window active whole_pixel any_below
    count_below complete point_at rect_at listed bad_value marks_of moved sound tally_on repair_at sound_on marked_in repaired_in left_in kept_of names_of takes16_on
    takes16_from
    repair_on perform_all in_range ran_on run_out of_int round units odd size span climb mul div add eq
computed = record { enough = refl; marks = refl; planes = refl; later = refl; range-first = refl; not-taken-first = refl }

-- whatever meets the contract has this answer and these samples, and the totals of the definition
pub worked : (e : End ℕ) → Meets (run (room 1)) (room 1) e → (e.answer ≡ Ans.Done 0 1 0) × (e.samples ≡ 10 ∷ 15 ∷ 19 ∷ [])
worked e ran = (ran.answered ∙ ap (λ (o : Out ℕ). o.answer) computed.enough, ran.left ∙ ap (λ (o : Out ℕ). o.samples) computed.enough)

pub worked-totals : (e : End ℕ) → Meets (run (room 1)) (room 1) e → Totals (u16_call window 1 false (room 1) list samples []) 1 0
worked-totals e ran = adds-up ℕ (u16_call window 1 false (room 1) list samples []) e ran 0 1 0 (worked e ran).0
