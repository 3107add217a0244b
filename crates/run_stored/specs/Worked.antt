-- Worked frames, each by computing: which run a list goes to, and how the f32 run's samples come back.
use Rattle.std.specs.Prelude.{ℕ, ◌≡◌, refl, true, false, List, [], ◌∷◌, ◌++◌, Result, Ok, Err}
use Rattle.std.specs.Float.{binary32}
use Rattle.std.specs.Float.Ieee.{of_bits, of_fields, of_int, round, units, odd, size, span, climb, mul, div, add, eq}
use Rattle.std.specs.Int.Count.{count_trailing_zeros}
use Rattle.num_words.specs.Words.{big}
use Rattle.pointwise.specs.Points.{each}
use Rattle.pointwise.specs.Select.{selects, on_columns}
use Rattle.num_round.specs.Whole.{round_held}
use Rattle.dng.specs.declared.Window.{Window}
use Rattle.dng.specs.declared.Answer.TheVariants as Ans
use Rattle.dng.specs.declared.Reason.TheVariants as Why
use Rattle.dng.specs.List.{refusal, reading_of, items_of, why_of, counted, read_from, step_at, next_at, parsed_at, constant_at, counted_at}
use Rattle.dng.specs.Select.{on_region, on_window, in_window, active, whole_pixel}
use Rattle.dng.specs.Value.{nth, scaled}
use Rattle.dng.specs.Repair.{any_below, count_below, complete, bad_value, marks_of, moved, sound, tally_on, repair_at, sound_on, marked_in, repaired_in, left_in}
use Rattle.dng.specs.Run.{kept_of, names_of, takes16_on, takes16_from, repair_on, perform_all, Room}
use Rattle.dng.specs.Answer.{in_range, ran_on, run_out}
use Rattle.dng.specs.Frames.{words, entry}
use Rattle.run_verdict.specs.Verdict.{whole_items}
use Rattle.run_stored.specs.declared.Mended.{Mended}
use Rattle.run_stored.specs.declared.NoRoom.{NoRoom}
use Rattle.run_stored.specs.declared.Mended.TheVariants.{Whole, Widened}
use Rattle.run_stored.specs.Mend.{MendOut, whole_mended, held_in, lacks_room, mend_out, held_above}

abbrev constant : ℕ → List ℕ
constant c = entry 4 (words (c ∷ 0 ∷ []))

-- the same, to be skipped for a preview
abbrev flagged : ℕ → List ℕ
flagged c = words (4 ∷ 16973824 ∷ 2 ∷ 8 ∷ c ∷ 0 ∷ [])

-- row 0 times 0.5, times 2^20
abbrev halved : List ℕ
halved = entry 12 (words (0 ∷ 0 ∷ 1 ∷ 9 ∷ 0 ∷ 1 ∷ 1 ∷ 1 ∷ 1 ∷ 0x3f00_0000 ∷ []))

abbrev raised : List ℕ
raised = entry 12 (words (0 ∷ 0 ∷ 1 ∷ 9 ∷ 0 ∷ 1 ∷ 1 ∷ 1 ∷ 1 ∷ 0x4980_0000 ∷ []))

abbrev one_of : List ℕ → List ℕ
one_of e = words (1 ∷ []) ++ e

abbrev frame : ℕ → Window
frame w = record { width = w; height = 1; planes = 1; stride = w; x0 = 0; y0 = 0; full_width = w; full_height = 1 }

abbrev room : Room
room = record { marks = 8 }

abbrev out : Result Mended NoRoom → List ℕ → MendOut
out a s = record { answer = a; samples = s; names = [] }

pub record Worked : Type 0 where
  -- one repair: the whole-number run, with no room for f32
  pub whole : mend_out (frame 3) 1 false room 0 (one_of (constant 0)) (10 ∷ 0 ∷ 19 ∷ []) []
      ≡ out (Ok (Whole (Ans.Done 0 1 0))) (10 ∷ 15 ∷ 19 ∷ [])
  -- two repairs: the f32 run, whose 14.5 comes back as 15
  pub twice :
      mend_out (frame 3) 1 false room 3 (words (2 ∷ []) ++ (constant 0 ++ constant 99)) (10 ∷ 0 ∷ 19 ∷ []) []
      ≡ out (Ok (Widened (Ans.Done 0 1 0) 0)) (10 ∷ 15 ∷ 19 ∷ [])
  -- 0.5, 1, 1.5, 2.5, 32767.5: half away from zero
  pub halves :
      mend_out (frame 5) 1 false room 5 (one_of halved) (1 ∷ 2 ∷ 3 ∷ 5 ∷ 65535 ∷ []) []
      ≡ out (Ok (Widened (Ans.Done 0 0 0) 0)) (1 ∷ 1 ∷ 2 ∷ 3 ∷ 32768 ∷ [])
  -- held to 65535, and counted
  pub held : mend_out (frame 2) 1 false room 2 (one_of raised) (0 ∷ 1 ∷ []) []
      ≡ out (Ok (Widened (Ans.Done 0 0 0) 1)) (0 ∷ 65535 ∷ [])
  -- room for two samples as f32, and three are lent
  pub no_room : mend_out (frame 3) 1 false room 2 (one_of halved) (1 ∷ 2 ∷ 3 ∷ []) [] ≡ out (Err lacks_room) (1 ∷ 2 ∷ 3 ∷ [])
  -- a list that no run reads, and no room either
  pub malformed : mend_out (frame 3) 1 false room 0 [] (1 ∷ 2 ∷ 3 ∷ []) []
      ≡ out (Ok (Whole (Ans.Malformed 0 (refusal Why.Ends 0)))) (1 ∷ 2 ∷ 3 ∷ [])
  -- a preview: of two repairs the second is left out, so that the whole-number run takes the list
  pub preview : mend_out (frame 3) 1 true room 0 (words (2 ∷ []) ++ (constant 0 ++ flagged 99)) (10 ∷ 0 ∷ 19 ∷ []) []
      ≡ out (Ok (Whole (Ans.Done 0 1 0))) (10 ∷ 15 ∷ 19 ∷ [])
  -- no room for marks at the second opcode: as after the first, rounded
  pub full :
      mend_out (frame 3) 1 false (record { marks = 0 }) 3 (words (2 ∷ []) ++ (halved ++ constant 0)) (1 ∷ 0 ∷ 5 ∷ []) []
      ≡ out (Ok (Widened (Ans.Marks 1) 0)) (1 ∷ 0 ∷ 3 ∷ [])
  -- the verdict goes by the number: mended by a list of no entries, and not mended for lack of room
  pub mended-whole : whole_mended 1 1 false (words (0 ∷ [])) (Ok (Whole (Ans.Done 0 0 0))) ≡ true
  pub no-room-not-whole : whole_mended 1 1 false (words (0 ∷ [])) (Err lacks_room) ≡ false
  -- at 65535 the one that was held to it; at 200 two, of which one was held to 65535 first; 65600.0, 300.0 and 7.0 by
  -- their bits
  pub above-last : held_above 65535 (of_bits binary32 0x4780_2000 ∷ []) ≡ 1
  pub above : held_above 200 (of_bits binary32 0x4396_0000 ∷ of_bits binary32 0x4780_2000 ∷ of_bits binary32 0x40e0_0000 ∷
      []) ≡ 2

pub worked : Worked
unfolding whole_items mend_out held_in held_above big each selects on_columns round_held reading_of items_of why_of counted
    read_from step_at next_at parsed_at constant_at counted_at on_region on_window in_window active whole_pixel nth scaled any_below
    count_below complete bad_value marks_of moved sound tally_on repair_at sound_on marked_in repaired_in left_in kept_of names_of takes16_on
    takes16_from repair_on perform_all in_range ran_on run_out of_bits of_fields odd count_trailing_zeros of_int round units size span
    climb mul div add eq
worked = record {
  whole = refl;
  twice = refl;
  halves = refl;
  held = refl;
  no_room = refl;
  malformed = refl;
  preview = refl;
  full = refl;
  mended-whole = refl;
  no-room-not-whole = refl;
  above-last = refl;
  above = refl;
}
