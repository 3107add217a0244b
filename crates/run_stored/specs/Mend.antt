-- What mending a frame of whole numbers gives: the whole-number run's result where that run takes the list; otherwise
-- the samples as f32, the f32 run at scale 1, and each sample rounded to whole, half away from zero, and held to
-- 0..65535.
use Rattle.std.specs.Prelude.{ℕ, ◌+◌, ◌≤◌, Bool, true, false, cond, List, [], ◌∷◌, ◌≡◌, leb, ltb, eqb, Float, length, replicate, Result, Ok, Err}
use Rattle.num_round.specs.Whole.{round_held}
use Rattle.dng.specs.declared.Window.{Window}
use Rattle.dng.specs.declared.Numbers.{Numbers}
use Rattle.dng.specs.declared.Answer.{Answer}
use Rattle.dng.specs.declared.Answer.TheVariants as Ans
use Rattle.dng.specs.Value.{nought}
use Rattle.dng.specs.Run.{Room}
use Rattle.dng.specs.Answer.{Out, f32_out, u16_out, numbers_of as paper}
use Rattle.law_wholes.specs.WholeForm.{Below, widened, narrowed, at_one}
use Rattle.run_verdict.specs.Verdict.{whole_frame}
use Rattle.say_pgm.specs.Pgm.{over}
use Rattle.run_stored.specs.declared.Mended.{Mended}
use Rattle.run_stored.specs.declared.Mended.TheVariants.{Whole, Widened}
use Rattle.run_stored.specs.declared.NoRoom.{NoRoom}

-- the refusal 3 of the whole-number run: the ranges and the list are in order, and the form does not take the list
abbrev pub not_taken : Answer → Bool
not_taken (Ans.Done n r l) = false
not_taken Ans.Range = false
not_taken (Ans.Malformed k why) = false
not_taken Ans.NotTaken = true
not_taken Ans.Names = false
not_taken (Ans.Marks k) = false

-- the refusals that come before the first opcode
abbrev pub early : Answer → Bool
early (Ans.Done n r l) = false
early Ans.Range = true
early (Ans.Malformed k why) = true
early Ans.NotTaken = true
early Ans.Names = true
early (Ans.Marks k) = false

abbrev pub early_mended : Result Mended NoRoom → Bool
early_mended (Ok (Whole a)) = early a
early_mended (Ok (Widened a n)) = early a
early_mended (Err e) = true

-- the paper's number and values; too little room for the samples as f32 is 80, which no run and no reading answers
abbrev pub numbers_of : Result Mended NoRoom → Numbers
numbers_of (Ok (Whole a)) = paper a
numbers_of (Ok (Widened a n)) = paper a
numbers_of (Err e) = record { number = 80; entry = 0; offset = 0; opcode = 0; names = 0; repaired = 0; left = 0 }

-- the verdict of a frame that was mended (run_verdict/specs/Verdict)
abbrev pub whole_mended : (full_width full_height : ℕ) → (preview : Bool) → List ℕ → Result Mended NoRoom → Bool
whole_mended fw fh preview list m = whole_frame fw fh preview list (numbers_of m).number

pub record MendOut : Type 0 where
  pub answer : Result Mended NoRoom
  pub samples : List ℕ
  pub names : List ℕ

abbrev pub whole_out : Out ℕ → MendOut
whole_out o = record { answer = Ok (Whole o.answer); samples = o.samples; names = o.names }

-- how many samples are above 65535 once rounded: those that are lowered to it
unfoldable pub held_in : List Float → ℕ
held_in [] = 0
held_in (v ∷ s) = cond (eqb (round_held 65536 v) 65536) 1 0 + held_in s

abbrev pub rounded_out : Out Float → MendOut
rounded_out o = record {
  answer = Ok (Widened o.answer (held_in o.samples));
  samples = narrowed o.samples;
  names = o.names;
}

abbrev pub lacks_room : NoRoom
lacks_room = record {}

-- room: the length of the scratch; wide: how many samples there is room for as f32
unfoldable pub mend_out : Window → (period : ℕ) → (preview : Bool) → Room → (wide : ℕ) → (list samples names : List ℕ)
    → MendOut
mend_out w period preview room wide list s names =
    cond (not_taken (u16_out w period preview room list s names).answer)
    (cond (leb (length s) wide) (rounded_out (f32_out w (at_one period preview) room list (widened s) names))
    (record { answer = Err lacks_room; samples = s; names = names }))
    (whole_out (u16_out w period preview room list s names))

-- the f32 run with what it left rounded back, and how many samples that held
pub record Rounded (o : Out Float) (room : Room) (r : Answer) (held : ℕ) (samples names marks : List ℕ) : Type 0 where
  pub answered : r ≡ o.answer
  pub counted : held ≡ held_in o.samples
  pub left : samples ≡ narrowed o.samples
  pub named : names ≡ o.names
  pub marks_clear : marks ≡ replicate room.marks 0

pub record Mends (o : MendOut) (room : Room) (r : Result Mended NoRoom) (samples names marks : List ℕ) : Type 0 where
  pub answered : r ≡ o.answer
  pub left : samples ≡ o.samples
  pub named : names ≡ o.names
  pub marks_clear : marks ≡ replicate room.marks 0

-- What mending promises of its result r and of what it leaves; the room for f32 and the scratch hold zeros alone.
pub record MendsClear (o : MendOut) (room : Room) (n : ℕ) (r : Result Mended NoRoom) (samples : List ℕ) (wide : List Float)
    (names marks : List ℕ) : Type 0 where
  pub mended : Mends o room r samples names marks
  pub wide_clear : wide ≡ replicate n nought

-- ---- how many samples of a result are above the largest value of the file that it is written to

-- how many values are above maxval once rounded; held_in is this at 65535. A value held to 65536 is still above every
-- maxval up to 65535.
unfoldable pub held_above : (maxval : ℕ) → List Float → ℕ
held_above maxval [] = 0
held_above maxval (v ∷ s) = cond (ltb maxval (round_held 65536 v)) 1 0 + held_above maxval s

-- What r is, from how many samples were above 65535 when they were rounded back, `wide`, and how many of the u16
-- samples the encoder found above maxval, `above`: every sample above maxval counts, and none twice, though one that
-- was held to 65535 may be in both counts.
pub record HeldAbove (maxval wide above r : ℕ) : Type 0 where
  pub rounded : (s : List Float) → maxval ≤ 65535 → wide ≡ held_in s → above ≡ over maxval (narrowed s) → r
      ≡ held_above maxval s
  -- whole numbers, of which rounding holds none
  pub whole : (s : List ℕ) → maxval ≤ 65535 → Below 65536 s → wide ≡ 0 → above ≡ over maxval s → r ≡ over maxval s
