-- What comes back: the ranges, the order of the refusals, and what each answer leaves. Document 01, 'Taken and left'
-- and 'What comes back'.
use Rattle.std.specs.Prelude.{ℕ, ◌*◌, Bool, true, ◌&&◌, cond, List, ◌++◌, ◌≡◌, leb, Float, length, drop, replicate, Ok, Err}
use Rattle.dng.specs.declared.Window.{Window}
use Rattle.dng.specs.declared.RowWindow.{RowWindow}
use Rattle.dng.specs.declared.Settings.{Settings}
use Rattle.dng.specs.declared.Numbers.{Numbers}
use Rattle.dng.specs.declared.Answer.{Answer}
use Rattle.dng.specs.declared.Answer.TheVariants as Ans
use Rattle.dng.specs.declared.RowAnswer.{RowAnswer}
use Rattle.dng.specs.declared.RowAnswer.TheVariants as Row
use Rattle.dng.specs.declared.Refusal.{Refusal}
use Rattle.dng.specs.List.{Item, reason_number, Reading, reading_of, items_of}
use Rattle.dng.specs.Value.{Frame}
use Rattle.dng.specs.declared.Class.{Class}
use Rattle.dng.specs.Run.{kept_in, Kind, f32_kind, u16_kind, skipped, skipped16, takes16, takes_rows, names_of, Progress, going, marks_full, Room, perform_all, row_on}

-- ---- the ranges

unfoldable pub in_range : Window → (period : ℕ) → Bool
in_range w period =
    leb w.width 65536 && (leb w.height 65536 && (leb w.stride 65536
    && (leb 1 w.planes && (leb w.planes 8
    && (leb w.x0 16777216 && (leb w.y0 16777216
    && (leb w.full_width 16777216 && (leb w.full_height 16777216
    && leb period 65536))))))))

-- a lent row of n samples, the row y of the image
unfoldable pub row_in_range : RowWindow → (y n : ℕ) → Bool
row_in_range w y n =
    leb w.width 65536 && (leb 1 w.planes && (leb w.planes 8
    && (leb w.x0 16777216 && (leb w.full_width 16777216 && (leb w.full_height 16777216
    && (leb y 16842751 && leb n (w.width * w.planes)))))))

-- ---- the paper's number and values for each answer; entry and opcode numbers, offset, names and totals are 0 where
-- they are not named. 2, of document 01, is 20 to 25 by M-100; 6 is withdrawn by M-104. Both are given to nothing

-- 20 to 25 (document 02, M-100): the entries read whole before it, and the byte
abbrev pub malformed_numbers : ℕ → Refusal → Numbers
malformed_numbers k why =
    record {
      number = reason_number why.reason;
      entry = k;
      offset = why.at;
      opcode = 0;
      names = 0;
      repaired = 0;
      left = 0;
    }

abbrev pub numbers_of : Answer → Numbers
numbers_of (Ans.Done n r l) = record { number = 0; entry = 0; offset = 0; opcode = 0; names = n; repaired = r; left = l }
numbers_of Ans.Range = record { number = 1; entry = 0; offset = 0; opcode = 0; names = 0; repaired = 0; left = 0 }
numbers_of (Ans.Malformed k why) = malformed_numbers k why
numbers_of Ans.NotTaken = record { number = 3; entry = 0; offset = 0; opcode = 0; names = 0; repaired = 0; left = 0 }
numbers_of Ans.Names = record { number = 4; entry = 0; offset = 0; opcode = 0; names = 0; repaired = 0; left = 0 }
numbers_of (Ans.Marks k) = record { number = 5; entry = 0; offset = 0; opcode = k; names = 0; repaired = 0; left = 0 }

abbrev pub reading_numbers_of : Reading → Numbers
reading_numbers_of (Ok n) = record {
  number = 0;
  entry = 0;
  offset = 0;
  opcode = 0;
  names = 0;
  repaired = 0;
  left = 0;
}
reading_numbers_of (Err m) = malformed_numbers m.after m.why

abbrev pub row_numbers_of : RowAnswer → Numbers
row_numbers_of (Row.Done n) = record { number = 0; entry = 0; offset = 0; opcode = 0; names = 0; repaired = 0; left = 0 }
row_numbers_of Row.Range = record { number = 1; entry = 0; offset = 0; opcode = 0; names = 0; repaired = 0; left = 0 }
row_numbers_of (Row.Malformed k why) = malformed_numbers k why
row_numbers_of Row.NotTaken = record { number = 3; entry = 0; offset = 0; opcode = 0; names = 0; repaired = 0; left = 0 }

-- ---- a run: the refusals 1, 20 to 25, 3, 4 in order, samples and names unchanged; then opcode by opcode 5; names only
-- on 0

pub record Out (A : Type 0) : Type 0 where
  pub answer : Answer
  pub samples : List A
  pub names : List ℕ

abbrev pub unchanged : {A : Type 0} → Answer → List A → List ℕ → Out A
unchanged a s names = record { answer = a; samples = s; names = names }

-- the bytes l at the front of the buffer b, which keeps what stands after them
abbrev pub written : List ℕ → List ℕ → List ℕ
written l b = l ++ drop (length l) b

abbrev pub finished : {A : Type 0} → List ℕ → List ℕ → Progress A → Out A
finished l names (going s r t) = record { answer = Ans.Done (length l) r t; samples = s; names = written l names }
finished l names (marks_full s k) = unchanged (Ans.Marks k) s names

module _ {A : Type 0} (kind : Kind A) (takes : List Item → Bool) (skip : Class → Bool) where
  -- a list that is read whole: 3, 4, then the run
  unfoldable pub ran_on : Window → (period : ℕ) → (preview : Bool) → Room → List ℕ → List A → List ℕ → Out A
  ran_on w period preview room list s names =
      cond (takes (kept_in preview list))
      (cond (leb (length (names_of skip (kept_in preview list))) (length names))
      (finished (names_of skip (kept_in preview list)) names
      (perform_all kind w period room preview list 0 (items_of list) (going s 0 0)))
      (unchanged Ans.Names s names))
      (unchanged Ans.NotTaken s names)

  abbrev pub read_out : Window → (period : ℕ) → (preview : Bool) → Room → List ℕ → List A → List ℕ → Reading → Out A
  read_out w period preview room list s names (Ok n) = ran_on w period preview room list s names
  read_out w period preview room list s names (Err m) = unchanged (Ans.Malformed m.after m.why) s names

  unfoldable pub run_out : Window → (period : ℕ) → (preview : Bool) → Room → List ℕ → List A → List ℕ → Out A
  run_out w period preview room list s names =
      cond (in_range w period) (read_out w period preview room list s names (reading_of list))
      (unchanged Ans.Range s names)

-- the f32 run takes every list
abbrev pub takes_all : List Item → Bool
takes_all is = true

abbrev pub frame_of : Window → Float → Frame
frame_of w scale = record { scale = scale; full_width = w.full_width; full_height = w.full_height }

abbrev pub f32_out : Window → Settings → Room → List ℕ → List Float → List ℕ → Out Float
f32_out w set room list s names =
    run_out (f32_kind (frame_of w set.scale)) takes_all skipped w set.period set.preview room list s names

-- the whole-number form has no scale
abbrev pub u16_out : Window → (period : ℕ) → (preview : Bool) → Room → List ℕ → List ℕ → List ℕ → Out ℕ
u16_out w period preview room list s names = run_out u16_kind takes16 skipped16 w period preview room list s names

-- What a run promises of its result r and of what it leaves: the answer, the samples and the names are those of o, and
-- the scratch holds zeros alone.
pub record Ran {A : Type 0} (o : Out A) (room : Room) (r : Answer) (samples : List A) (names marks : List ℕ) : Type 0
  where
    pub answered : r ≡ o.answer
    pub left : samples ≡ o.samples
    pub named : names ≡ o.names
    pub marks_clear : marks ≡ replicate room.marks 0

-- ---- a row: 1, 20 to 25, 3 in order, the row unchanged on each

pub record RowOut : Type 0 where
  pub answer : RowAnswer
  pub row : List Float

abbrev pub row_frame_of : RowWindow → Float → Frame
row_frame_of w scale = record { scale = scale; full_width = w.full_width; full_height = w.full_height }

abbrev pub row_read : RowWindow → Float → (preview : Bool) → (y : ℕ) → List ℕ → List Float → Reading → RowOut
row_read w scale preview y list row (Ok n) =
    cond (takes_rows (kept_in preview list))
    (record {
      answer = Row.Done (length (names_of skipped (kept_in preview list)));
      row = row_on (row_frame_of w scale) w.x0 w.planes y list (kept_in preview list) row;
    })
    (record { answer = Row.NotTaken; row = row })
row_read w scale preview y list row (Err m) = record { answer = Row.Malformed m.after m.why; row = row }

unfoldable pub row_out : RowWindow → Float → (preview : Bool) → (y : ℕ) → List ℕ → List Float → RowOut
row_out w scale preview y list row =
    cond (row_in_range w y (length row)) (row_read w scale preview y list row (reading_of list))
    (record { answer = Row.Range; row = row })
