-- Worked texts, each by computing; 10 is a newline.
use Rattle.std.specs.Prelude.{◌≡◌, refl, true, false, [], ◌∷◌, ◌++◌, take}
use Rattle.num_text.specs.Text.{text, decimal, digits_in}
use Rattle.dng.specs.declared.Answer.TheVariants as Ans
use Rattle.dng.specs.declared.Reason.{Reason}
use Rattle.dng.specs.declared.Reason.TheVariants as Why
use Rattle.dng.specs.List.{refusal, reason_number}
use Rattle.say_report.specs.declared.Form.TheVariants.{Whole, Rounded, Float}
use Rattle.say_report.specs.Report.{occurs, line, line_if, skipped_text, done_text, why_text, malformed_text, text_of}

pub record Worked : Type 0 where
  pub whole :
      text_of (Ans.Done 0 12 1) Whole (9 ∷ []) 0 true
      ≡ text "0: done in whole numbers" ++
      (10 ∷ text "repaired: 12" ++ (10 ∷ text "left: 1" ++ (10 ∷ text "the frame is whole" ++ (10 ∷ []))))
  -- three names in a buffer of four: a fisheye twice and an unknown opcode; two samples held
  pub skipped :
      text_of (Ans.Done 3 0 0) Rounded (2 ∷ 0 ∷ 2 ∷ 1 ∷ []) 2 false
      ≡ text "0: done in f32, rounded back"
      ++ (10 ∷ text "skipped WarpFisheye: 2"
      ++ (10 ∷ text "skipped unknown opcode: 1"
      ++ (10 ∷ text "repaired: 0" ++ (10 ∷ text "left: 0" ++
      (10 ∷ text "held to the largest value: 2" ++ (10 ∷ text "the frame is not whole" ++ (10 ∷ [])))))))
  -- what is skipped may be optional: the frame is whole; and nothing named, yet not whole
  pub passed_over :
      text_of (Ans.Done 1 0 0) Float (1 ∷ []) 0 true
      ≡ text "0: done in f32"
      ++ (10 ∷ text "skipped WarpRectilinear: 1"
      ++ (10 ∷ text "repaired: 0" ++ (10 ∷ text "left: 0" ++ (10 ∷ text "the frame is whole" ++ (10 ∷ [])))))
  pub unnamed :
      text_of (Ans.Done 0 0 0) Whole [] 0 false
      ≡ text "0: done in whole numbers" ++
      (10 ∷ text "repaired: 0" ++ (10 ∷ text "left: 0" ++ (10 ∷ text "the frame is not whole" ++ (10 ∷ []))))
  -- a transfer that was cut, and a count that was damaged
  pub cut :
      text_of (Ans.Malformed 7 (refusal Why.Ends 68)) Float [] 0 false
      ≡ text "20: the list is cut short, or its count cannot be right: it ends inside the count or a header, at byte 68"
      ++ (10 ∷ text "whole entries before: 7" ++ (10 ∷ []))
  pub damaged :
      text_of (Ans.Malformed 0 (refusal Why.Count 52)) Float [] 0 false
      ≡ text "24: a count cannot be right: it breaks its limit, or the body is shorter than it says, at byte 52"
      ++ (10 ∷ text "whole entries before: 0" ++ (10 ∷ []))
  pub full : text_of (Ans.Marks 4095) Float [] 0 false
      ≡ text "5: more bad pixels than the scratch holds, at opcode 4095" ++ (10 ∷ [])

pub worked : Worked
unfolding occurs line line_if skipped_text done_text malformed_text decimal digits_in
worked =
    record {
      whole = refl;
      skipped = refl;
      passed_over = refl;
      unnamed = refl;
      cut = refl;
      damaged = refl;
      full = refl;
    }

-- the number in front of a reason's sentence is the paper's
pub numbered : (q : Reason) → take 2 (why_text q) ≡ decimal (reason_number q)
unfolding decimal digits_in
numbered Why.Ends = refl
numbered Why.TooMany = refl
numbered Why.TooLong = refl
numbered Why.Inside = refl
numbered Why.Count = refl
numbered Why.Degree = refl
