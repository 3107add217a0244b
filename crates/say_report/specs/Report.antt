-- What a run answered, as text. The number in front is document 01's, 'What comes back', and for a malformed list
-- document 02's, M-100.
use Rattle.std.specs.Prelude.{ℕ, ◌+◌, ◌≤◌, min, Bool, true, false, cond, List, [], ◌∷◌, ◌++◌, eqb, length, take, count_by}
use Rattle.num_text.specs.Text.{text, decimal}
use Rattle.num_text.specs.Appended.{Appended}
use Rattle.dng.specs.declared.Reason.{Reason}
use Rattle.dng.specs.declared.Reason.TheVariants as Why
use Rattle.dng.specs.declared.Refusal.{Refusal}
use Rattle.dng.specs.declared.Answer.{Answer}
use Rattle.dng.specs.declared.Answer.TheVariants as Ans
use Rattle.say_report.specs.declared.Form.{Form}
use Rattle.say_report.specs.declared.Form.TheVariants.{Whole, Rounded, Float}

-- how often k stands in a list
abbrev pub occurs : ℕ → List ℕ → ℕ
occurs k s = count_by (λ b. eqb b k) s

-- a label, a number and a newline
unfoldable pub line : List ℕ → ℕ → List ℕ
line label n = (label ++ decimal n) ++ (10 ∷ [])

unfoldable pub line_if : List ℕ → ℕ → List ℕ
line_if label n = cond (eqb n 0) [] (line label n)

-- a line for each kind of opcode that was skipped, by the bytes that name them
unfoldable pub skipped_text : List ℕ → List ℕ
skipped_text b =
    (((line_if (text "skipped WarpRectilinear: ") (occurs 1 b) ++ line_if (text "skipped WarpFisheye: ") (occurs 2 b))
    ++ line_if (text "skipped TrimBounds: ") (occurs 6 b)) ++ line_if (text "skipped empty MapTable: ") (occurs 7 b))
    ++ line_if (text "skipped unknown opcode: ") (occurs 0 b)

-- the end of a line of text
abbrev pub ended : List ℕ → List ℕ
ended l = l ++ (10 ∷ [])

abbrev pub form_text : Form → List ℕ
form_text Whole = ended (text "0: done in whole numbers")
form_text Rounded = ended (text "0: done in f32, rounded back")
form_text Float = ended (text "0: done in f32")

abbrev pub verdict_text : Bool → List ℕ
verdict_text true = ended (text "the frame is whole")
verdict_text false = ended (text "the frame is not whole")

-- p is put behind the text of the buffer b, in at most k bytes
pub record Within (k : ℕ) (b : List ℕ) (at : ℕ) (p : List ℕ) (r : ℕ) (o : List ℕ) : Type 0 where
  pub appended : Appended b at p r o
  pub short : r ≤ at + k

-- the first n bytes of a buffer, all where it has fewer
abbrev pub first : ℕ → List ℕ → List ℕ
first n b = take (min n (length b)) b

-- b: the skip buffer; n: how many names it holds. The verdict (document 02, M-103) is the caller's, since neither the
-- names nor the totals decide it: what is skipped and what is left are facts of their own, beside it.
unfoldable pub done_text : Form → List ℕ → (n repaired left held : ℕ) → (whole : Bool) → List ℕ
done_text form b n repaired left held whole =
    ((((form_text form ++ skipped_text (first n b)) ++ line (text "repaired: ") repaired) ++ line (text "left: ") left)
    ++ line_if (text "held to the largest value: ") held) ++ verdict_text whole

-- what was wrong with a list: cut short, or a number in it that cannot be right; the byte follows. A whole list that
-- lost its end gives 20 or 22, so the others do not speak of a cut. Document 02, M-100
abbrev pub why_text : Reason → List ℕ
why_text Why.Ends =
    text "20: the list is cut short, or its count cannot be right: it ends inside the count or a header, at byte "
why_text Why.TooMany = text "21: the number of entries cannot be right: it is above 4096, at byte "
why_text Why.TooLong =
    text "22: the list is cut short, or a length cannot be right: a body is longer than the rest, at byte "
why_text Why.Inside = text "23: a length cannot be right for its entry's kind: the body ends inside a field, at byte "
why_text Why.Count =
    text "24: a count cannot be right: it breaks its limit, or the body is shorter than it says, at byte "
why_text Why.Degree = text "25: a degree cannot be right: it is above 8, at byte "

unfoldable pub malformed_text : ℕ → Refusal → List ℕ
malformed_text k why = line (why_text why.reason) why.at ++ line (text "whole entries before: ") k

abbrev pub text_of : Answer → Form → List ℕ → (held : ℕ) → (whole : Bool) → List ℕ
text_of (Ans.Done n r l) form b held whole = done_text form b n r l held whole
text_of Ans.Range form b held whole = ended (text "1: a number is outside its range")
text_of (Ans.Malformed k why) form b held whole = malformed_text k why
text_of Ans.NotTaken form b held whole = ended (text "3: the form does not take the list")
text_of Ans.Names form b held whole = ended (text "4: more skipped opcodes than names fit")
text_of (Ans.Marks k) form b held whole = line (text "5: more bad pixels than the scratch holds, at opcode ") k
