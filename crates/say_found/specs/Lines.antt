-- What is said of a list in a DNG file: its name, the number of document 02, M-105, and where it lies, or the refusal
-- in words.
use Rattle.std.specs.Prelude.{ℕ, ◌+◌, ◌≤◌, ◌≡◌, List, ◌++◌, Ok, Err, length, take}
use Rattle.num_text.specs.Text.{text, decimal}
use Rattle.num_text.specs.Appended.{Appended}
use Rattle.list_find.specs.declared.Which.{Which}
use Rattle.list_find.specs.declared.Which.TheVariants.{List1, List2, List3}
use Rattle.list_find.specs.declared.FindError.TheVariants.{NotTiff, Outside, TooMany, Missing}
use Rattle.list_find.specs.Walk.{Found, found_in}

abbrev pub name_text : Which → List ℕ
name_text List1 = text "OpcodeList1: "
name_text List2 = text "OpcodeList2: "
name_text List3 = text "OpcodeList3: "

-- a label and a number
unfoldable pub count : List ℕ → ℕ → List ℕ
count label n = label ++ decimal n

-- how long it is, and where it lies
unfoldable pub place_text : (start len : ℕ) → List ℕ
place_text start len = (count (text "0: ") len ++ count (text " bytes at ") start) ++ text "\n"

abbrev pub found_text : Found → List ℕ
found_text (Ok place) = place_text place.start place.len
found_text (Err NotTiff) = text "30: not a TIFF file\n"
found_text (Err Outside) = text "31: an offset or a size lies outside the file\n"
found_text (Err TooMany) = text "32: more than 64 directories\n"
found_text (Err Missing) = text "33: not in the file\n"

unfoldable pub line_of : Which → Found → List ℕ
line_of which found = name_text which ++ found_text found

-- the three of a file
unfoldable pub lines_of : List ℕ → List ℕ
lines_of s = (line_of List1 (found_in s List1) ++ line_of List2 (found_in s List2)) ++ line_of List3 (found_in s List3)

-- p is put behind the text of the buffer b, in at most k bytes
pub record Within (k : ℕ) (b : List ℕ) (at : ℕ) (p : List ℕ) (r : ℕ) (o : List ℕ) : Type 0 where
  pub appended : Appended b at p r o
  pub short : r ≤ at + k

-- p stands at the start of the buffer, which was b and is o, and ends at r; the last two say that it lies in the
-- buffer, as one asks who takes that part of it
pub record Said (p b : List ℕ) (r : ℕ) (o : List ℕ) : Type 0 where
  pub said : Appended b 0 p r o
  pub fits : r ≤ length o
  pub part : r ≡ length (take r o)
