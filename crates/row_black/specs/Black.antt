-- Black level before list 2 (document 02, M-109): what a sample becomes, when a call is refused, what each answer
-- leaves. Pattern and deltas go by image positions. Every operation is rounded once, in the order written.
use Rattle.std.specs.Prelude.{ℕ, ◌+◌, ◌*◌, ◌/◌, ◌%◌, Bool, ◌&&◌, cond, List, [], ◌∷◌, ◌≡◌, leb, ltb, Float, length, get_or, Result, Ok, Err, is_ok}
use Rattle.std.specs.Float.{nan, binary32}
use Rattle.std.specs.Float.Ieee.{add, sub, mul, lt}
use Rattle.pointwise.specs.Points.{each}
use Rattle.dng.specs.Value.{nought}
use Rattle.row_black.specs.declared.Field.{Field}
use Rattle.row_black.specs.declared.Pattern.{Pattern}
use Rattle.row_black.specs.declared.Lent.{Lent}
use Rattle.row_black.specs.declared.Refused.{Refused}
use Rattle.row_black.specs.declared.Refused.TheVariants.{Range, Tables, Samples}

-- ---- a sample

-- what is lent besides the samples: the pattern's size, tables of black and of scale, deltas of rows and of columns
pub record Levels : Type 0 where
  pub pattern : Pattern
  pub blacks : List Float
  pub scales : List Float
  pub rows : List Float
  pub columns : List Float

abbrev pub levels : Pattern → (blacks scales rows columns : List Float) → Levels
levels p b s r c = record { pattern = p; blacks = b; scales = s; rows = r; columns = c }

abbrev pub levels_in : Lent → Levels
levels_in l = levels l.pattern l.blacks.now l.scales.now l.rows.now l.columns.now

-- the entry of a table for plane k, in the pattern's column c and the line of image row y: plane after plane, each row
-- after row
abbrev pub entry_in : Pattern → List Float → (y c k : ℕ) → Float
entry_in p t y c k = get_or t ((k * p.height + y % p.height) * p.width + c) nan

-- the same at image column x
abbrev pub entry_at : Pattern → List Float → (y x k : ℕ) → Float
entry_at p t y x k = entry_in p t y (x % p.width) k

-- b, and the delta of place i "added only if that delta list isn't empty, a missing entry being 0.0"
unfoldable pub with_delta : List Float → ℕ → Float → Float
with_delta [] i b = b
with_delta (d ∷ ds) i b = add binary32 b (get_or (d ∷ ds) i nought)

-- "the pattern entry plus the row's delta plus the column's"
unfoldable pub black_at : Levels → (y x k : ℕ) → Float
black_at l y x k = with_delta l.columns x (with_delta l.rows y (entry_at l.pattern l.blacks y x k))

-- "at least 0; NaN gives 0, and zero comes out positive"
abbrev pub at_least_nought : Float → Float
at_least_nought v = cond (lt nought v) v nought

-- "(v − black)·scale"
unfoldable pub levelled_by : (black scale : Float) → Float → Float
levelled_by black scale v = at_least_nought (mul binary32 (sub binary32 v black) scale)

-- the value v at image row y, image column x, plane k
unfoldable pub levelled : Levels → (y x k : ℕ) → Float → Float
levelled l y x k v = levelled_by (black_at l y x k) (entry_at l.pattern l.scales y x k) v

-- ---- a frame: rows without gaps

abbrev pub total : Field → ℕ
total f = f.width * f.height * f.planes

-- sample j of the output, from the input s: plane j % planes of the pixel j / planes, which is in column % width of row
-- / width of the frame. Past the frame it stays.
unfoldable pub levelled_at : {A : Type 0} → (none : A) → (A → Float) → Field → Levels → List A → ℕ → Float → Float
levelled_at none to_float f l s j old =
    let y = f.y0 + j / f.planes / f.width in
    let x = f.x0 + j / f.planes % f.width in
    cond (ltb j (total f)) (levelled l y x (j % f.planes) (to_float (get_or s j none))) old

-- ---- refusals: 1, 60, 61 in that order, the output unchanged

-- the ranges of document 01, 'Taken and left'
unfoldable pub field_in_range : Field → Bool
field_in_range f =
    leb f.width 65536 && (leb f.height 65536
    && (leb 1 f.planes && (leb f.planes 8
    && (leb f.x0 16777216 && leb f.y0 16777216))))

-- how many samples a frame has, none if it is out of range
unfoldable pub samples_in : Field → ℕ
samples_in f = cond (field_in_range f) (total f) 0

-- a table of n entries has one for each place of the pattern and each plane
abbrev pub holds : Pattern → (planes n : ℕ) → Bool
holds p planes n = leb (planes * p.height * p.width) n

-- no "pattern height or width 0, or a pattern or scale table too short", of tables of b and s entries
unfoldable pub tabled : Pattern → (planes b s : ℕ) → Bool
tabled p planes b s = leb 1 p.height && (leb 1 p.width && (holds p planes b && holds p planes s))

-- no "input or output under width·height·planes samples"
unfoldable pub sampled : Field → (input output : ℕ) → Bool
sampled f input output = leb (total f) input && leb (total f) output

abbrev pub Answer : Type 0
Answer = Result (Unit {0}) Refused

unfoldable pub answer_of : Field → Pattern → (b s input output : ℕ) → Answer
answer_of f p b s input output =
    cond (field_in_range f)
    (cond (tabled p f.planes b s) (cond (sampled f input output) (Ok tt) (Err Samples)) (Err Tables)) (Err Range)

-- document 02's number for each answer
abbrev pub number_of : Answer → ℕ
number_of (Ok u) = 0
number_of (Err Range) = 1
number_of (Err Tables) = 60
number_of (Err Samples) = 61

-- ---- a call, over any sample kind

pub record BlackOut : Type 0 where
  pub answer : Answer
  pub output : List Float

unfoldable pub black_out : {A : Type 0} → (none : A) → (A → Float) → Field → Levels → List A → List Float → BlackOut
black_out none to_float f l s out =
    let a = answer_of f l.pattern (length l.blacks) (length l.scales) (length s) (length out) in
    record { answer = a; output = cond (is_ok a) (each (levelled_at none to_float f l s) out) out }

-- what a call promises of its answer r and of the output that it leaves
pub record Levelled (o : BlackOut) (r : Answer) (out : List Float) : Type 0 where
  pub answered : r ≡ o.answer
  pub left : out ≡ o.output
