-- What the calls of black level promise: document 02's number, and the forms over bytes, in which 100 comes after it.
use Rattle.std.specs.Prelude.{ℕ, ◌/◌, Bool, ◌&&◌, cond, List, ◌≡◌, leb, Float, take, replicate, Ok, is_ok}
use Rattle.std.specs.Float.{nan, binary32}
use Rattle.std.specs.Float.Ieee.{to_bits}
use Rattle.dng.specs.Value.{nought}
use Rattle.run_bytes.specs.Samples.{encoded}
use Rattle.row_black.specs.declared.Field.{Field}
use Rattle.row_black.specs.declared.Pattern.{Pattern}
use Rattle.row_black.specs.Black.{total, Answer, answer_of, number_of, BlackOut}

-- typed samples
pub record BlackTold (o : BlackOut) (r : ℕ) (out : List Float) : Type 0 where
  pub answered : r ≡ number_of o.answer
  pub left : out ≡ o.output

-- ---- samples in bytes

-- each room has an entry for each of the frame's n samples
abbrev pub roomy : (n work made : ℕ) → Bool
roomy n work made = leb n work && leb n made

-- too little room is 100, where the call would be done
unfoldable pub number_in : (enough : Bool) → Answer → ℕ
number_in enough a = cond (is_ok a) (cond enough (number_of a) 100) (number_of a)

-- the bytes `old`, with the frame's n samples in front
abbrev pub frame_in : BlackOut → (n : ℕ) → List ℕ → List ℕ
frame_in o n old = encoded 4 (to_bits binary32) nan (take n o.output) old

-- where the call is done
unfoldable pub bytes_in : (enough : Bool) → BlackOut → (n : ℕ) → List ℕ → List ℕ
bytes_in enough o n old = cond (is_ok o.answer && enough) (frame_in o n old) old

pub record BlackPut (o : BlackOut) (n : ℕ) (old : List ℕ) (work made r : ℕ) (bytes : List ℕ) : Type 0 where
  pub answered : r ≡ number_in (roomy n work made) o.answer
  pub left : bytes ≡ bytes_in (roomy n work made) o n old

-- both rooms are clear at every return, the first to `zero`
module _ {A : Type 0} (zero : A) where
  pub record BlackBytes (o : BlackOut) (n : ℕ) (old : List ℕ) (work made r : ℕ) (bytes : List ℕ)
      (rest : List A) (spare : List Float) : Type 0 where
    pub put : BlackPut o n old work made r bytes
    pub work_clear : rest ≡ replicate work zero
    pub made_clear : spare ≡ replicate made nought

-- inside: the call is not refused, samples take `size` bytes of the input, and both rooms have the frame's size
pub record BlackLent (f : Field) (p : Pattern) (b s size input output work made : ℕ) : Type 0 where
  pub goes : answer_of f p b s (input / size) (output / 4) ≡ Ok tt
  pub before : work ≡ total f
  pub after : made ≡ total f
