-- A row that stands in bytes: decoded, run, put back; and the test of the work room before all. Assumes nothing.
use Prim.Native.Nat.{ℕ, ◌*◌, ◌/◌, ◌≤◌, ◌<◌}
use mathlib.Core.Path.{◌≡◌, sym, ap, ap₂, subst, ◌∙◌}
use mathlib.Core.Bool.{Bool, cond}
use mathlib.Core.List.{List}
use native.Mathlib.Nat.{div-mul-le_self}
use borrow.Author.Tests.{le-leb, lt-leb}
use lib.Ieee.{Float, nan, binary32, to_bits}
use lib.ListN.{length, take, replicate, length-replicate}
use lib.Seq.{length-take-le}
use Rattle.dng.specs.declared.RowAnswer.{RowAnswer}
use Rattle.dng.specs.declared.RowWindow.{RowWindow}
use Rattle.dng.specs.Value.{nought}
use Rattle.dng.specs.Answer.{RowOut, row_out}
use Rattle.run_row.specs.Rows.{RowRan}
use Rattle.run_bytes.specs.Samples.{float_at, floats_in, decoded, encoded, cleared}
use Rattle.run_bytes.proofs.Laws.{decoded-any, cleared-whole}
use Rattle.rolbhunga.specs.declared.RowNumbers.{RowNumbers}
use Rattle.rolbhunga.specs.Calls.{row_numbers_for, row_short, row_done, row_bytes, RowTold, RowLeft, RowBytes}

-- a typed row, in numbers
pub told : (o : RowOut) (a : RowAnswer) (r : RowNumbers) (row : List Float) → RowRan o a row → r ≡ row_numbers_for a → RowTold o r row
told o a r row ran e = record { answered = e ∙ ap row_numbers_for ran.answered; left = ran.left }

put : List ℕ → RowAnswer → List Float → List ℕ
put old a row = cond (row_done a) (encoded 4 (to_bits binary32) nan row old) old

pub left : (w : RowWindow) (scale : Float) (preview : Bool) (y : ℕ) (list old bytes : List ℕ) (room full row : List Float) (a : RowAnswer) (done : Bool)
    → full ≡ decoded (float_at old) room → RowRan (row_out w scale preview y list full) a row → done ≡ row_done a
    → bytes ≡ cond done (encoded 4 (to_bits binary32) nan row old) old
    → RowLeft (row_out w scale preview y list (decoded (float_at old) room)) old a bytes
unfolding put
left w scale preview y list old bytes room full row a done e ran d p =
    let r : RowRan (row_out w scale preview y list (decoded (float_at old) room)) a row = subst (λ (l : List Float). RowRan
    (row_out w scale preview y list l) a row) e ran in
    let b : bytes ≡ put old a row = p ∙ ap (λ (t : Bool). cond t (encoded 4 (to_bits binary32) nan row old) old) d in
    record { answered = r.answered; left = b ∙ ap₂ (put old) r.answered r.left }

-- ---- the work room

-- the part of the work room that is lent has an entry for each whole sample
pub part_length : {A : Type 0} (n : ℕ) (work : List A) → n ≤ length work → n ≡ length (take n work)
part_length n work h = sym (length-take-le n work h)

pub part-fits : {A : Type 0} (size n : ℕ) (work : List A) → n / size ≤ length work → length (take (n / size) work) * size ≤ n
part-fits size n work h = rw (length-take-le (n / size) work h) (div-mul-le_self n size)

pub samples-are : (old : List ℕ) (work : List Float) → length old / 4 ≤ length work
    → decoded (float_at old) (take (length old / 4) work) ≡ floats_in old
samples-are old work h =
    decoded-any nan (float_at old) (take (length old / 4) work) (replicate (length old / 4) nought)
    (length-take-le (length old / 4) work h ∙ sym (length-replicate (length old / 4) nought))

-- enough of it
pub enough : (w : RowWindow) (scale : Float) (preview : Bool) (y : ℕ) (list old bytes : List ℕ) (work room : List Float) (a : RowAnswer) (r : RowNumbers)
    → length old / 4 ≤ length work
    → RowLeft (row_out w scale preview y list (decoded (float_at old) (take (length old / 4) work))) old a bytes → r ≡ row_numbers_for a
    → (mid : List Float) → room ≡ cleared nought mid → length room ≡ length work
    → RowBytes (row_out w scale preview y list (floats_in old)) old (length work) r bytes room
enough w scale preview y list old bytes work room a r h ran e mid clear many =
    let t : RowLeft (row_out w scale preview y list (floats_in old)) old a bytes =
    subst (λ (l : List Float). RowLeft (row_out w scale preview y list l) old a bytes) (samples-are old work h) ran in
    let o : RowOut = row_out w scale preview y list (floats_in old) in
    record {
      answered = e ∙ ap row_numbers_for t.answered ∙ ap (λ (b : Bool). cond b (row_numbers_for o.answer) row_short) (sym (le-leb _ _ h));
      left = t.left ∙ ap (λ (b : Bool). cond b (row_bytes o old) old) (sym (le-leb _ _ h));
      clear = cleared-whole nought mid room (length work) clear many;
    }

-- too little
pub short : (o : RowOut) (old : List ℕ) (work room : List Float) → length work < length old / 4 → room ≡ cleared nought work
    → RowBytes o old (length work) row_short old room
unfolding cleared
short o old work room h clear =
    record {
      answered = ap (λ (b : Bool). cond b (row_numbers_for o.answer) row_short) (sym (lt-leb _ _ h));
      left = ap (λ (b : Bool). cond b (row_bytes o old) old) (sym (lt-leb _ _ h));
      clear = clear;
    }
