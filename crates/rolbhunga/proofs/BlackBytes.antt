-- Black level over bytes, over the sample kind: decoded, levelled, put back; after the tests of the call, and of the rooms.
-- Assumes nothing.
use Prim.Native.Nat.{ℕ, ◌*◌, ◌/◌, ◌≤◌, ◌<◌}
use mathlib.Core.Bool.{Bool, true, false, ◌&&◌, cond}
use mathlib.Core.List.{List}
use mathlib.Core.Path.{◌≡◌, refl, sym, ap, ap₂, ◌∙◌}
use native.Mathlib.Nat.{le-div_iff_mul-le}
use native.Mathlib.Omega.{arith}
use borrow.Author.Tests.{le-leb, lt-leb, lt-ltb}
use lib.Dec.{leb}
use lib.Ieee.{Float, nan, binary32, to_bits}
use lib.ListN.{length, get_or, take, replicate, length-replicate}
use lib.Seq.{ext_get_or, get_or-take, length-take-le}
use Rattle.pointwise.specs.Points.{each}
use Rattle.pointwise.proofs.Each.{length-each, get_or-each}
use Rattle.dng.specs.Value.{nought}
use Rattle.run_bytes.specs.Samples.{float_at, floats_in, decoded, encoded}
use Rattle.run_bytes.proofs.Laws.{length-decoded}
use Rattle.row_black.specs.declared.Field.{Field}
use Rattle.row_black.specs.declared.Pattern.{Pattern}
use Rattle.std.specs.Prelude.{Ok, Err, is_ok, is_err}
use Rattle.row_black.specs.Black.{Levels, total, levelled_at, samples_in, sampled, Answer, answer_of, number_of, BlackOut, black_out, Levelled}
use Rattle.row_black.proofs.Refusals.{goes}
use Rattle.row_black.proofs.Theorems.{exactly-when}
use Rattle.rolbhunga.specs.Black.{BlackTold, roomy, number_in, frame_in, bytes_in, BlackPut, BlackBytes, BlackLent}

-- a typed call, in numbers
pub told : (o : BlackOut) (a : Answer) (r : ℕ) (out : List Float) → Levelled o a out → r ≡ number_of a → BlackTold o r out
told o a r out ran e = record { answered = e ∙ ap number_of ran.answered; left = ran.left }

-- ---- the frame put back

-- exactly as many samples are enough
exact : (f : Field) (p : Pattern) (b s input output : ℕ) → answer_of f p b s input output ≡ Ok tt
    → answer_of f p b s (total f) (total f) ≡ Ok tt
unfolding sampled
exact f p b s input output e =
    let t = (exactly-when f p b s input output (Ok tt)).0 e in
    let full : leb (total f) (total f) ≡ true = le-leb (total f) (total f) (omega arith) in
    (exactly-when f p b s (total f) (total f) (Ok tt)).1 (t.0, t.1, ap₂ ◌&&◌ full full)

module _ {A : Type 0} (none : A) (to_float : A → Float) (f : Field) (l : Levels) where
  -- in the frame a sample goes by the input at its place, whatever stood there
  inside : (s s' : List A) (j : ℕ) (v v' : Float) → j < total f → get_or s j none ≡ get_or s' j none
      → levelled_at none to_float f l s j v ≡ levelled_at none to_float f l s' j v'
  unfolding levelled_at
  inside s s' j v v' h e = rw (lt-ltb j (total f) h, e) refl

  -- a call on the decoded samples, into room of the frame's size, gives the first of those that the call on all would give
  framed : (s work : List A) (out made made' : List Float) {a : Answer} → length work ≡ total f → length made ≡ total f
      → (black_out none to_float f l s out).answer ≡ Ok tt
      → ((j : ℕ) → j < total f → get_or work j none ≡ get_or s j none)
      → Levelled (black_out none to_float f l work made) a made' → made' ≡ take (total f) (black_out none to_float f l s out).output
  unfolding black_out
  framed s work out made made' w m e agree ran =
      ran.left
      ∙ ap (λ (a : Answer). cond (is_ok a) (each (levelled_at none to_float f l work) made) made) inner
      ∙ first
      ∙ sym (ap (λ (a : Answer). take (total f) (cond (is_ok a) (each (levelled_at none to_float f l s) out) out)) e)
    where
      long : total f ≤ length out
      long = (goes f l.pattern (length l.blacks) (length l.scales) (length s) (length out) e).written

      inner : answer_of f l.pattern (length l.blacks) (length l.scales) (length work) (length made) ≡ Ok tt
      inner = rw (w, m) (exact f l.pattern (length l.blacks) (length l.scales) (length s) (length out) e)

      many : length (each (levelled_at none to_float f l work) made) ≡ total f
      many = length-each (levelled_at none to_float f l work) made ∙ m

      cut : length (take (total f) (each (levelled_at none to_float f l s) out)) ≡ total f
      cut = length-take-le (total f) (each (levelled_at none to_float f l s) out) (omega (arith, long, length-each (levelled_at none to_float f l s) out))

      first : each (levelled_at none to_float f l work) made ≡ take (total f) (each (levelled_at none to_float f l s) out)
      first =
          ext_get_or nan (each (levelled_at none to_float f l work) made) (take (total f) (each (levelled_at none to_float f l s) out)) (many ∙ sym cut)
          (λ i h.
          let q : i < total f = omega (arith, many) in
          get_or-each (levelled_at none to_float f l work) made i nan (omega (arith, m))
          ∙ inside work s i (get_or made i nan) (get_or out i nan) q (agree i q)
          ∙ sym
          (get_or-take (total f) (each (levelled_at none to_float f l s) out) i nan q
          ∙ get_or-each (levelled_at none to_float f l s) out i nan (omega (arith, long))))

-- ---- what is lent inside

-- as many samples as are asked for stand in the bytes
bytes-reach : (size n bytes : ℕ) → 1 ≤ size → n ≤ bytes / size → n * size ≤ bytes
bytes-reach size n bytes some h = (le-div_iff_mul-le some).0 h

samples-many : {A : Type 0} (at : ℕ → A) (n : ℕ) (z : A) → length (decoded at (replicate n z)) ≡ n
samples-many at n z = length-decoded at (replicate n z) ∙ length-replicate n z

-- a place of the room holds the sample of the bytes
same-sample : {A : Type 0} (none z : A) (at : ℕ → A) (n : ℕ) (room : List A) (j : ℕ) → j < length room → j < n
    → get_or (decoded at room) j none ≡ get_or (decoded at (replicate n z)) j none
unfolding decoded
same-sample none z at n room j h q =
    get_or-each (λ i v. at i) room j none h ∙ sym (get_or-each (λ i v. at i) (replicate n z) j none (rw length-replicate q))

module _ {A : Type 0} (none zero : A) (to_float : A → Float) (at : ℕ → A) (n : ℕ) (f : Field) (l : Levels) (old : List ℕ) where
  -- the call on the n samples of the input and those of the bytes `old`
  abbrev pub out_in : BlackOut
  out_in = black_out none to_float f l (decoded at (replicate n zero)) (floats_in old)

  pub answer-in : out_in.answer ≡ answer_of f l.pattern (length l.blacks) (length l.scales) n (length old / 4)
  unfolding black_out
  answer-in =
      ap₂ (answer_of f l.pattern (length l.blacks) (length l.scales))
      (samples-many at n zero) (samples-many (float_at old) (length old / 4) nought)

  -- decoded into the work room, levelled into the other, and put back
  pub written : (work work' : List A) (made made' : List Float) {a : Answer} {bytes : List ℕ}
      → answer_of f l.pattern (length l.blacks) (length l.scales) n (length old / 4) ≡ Ok tt
      → length work ≡ total f → length made ≡ total f → work' ≡ decoded at work
      → Levelled (black_out none to_float f l work' made) a made' → bytes ≡ encoded 4 (to_bits binary32) nan made' old
      → bytes ≡ frame_in out_in (total f) old
  written work work' made made' e w m d ran put =
      put
      ∙ ap (λ (r : List Float). encoded 4 (to_bits binary32) nan r old)
      (framed none to_float f l (decoded at (replicate n zero)) work' (floats_in old) made made'
      (ap length d ∙ length-decoded at work ∙ w) m (answer-in ∙ e)
      (λ j h.
      ap (λ (r : List A). get_or r j none) d
      ∙ same-sample none zero at n work j (omega (arith, w))
      (omega (arith, (goes f l.pattern (length l.blacks) (length l.scales) n (length old / 4) e).read)))
      ran)

-- what decoding and encoding ask
module _ {f : Field} {p : Pattern} {b s size input output work made : ℕ} (k : BlackLent f p b s size input output work made) where
  pub read_fits : 1 ≤ size → work * size ≤ input
  read_fits some = bytes-reach size work input some (omega (arith, k.before, (goes f p b s (input / size) (output / 4) k.goes).read))

  pub write-fits : made * 4 ≤ output
  write-fits = bytes-reach 4 made output (omega arith) (omega (arith, k.after, (goes f p b s (input / size) (output / 4) k.goes).written))

-- ---- the answers

is-done : (a : Answer) → is_err a ≡ false → a ≡ Ok tt
is-done (Ok u) e = refl
is-done (Err r) e = cc

is-refused : (a : Answer) → is_err a ≡ true → is_ok a ≡ false
is-refused (Ok u) e = cc
is-refused (Err r) e = refl

-- the answer a to the call on all samples was asked for, and k samples were counted
module _ {A : Type 0} (none zero : A) (to_float : A → Float) (at : ℕ → A) (n : ℕ) (f : Field) (l : Levels) (old : List ℕ) (work made : ℕ)
    {a : Answer} (asked : a ≡ answer_of f l.pattern (length l.blacks) (length l.scales) n (length old / 4)) where
  given : a ≡ (out_in none zero to_float at n f l old).answer
  given = asked ∙ sym (answer-in none zero to_float at n f l old)

  pub not-refused : is_err a ≡ false → answer_of f l.pattern (length l.blacks) (length l.scales) n (length old / 4) ≡ Ok tt
  not-refused e = sym asked ∙ is-done a e

  -- the samples are the frame's
  pub counted : {k : ℕ} → is_err a ≡ false → k ≡ samples_in f → k ≡ total f
  unfolding samples_in
  counted e h =
      h
      ∙ ap (λ (t : Bool). cond t (total f) 0)
      ((exactly-when f l.pattern (length l.blacks) (length l.scales) n (length old / 4) (Ok tt)).0 (not-refused e)).0

  pub put_refused : {r : ℕ} → is_err a ≡ true → r ≡ number_of a
      → BlackPut (out_in none zero to_float at n f l old) (total f) old work made r old
  unfolding number_in bytes_in
  put_refused e q =
      let d : is_ok (out_in none zero to_float at n f l old).answer ≡ false = ap is_ok (sym given) ∙ is-refused a e in
      record { answered = rw d (q ∙ ap number_of given); left = rw d refl }

  module _ (e : is_err a ≡ false) where
    done : (out_in none zero to_float at n f l old).answer ≡ Ok tt
    done = sym given ∙ is-done a e

    short : roomy (total f) work made ≡ false → BlackPut (out_in none zero to_float at n f l old) (total f) old work made 100 old
    unfolding number_in bytes_in
    short q = record { answered = rw (done, q) refl; left = rw (done, q) refl }

    module _ {k : ℕ} (h : k ≡ samples_in f) where
      pub short-work : work < k → BlackPut (out_in none zero to_float at n f l old) (total f) old work made 100 old
      short-work q = short (ap (λ (t : Bool). t && leb (total f) made) (lt-leb (total f) work (omega (arith, counted e h))))

      pub short-made : k ≤ work → made < k → BlackPut (out_in none zero to_float at n f l old) (total f) old work made 100 old
      short-made p q =
          short (ap₂ ◌&&◌ (le-leb (total f) work (omega (arith, counted e h))) (lt-leb (total f) made (omega (arith, counted e h))))

      pub put-done : {bytes : List ℕ} → k ≤ work → k ≤ made → bytes ≡ frame_in (out_in none zero to_float at n f l old) (total f) old
          → BlackPut (out_in none zero to_float at n f l old) (total f) old work made 0 bytes
      unfolding number_in bytes_in
      put-done p q put =
          let room : roomy (total f) work made ≡ true =
          ap₂ ◌&&◌ (le-leb (total f) work (omega (arith, counted e h))) (le-leb (total f) made (omega (arith, counted e h))) in
          record { answered = rw (done, room) refl; left = rw (done, room) put }

-- ---- two results that keep the promise are equal

pub told-determined : (o : BlackOut) (r r' : ℕ) (out out' : List Float) → BlackTold o r out → BlackTold o r' out'
    → (r ≡ r') × (out ≡ out')
told-determined o r r' out out' a b = (a.answered ∙ sym b.answered, a.left ∙ sym b.left)

pub bytes-determined : {A : Type 0} (zero : A) (o : BlackOut) (n : ℕ) (old : List ℕ) (work made r r' : ℕ) (bytes bytes' : List ℕ)
    (rest rest' : List A) (spare spare' : List Float) → BlackBytes zero o n old work made r bytes rest spare
    → BlackBytes zero o n old work made r' bytes' rest' spare'
    → (r ≡ r') × (bytes ≡ bytes') × (rest ≡ rest') × (spare ≡ spare')
bytes-determined zero o n old work made r r' bytes bytes' rest rest' spare spare' a b = (
  a.put.answered ∙ sym b.put.answered,
  a.put.left ∙ sym b.put.left,
  a.work_clear ∙ sym b.work_clear,
  a.made_clear ∙ sym b.made_clear,
)
