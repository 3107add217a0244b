-- A window's samples that stand in bytes, over the kind: decoded, run, put back; and the test of the work room before all. Assumes nothing.
use Prim.Native.Nat.{ℕ, ◌/◌, ◌≤◌, ◌<◌}
use mathlib.Core.Path.{◌≡◌, refl, sym, ap, ap₂, subst, ◌∙◌}
use mathlib.Core.Bool.{Bool, cond}
use mathlib.Core.List.{List}
use borrow.Author.Tests.{le-leb, lt-leb}
use lib.ListN.{length, take, replicate, length-replicate}
use lib.Seq.{length-take-le}
use Rattle.dng.specs.declared.Answer.{Answer}
use Rattle.dng.specs.declared.Numbers.{Numbers}
use Rattle.dng.specs.Run.{Room}
use Rattle.dng.specs.Answer.{Out, Ran, numbers_of}
use Rattle.run_bytes.specs.Samples.{decoded, encoded, cleared}
use Rattle.run_bytes.proofs.Laws.{decoded-any, cleared-whole}
use Rattle.rolbhunga.specs.Calls.{short, reached, Told, bytes_of, Left, Bytes}

module _ {A : Type 0} where
  -- a typed run, in numbers
  pub told : (o : Out A) (room : Room) (a : Answer) (r : Numbers) (samples : List A) (names marks : List ℕ)
      → Ran o room a samples names marks → r ≡ numbers_of a → Told o room r samples names marks
  told o room a r samples names marks ran e =
      record {
        answered = e ∙ ap numbers_of ran.answered;
        ran = record {
          answered = refl;
          left = ran.left;
          named = ran.named;
          marks_clear = ran.marks_clear;
        };
      }

  module _ (size : ℕ) (bits : A → ℕ) (none : A) where
    abbrev put : List ℕ → Answer → List A → List ℕ
    put old a s = cond (reached a) (encoded size bits none s old) old

    -- F is the run, by its samples
    pub left : (F : List A → Out A) (room : Room) (at : ℕ → A) (old bytes names marks : List ℕ) (lent full s : List A)
        (a : Answer) (done : Bool)
        → full ≡ decoded at lent → Ran (F full) room a s names marks → done ≡ reached a
        → bytes ≡ cond done (encoded size bits none s old) old
        → Left size bits none (F (decoded at lent)) room old a bytes names marks
    left F room at old bytes names marks lent full s a done e ran d p =
        let r : Ran (F (decoded at lent)) room a s names marks =
        subst (λ (l : List A). Ran (F l) room a s names marks) e ran in
        let b : bytes ≡ put old a s = p ∙ ap (λ (t : Bool). cond t (encoded size bits none s old) old) d in
        record {
          answered = r.answered;
          left = b ∙ ap₂ (put old) r.answered r.left;
          named = r.named;
          marks_clear = r.marks_clear;
        }

    samples-are : (zero : A) (at : ℕ → A) (n : ℕ) (work : List A) → n ≤ length work
        → decoded at (take n work) ≡ decoded at (replicate n zero)
    samples-are zero at n work h =
        decoded-any none at (take n work) (replicate n zero) (length-take-le n work h ∙ sym (length-replicate n zero))

    -- enough work room
    pub enough : (zero : A) (F : List A → Out A) (room : Room) (at : ℕ → A) (old bytes oldNames names marks : List ℕ)
        (work mid rest : List A) (a : Answer) (r : Numbers)
        → length old / size ≤ length work
        → Left size bits none (F (decoded at (take (length old / size) work))) room old a bytes names marks → r ≡ numbers_of a
        → rest ≡ cleared zero mid → length rest ≡ length work
        → Bytes size bits none zero (F (decoded at (replicate (length old / size) zero))) room old oldNames (length work) r bytes names marks
        rest
    enough zero F room at old bytes oldNames names marks work mid rest a r h ran e clear many =
        let o : Out A = F (decoded at (replicate (length old / size) zero)) in
        let t : Left size bits none o room old a bytes names marks =
        subst (λ (l : List A). Left size bits none (F l) room old a bytes names marks)
        (samples-are zero at (length old / size) work h) ran in
        record {
          answered = e ∙ ap numbers_of t.answered ∙ ap (λ (b : Bool). cond b (numbers_of o.answer) short) (sym (le-leb _ _ h));
          left = t.left ∙ ap (λ (b : Bool). cond b (bytes_of size bits none o old) old) (sym (le-leb _ _ h));
          named = t.named ∙ ap (λ (b : Bool). cond b o.names oldNames) (sym (le-leb _ _ h));
          marks_clear = t.marks_clear;
          work_clear = cleared-whole zero mid rest (length work) clear many;
        }

    -- too little
    pub too-little : (zero : A) (o : Out A) (room : Room) (old names marks : List ℕ) (work rest : List A) (r : Numbers)
        → length work < length old / size → (r ≡ short) × (marks ≡ replicate room.marks 0) → rest ≡ cleared zero work
        → Bytes size bits none zero o room old names (length work) r old names marks rest
    unfolding cleared
    too-little zero o room old names marks work rest r h e clear =
        record {
          answered = e.0 ∙ ap (λ (b : Bool). cond b (numbers_of o.answer) short) (sym (lt-leb _ _ h));
          left = ap (λ (b : Bool). cond b (bytes_of size bits none o old) old) (sym (lt-leb _ _ h));
          named = ap (λ (b : Bool). cond b o.names names) (sym (lt-leb _ _ h));
          marks_clear = e.1;
          work_clear = clear;
        }
