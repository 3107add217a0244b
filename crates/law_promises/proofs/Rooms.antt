-- How much scratch is enough: a run that goes on to the end does so with any scratch that the sums of its repairs fit. Assumes nothing.
use Prim.Native.Nat.{ℕ, suc, ◌+◌, ◌≤◌}
use mathlib.Core.Bool.{Bool, true, false, cond}
use mathlib.Core.List.{List, [], ◌∷◌}
use mathlib.Core.Path.{◌≡◌, refl, sym, ap, subst, ◌∙◌}
use native.Mathlib.Omega.{arith}
use borrow.Author.Tests.{le-leb}
use lib.Dec.{leb}
use Rattle.pointwise.specs.Points.{each}
use Rattle.dng.specs.declared.Answer.TheVariants as Ans
use Rattle.dng.specs.List.{Item, items_of, body_of}
use Rattle.dng.specs.Repair.{marked_in, repaired_in, left_in, repair_at}
use Rattle.dng.specs.declared.Class.{Class}
use Rattle.dng.specs.declared.Class.TheVariants.{Table, Empty, Local, Repair, Unapplied}
use Rattle.dng.specs.Run.{drops, class_of, Progress, going, marks_full, Room, repair_on, perform_on, perform, perform_all}
use Rattle.dng.specs.Answer.{finished}
use Rattle.law_promises.specs.Promises.{Call, out_of, performed, When, with_room, marks_on, count_on, count_at, sum_from}
use Rattle.law_promises.proofs.Stops.{still-marks}
use Rattle.law_promises.proofs.Answers.{named, goes_on}
use Rattle.law_promises.proofs.Sums.{adds-up}

module _ {A : Type 0} (c : Call A) where
  abbrev all : ℕ → List Item → Progress A → Progress A
  all k is g = perform_all c.kind c.window c.period c.room c.preview c.list k is g

  abbrev one : Item → ℕ → Progress A → Progress A
  one i k g = cond (drops c.preview i) g (perform c.kind c.window c.period c.room c.list i k g)

  abbrev mended : (ℕ → Bool) → ℕ
  mended bad = repaired_in c.window c.period bad

  abbrev marked : (ℕ → Bool) → ℕ
  marked bad = marked_in c.window bad

  -- a repair that is done
  abbrev fixed : (ℕ → Bool) → List A → (a b : ℕ) → Progress A
  fixed bad s a b =
      going (each (repair_at c.kind.none c.kind.to_float c.kind.of_mean c.window c.period bad s) s) (a + mended bad)
      (b + left_in c.window c.period bad)

  abbrev mends : (ℕ → Bool) → (k : ℕ) → List A → (a b : ℕ) → (fits : Bool) → Progress A
  mends bad k s a b x = cond x (fixed bad s a b) (marks_full s k)

  -- ---- an opcode or a run that goes on has not stopped

  unstopped : {P : Type 0} (k : ℕ) (is : List Item) (t : List A) (r l : ℕ) (g : Progress A) → all k is g ≡ going t r l
      → ((s : List A) (a b : ℕ) → g ≡ going s a b → all k is (going s a b) ≡ going t r l → P) → P
  unstopped k is t r l (going s a b) e f = f s a b refl e
  unstopped k is t r l (marks_full s o) e f =
      absurd (let z : ◌≡◌ {A = ℕ} 0 1 = cc (still-marks c.kind c.window c.period c.room c.preview c.list k is s o) in omega arith)

  -- a repair that goes on is done
  repaired-on : (bad : ℕ → Bool) (k : ℕ) (s : List A) (a b : ℕ) (t : List A) (r l : ℕ)
      → repair_on c.kind c.window c.period c.room bad k s a b ≡ going t r l → fixed bad s a b ≡ going t r l
  unfolding repair_on
  repaired-on bad k s a b t r l = go (leb (marked bad) c.room.marks)
    where
      go : (x : Bool) → mends bad k s a b x ≡ going t r l → fixed bad s a b ≡ going t r l
      go true e = e
      go false e = absurd (let z : ◌≡◌ {A = ℕ} 0 1 = cc in omega arith)

  -- ---- another room that the sum of the marks fits

  module _ (room : Room) where
    one_same : (i : Item) (k : ℕ) (s : List A) (a b : ℕ) (t : List A) (r l : ℕ) → one i k (going s a b) ≡ going t r l
        → count_at c marked i (going s a b) ≤ room.marks
        → cond (drops c.preview i) (going s a b) (perform c.kind c.window c.period room c.list i k (going s a b)) ≡ going t r l
    unfolding repair_on
    one_same i k s a b t r l = either (drops c.preview i)
      where
        bad : ℕ → Bool
        bad = marks_on c i s

        go : (z : Class) → perform_on c.kind c.window c.period c.room z i.op (body_of c.list i.entry) k s a b ≡ going t r l
            → count_on c marked z i s ≤ room.marks
            → perform_on c.kind c.window c.period room z i.op (body_of c.list i.entry) k s a b ≡ going t r l
        go Table e p = e
        go Empty e p = e
        go Local e p = e
        go Repair e p = ap (mends bad k s a b) (le-leb (marked bad) room.marks p) ∙ repaired-on bad k s a b t r l e
        go Unapplied e p = e

        either : (d : Bool)
            → cond d (going s a b) (perform c.kind c.window c.period c.room c.list i k (going s a b)) ≡ going t r l
            → cond d 0 (count_on c marked (class_of i.op) i s) ≤ room.marks
            → cond d (going s a b) (perform c.kind c.window c.period room c.list i k (going s a b)) ≡ going t r l
        either true e p = e
        either false e p = go (class_of i.op) e p

    same-run : (is : List Item) (k : ℕ) (s : List A) (a b : ℕ) (t : List A) (r l : ℕ) → all k is (going s a b) ≡ going t r l
        → sum_from c marked k is (going s a b) ≤ room.marks → perform_all c.kind c.window c.period room c.preview c.list k is (going s a b)
        ≡ going t r l
    unfolding sum_from perform_all
    same-run [] k s a b t r l e f = e
    same-run (i ∷ is) k s a b t r l e f =
        unstopped (suc k) is t r l (one i k (going s a b)) e
        (λ s' a' b' q e'.
        let u : sum_from c marked (suc k) is (one i k (going s a b)) ≡ sum_from c marked (suc k) is (going s' a' b') = ap (sum_from c marked (suc k) is) q in
        let x : count_at c marked i (going s a b) ≤ room.marks = omega (arith, f) in
        ap (perform_all c.kind c.window c.period room c.preview c.list (suc k) is) (one_same i k s a b s' a' b' q x)
        ∙ same-run is (suc k) s' a' b' t r l e' (omega (arith, f, u)))

  -- ---- of a call

  module _ (n r l : ℕ) (h : When c (Ans.Done n r l)) where
    -- a run that answers 0, with other scratch
    pub other-room : (room : Room) → r + l ≤ room.marks → out_of (with_room c room) ≡ out_of c
    other-room room p =
        let t = adds-up c h.2.0 r l h.2.1 in
        let same : performed (with_room c room) (items_of c.list) ≡ performed c (items_of c.list) =
        same-run room (items_of c.list) 0 c.samples 0 0 h.2.0 r l h.2.1 (subst (λ (m : ℕ). m ≤ room.marks) t.marked p)
        ∙ sym h.2.1 in
        goes_on (with_room c room) (record { ranges = h.0.ranges; whole = h.0.whole; taken = h.0.taken; named = h.0.named })
        ∙ ap (finished (named c) c.names) same ∙ sym (goes_on c h.0)
