-- The totals of a run that goes on to the end are sums along it, and those of repaired and left positions add up to that of the marked ones.
-- Assumes nothing.
use Prim.Native.Nat.{ℕ, suc, ◌+◌}
use mathlib.Core.Bool.{Bool, true, false, cond}
use mathlib.Core.List.{List, [], ◌∷◌}
use mathlib.Core.Path.{◌≡◌, refl, sym, subst}
use native.Mathlib.Omega.{arith}
use lib.Dec.{leb}
use Rattle.pointwise.specs.Points.{each}
use Rattle.dng.specs.List.{Item, body_of, items_of}
use Rattle.dng.specs.Repair.{marked_in, repaired_in, left_in, repair_at}
use Rattle.dng.specs.declared.Class.{Class}
use Rattle.dng.specs.declared.Class.TheVariants.{Table, Empty, Local, Repair, Unapplied}
use Rattle.dng.specs.Run.{drops, class_of, Progress, going, marks_full, repair_on, perform_on, perform, perform_all}
use Rattle.fix_repair.proofs.Totals.{totals}
use Rattle.law_promises.proofs.Stops.{still-marks}
use Rattle.law_promises.specs.Promises.{Call, performed, marks_on, count_on, count_at, sum_from, sum_over, Totals}

module _ {A : Type 0} (c : Call A) where
  abbrev all : ℕ → List Item → Progress A → Progress A
  all k is g = perform_all c.kind c.window c.period c.room c.preview c.list k is g

  abbrev one : Item → ℕ → Progress A → Progress A
  one i k g = cond (drops c.preview i) g (perform c.kind c.window c.period c.room c.list i k g)

  abbrev mended : (ℕ → Bool) → ℕ
  mended bad = repaired_in c.window c.period bad

  abbrev stayed : (ℕ → Bool) → ℕ
  stayed bad = left_in c.window c.period bad

  abbrev marked : (ℕ → Bool) → ℕ
  marked bad = marked_in c.window bad

  -- ---- the parts of a sum

  parts-on : (z : Class) (i : Item) (t : List A) → count_on c mended z i t + count_on c stayed z i t ≡ count_on c marked z i t
  parts-on Table i t = refl
  parts-on Empty i t = refl
  parts-on Local i t = refl
  parts-on Repair i t = totals c.window c.period (marks_on c i t)
  parts-on Unapplied i t = refl

  parts_at : (i : Item) (g : Progress A) → count_at c mended i g + count_at c stayed i g ≡ count_at c marked i g
  parts_at i (going t r l) = either (drops c.preview i)
    where
      either : (d : Bool) → cond d 0 (count_on c mended (class_of i.op) i t) + cond d 0 (count_on c stayed (class_of i.op) i t)
          ≡ cond d 0 (count_on c marked (class_of i.op) i t)
      either true = refl
      either false = parts-on (class_of i.op) i t
  parts_at i (marks_full t k) = refl

  parts : (is : List Item) (k : ℕ) (g : Progress A) → sum_from c mended k is g + sum_from c stayed k is g ≡ sum_from c marked k is g
  unfolding sum_from
  parts [] k g = refl
  parts (i ∷ is) k g = omega (arith, parts_at i g, parts is (suc k) (one i k g))

  -- ---- the totals of a run

  -- a run that is at the totals a and b, and has u to repair and v to leave, comes to their sums if it goes on
  abbrev Comes : (a b u v : ℕ) → Progress A → Type 0
  Comes a b u v (going t r l) = (r ≡ a + u) × (l ≡ b + v)
  Comes a b u v (marks_full t k) = Unit

  one-comes : (i : Item) (k : ℕ) (s : List A) (a b : ℕ)
      → Comes a b (count_at c mended i (going s a b)) (count_at c stayed i (going s a b)) (one i k (going s a b))
  unfolding repair_on
  one-comes i k s a b = either (drops c.preview i)
    where
      bad : ℕ → Bool
      bad = marks_on c i s

      mends : (x : Bool)
          → Comes a b (mended bad) (stayed bad) (cond x
          (going (each (repair_at c.kind.none c.kind.to_float c.kind.of_mean c.window c.period bad s) s) (a + mended bad) (b + stayed bad))
          (marks_full s k))
      mends true = (refl, refl)
      mends false = tt

      go : (z : Class) → Comes a b (count_on c mended z i s) (count_on c stayed z i s)
          (perform_on c.kind c.window c.period c.room z i.op (body_of c.list i.entry) k s a b)
      go Table = (omega arith, omega arith)
      go Empty = (omega arith, omega arith)
      go Local = (omega arith, omega arith)
      go Repair = mends (leb (marked bad) c.room.marks)
      go Unapplied = (omega arith, omega arith)

      either : (d : Bool) → Comes a b (cond d 0 (count_on c mended (class_of i.op) i s)) (cond d 0 (count_on c stayed (class_of i.op) i s))
          (cond d (going s a b) (perform c.kind c.window c.period c.room c.list i k (going s a b)))
      either true = (omega arith, omega arith)
      either false = go (class_of i.op)

  -- what is still to come, after the totals have grown
  comes-on : (a b u v a' b' u' v' : ℕ) → a' ≡ a + u → b' ≡ b + v → (p : Progress A) → Comes a' b' u' v' p → Comes a b (u + u') (v + v') p
  comes-on a b u v a' b' u' v' x y (going t r l) h = (omega (arith, h.0), omega (arith, h.1))
  comes-on a b u v a' b' u' v' x y (marks_full t k) h = tt

  after_one : (k : ℕ) (is : List Item) (a b u v : ℕ)
      → ((s : List A) (a b : ℕ) → Comes a b (sum_from c mended (suc k) is (going s a b)) (sum_from c stayed (suc k) is (going s a b))
      (all (suc k) is (going s a b)))
      → (g : Progress A) → Comes a b u v g
      → Comes a b (u + sum_from c mended (suc k) is g) (v + sum_from c stayed (suc k) is g) (all (suc k) is g)
  after_one k is a b u v more (going s a' b') h =
      comes-on a b u v a' b' (sum_from c mended (suc k) is (going s a' b')) (sum_from c stayed (suc k) is (going s a' b')) h.0 h.1
      (all (suc k) is (going s a' b')) (more s a' b')
  after_one k is a b u v more (marks_full t o) h =
      subst (Comes a b (u + sum_from c mended (suc k) is (marks_full t o)) (v + sum_from c stayed (suc k) is (marks_full t o)))
      (sym (still-marks c.kind c.window c.period c.room c.preview c.list (suc k) is t o)) tt

  comes : (is : List Item) (k : ℕ) (s : List A) (a b : ℕ)
      → Comes a b (sum_from c mended k is (going s a b)) (sum_from c stayed k is (going s a b)) (all k is (going s a b))
  unfolding sum_from perform_all
  comes [] k s a b = (omega arith, omega arith)
  comes (i ∷ is) k s a b =
      after_one k is a b (count_at c mended i (going s a b)) (count_at c stayed i (going s a b)) (λ s' a' b'. comes is (suc k) s' a' b')
      (one i k (going s a b)) (one-comes i k s a b)

  -- a run that goes on to the end
  pub adds-up : (t : List A) (r l : ℕ) → performed c (items_of c.list) ≡ going t r l → Totals c r l
  adds-up t r l e =
      let h : Comes 0 0 (sum_over c mended) (sum_over c stayed) (going t r l) =
      subst (Comes 0 0 (sum_over c mended) (sum_over c stayed)) e (comes (items_of c.list) 0 c.samples 0 0) in
      let p = parts (items_of c.list) 0 (going c.samples 0 0) in
      record { repaired = omega (arith, h.0); left = omega (arith, h.1); marked = omega (arith, h.0, h.1, p) }
