-- Where a run stops: at the first repair for which the scratch is too short, with the samples that the opcodes before it left. Assumes nothing.
use Prim.Native.Nat.{ℕ, zero, suc, ◌+◌, ◌<◌}
use mathlib.Core.Bool.{Bool, true, false, cond}
use mathlib.Core.List.{List, [], ◌∷◌}
use mathlib.Core.Path.{◌≡◌, refl, sym, ap, ap₂, subst, ◌∙◌}
use native.Mathlib.Omega.{arith}
use borrow.Author.Tests.{leb-false, lt-leb}
use lib.Dec.{leb}
use lib.ListN.{take, drop}
use Rattle.pointwise.specs.Points.{each}
use Rattle.dng.specs.declared.Window.{Window}
use Rattle.dng.specs.List.{Item, body_of, items_of}
use Rattle.dng.specs.Repair.{marks_of, marked_in, repaired_in, left_in, repair_at}
use Rattle.dng.specs.declared.Class.{Class}
use Rattle.dng.specs.declared.Class.TheVariants.{Table, Empty, Local, Repair, Unapplied}
use Rattle.dng.specs.Run.{drops, class_of, Kind, Progress, going, marks_full, Room, repair_on, perform_on, perform, perform_all}
use Rattle.law_promises.specs.Promises.{Call, performed, Reached, MarksOver}

module _ {A : Type 0} (kind : Kind A) (w : Window) (period : ℕ) (room : Room) (preview : Bool) (list : List ℕ) where
  abbrev all : ℕ → List Item → Progress A → Progress A
  all k is g = perform_all kind w period room preview list k is g

  abbrev one : Item → ℕ → Progress A → Progress A
  one i k g = cond (drops preview i) g (perform kind w period room list i k g)

  abbrev bad : Item → List A → ℕ → Bool
  bad i t = marks_of kind.none w kind.is_bad i.op (body_of list i.entry) t

  -- ---- the fold

  -- what has stopped stays so
  pub still-marks : (k : ℕ) (is : List Item) (t : List A) (o : ℕ) → all k is (marks_full t o) ≡ marks_full t o
  unfolding perform_all
  still-marks k [] t o = refl
  still-marks k (i ∷ is) t o = stopped (drops preview i) (still-marks (suc k) is t o)
    where
      stopped : (d : Bool) → all (suc k) is (marks_full t o) ≡ marks_full t o → all (suc k) is (cond d (marks_full t o) (marks_full t o)) ≡ marks_full t o
      stopped true h = h
      stopped false h = h

  -- the first m opcodes, then the others
  split : (m k : ℕ) (is : List Item) (g : Progress A) → all k is g ≡ all (k + m) (drop m is) (all k (take m is) g)
  unfolding perform_all
  split zero k is g = ap (λ (n : ℕ). all n is g) (omega arith)
  split (suc m) k [] g = refl
  split (suc m) k (i ∷ is) g =
      split m (suc k) is (one i k g) ∙ ap (λ (n : ℕ). all n (drop m is) (all (suc k) (take m is) (one i k g))) (omega arith)

  -- ---- from a stop to the repair

  -- the repair m opcodes on, reached with the samples t
  record From (k : ℕ) (is : List Item) (g : Progress A) (m : ℕ) (t : List A) : Type 0 where
    repaired : ℕ
    left : ℕ
    ran : all k (take m is) g ≡ going t repaired left
    item : Item
    rest : List Item
    stands : drop m is ≡ item ∷ rest
    repairs : class_of item.op ≡ Repair
    shown : drops preview item ≡ false

  -- what one opcode shows that stops
  abbrev Now : Item → ℕ → List A → Progress A → Type 0
  Now i k s (going t r l) = Unit
  Now i k s (marks_full t o) = (t ≡ s) × (o ≡ k) × (class_of i.op ≡ Repair) × (drops preview i ≡ false) × (room.marks < marked_in w (bad i t))

  now : (i : Item) (k : ℕ) (s : List A) (r l : ℕ) → Now i k s (one i k (going s r l))
  unfolding repair_on
  now i k s r l = either (drops preview i) refl
    where
      mends : drops preview i ≡ false → class_of i.op ≡ Repair → (a : Bool) → leb (marked_in w (bad i s)) room.marks ≡ a
          → Now i k s (cond a
          (going (each (repair_at kind.none kind.to_float kind.of_mean w period (bad i s) s) s) (r + repaired_in w period (bad i s))
          (l + left_in w period (bad i s)))
          (marks_full s k))
      mends d e true p = tt
      mends d e false p = (refl, refl, e, d, leb-false _ _ p)

      go : drops preview i ≡ false → (z : Class) → class_of i.op ≡ z → Now i k s (perform_on kind w period room z i.op (body_of list i.entry) k s r l)
      go d Table e = tt
      go d Empty e = tt
      go d Local e = tt
      go d Repair e = mends d e (leb (marked_in w (bad i s)) room.marks) refl
      go d Unapplied e = tt

      either : (d : Bool) → drops preview i ≡ d → Now i k s (cond d (going s r l) (perform kind w period room list i k (going s r l)))
      either true e = tt
      either false e = go e (class_of i.op) refl

  -- what a run shows that stops
  abbrev Seen : ℕ → List Item → Progress A → Progress A → Type 0
  Seen k is g (going t r l) = Unit
  Seen k is g (marks_full t o) = (m : ℕ) × (o ≡ k + m) × (f : From k is g m t) × (room.marks < marked_in w (bad f.item t))

  module _ (i : Item) (is : List Item) (k : ℕ) (s : List A) (r l : ℕ) where
    here : {t : List A} → t ≡ s → class_of i.op ≡ Repair → drops preview i ≡ false → From k (i ∷ is) (going s r l) 0 t
    unfolding perform_all
    here e z d =
        record {
          repaired = r;
          left = l;
          ran = ap (λ (u : List A). going u r l) (sym e);
          item = i;
          rest = is;
          stands = refl;
          repairs = z;
          shown = d;
        }

    further : {g : Progress A} {m : ℕ} {t : List A} → one i k (going s r l) ≡ g → From (suc k) is g m t → From k (i ∷ is) (going s r l) (suc m) t
    unfolding perform_all
    further {m = m} e f =
        record {
          repaired = f.repaired;
          left = f.left;
          ran = ap (all (suc k) (take m is)) e ∙ f.ran;
          item = f.item;
          rest = f.rest;
          stands = f.stands;
          repairs = f.repairs;
          shown = f.shown;
        }

    lift : {g : Progress A} → one i k (going s r l) ≡ g → (p : Progress A) → Seen (suc k) is g p → Seen k (i ∷ is) (going s r l) p
    unfolding further
    lift e (going t a b) n = tt
    lift e (marks_full t o) n = (suc n.0, omega (arith, n.1), further e n.2, n.3)

    on : ((s' : List A) (r' l' : ℕ) → Seen (suc k) is (going s' r' l') (all (suc k) is (going s' r' l')))
        → (g : Progress A) → one i k (going s r l) ≡ g → Now i k s g → Seen k (i ∷ is) (going s r l) (all (suc k) is g)
    unfolding here
    on more (going s' r' l') e n = lift e (all (suc k) is (going s' r' l')) (more s' r' l')
    on more (marks_full t o) e n =
        subst (Seen k (i ∷ is) (going s r l)) (sym (still-marks (suc k) is t o)) (0, omega (arith, n.1), here n.0 n.2 n.3, n.4)

  seen : (is : List Item) (k : ℕ) (s : List A) (r l : ℕ) → Seen k is (going s r l) (all k is (going s r l))
  unfolding perform_all
  seen [] k s r l = tt
  seen (i ∷ is) k s r l = on i is k s r l (λ s' r' l'. seen is (suc k) s' r' l') (one i k (going s r l)) refl (now i k s r l)

  -- ---- from the repair to the stop

  module _ (i : Item) (k : ℕ) (t : List A) (r l : ℕ) (e : class_of i.op ≡ Repair) (d : drops preview i ≡ false) where
    one-repair : one i k (going t r l) ≡ repair_on kind w period room (bad i t) k t r l
    one-repair =
        ap (λ (b : Bool). cond b (going t r l) (perform kind w period room list i k (going t r l))) d
        ∙ ap (λ (z : Class). perform_on kind w period room z i.op (body_of list i.entry) k t r l) e

    one-marks : room.marks < marked_in w (bad i t) → one i k (going t r l) ≡ marks_full t k
    unfolding repair_on
    one-marks h = one-repair ∙ rw (lt-leb (marked_in w (bad i t)) room.marks h) refl

  -- the run from that repair on
  from-there : (m : ℕ) (is : List Item) (g : Progress A) (t : List A) (r l : ℕ) (i : Item) (rest : List Item) (p : Progress A)
      → all 0 (take m is) g ≡ going t r l → drop m is ≡ i ∷ rest → one i m (going t r l) ≡ p → all 0 is g ≡ all (suc m) rest p
  unfolding perform_all
  from-there m is g t r l i rest p a b e =
      split m 0 is g
      ∙ ap (λ (n : ℕ). all n (drop m is) (all 0 (take m is) g)) (let z : 0 + m ≡ m = omega arith in z)
      ∙ ap₂ (λ (js : List Item) (h : Progress A). all m js h) b a
      ∙ ap (all (suc m) rest) e

-- ---- of a call

module _ {A : Type 0} (c : Call A) where
  abbrev There : ℕ → List A → Type 0
  There m t = From c.kind c.window c.period c.room c.preview c.list 0 (items_of c.list) (going c.samples 0 0) m t

  there : {m : ℕ} {t : List A} → There m t → Reached c m t
  there f =
      record {
        repaired = f.repaired;
        left = f.left;
        ran = f.ran;
        item = f.item;
        rest = f.rest;
        stands = f.stands;
        repairs = f.repairs;
        shown = f.shown;
      }

  -- what all opcodes come to shows where they stopped
  abbrev Shown : Progress A → Type 0
  Shown (going t r l) = Unit
  Shown (marks_full t k) = MarksOver c k t

  show : (p : Progress A) → Seen c.kind c.window c.period c.room c.preview c.list 0 (items_of c.list) (going c.samples 0 0) p → Shown p
  unfolding there
  show (going t r l) n = tt
  show (marks_full t k) n =
      let z : n.0 ≡ k = omega (arith, n.1) in
      subst (λ (m : ℕ). MarksOver c m t) z (record { reached = there n.2; over = n.3 })

  pub shown : (p : Progress A) → performed c (items_of c.list) ≡ p → Shown p
  shown p e = subst Shown e (show (performed c (items_of c.list))
      (seen c.kind c.window c.period c.room c.preview c.list (items_of c.list) 0 c.samples 0 0))

  pub marks-stop : (k : ℕ) (t : List A) → MarksOver c k t → performed c (items_of c.list) ≡ marks_full t k
  marks-stop k t h =
      let f = h.reached in
      from-there c.kind c.window c.period c.room c.preview c.list k (items_of c.list) (going c.samples 0 0) t f.repaired f.left
      f.item
      f.rest (marks_full t k) f.ran f.stands
      (one-marks c.kind c.window c.period c.room c.preview c.list f.item k t f.repaired f.left f.repairs f.shown h.over)
      ∙ still-marks c.kind c.window c.period c.room c.preview c.list (suc k) f.rest t k
