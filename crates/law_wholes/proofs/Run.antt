-- Both runs, opcode by opcode: samples are exact until the one repair and near after it, and both go on to the end with the same totals, or both stop at
-- that repair in the same way. With room for any repair they do not stop.
-- Assumes nothing.
use Prim.Native.Nat.{ℕ, suc, ◌+◌, ◌<◌}
use mathlib.Core.Path.{◌≡◌, refl, sym, ap, ap₂, subst, ◌∙◌}
use mathlib.Core.Bool.{Bool, true, false, ◌&&◌, cond, false≢true}
use mathlib.Core.List.{List, [], ◌∷◌}
use native.Mathlib.Nat.{le_trans}
use borrow.Author.Tests.{le-leb}
use lib.Dec.{leb, eqb}
use lib.Ieee.{Float, nan}
use lib.ListN.{length, get_or}
use Rattle.pointwise.specs.Points.{each}
use Rattle.dng.specs.declared.Region.{Region}
use Rattle.dng.specs.declared.Window.{Window}
use Rattle.dng.specs.declared.Opcode.{Opcode}
use Rattle.dng.specs.declared.Opcode.TheVariants.{WarpRectilinear, WarpFisheye, FixVignetteRadial, FixBadPixelsConstant, FixBadPixelsList, TrimBounds, MapTable, MapPolynomial, GainMap, DeltaPerRow, DeltaPerColumn, ScalePerRow, ScalePerColumn, Other}
use Rattle.dng.specs.List.{Item, body_of}
use Rattle.dng.specs.Select.{on_window}
use Rattle.dng.specs.Value.{one, table_at, map_table, map_table16, rule_of, rule16_of}
use Rattle.dng.specs.Repair.{marks_of, marked_in, repaired_in, left_in}
use Rattle.dng.specs.declared.Class.TheVariants.{Table, Empty}
use Rattle.dng.specs.Run.{drops, kept_of, class_of, takes16_on, takes16_from, Kind, f32_kind, u16_kind, Progress, going, marks_full, Room, repair_on, perform_on, perform, perform_all}
use Rattle.dng.specs.Answer.{frame_of}
use Rattle.law_wholes.specs.WholeForm.{Below, Enough}
use Rattle.law_wholes.proofs.Near.{Exact, Near, exact-near}
use Rattle.law_wholes.proofs.Pairs.{Pairs, pairs-weaken, pairs-each}
use Rattle.law_wholes.proofs.Marks.{Agree, bad16, bad32, marks-same, marked-same, repaired-same, left-same, marked-le}
use Rattle.law_wholes.proofs.Repairs.{mend16, mend32, repair-near}
use Rattle.law_wholes.proofs.Tables.{Kept, body_entry, region-pair, window-pair, table-pair}

-- the f32 samples of a run at scale 1
abbrev pub kind32 : Window → Kind Float
kind32 w = f32_kind (frame_of w one)

-- how the samples stand: exact while a repair may still come, near after it
abbrev pub Rel : Bool → ℕ → Float → Type 0
Rel true = Exact
Rel false = Near

rel-kept : (free : Bool) → Kept (Rel free)
rel-kept true = record { from = λ a v e. e; to = λ a v e. exact-near e }
rel-kept false = record { from = λ a v e. exact-near e; to = λ a v n. n }

-- what one scratch holds the other does
abbrev pub Tests : (w : Window) (room room' : Room) → Type 0
Tests w room room' = (bad : ℕ → Bool) → leb (marked_in w bad) room.marks ≡ leb (marked_in w bad) room'.marks

pub tests_same : (w : Window) (room : Room) → Tests w room room
tests_same w room bad = refl

-- room for any repair of the window
marks-fit : (w : Window) (room : Room) → Enough w room → (bad : ℕ → Bool) → leb (marked_in w bad) room.marks ≡ true
marks-fit w room enough bad = le-leb (marked_in w bad) room.marks (le_trans (marked-le w bad) enough.marks)

pub tests-enough : (w : Window) (room room' : Room) → Enough w room → Enough w room' → Tests w room room'
tests-enough w room room' e e' bad = marks-fit w room e bad ∙ sym (marks-fit w room' e' bad)

-- where one opcode leaves both runs: what is left of the list is taken, and both go on with the same totals; or both stop
data Step (w : Window) (room : Room) (rest : Bool → Bool) : Progress ℕ → Progress Float → Type 0 where
  goes : {s : List ℕ} {t : List Float} {r l : ℕ} → (free : Bool) → rest free ≡ true → Pairs (Rel free) s t → Step w room rest (going s r l) (going t r l)
  no_marks : {s : List ℕ} {t : List Float} {k : ℕ} → (Enough w room → ⊥) → Pairs Exact s t → Step w room rest (marks_full s k) (marks_full t k)

-- where both runs end
pub data Ends (w : Window) (room : Room) : Progress ℕ → Progress Float → Type 0 where
  ended : {s : List ℕ} {t : List Float} {r l : ℕ} → Pairs Near s t → Ends w room (going s r l) (going t r l)
  ended_marks : {s : List ℕ} {t : List Float} {k : ℕ} → (Enough w room → ⊥) → Pairs Near s t → Ends w room (marks_full s k) (marks_full t k)

-- what has stopped stays so
module _ {A : Type 0} (kind : Kind A) (w : Window) (period : ℕ) (room : Room) (preview : Bool) (list : List ℕ) where
  still-marks : (k : ℕ) (is : List Item) (t : List A) (o : ℕ) → perform_all kind w period room preview list k is (marks_full t o) ≡ marks_full t o
  unfolding perform_all
  still-marks k [] t o = refl
  still-marks k (i ∷ is) t o = stopped (drops preview i) (still-marks (suc k) is t o)
    where
      stopped :
          (d : Bool) → perform_all kind w period room preview list (suc k) is (marks_full t o) ≡ marks_full t o
          → perform_all kind w period room preview list (suc k) is (cond d (marks_full t o) (marks_full t o)) ≡ marks_full t o
      stopped true h = h
      stopped false h = h

module _ (w : Window) (period : ℕ) (room room' : Room) (planes : 0 < w.planes) (tests : Tests w room room') where
  table_step : (free : Bool) (rest : Bool → Bool) (reg : Region) (n : ℕ) (b : List ℕ) → ((i : ℕ) → table_at b i < 65536)
      → (s : List ℕ) (t : List Float) (r l : ℕ) → rest free ≡ true → Pairs (Rel free) s t
      → Step w room rest (going (each (on_window w (length s) (rule16_of (MapTable reg n) b)) s) r l)
      (going (each (on_window w (length t) (rule_of (frame_of w one) (MapTable reg n) b)) t) r l)
  table_step free rest reg n b entries s t r l e p =
      goes free e
      (pairs-each (on_window w (length s) f) (on_window w (length t) g) s t p
      (λ i q a.
      subst (λ (m : ℕ). Rel free (on_window w (length s) f i (get_or s i 0)) (on_window w m g i (get_or t i nan))) (sym p.long)
      (window-pair (Rel free) w (length s) f g (get_or s i 0) (get_or t i nan)
      (region-pair (Rel free) reg (λ y x k v. cond (eqb n 0) v (map_table16 n b v)) (λ y x k v. cond (eqb n 0) v (map_table one n b v))
      (get_or s i 0) (get_or t i nan) (λ y x k. table-pair (Rel free) (rel-kept free) n b entries (get_or s i 0) (get_or t i nan) a) a)
      a i)))
    where
      f : Bool → ℕ → ℕ → ℕ → ℕ → ℕ
      f = rule16_of (MapTable reg n) b

      g : Bool → ℕ → ℕ → ℕ → Float → Float
      g = rule_of (frame_of w one) (MapTable reg n) b

  repair-step : (rest : Bool → Bool) (op : Opcode) (b : List ℕ) (k : ℕ) (s : List ℕ) (t : List Float) (r l : ℕ)
      → rest false ≡ true → Pairs Exact s t
      → Step w room rest (repair_on u16_kind w period room (marks_of 0 w bad16 op b s) k s r l)
      (repair_on (kind32 w) w period room' (marks_of nan w bad32 op b t) k t r l)
  unfolding repair_on
  repair-step rest op b k s t r l e p =
      subst (Step w room rest (repair_on u16_kind w period room bad' k s r l)) (sym is32)
      (go (leb (marked_in w bad') room.marks) (λ z. λ enough. false≢true (sym z ∙ marks-fit w room enough bad')))
    where
      bad : ℕ → Bool
      bad = marks_of nan w bad32 op b t

      bad' : ℕ → Bool
      bad' = marks_of 0 w bad16 op b s

      same : Agree w bad bad'
      same = marks-same w s t p planes op b

      -- the f32 run's repair, by its test and its totals
      outcome : (x : Bool) (m n : ℕ) → Progress Float
      outcome x m n = cond x (going (each (mend32 w period bad t) t) (r + m) (l + n)) (marks_full t k)

      -- the f32 run's test and totals are the other's
      is32 : repair_on (kind32 w) w period room' bad k t r l
          ≡ outcome (leb (marked_in w bad') room.marks) (repaired_in w period bad') (left_in w period bad')
      is32 =
          ap (λ (x : Bool). outcome x (repaired_in w period bad) (left_in w period bad))
          (ap (λ (n : ℕ). leb n room'.marks) (marked-same w period bad bad' same) ∙ sym (tests bad'))
          ∙ ap₂ (outcome (leb (marked_in w bad') room.marks)) (repaired-same w period bad bad' same) (left-same w period bad bad' same)

      go : (x : Bool) → (x ≡ false → Enough w room → ⊥)
          → Step w room rest
          (cond x (going (each (mend16 w period bad' s) s) (r + repaired_in w period bad') (l + left_in w period bad')) (marks_full s k))
          (outcome x (repaired_in w period bad') (left_in w period bad'))
      go true f =
          goes false e (pairs-each (mend16 w period bad' s) (mend32 w period bad t) s t p (λ i q a. repair-near w period s t p planes op b i q))
      go false f = no_marks (f refl) p

  -- what is never applied, and an empty table
  stay : (free : Bool) (rest : Bool → Bool) (s : List ℕ) (t : List Float) (r l : ℕ) → rest free ≡ true → Pairs (Rel free) s t
      → Step w room rest (going s r l) (going t r l)
  stay free rest s t r l e p = goes free e p

  -- a repair is taken only while the samples are exact
  repair-taken : (free : Bool) (rest : Bool → Bool) (op : Opcode) (b : List ℕ) (k : ℕ) (s : List ℕ) (t : List Float) (r l : ℕ)
      → (free && rest false) ≡ true → Pairs (Rel free) s t
      → Step w room rest (repair_on u16_kind w period room (marks_of 0 w bad16 op b s) k s r l)
      (repair_on (kind32 w) w period room' (marks_of nan w bad32 op b t) k t r l)
  repair-taken true rest op b k s t r l e p = repair-step rest op b k s t r l e p
  repair-taken false rest op b k s t r l e p = absurd (false≢true e)

  step : (free : Bool) (rest : Bool → Bool) (op : Opcode) (b : List ℕ) → ((i : ℕ) → table_at b i < 65536)
      → (k : ℕ) (s : List ℕ) (t : List Float) (r l : ℕ) → takes16_on (class_of op) free rest ≡ true → Pairs (Rel free) s t
      → Step w room rest (perform_on u16_kind w period room (class_of op) op b k s r l)
      (perform_on (kind32 w) w period room' (class_of op) op b k t r l)
  unfolding takes16_on
  step free rest (WarpRectilinear n cx cy) b entries k s t r l e p = stay free rest s t r l e p
  step free rest WarpFisheye b entries k s t r l e p = stay free rest s t r l e p
  step free rest (FixVignetteRadial q) b entries k s t r l e p = absurd (false≢true e)
  step free rest (FixBadPixelsConstant c ph) b entries k s t r l e p = repair-taken free rest (FixBadPixelsConstant c ph) b k s t r l e p
  step free rest (FixBadPixelsList ph np nr) b entries k s t r l e p = repair-taken free rest (FixBadPixelsList ph np nr) b k s t r l e p
  step free rest (TrimBounds top lf bm rt) b entries k s t r l e p = stay free rest s t r l e p
  step free rest (MapTable reg n) b entries k s t r l e p = go (eqb n 0) e
    where
      go : (z : Bool) → takes16_on (cond z Empty Table) free rest ≡ true
          → Step w room rest (perform_on u16_kind w period room (cond z Empty Table) (MapTable reg n) b k s r l)
          (perform_on (kind32 w) w period room' (cond z Empty Table) (MapTable reg n) b k t r l)
      go true h = stay free rest s t r l h p
      go false h = table_step free rest reg n b entries s t r l h p
  step free rest (MapPolynomial reg d) b entries k s t r l e p = absurd (false≢true e)
  step free rest (GainMap reg pv ph g mp) b entries k s t r l e p = absurd (false≢true e)
  step free rest (DeltaPerRow reg n) b entries k s t r l e p = absurd (false≢true e)
  step free rest (DeltaPerColumn reg n) b entries k s t r l e p = absurd (false≢true e)
  step free rest (ScalePerRow reg n) b entries k s t r l e p = absurd (false≢true e)
  step free rest (ScalePerColumn reg n) b entries k s t r l e p = absurd (false≢true e)
  step free rest (Other i) b entries k s t r l e p = stay free rest s t r l e p

  -- all opcodes that are left, from any number, any totals and any samples that stand in the relation
  pub runs : (preview : Bool) (list : List ℕ) → Below 256 list → (free : Bool) (is : List Item) (k : ℕ) (s : List ℕ) (t : List Float) (r l : ℕ)
      → takes16_from free (kept_of preview is) ≡ true → Pairs (Rel free) s t
      → Ends w room (perform_all u16_kind w period room preview list k is (going s r l))
      (perform_all (kind32 w) w period room' preview list k is (going t r l))
  unfolding perform_all kept_of takes16_from
  runs preview list bytes free [] k s t r l e p = ended (pairs-weaken (rel-kept free).to p)
  runs preview list bytes free (i ∷ is) k s t r l e p = one (λ f s' t' r' l' h q. runs preview list bytes f is (suc k) s' t' r' l' h q) (drops preview i) e
    where
      kept : List Item
      kept = kept_of preview is

      Rest : Type 0
      Rest = (f : Bool) (s' : List ℕ) (t' : List Float) (r' l' : ℕ) → takes16_from f kept ≡ true → Pairs (Rel f) s' t'
          → Ends w room (perform_all u16_kind w period room preview list (suc k) is (going s' r' l'))
          (perform_all (kind32 w) w period room' preview list (suc k) is (going t' r' l'))

      on : (g : Progress ℕ) (h : Progress Float) → Step w room (λ (f : Bool). takes16_from f kept) g h
          → Rest → Ends w room (perform_all u16_kind w period room preview list (suc k) is g)
          (perform_all (kind32 w) w period room' preview list (suc k) is h)
      on g h (goes {s = s'} {t = t'} {r = r'} {l = l'} f q ps) more = more f s' t' r' l' q ps
      on g h (no_marks {s = s'} {t = t'} {k = o} short ps) more =
          rw (still-marks u16_kind w period room preview list (suc k) is s' o, still-marks (kind32 w) w period room' preview list (suc k) is t' o)
          (ended_marks short (pairs-weaken (λ a v x. exact-near x) ps))

      one : Rest → (d : Bool) → takes16_from free (cond d kept (i ∷ kept)) ≡ true
          → Ends w room
          (perform_all u16_kind w period room preview list (suc k) is (cond d (going s r l) (perform u16_kind w period room list i k (going s r l))))
          (perform_all (kind32 w) w period room' preview list (suc k) is
          (cond d (going t r l) (perform (kind32 w) w period room' list i k (going t r l))))
      one rest true h = rest free s t r l h p
      one rest false h =
          on (perform u16_kind w period room list i k (going s r l)) (perform (kind32 w) w period room' list i k (going t r l))
          (step free (λ (f : Bool). takes16_from f kept) i.op (body_of list i.entry) (body_entry list bytes i.entry.len i.entry.at) k s t r l h p)
          rest
