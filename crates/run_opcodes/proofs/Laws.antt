-- One opcode more, and all of them: what the loop over a list keeps, over any sample kind. Assumes nothing.
use mathlib.Core.Path.{◌≡◌, refl, sym, ap, ap₂, ◌∙◌, subst}
use mathlib.Core.Bool.{Bool, true, false, ◌&&◌, cond}
use mathlib.Core.List.{List, [], ◌∷◌}
use Prim.Native.Nat.{ℕ, suc, ◌+◌, ◌-◌, ◌*◌, ◌≤◌, ◌<◌}
use native.Mathlib.Nat.{mul-le-mul, add-zero}
use native.Mathlib.Numerals.{add-one}
use native.Mathlib.Omega.{arith}
use lib.ListN.{length}
use Rattle.pointwise.specs.Points.{each}
use Rattle.dng.specs.declared.Refusal.{Refusal}
use Rattle.dng.specs.declared.Cursor.{Cursor}
use Rattle.dng.specs.declared.Window.{Window}
use Rattle.dng.specs.declared.Entry.{Entry}
use Rattle.dng.specs.declared.Opcode.{Opcode}
use Rattle.dng.specs.declared.Step.{Step}
use Rattle.std.specs.Prelude.{Option, Some, None, Result, Ok, Err}
use Rattle.dng.specs.List.{Item, item_of, preview_of, items_of, body_of, read_from, step_at}
use Rattle.dng.specs.Select.{Rule, on_window}
use Rattle.dng.specs.Repair.{positions, marks_of}
use Rattle.dng.specs.declared.Class.{Class}
use Rattle.dng.specs.declared.Class.TheVariants.{Repair, Unapplied}
use Rattle.dng.specs.Run.{drops, Kind, Room, Progress, going, marks_full, class_of, perform_on, perform_all}
use Rattle.dng.specs.Answer.{in_range}
use Rattle.list_read.specs.Count.{count_of}
use Rattle.list_read.proofs.Fold.{start, begin, item, stop, end, count-bound}
use Rattle.win_rows.proofs.Turns.{window-fits}
use Rattle.fix_repair.specs.declared.Repaired.{Repaired}
use Rattle.fix_repair.specs.Fixes as Fixes
use Rattle.fix_repair.proofs.Totals.{fixes-few}
use Rattle.run_opcodes.specs.declared.Totals.{Totals}
use Rattle.run_opcodes.specs.declared.Full.{Full}
use Rattle.run_opcodes.specs.Performs.{progress_of, done_of, Performs}

-- a window in range has at most 2^32 positions
pub positions-few : (w : Window) (period : ℕ) → in_range w period ≡ true → positions w ≤ 4294967296
positions-few w period h = let f = window-fits w period h in mul-le-mul f.widest f.highest

-- ---- one opcode, by its class

abbrev pub nothing : Option Repaired
nothing = Some (record { repaired = 0; left = 0 })

-- the scratch keeps its length
pub same-room :
    {A : Type 0} {kind : Kind A} {w : Window} {period m m' : ℕ} {dropped : Bool} {op : Opcode} {b : List ℕ} {s s' : List A} {r : Option Repaired} → m ≡ m'
    → Performs kind w period (record { marks = m }) dropped op b s s' r → Performs kind w period (record { marks = m' }) dropped op b s s' r
same-room {kind = kind} {w} {period} {dropped = dropped} {op} {b} {s} {s'} {r} e =
    subst (λ (m : ℕ). Performs kind w period (record { marks = m }) dropped op b s s' r) e

module _ {A : Type 0} (kind : Kind A) (w : Window) (period : ℕ) (room : Room) (dropped : Bool) (op : Opcode) (b : List ℕ) (s : List A)
  where
    -- nothing is done, and the class says so
    pub passed : {c : Class} → c ≡ cond dropped Unapplied (class_of op) → ((k x y : ℕ) → perform_on kind w period room c op b k s x y ≡ going s x y)
        → Performs kind w period room dropped op b s s nothing
    passed q same =
        record {
          state = λ k x y.
              ap₂ (λ (i j : ℕ). going s i j) (add-zero x) (add-zero y)
              ∙ sym (same k x y)
              ∙ ap (λ (c : Class). perform_on kind w period room c op b k s x y) q;
          few = omega arith;
        }

    -- each sample by itself, with the body as it is lent
    pub stepped : {c : Class} {b' : List ℕ} {s' : List A} → c ≡ cond dropped Unapplied (class_of op)
        → ((k x y : ℕ) → perform_on kind w period room c op b k s x y ≡ going (each (on_window w (length s) (kind.rule op b)) s) x y)
        → b' ≡ b → s' ≡ each (on_window w (length s) (kind.rule op b')) s → Performs kind w period room dropped op b s s' nothing
    stepped {s' = s'} q same e h =
        record {
          state = λ k x y.
              ap₂ (λ (i j : ℕ). going s' i j) (add-zero x) (add-zero y)
              ∙ ap (λ (t : List A). going t x y) (h ∙ ap (λ (l : List ℕ). each (on_window w (length s) (kind.rule op l)) s) e)
              ∙ sym (same k x y)
              ∙ ap (λ (c : Class). perform_on kind w period room c op b k s x y) q;
          few = omega arith;
        }

    -- a repair, with its marks from the samples and the body as it is lent
    pub repaired : {b' : List ℕ} {s' : List A} {r : Option Repaired} → Repair ≡ cond dropped Unapplied (class_of op) → b' ≡ b
        → Fixes.Fixes kind w period room (marks_of kind.none w kind.is_bad op b' s) s s' r → Performs kind w period room dropped op b s s' r
    repaired {b'} {s'} {r} q e g =
        let f : Fixes.Fixes kind w period room (marks_of kind.none w kind.is_bad op b s) s s' r =
        subst (λ (l : List ℕ). Fixes.Fixes kind w period room (marks_of kind.none w kind.is_bad op l s) s s' r) e g in
        record {
          state = λ k x y. f k x y ∙ ap (λ (c : Class). perform_on kind w period room c op b k s x y) q;
          few = small r f;
        }
      where
        small : (r : Option Repaired) → Fixes.Fixes kind w period room (marks_of kind.none w kind.is_bad op b s) s s' r → done_of r ≤ positions w
        small (Some d) f =
            (fixes-few kind w period room (marks_of kind.none w kind.is_bad op b s) s s' d.repaired d.left f).1
        small None f = omega arith

-- ---- the list, one opcode at a time

-- No total wraps: an opcode more adds its positions to those of the k before it.
pub adds :
    (w : Window) (n k repaired left : ℕ) {d : Repaired} {f : Option Repaired} → positions w ≤ 4294967296 → n ≤ 4096 → k < n → repaired + left ≤ k * 4294967296
    → done_of f ≤ positions w → f ≡ Some d → repaired + d.repaired + (left + d.left) ≤ 17592186044416
adds w n k repaired left {d} small short h few t z =
    let one : done_of (Some d) ≤ positions w = subst (λ (f : Option Repaired). done_of f ≤ positions w) z t in
    omega arith

module _ {A : Type 0} (kind : Kind A) (w : Window) (period : ℕ) (room : Room) (preview : Bool) (list : List ℕ) where
  -- a run that has stopped stays so
  stays-marks : (is : List Item) (k o : ℕ) (s : List A) → perform_all kind w period room preview list k is (marks_full s o) ≡ marks_full s o
  unfolding perform_all
  stays-marks [] k o s = refl
  stays-marks (i ∷ is) k o s = stopped (drops preview i) (stays-marks is (suc k) o s)
    where
      stopped :
          (d : Bool) → perform_all kind w period room preview list (suc k) is (marks_full s o) ≡ marks_full s o
          → perform_all kind w period room preview list (suc k) is (cond d (marks_full s o) (marks_full s o)) ≡ marks_full s o
      stopped true h = h
      stopped false h = h

  none : {is : List Item} → is ≡ [] → (k : ℕ) (g : Progress A) → perform_all kind w period room preview list k is g ≡ g
  unfolding perform_all
  none h k g = ap (λ (l : List Item). perform_all kind w period room preview list k l g) h

  -- one that is dropped is passed over, as one that is never applied
  passed_over :
      (d : Bool) (c : Class) (op : Opcode) (b : List ℕ) (k : ℕ) (s : List A) (x y : ℕ)
      → perform_on kind w period room (cond d Unapplied c) op b k s x y ≡ cond d (going s x y) (perform_on kind w period room c op b k s x y)
  passed_over true c op b k s x y = refl
  passed_over false c op b k s x y = refl

  more :
      (i : Step) {is rest : List Item} → is ≡ item_of i ∷ rest
      → (k : ℕ) (s : List A) (x y : ℕ) {g : Progress A}
      → g ≡ perform_on kind w period room (cond (preview && preview_of i.entry) Unapplied (class_of i.op)) i.op (body_of list i.entry) k s x y
      → perform_all kind w period room preview list (k + 1) rest g ≡ perform_all kind w period room preview list k is (going s x y)
  unfolding perform_all
  more i {rest = rest} h k s x y q =
      ap₂ (λ (j : ℕ) (g : Progress A). perform_all kind w period room preview list j rest g) (add-one k)
      (q ∙ passed_over (preview && preview_of i.entry) (class_of i.op) i.op (body_of list i.entry) k s x y)
      ∙ sym (ap (λ (l : List Item). perform_all kind w period room preview list k l (going s x y)) h)

  -- k of n opcodes are done, and `repaired` and `left` are the totals so far
  pub record Doing (s₀ : List A) (n k : ℕ) (c : Cursor) (s : List A) (repaired left : ℕ) : Type 0 where
    pub short : n ≤ 4096
    pub few : repaired + left ≤ k * 4294967296
    pub rest :
        perform_all kind w period room preview list k (read_from list (n - k) c) (going s repaired left)
        ≡ perform_all kind w period room preview list 0 (items_of list) (going s₀ 0 0)

  pub begins : (s₀ : List A) (n : ℕ) → n ≡ count_of list → Doing s₀ n 0 start s₀ 0 0
  begins s₀ n e =
      record {
        short = omega (arith, count-bound list);
        few = omega arith;
        rest = ap (λ (l : List Item). perform_all kind w period room preview list 0 l (going s₀ 0 0)) (begin list e);
      }

  module _ (s₀ : List A) (n k : ℕ) (c : Cursor) (s : List A) (repaired left : ℕ) (d : Doing s₀ n k c s repaired left) where
    -- no entry more, or a malformed one: all is done
    pub ends : n ≤ k → going s repaired left ≡ perform_all kind w period room preview list 0 (items_of list) (going s₀ 0 0)
    ends h = sym (none (end list n k c h) k (going s repaired left)) ∙ d.rest

    module _ {r : Result Step Refusal} (h : k < n) (p : r ≡ step_at list c) where
      pub stops : {why : Refusal} → r ≡ Err why → going s repaired left
          ≡ perform_all kind w period room preview list 0 (items_of list) (going s₀ 0 0)
      stops q = sym (none (stop list n k c h p q) k (going s repaired left)) ∙ d.rest

      -- an opcode more
      module _ {i : Step} (q : r ≡ Ok i) {s' : List A} {f : Option Repaired}
          (t : Performs kind w period room (preview && preview_of i.entry) i.op (body_of list i.entry) s s' f) where
        pub goes_on : {e : Repaired} → positions w ≤ 4294967296 → f ≡ Some e → Doing s₀ n (k + 1) i.next s' (repaired + e.repaired) (left + e.left)
        goes_on {e} small z =
            let few : done_of (Some e) ≤ positions w = subst (λ (f : Option Repaired). done_of f ≤ positions w) z t.few in
            record {
              short = d.short;
              few = omega (arith, few, d.few);
              rest =
                  more i (item list n k c h p q) k s repaired left
                  (ap (λ (f : Option Repaired). Fixes.progress_of f s' k repaired left) (sym z) ∙ t.state k repaired left)
                  ∙ d.rest;
            }

        pub marks-full : f ≡ None → marks_full s' k ≡ perform_all kind w period room preview list 0 (items_of list) (going s₀ 0 0)
        marks-full z =
            sym (stays-marks (read_from list (n - (k + 1)) i.next) (k + 1) k s')
            ∙ more i (item list n k c h p q) k s repaired left
            (ap (λ (f : Option Repaired). Fixes.progress_of f s' k repaired left) (sym z) ∙ t.state k repaired left)
            ∙ d.rest
