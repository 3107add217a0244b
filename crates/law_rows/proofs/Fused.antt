-- A list with no repair is one rule: its applied opcodes one after another at a place. The run is that rule over the window, with the totals as
-- they were, over any sample kind; where the row form takes the list, a row goes through that rule on its own. Assumes nothing.
use Prim.Native.Nat.{ℕ, suc}
use mathlib.Core.Path.{◌≡◌, refl, sym, ap, ap₂, subst, ◌∙◌}
use mathlib.Core.Bool.{Bool, true, false, ◌&&◌, cond, false≢true}
use mathlib.Core.List.{List, [], ◌∷◌}
use lib.Dec.{eqb}
use lib.Ieee.{Float}
use lib.ListN.{length}
use Rattle.pointwise.specs.Points.{each}
use Rattle.pointwise.proofs.Each.{length-each, each-agree, each_none, each-each}
use Rattle.dng.specs.declared.Window.{Window}
use Rattle.dng.specs.declared.Opcode.{Opcode}
use Rattle.dng.specs.declared.Opcode.TheVariants.{WarpRectilinear, WarpFisheye, FixVignetteRadial, FixBadPixelsConstant, FixBadPixelsList, TrimBounds, MapTable, MapPolynomial, GainMap, DeltaPerRow, DeltaPerColumn, ScalePerRow, ScalePerColumn, Other}
use Rattle.dng.specs.List.{Item, body_of}
use Rattle.dng.specs.Select.{Rule, on_window, on_row}
use Rattle.dng.specs.Value.{Frame, rule_of}
use Rattle.dng.specs.declared.Class.{Class}
use Rattle.dng.specs.declared.Class.TheVariants.{Table, Empty, Local, Repair, Unapplied}
use Rattle.dng.specs.Run.{drops, kept_of, class_of, row_takes, takes_rows}
use Rattle.dng.specs.Run.{Kind, going, Room, perform_on, perform, perform_all, row_on}
use Rattle.law_rows.specs.NoRepair.{no_repair_in, no_repair, RowsNoRepair}
use Rattle.law_rows.proofs.Place.{on-window-both, on-window-none}

-- the opcodes of a list at one place, in list order
unfoldable pub all_of : {A : Type 0} → (Opcode → List ℕ → Rule A) → List ℕ → List Item → Rule A
all_of rule list [] whole y x k v = v
all_of rule list (i ∷ is) whole y x k v = all_of rule list is whole y x k (rule i.op (body_of list i.entry) whole y x k v)

-- an opcode that is never applied changes nothing
abbrev pub Quiet : {A : Type 0} → (Opcode → List ℕ → Rule A) → Type 0
Quiet {A} rule =
    (op : Opcode) (b : List ℕ) → class_of op ≡ Unapplied → (whole : Bool) (y x k : ℕ) (v : A) → rule op b whole y x k v ≡ v

pub both_true : (a b : Bool) → (a && b) ≡ true → (a ≡ true) × (b ≡ true)
both_true true b h = (refl, h)
both_true false b h = absurd (false≢true h)

pub rows-no-repair : RowsNoRepair
unfolding no_repair takes_rows
rows-no-repair [] h = refl
rows-no-repair (i ∷ is) h =
    let taken = both_true (row_takes (class_of i.op)) (takes_rows is) h in
    ap₂ ◌&&◌ (one (class_of i.op) taken.0) (rows-no-repair is taken.1)
  where
    one : (c : Class) → row_takes c ≡ true → no_repair_in c ≡ true
    one Table h = refl
    one Empty h = refl
    one Local h = refl
    one Repair h = h
    one Unapplied h = refl

module _ {A : Type 0} (kind : Kind A) where
  -- what an opcode makes of a sample: nothing where it is not applied. A repair looks at other samples, and is no such rule.
  abbrev pub applied_on : Class → Opcode → List ℕ → Rule A
  applied_on Table op b whole y x k v = kind.rule op b whole y x k v
  applied_on Empty op b whole y x k v = v
  applied_on Local op b whole y x k v = kind.rule op b whole y x k v
  applied_on Repair op b whole y x k v = v
  applied_on Unapplied op b whole y x k v = v

  -- the applied opcodes of a list at one place, in list order
  unfoldable pub applied_of : List ℕ → List Item → Rule A
  applied_of list [] whole y x k v = v
  applied_of list (i ∷ is) whole y x k v =
      applied_of list is whole y x k (applied_on (class_of i.op) i.op (body_of list i.entry) whole y x k v)

  -- where the row form takes the list, those are all its opcodes
  pub applied-all : Quiet kind.rule → (list : List ℕ) (is : List Item) → takes_rows is ≡ true → (whole : Bool) (y x k : ℕ) (v : A)
      → applied_of list is whole y x k v ≡ all_of kind.rule list is whole y x k v
  unfolding takes_rows applied_of all_of
  applied-all quiet list [] h whole y x k v = refl
  applied-all quiet list (i ∷ is) h whole y x k v =
      let taken = both_true (row_takes (class_of i.op)) (takes_rows is) h in
      ap (applied_of list is whole y x k) (one (class_of i.op) refl taken.0)
      ∙ applied-all quiet list is taken.1 whole y x k (kind.rule i.op b whole y x k v)
    where
      b : List ℕ
      b = body_of list i.entry

      one : (c : Class) → class_of i.op ≡ c → row_takes c ≡ true
          → applied_on c i.op b whole y x k v ≡ kind.rule i.op b whole y x k v
      one Table e h = refl
      one Empty e h = absurd (false≢true h)
      one Local e h = refl
      one Repair e h = absurd (false≢true h)
      one Unapplied e h = sym (quiet i.op b e whole y x k v)

  module _ (w : Window) (period : ℕ) (room : Room) (preview : Bool) (list : List ℕ) where
    -- one opcode that is no repair
    perform-one : (i : Item) (k : ℕ) (s : List A) (r t : ℕ) → no_repair_in (class_of i.op) ≡ true
        → perform kind w period room list i k (going s r t)
        ≡ going (each (on_window w (length s) (applied_on (class_of i.op) i.op (body_of list i.entry))) s) r t
    perform-one i k s r t h = on (class_of i.op) h
      where
        b : List ℕ
        b = body_of list i.entry

        none : going s r t ≡ going (each (on_window w (length s) (λ whole y x k v. v)) s) r t
        none =
            ap (λ (u : List A). going u r t)
            (sym (each_none _ s (λ j v q. on-window-none w (length s) (λ whole y x k v. v) j v (λ whole y x k u. refl))))

        on : (c : Class) → no_repair_in c ≡ true
            → perform_on kind w period room c i.op b k s r t ≡ going (each (on_window w (length s) (applied_on c i.op b)) s) r t
        on Table h = refl
        on Empty h = none
        on Local h = refl
        on Repair h = absurd (false≢true h)
        on Unapplied h = none

    -- all opcodes that are left of a list, without a repair: one rule over the window, nothing repaired and nothing left
    pub perform-all : (is : List Item) (k : ℕ) (s : List A) (r t : ℕ) → no_repair (kept_of preview is) ≡ true
        → perform_all kind w period room preview list k is (going s r t)
        ≡ going (each (on_window w (length s) (applied_of list (kept_of preview is))) s) r t
    unfolding perform_all kept_of no_repair applied_of
    perform-all [] k s r t h =
        ap (λ (u : List A). going u r t)
        (sym (each_none _ s (λ j v q. on-window-none w (length s) (applied_of list []) j v (λ whole y x p u. refl))))
    perform-all (i ∷ is) k s r t h = one (λ u q. perform-all is (suc k) u r t q) (drops preview i) h
      where
        kept : List Item
        kept = kept_of preview is

        Rest : Type 0
        Rest = (u : List A) → no_repair kept ≡ true
            → perform_all kind w period room preview list (suc k) is (going u r t) ≡ going (each (on_window w (length u) (applied_of list kept)) u) r t

        f : Rule A
        f = applied_on (class_of i.op) i.op (body_of list i.entry)

        F : ℕ → A → A
        F = on_window w (length s) f

        G : Rule A
        G = applied_of list kept

        one : Rest → (d : Bool) → no_repair (cond d kept (i ∷ kept)) ≡ true
            → perform_all kind w period room preview list (suc k) is (cond d (going s r t) (perform kind w period room list i k (going s r t)))
            ≡ going (each (on_window w (length s) (applied_of list (cond d kept (i ∷ kept)))) s) r t
        one rest true h = rest s h
        one rest false h =
            let taken = both_true (no_repair_in (class_of i.op)) (no_repair kept) h in
            ap (perform_all kind w period room preview list (suc k) is) (perform-one i k s r t taken.0)
            ∙ rest (each F s) taken.1
            ∙ ap (λ (n : ℕ). going (each (on_window w n G) (each F s)) r t) (length-each F s)
            ∙ ap (λ (u : List A). going u r t)
            (each-each F (on_window w (length s) G) s ∙ each-agree _ _ s (λ j v q. on-window-both w (length s) f G j v))

-- a row on its own
pub row-all : (fr : Frame) (x0 p y : ℕ) (list : List ℕ) (is : List Item) (row : List Float)
    → row_on fr x0 p y list is row ≡ each (on_row x0 p y (length row) (all_of (rule_of fr) list is)) row
unfolding row_on all_of on_row
row-all fr x0 p y list [] row = sym (each_none _ row (λ i v q. refl))
row-all fr x0 p y list (i ∷ is) row =
    row-all fr x0 p y list is (each F row)
    ∙ ap (λ (n : ℕ). each (on_row x0 p y n (all_of (rule_of fr) list is)) (each F row)) (length-each F row)
    ∙ each-each F (on_row x0 p y (length row) (all_of (rule_of fr) list is)) row
  where
    F : ℕ → Float → Float
    F = on_row x0 p y (length row) (rule_of fr i.op (body_of list i.entry))

-- ---- the f32 rules

abbrev Applied : Class → Type 0
Applied Table = Unit {0}
Applied Empty = Unit {0}
Applied Local = Unit {0}
Applied Repair = Unit {0}
Applied Unapplied = ⊥

map-applied : (b : Bool) → Applied (cond b Empty Table)
map-applied true = tt
map-applied false = tt

pub quiet : (fr : Frame) → Quiet (rule_of fr)
quiet fr (WarpRectilinear n cx cy) b e whole y x k v = refl
quiet fr WarpFisheye b e whole y x k v = refl
quiet fr (FixVignetteRadial q) b e whole y x k v = absurd (subst Applied e tt)
quiet fr (FixBadPixelsConstant c p) b e whole y x k v = refl
quiet fr (FixBadPixelsList p np nr) b e whole y x k v = refl
quiet fr (TrimBounds t l bm r) b e whole y x k v = refl
quiet fr (MapTable r n) b e whole y x k v = absurd (subst Applied e (map-applied (eqb n 0)))
quiet fr (MapPolynomial r d) b e whole y x k v = absurd (subst Applied e tt)
quiet fr (GainMap r pv ph g mp) b e whole y x k v = absurd (subst Applied e tt)
quiet fr (DeltaPerRow r n) b e whole y x k v = absurd (subst Applied e tt)
quiet fr (DeltaPerColumn r n) b e whole y x k v = absurd (subst Applied e tt)
quiet fr (ScalePerRow r n) b e whole y x k v = absurd (subst Applied e tt)
quiet fr (ScalePerColumn r n) b e whole y x k v = absurd (subst Applied e tt)
quiet fr (Other i) b e whole y x k v = refl
