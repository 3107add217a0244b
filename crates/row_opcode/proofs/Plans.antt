-- A plan has its opcode's rule, in both forms, and its bounds: each case by computing. Assumes nothing.
use Prim.Native.Nat.{ℕ, ◌+◌, ◌/◌, ◌%◌}
use mathlib.Core.Path.{◌≡◌, refl, sym, ap, subst, ◌∙◌}
use mathlib.Core.Bool.{Bool, true, false, cond}
use mathlib.Core.List.{List}
use lib.Dec.{eqb}
use lib.Ieee.{Float}
use lib.ListN.{length}
use Rattle.pointwise.specs.Points.{each}
use Rattle.pointwise.specs.Select.{on_columns}
use Rattle.pointwise.proofs.Each.{each-agree}
use Rattle.dng.specs.declared.Radial.{Radial}
use Rattle.dng.specs.declared.Region.{Region}
use Rattle.dng.specs.declared.Opcode.{Opcode}
use Rattle.dng.specs.declared.Opcode.TheVariants as Op
use Rattle.dng.specs.Select.{Rule, on_region, on_row, whole_pixel}
use Rattle.dng.specs.Bounds.{bounded}
use Rattle.dng.specs.Value.{Frame, rule_of, rule16_of, map_table16, usable, m2_of}
use Rattle.row_vignette.specs.Reach.{frame_at}
use Rattle.row_vignette.proofs.Vignetted.{vignette-unusable}
use Rattle.row_opcode.specs.declared.Task.{Task}
use Rattle.row_opcode.specs.declared.Task.TheVariants.{Table, Polynomial, Gain, DeltaRows, DeltaColumns, ScaleRows, ScaleColumns}
use Rattle.row_opcode.specs.declared.Plan.{Plan}
use Rattle.row_opcode.specs.declared.Plan.TheVariants as Planned
use Rattle.row_opcode.specs.Plans.{plan_of, plan_rule, plan_rule16, plan_fits, task_rule16, table_size}
use Rattle.row_opcode.specs.declared.Area.{Area}
use Rattle.row_opcode.specs.declared.Prepared.{Prepared}
use Rattle.row_opcode.specs.declared.Prepared.TheVariants as Made
use Rattle.row_opcode.specs.Ready.{Leaves, Idle, Reached, Begun, Ready}

pub record Same (op : Opcode) (p : Plan) : Type 0 where
  pub rule : (fr : Frame) (b : List ℕ) → rule_of fr op b ≡ plan_rule fr p b
  pub rule16 : (b : List ℕ) → rule16_of op b ≡ plan_rule16 p b
  pub fits : bounded op ≡ plan_fits p

pub same : (op : Opcode) → Same op (plan_of op)
same (Op.WarpRectilinear n cx cy) = record { rule = λ fr b. refl; rule16 = λ b. refl; fits = refl }
same Op.WarpFisheye = record { rule = λ fr b. refl; rule16 = λ b. refl; fits = refl }
same (Op.FixVignetteRadial q) = record { rule = λ fr b. refl; rule16 = λ b. refl; fits = refl }
same (Op.FixBadPixelsConstant c p) = record { rule = λ fr b. refl; rule16 = λ b. refl; fits = refl }
same (Op.FixBadPixelsList p np nr) = record { rule = λ fr b. refl; rule16 = λ b. refl; fits = refl }
same (Op.TrimBounds t l bm r) = record { rule = λ fr b. refl; rule16 = λ b. refl; fits = refl }
same (Op.MapTable r n) = record { rule = λ fr b. refl; rule16 = λ b. refl; fits = refl }
same (Op.MapPolynomial r d) = record { rule = λ fr b. refl; rule16 = λ b. refl; fits = refl }
same (Op.GainMap r pv ph g mp) = record { rule = λ fr b. refl; rule16 = λ b. refl; fits = refl }
same (Op.DeltaPerRow r n) = record { rule = λ fr b. refl; rule16 = λ b. refl; fits = refl }
same (Op.DeltaPerColumn r n) = record { rule = λ fr b. refl; rule16 = λ b. refl; fits = refl }
same (Op.ScalePerRow r n) = record { rule = λ fr b. refl; rule16 = λ b. refl; fits = refl }
same (Op.ScalePerColumn r n) = record { rule = λ fr b. refl; rule16 = λ b. refl; fits = refl }
same (Op.Other i) = record { rule = λ fr b. refl; rule16 = λ b. refl; fits = refl }

-- so of an opcode whose plan is known
module _ (op : Opcode) {p : Plan} (e : plan_of op ≡ p) where
  pub rule-of : (fr : Frame) (b : List ℕ) → rule_of fr op b ≡ plan_rule fr p b
  rule-of fr b = (same op).rule fr b ∙ ap (λ (q : Plan). plan_rule fr q b) e

  pub rule16-of : (b : List ℕ) → rule16_of op b ≡ plan_rule16 p b
  rule16-of b = (same op).rule16 b ∙ ap (λ (q : Plan). plan_rule16 q b) e

pub leaves16 : (op : Opcode) (q : Radial) → plan_of op ≡ Planned.Vignette q → (b : List ℕ) → Leaves (rule16_of op b)
leaves16 op q e b whole y x k v = ap (λ (f : Rule ℕ). f whole y x k v) (rule16-of op e b)

-- a vignette whose m2 cannot be used is nothing to a row
pub idle-vignette : (op : Opcode) (q : Radial) (fw fh : ℕ) → plan_of op ≡ Planned.Vignette q
    → ((scale : Float) → usable (m2_of (frame_at scale fw fh) q) ≡ false) → Idle op fw fh
idle-vignette op q fw fh e u =
    record {
      rule = λ scale b whole y x k v.
          ap (λ (f : Rule Float). f whole y x k v) (rule-of op e (frame_at scale fw fh) b)
          ∙ vignette-unusable (frame_at scale fw fh) q y x k v whole (u scale);
      rule16 = leaves16 op q e;
    }

-- ---- tables of whole numbers: what is no table counts as an empty one, which changes nothing

pub either : {A : Type 0} (b : Bool) (v : A) → cond b v v ≡ v
either true v = refl
either false v = refl

abbrev pub tables : Region → List ℕ → (n : ℕ) → Rule ℕ
tables r b n = on_region r (λ y x k v. cond (eqb n 0) v (map_table16 n b v))

empty-table : (r : Region) (b : List ℕ) (whole : Bool) (y x k v : ℕ) → tables r b 0 whole y x k v ≡ v
unfolding on_region on_columns
empty-table r b whole y x k v = simp either

pub task16-is : (r : Region) (b : List ℕ) (t : Task) (whole : Bool) (y x k v : ℕ)
    → tables r b (table_size t) whole y x k v ≡ task_rule16 r b t whole y x k v
task16-is r b (Table n) whole y x k v = refl
task16-is r b (Polynomial d) whole y x k v = empty-table r b whole y x k v
task16-is r b (Gain pv ph g mp) whole y x k v = empty-table r b whole y x k v
task16-is r b (DeltaRows n) whole y x k v = empty-table r b whole y x k v
task16-is r b (DeltaColumns n) whole y x k v = empty-table r b whole y x k v
task16-is r b (ScaleRows n) whole y x k v = empty-table r b whole y x k v
task16-is r b (ScaleColumns n) whole y x k v = empty-table r b whole y x k v

-- so a region's tables on a row are what its opcode does there
pub row16-is : (op : Opcode) {r : Region} {t : Task} → plan_of op ≡ Planned.Area r t → (x0 p y : ℕ) (l b : List ℕ)
    → each (on_row x0 p y (length l) (tables r b (table_size t))) l ≡ each (on_row x0 p y (length l) (rule16_of op b)) l
unfolding on_row
row16-is op {r} {t} plan x0 p y l b =
    each-agree _ _ l
    (λ i v h.
    task16-is r b t (whole_pixel p (length l) i) y (x0 + i / p) (i % p) v
    ∙ ap (λ (f : Rule ℕ). f (whole_pixel p (length l) i) y (x0 + i / p) (i % p) v) (sym (rule16-of op plan b)))

-- a prepared opcode taken apart
module _ (op : Opcode) (x0 fw fh : ℕ) {p : Prepared} (ready : Ready op x0 fw fh p) where
  pub idle : p ≡ Made.Nothing → Idle op fw fh
  idle e = subst (Ready op x0 fw fh) e ready

  pub reached : {q : Radial} {m2 : Float} → p ≡ Made.Vignette q m2 → Reached op q m2 fw fh
  reached e = subst (Ready op x0 fw fh) e ready

  pub begun : {a : Area} → p ≡ Made.Area a → Begun op a.region a.task a.start x0
  begun e = subst (Ready op x0 fw fh) e ready
