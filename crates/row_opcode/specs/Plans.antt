-- What an opcode is to a row: nothing, a vignette, or a task at the samples of a region. proofs/Plans says that a plan
-- has its opcode's rule and bounds, so that nothing here has to be believed.
use Rattle.std.specs.Prelude.{ℕ, ◌*◌, max, Bool, true, cond, ◌&&◌, List, leb, eqb, Float}
use Rattle.dng.specs.declared.Region.{Region}
use Rattle.dng.specs.declared.Opcode.{Opcode}
use Rattle.dng.specs.declared.Opcode.TheVariants as Op
use Rattle.dng.specs.Select.{Rule, on_region}
use Rattle.dng.specs.Value.{Frame, nought, one, map_table, map_table16, map_polynomial, nth, delta, scaled, row_index, column_index, gained, vignette}
use Rattle.row_opcode.specs.declared.Task.{Task}
use Rattle.row_opcode.specs.declared.Task.TheVariants.{Table, Polynomial, Gain, DeltaRows, DeltaColumns, ScaleRows, ScaleColumns}
use Rattle.row_opcode.specs.declared.Plan.{Plan}
use Rattle.row_opcode.specs.declared.Plan.TheVariants.{Nothing, Vignette, Area}

abbrev pub plan_of : Opcode → Plan
plan_of (Op.WarpRectilinear n cx cy) = Nothing
plan_of Op.WarpFisheye = Nothing
plan_of (Op.FixVignetteRadial q) = Vignette q
plan_of (Op.FixBadPixelsConstant c p) = Nothing
plan_of (Op.FixBadPixelsList p np nr) = Nothing
plan_of (Op.TrimBounds t l bm r) = Nothing
plan_of (Op.MapTable r n) = Area r (Table n)
plan_of (Op.MapPolynomial r d) = Area r (Polynomial d)
plan_of (Op.GainMap r pv ph g mp) = Area r (Gain pv ph g mp)
plan_of (Op.DeltaPerRow r n) = Area r (DeltaRows n)
plan_of (Op.DeltaPerColumn r n) = Area r (DeltaColumns n)
plan_of (Op.ScalePerRow r n) = Area r (ScaleRows n)
plan_of (Op.ScalePerColumn r n) = Area r (ScaleColumns n)
plan_of (Op.Other i) = Nothing

-- what a task does to the sample at row y, column x, plane k of its region
abbrev pub task_rule : Frame → Region → List ℕ → Task → (y x k : ℕ) → Float → Float
task_rule fr r b (Table n) = λ y x k v. cond (eqb n 0) v (map_table fr.scale n b v)
task_rule fr r b (Polynomial d) = λ y x k v. map_polynomial fr.scale d b v
task_rule fr r b (Gain pv ph g mp) = gained fr b r pv ph g mp
task_rule fr r b (DeltaRows n) = λ y x k v. delta fr.scale (nth n b nought (row_index r y)) v
task_rule fr r b (DeltaColumns n) = λ y x k v. delta fr.scale (nth n b nought (column_index r x)) v
task_rule fr r b (ScaleRows n) = λ y x k v. scaled (nth n b one (row_index r y)) v
task_rule fr r b (ScaleColumns n) = λ y x k v. scaled (nth n b one (column_index r x)) v

abbrev pub plan_rule : Frame → Plan → List ℕ → Rule Float
plan_rule fr Nothing b = λ whole y x k v. v
plan_rule fr (Vignette q) b = vignette fr q
plan_rule fr (Area r t) b = on_region r (task_rule fr r b t)

-- the whole-number form knows tables alone
abbrev pub task_rule16 : Region → List ℕ → Task → Rule ℕ
task_rule16 r b (Table n) = on_region r (λ y x k v. cond (eqb n 0) v (map_table16 n b v))
task_rule16 r b (Polynomial d) = λ whole y x k v. v
task_rule16 r b (Gain pv ph g mp) = λ whole y x k v. v
task_rule16 r b (DeltaRows n) = λ whole y x k v. v
task_rule16 r b (DeltaColumns n) = λ whole y x k v. v
task_rule16 r b (ScaleRows n) = λ whole y x k v. v
task_rule16 r b (ScaleColumns n) = λ whole y x k v. v

abbrev pub plan_rule16 : Plan → List ℕ → Rule ℕ
plan_rule16 Nothing b = λ whole y x k v. v
plan_rule16 (Vignette q) b = λ whole y x k v. v
plan_rule16 (Area r t) b = task_rule16 r b t

-- the counts of a task whose opcode was read whole
abbrev pub task_fits : Task → Bool
task_fits (Table n) = leb n 16777216
task_fits (Polynomial d) = leb d 8
task_fits (Gain pv ph g mp) = leb 1 (pv * ph * max mp 1) && leb (pv * ph * max mp 1) 16777216
task_fits (DeltaRows n) = leb n 16777216
task_fits (DeltaColumns n) = leb n 16777216
task_fits (ScaleRows n) = leb n 16777216
task_fits (ScaleColumns n) = leb n 16777216

abbrev pub plan_fits : Plan → Bool
plan_fits Nothing = true
plan_fits (Vignette q) = true
plan_fits (Area r t) = task_fits t

abbrev pub table_size : Task → ℕ
table_size (Table n) = n
table_size (Polynomial d) = 0
table_size (Gain pv ph g mp) = 0
table_size (DeltaRows n) = 0
table_size (DeltaColumns n) = 0
table_size (ScaleRows n) = 0
table_size (ScaleColumns n) = 0
