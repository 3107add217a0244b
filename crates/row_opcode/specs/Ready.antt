-- What a row step may rely on of a prepared opcode. Whoever has called `prepare` has it.
use Rattle.std.specs.Prelude.{ℕ, ◌≡◌, Bool, List, Float}
use Rattle.pointwise.specs.Select.{First}
use Rattle.row_select.specs.declared.Start.{Start}
use Rattle.dng.specs.declared.Region.{Region}
use Rattle.dng.specs.declared.Radial.{Radial}
use Rattle.dng.specs.declared.Opcode.{Opcode}
use Rattle.dng.specs.Select.{Rule}
use Rattle.dng.specs.Value.{rule_of, rule16_of}
use Rattle.row_vignette.specs.Reach.{frame_at, Reaches}
use Rattle.row_opcode.specs.declared.Task.{Task}
use Rattle.row_opcode.specs.declared.Plan.TheVariants as Plan
use Rattle.row_opcode.specs.declared.Prepared.{Prepared}
use Rattle.row_opcode.specs.declared.Prepared.TheVariants.{Nothing, Vignette, Area}
use Rattle.row_opcode.specs.Plans.{plan_of}

-- a rule that leaves every sample as it is
abbrev pub Leaves : {A : Type 0} → Rule A → Type 0
Leaves {A} f = (whole : Bool) (y x k : ℕ) (v : A) → f whole y x k v ≡ v

pub record Idle (op : Opcode) (fw fh : ℕ) : Type 0 where
  pub rule : (scale : Float) (b : List ℕ) → Leaves (rule_of (frame_at scale fw fh) op b)
  pub rule16 : (b : List ℕ) → Leaves (rule16_of op b)

pub record Reached (op : Opcode) (q : Radial) (m2 : Float) (fw fh : ℕ) : Type 0 where
  pub plan : plan_of op ≡ Plan.Vignette q
  pub reaches : Reaches q m2 fw fh

pub record Begun (op : Opcode) (r : Region) (t : Task) (s : Start) (x0 : ℕ) : Type 0 where
  pub plan : plan_of op ≡ Plan.Area r t
  pub first : First r.left r.col_pitch x0 s.col s.nth

abbrev pub Ready : Opcode → (x0 fw fh : ℕ) → Prepared → Type 0
Ready op x0 fw fh Nothing = Idle op fw fh
Ready op x0 fw fh (Vignette q m2) = Reached op q m2 fw fh
Ready op x0 fw fh (Area a) = Begun op a.region a.task a.start x0
