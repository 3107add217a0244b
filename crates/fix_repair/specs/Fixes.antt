-- What a repair answers, as the run's definition has it (dng, specs/Run, `repair_on`), over any sample kind.
use Rattle.std.specs.Prelude.{ℕ, ◌+◌, Bool, List, Option, Some, None, ◌≡◌, refl, eqb}
use Rattle.std.specs.Float.{nan, binary32}
use Rattle.std.specs.Float.Ieee.{div, eq}
use Rattle.num_round.specs.Whole.{round_held}
use Rattle.num_convert.specs.Convert.{whole_in}
use Rattle.dng.specs.declared.Window.{Window}
use Rattle.dng.specs.Value.{Frame, rule_of, rule16_of}
use Rattle.dng.specs.Run.{Kind, f32_kind, u16_kind, Room, Progress, going, marks_full, repair_on}
use Rattle.sample.specs.Kinds.{kind_of}
use Rattle.fix_repair.specs.declared.Repaired.{Repaired}

-- where the run stands after opcode k answered so, with the totals before it and the samples it left
abbrev pub progress_of : {A : Type 0} → Option Repaired → List A → (opcode repaired left : ℕ) → Progress A
progress_of (Some d) s k r l = going s (r + d.repaired) (l + d.left)
progress_of None s k r l = marks_full s k

-- a repair with the marks `bad` of the samples s answers r and leaves s': whatever its number and the totals before it
abbrev pub Fixes : {A : Type 0} → Kind A → Window → (period : ℕ) → Room → (ℕ → Bool) → (s s' : List A)
    → Option Repaired → Type 0
Fixes kind w period room bad s s' r = (k a b : ℕ) → progress_of r s' k a b ≡ repair_on kind w period room bad k s a b

-- with the members of f32 and of u16, the paper's two kinds
pub fixes_f32 : (fr : Frame)
    → Fixes (kind_of nan (λ v. v) (λ v. v) (λ scale c. div binary32 (whole_in binary32 c) scale) (λ c v. eq v c) rule_of fr)
    ≡ Fixes (f32_kind fr)
fixes_f32 fr = refl

pub fixes_u16 : (fr : Frame)
    → Fixes (kind_of 0 (λ v. whole_in binary32 v) (λ v. round_held 65535 v) (λ scale c. c) (λ c v. eqb v c) (λ fr. rule16_of) fr)
    ≡ Fixes u16_kind
fixes_u16 fr = refl
