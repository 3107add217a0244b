-- The members of a sample kind as the paper's `Kind`; and that those of f32 and u16 are the paper's two.
use Rattle.std.specs.Prelude.{ℕ, Bool, List, Float, ◌≡◌, refl, eqb}
use Rattle.std.specs.Float.{nan, binary32}
use Rattle.std.specs.Float.Ieee.{div, eq}
use Rattle.num_round.specs.Whole.{round_held}
use Rattle.num_convert.specs.Convert.{whole_in}
use Rattle.dng.specs.declared.Opcode.{Opcode}
use Rattle.dng.specs.Select.{Rule}
use Rattle.dng.specs.Value.{Frame, rule_of, rule16_of}
use Rattle.dng.specs.Run.{Kind, f32_kind, u16_kind}

abbrev pub kind_of : {A C : Type 0} → A → (A → Float) → (Float → A) → (Float → ℕ → C) → (C → A → Bool)
    → (Frame → Opcode → List ℕ → Rule A) → Frame → Kind A
kind_of none to_float of_mean constant_at equals rule fr =
    record {
      none = none;
      to_float = to_float;
      of_mean = of_mean;
      is_bad = λ c v. equals (constant_at fr.scale c) v;
      rule = rule fr;
    }

-- f32, and u16 at any frame
pub is_f32 : (fr : Frame)
    → kind_of nan (λ v. v) (λ v. v) (λ scale c. div binary32 (whole_in binary32 c) scale) (λ c v. eq v c) rule_of fr
    ≡ f32_kind fr
is_f32 fr = refl

pub is_u16 : (fr : Frame)
    → kind_of 0 (λ v. whole_in binary32 v) (λ v. round_held 65535 v) (λ scale c. c) (λ c v. eqb v c) (λ fr. rule16_of) fr
    ≡ u16_kind
is_u16 fr = refl

-- the members are those of a kind
pub record IsKind {A C : Type 0} (none : A) (to_float : A → Float) (of_mean : Float → A) (constant_at : Float → ℕ → C)
    (equals : C → A → Bool) (rule : Frame → Opcode → List ℕ → Rule A) (kind : Frame → Kind A) : Type 0 where
  pub same_none : (fr : Frame) → none ≡ (kind fr).none
  pub same_to_float : (fr : Frame) → to_float ≡ (kind fr).to_float
  pub same_of_mean : (fr : Frame) → of_mean ≡ (kind fr).of_mean
  pub same_is_bad : (fr : Frame) → (λ c v. equals (constant_at fr.scale c) v) ≡ (kind fr).is_bad
  pub same_rule : (fr : Frame) → rule fr ≡ (kind fr).rule
