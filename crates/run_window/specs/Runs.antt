-- The end of a run: what it answers, and what it leaves. Document 01, 'What comes back'. And that the run over the kind
-- of sample is at f32 and at u16 the paper's.
use Rattle.std.specs.Prelude.{ℕ, Bool, List, Float, Result, Ok, Err, ◌≡◌, refl, eqb}
use Rattle.std.specs.Float.{nan, binary32}
use Rattle.std.specs.Float.Ieee.{div, eq}
use Rattle.num_round.specs.Whole.{round_held}
use Rattle.num_convert.specs.Convert.{whole_in}
use Rattle.dng.specs.declared.Window.{Window}
use Rattle.dng.specs.declared.Settings.{Settings}
use Rattle.dng.specs.declared.Answer.{Answer}
use Rattle.dng.specs.declared.Class.{Class}
use Rattle.dng.specs.declared.Opcode.{Opcode}
use Rattle.dng.specs.List.{Item}
use Rattle.dng.specs.Select.{Rule}
use Rattle.dng.specs.Value.{Frame, rule_of, rule16_of}
use Rattle.dng.specs.Run.{Room, skipped, skipped16, takes16}
use Rattle.dng.specs.Answer.{Out, frame_of, takes_all, run_out, f32_out, u16_out}
use Rattle.sample.specs.Kinds.{kind_of}

-- done, or refused
abbrev pub answer_of : Result Answer Answer → Answer
answer_of (Ok a) = a
answer_of (Err a) = a

-- the answer, the samples and the names are those of o; what the scratch holds is not said yet
pub record Is {A : Type 0} (o : Out A) (r : Answer) (s : List A) (b : List ℕ) : Type 0 where
  pub answered : r ≡ o.answer
  pub left : s ≡ o.samples
  pub named : b ≡ o.names

module _ (w : Window) (set : Settings) (room : Room) (list : List ℕ) where
  pub is_f32 : (s : List Float) (names : List ℕ)
      → run_out
      (kind_of nan (λ v. v) (λ v. v) (λ scale c. div binary32 (whole_in binary32 c) scale) (λ c v. eq v c) rule_of
      (frame_of w set.scale))
      takes_all skipped w set.period set.preview room list s names
      ≡ f32_out w set room list s names
  is_f32 s names = refl

  -- whatever the scale
  pub is_u16 : (s : List ℕ) (names : List ℕ)
      → run_out
      (kind_of 0 (λ v. whole_in binary32 v) (λ v. round_held 65535 v) (λ scale c. c) (λ c v. eqb v c) (λ fr. rule16_of)
      (frame_of w set.scale))
      takes16 skipped16 w set.period set.preview room list s names
      ≡ u16_out w set.period set.preview room list s names
  is_u16 s names = refl

-- with those members of a kind of sample and of its form, every run is that one
pub record IsRun {A C : Type 0} (none : A) (to_float : A → Float) (of_mean : Float → A) (constant_at : Float → ℕ → C)
    (equals : C → A → Bool) (rule : Frame → Opcode → List ℕ → Rule A) (takes : List Item → Bool) (skip : Class → Bool)
    (out : Window → Settings → Room → List ℕ → List A → List ℕ → Out A) : Type 0 where
  pub same : (w : Window) (set : Settings) (room : Room) (list : List ℕ) (s : List A) (names : List ℕ)
      → run_out (kind_of none to_float of_mean constant_at equals rule (frame_of w set.scale)) takes skip w set.period
      set.preview room list s names
      ≡ out w set room list s names
