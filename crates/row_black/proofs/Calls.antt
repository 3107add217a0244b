-- A call done, and a call refused. Assumes nothing.
use mathlib.Core.Bool.{cond}
use mathlib.Core.List.{List}
use mathlib.Core.Path.{◌≡◌, ap, ◌∙◌}
use Rattle.std.specs.Prelude.{Ok, Err, is_ok}
use lib.Ieee.{Float}
use lib.ListN.{length}
use Rattle.pointwise.specs.Points.{each}
use Rattle.row_black.specs.declared.Field.{Field}
use Rattle.row_black.specs.declared.Refused.{Refused}
use Rattle.row_black.specs.Black.{Levels, levelled_at, Answer, answer_of, black_out, Levelled}

module _ {A : Type 0} (none : A) (to_float : A → Float) (f : Field) (l : Levels) (s : List A) (out : List Float) where
  -- what the tests answer
  abbrev pub tested : Answer
  tested = answer_of f l.pattern (length l.blacks) (length l.scales) (length s) (length out)

  pub called : {now : List Float} → Ok tt ≡ tested → now ≡ each (levelled_at none to_float f l s) out
      → Levelled (black_out none to_float f l s out) (Ok tt) now
  unfolding black_out
  called given made =
      record {
        answered = given;
        left = made ∙ ap (λ (a : Answer). cond (is_ok a) (each (levelled_at none to_float f l s) out) out) given;
      }

  pub refused : {a : Answer} {e : Refused} → a ≡ Err e → Err e ≡ tested → Levelled (black_out none to_float f l s out) a out
  unfolding black_out
  refused is given =
      record {
        answered = is ∙ given;
        left = ap (λ (a : Answer). cond (is_ok a) (each (levelled_at none to_float f l s) out) out) given;
      }
