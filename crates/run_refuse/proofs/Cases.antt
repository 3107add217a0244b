-- What one pass over a list found, as the plans ask for it. Assumes nothing.
use mathlib.Core.Path.{◌≡◌, sym, ap}
use mathlib.Core.Bool.{Bool}
use mathlib.Core.List.{List}
use Prim.Native.Nat.{ℕ}
use Rattle.dng.specs.List.{reading_of, items_of}
use lib.ListN.{length}
use Rattle.dng.specs.Run.{kept_in}
use Rattle.list_survey.specs.declared.Surveyed.{Surveyed}
use Rattle.list_survey.specs.Survey.{survey_on, survey_of}

module _ (preview : Bool) (list : List ℕ) {v : Surveyed} (e : v ≡ survey_of preview list) where
  pub reading-is : reading_of list ≡ v.reading
  unfolding survey_of
  reading-is = sym (ap (λ (u : Surveyed). u.reading) e)

  pub survey-is : v.survey ≡ survey_on (length (items_of list)) (kept_in preview list)
  unfolding survey_of
  survey-is = ap (λ (u : Surveyed). u.survey) e
