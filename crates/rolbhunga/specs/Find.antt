-- What `rolbhunga_find` promises: `found_in` of list_find, in numbers.
use Rattle.std.specs.Prelude.{ℕ, cond, List, [], Ok, Err, ◌≡◌, refl, eqb}
use Rattle.list_find.specs.declared.Which.TheVariants.{List1, List2, List3}
use Rattle.list_find.specs.declared.FindError.{FindError}
use Rattle.list_find.specs.Walk.{Found, At, number_of, headed, found_in}
use Rattle.rolbhunga.specs.declared.find.FindNumbers.{FindNumbers}

-- a refusal has a number alone
abbrev pub none : ℕ → FindNumbers
none number = record { number = number; start = 0; length = 0 }

abbrev pub refusal : FindError → ℕ
refusal why = number_of (Err why)

abbrev pub told : Found → FindNumbers
told (Ok place) = record { number = 0; start = place.start; length = place.len }
told (Err why) = none (refusal why)

-- 1 to 3 ask for a list; any other number is answered with 1, whatever the file
unfoldable pub found_for : List ℕ → ℕ → FindNumbers
found_for s which =
    cond (eqb which 1) (told (found_in s List1))
    (cond (eqb which 2) (told (found_in s List2)) (cond (eqb which 3) (told (found_in s List3)) (none 1)))

pub record Worked : Type 0 where
  pub found : told (At 18 4) ≡ record { number = 0; start = 18; length = 4 }
  pub asked : found_for [] 3 ≡ none 30
  pub nothing : found_for [] 0 ≡ none 1
  pub other : found_for [] 4 ≡ none 1

pub worked : Worked
unfolding headed found_in found_for
worked = record { found = refl; asked = refl; nothing = refl; other = refl }
