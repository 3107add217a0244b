-- Worked values of `chosen`, each by computing.
use Rattle.std.specs.Prelude.{◌%◌, ◌≡◌, refl, [], ◌∷◌, eqb}
use Rattle.fix_scratch.specs.Marks.{chosen}

-- every third number of the first eight
pub chosen-worked : chosen (λ q. eqb (q % 3) 1) 0 8 ≡ 1 ∷ 4 ∷ 7 ∷ []
unfolding chosen
chosen-worked = refl

-- from 2 on, three looked at
pub chosen-from : chosen (λ q. eqb (q % 3) 1) 2 3 ≡ 4 ∷ []
unfolding chosen
chosen-from = refl
