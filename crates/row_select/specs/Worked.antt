-- Worked values of `walked`, each by computing: P3 of document 01, 'Bench frames', as a walk, and a plane of several.
use Rattle.std.specs.Prelude.{◌+◌, ◌*◌, ◌≡◌, refl, [], ◌∷◌}
use Rattle.pointwise.specs.Points.{each}
use Rattle.pointwise.specs.Select.{selects, in_row, on_columns}
use Rattle.row_select.specs.declared.Walk.{Walk}
use Rattle.row_select.specs.Walks.{walked}

-- P3: left 1, right 6, pitch 2, x0 2: the first column at or after 2 is 3, the 1st counted from 1 as the 0th
abbrev p3 : Walk
p3 = record { x0 = 2; planes = 1; left = 1; right = 6; pitch = 2; plane = 0; col = 1; nth = 1 }

-- each sample touched becomes its column
pub p3-row : walked p3 (λ x k v. x) (0 ∷ 0 ∷ 0 ∷ 0 ∷ []) ≡ 0 ∷ 3 ∷ 0 ∷ 5 ∷ []
unfolding walked each in_row on_columns selects
p3-row = refl

-- the same columns at plane 1 of 2: a sample touched becomes 10 times its column, and its plane; the row ends inside
-- column 5
pub p3-plane : walked (record { x0 = 2; planes = 2; left = 1; right = 6; pitch = 2; plane = 1; col = 1; nth = 1 })
    (λ x k v. 10 * x + k)
    (0 ∷ 0 ∷ 0 ∷ 0 ∷ 0 ∷ 0 ∷ 0 ∷ []) ≡ 0 ∷ 0 ∷ 0 ∷ 31 ∷ 0 ∷ 0 ∷ 0 ∷ []
unfolding walked each in_row on_columns selects
p3-plane = refl
