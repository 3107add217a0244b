-- Worked values of the definitions, each by computing: P3 and P4 of document 01, 'Bench frames', and the ends of each
-- run.
use Rattle.std.specs.Prelude.{◌+◌, ◌*◌, ◌≡◌, refl, true, false, [], ◌∷◌, map}
use Rattle.pointwise.specs.Points.{each, before, between}
use Rattle.pointwise.specs.Select.{selects, in_row, on_columns}

-- places are counted from 0
pub each-worked : each (λ i v. i + v) (10 ∷ 20 ∷ 30 ∷ []) ≡ 10 ∷ 21 ∷ 32 ∷ []
unfolding each
each-worked = refl

-- below 2: the places 0 and 1
pub before-worked : each (before 2 (λ i v. i + v)) (10 ∷ 20 ∷ 30 ∷ []) ≡ 10 ∷ 21 ∷ 30 ∷ []
unfolding each before
before-worked = refl

-- from 1 up to 3: the places 1 and 2
pub between-worked : each (between 1 3 (λ i v. i + v)) (10 ∷ 20 ∷ 30 ∷ 40 ∷ []) ≡ 10 ∷ 21 ∷ 32 ∷ 40 ∷ []
unfolding each between
between-worked = refl

-- P3: left 1, right 6, pitch 2; of the image columns 2 to 5 (x0 2, width 4), 3 and 5
pub p3-columns : map (selects 1 6 2) (2 ∷ 3 ∷ 4 ∷ 5 ∷ []) ≡ false ∷ true ∷ false ∷ true ∷ []
unfolding selects
p3-columns = refl

-- P3 over the row of the window: each sample touched becomes its column
pub p3-row : each (in_row 2 1 (on_columns 1 6 2 0 1 (λ x k v. x))) (0 ∷ 0 ∷ 0 ∷ 0 ∷ []) ≡ 0 ∷ 3 ∷ 0 ∷ 5 ∷ []
unfolding each in_row on_columns selects
p3-row = refl

-- P4: plane 1, planes 5, window of 3, two columns: two planes of each. A sample touched becomes 10 times its column,
-- and its plane.
pub p4-two : each (in_row 4 3 (on_columns 0 9 1 1 5 (λ x k v. 10 * x + k))) (0 ∷ 0 ∷ 0 ∷ 0 ∷ 0 ∷ 0 ∷ [])
    ≡ 0 ∷ 41 ∷ 42 ∷ 0 ∷ 51 ∷ 52 ∷ []
unfolding each in_row on_columns selects
p4-two = refl

-- P4: plane 3, planes 5, window of 3: none
pub p4-none : each (in_row 4 3 (on_columns 0 9 1 3 5 (λ x k v. 10 * x + k))) (0 ∷ 0 ∷ 0 ∷ 0 ∷ 0 ∷ 0 ∷ [])
    ≡ 0 ∷ 0 ∷ 0 ∷ 0 ∷ 0 ∷ 0 ∷ []
unfolding each in_row on_columns selects
p4-none = refl

-- plane 1, one plane: the planes end before plane + planes
pub one-plane : each (in_row 4 3 (on_columns 0 9 1 1 1 (λ x k v. 10 * x + k))) (0 ∷ 0 ∷ 0 ∷ []) ≡ 0 ∷ 41 ∷ 0 ∷ []
unfolding each in_row on_columns selects
one-plane = refl

-- a region from 1 up to 6 begins at 1 and ends before 6; a pitch of 0 counts as 1
pub ends : map (selects 1 6 1) (0 ∷ 1 ∷ 5 ∷ 6 ∷ []) ≡ false ∷ true ∷ true ∷ false ∷ []
unfolding selects
ends = refl

pub no-pitch : map (selects 1 6 0) (0 ∷ 1 ∷ 2 ∷ 6 ∷ []) ≡ false ∷ true ∷ true ∷ false ∷ []
unfolding selects
no-pitch = refl
