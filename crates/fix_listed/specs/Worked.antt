-- Worked values of the definitions, each by computing: P11 of document 01, 'Bench frames', points as (row, column),
-- ends excluded, the window's corner, and repetitions.
use Rattle.std.specs.Prelude.{ℕ, ◌≡◌, refl, List, [], ◌∷◌, ◌++◌}
use Rattle.num_words.specs.Words.{big}
use Rattle.dng.specs.declared.Window.{Window}
use Rattle.dng.specs.Repair.{any_below, count_below, positions, point_at, rect_at, listed}
use Rattle.fix_scratch.specs.Marks.{chosen}
use Rattle.fix_listed.specs.Listed.{listed_at}

-- a window of 3 by 2 whose corner is (x0, y0)
abbrev at : (x0 y0 : ℕ) → Window
at x y =
    record { width = 3; height = 2; planes = 1; stride = 3; x0 = x; y0 = y; full_width = 9; full_height = 9 }

-- a number below 256 as four bytes
abbrev word : ℕ → List ℕ
word n = 0 ∷ 0 ∷ 0 ∷ n ∷ []

-- the phase and the two counts, which the body holds first
abbrev head : (np nr : ℕ) → List ℕ
head np nr = word 0 ++ (word np ++ word nr)

abbrev point : (row column : ℕ) → List ℕ
point r c = word r ++ word c

abbrev rectangle : (top left bottom right : ℕ) → List ℕ
rectangle t l b r = word t ++ (word l ++ (word b ++ word r))

-- the positions of a window that a body lists
abbrev marked : Window → List ℕ → (np nr : ℕ) → List ℕ
marked w b np nr = chosen (listed_at w b np nr) 0 (positions w)

abbrev many : Window → List ℕ → (np nr : ℕ) → ℕ
many w b np nr = count_below (positions w) (listed_at w b np nr)

-- P11: the rectangle 0, 0, 1, 1 marks one position
pub p11 : marked (at 0 0) (head 0 1 ++ rectangle 0 0 1 1) 0 1 ≡ 0 ∷ []
unfolding chosen listed any_below point_at rect_at big
p11 = refl

pub p11-count : many (at 0 0) (head 0 1 ++ rectangle 0 0 1 1) 0 1 ≡ 1
unfolding count_below listed any_below point_at rect_at big
p11-count = refl

-- row 1, column 2 of a window 3 wide is position 5; (column, row) would be outside
pub row_first : marked (at 0 0) (head 1 0 ++ point 1 2) 1 0 ≡ 5 ∷ []
unfolding chosen listed any_below point_at rect_at big
row_first = refl

-- rows 0 up to 1 and columns 0 up to 2, the ends left out
pub ends-excluded : marked (at 0 0) (head 0 1 ++ rectangle 0 0 1 2) 0 1 ≡ 0 ∷ 1 ∷ []
unfolding chosen listed any_below point_at rect_at big
ends-excluded = refl

-- the same in a window whose corner is column 2, row 1: one position is left
pub corner : marked (at 2 1) (head 0 1 ++ rectangle 0 1 2 3) 0 1 ≡ 0 ∷ []
unfolding chosen listed any_below point_at rect_at big
corner = refl

-- a point twice, once more in a rectangle, in whatever order: counted once
pub once : marked (at 0 0) (head 3 1 ++ (point 1 1 ++ (point 0 2 ++ (point 1 1 ++ rectangle 1 1 2 2)))) 3 1 ≡ 2 ∷ 4 ∷ []
unfolding chosen listed any_below point_at rect_at big
once = refl

pub once-count : many (at 0 0) (head 3 1 ++ (point 1 1 ++ (point 0 2 ++ (point 1 1 ++ rectangle 1 1 2 2)))) 3 1 ≡ 2
unfolding count_below listed any_below point_at rect_at big
once-count = refl

-- a rectangle whose bottom is not below its top, or that lies outside: none
pub none : marked (at 0 0) (head 0 2 ++ (rectangle 1 0 1 3 ++ rectangle 2 0 9 9)) 0 2 ≡ []
unfolding chosen listed any_below point_at rect_at big
none = refl
