-- Which samples an opcode touches. Document 01, 'Which samples an opcode touches'. Over any sample kind A.
use Rattle.std.specs.Prelude.{ℕ, ◌+◌, ◌*◌, ◌/◌, ◌%◌, Bool, ◌&&◌, cond, leb, ltb}
use Rattle.pointwise.specs.Select.{selects, on_columns}
use Rattle.dng.specs.declared.Region.{Region}
use Rattle.dng.specs.declared.Window.{Window}

-- What an opcode makes of one sample: whether its pixel is whole, its image row y, its image column x, its plane, and
-- its value.
abbrev pub Rule : Type 0 → Type 0
Rule A = Bool → ℕ → ℕ → ℕ → A → A

-- The rows, columns and planes of a region, in image positions; the pitches count from top and from left.
-- The planes end with the window's: no sample has a later one.
unfoldable pub on_region : {A : Type 0} → Region → (ℕ → ℕ → ℕ → A → A) → Rule A
on_region r g whole y x k v =
    cond (selects r.top r.bottom r.row_pitch y)
    (on_columns r.left r.right r.col_pitch r.plane r.planes (g y) x k v)
    v

-- ---- the window: sample (x, y, plane) lies at (y·stride + x)·planes + plane

abbrev pub plane_of : Window → ℕ → ℕ
plane_of w j = j % w.planes

abbrev pub column_of : Window → ℕ → ℕ
column_of w j = j / w.planes % w.stride

abbrev pub row_of : Window → ℕ → ℕ
row_of w j = j / w.planes / w.stride

-- width 0 or stride below width: nothing is touched or marked
unfoldable pub active : Window → Bool
active w = leb 1 w.width && leb w.width w.stride

-- the gap between width and stride, and what lies past the height, is outside
unfoldable pub in_window : Window → ℕ → Bool
in_window w j = active w && (ltb (row_of w j) w.height && ltb (column_of w j) w.width)

-- whether all p samples of the pixel at place j are among the first n
unfoldable pub whole_pixel : ℕ → ℕ → ℕ → Bool
whole_pixel p n j = leb ((j / p + 1) * p) n

-- a rule at place j of n lent samples, of which the window's lie where the formula says
unfoldable pub on_window : {A : Type 0} → Window → ℕ → Rule A → ℕ → A → A
on_window w n f j v =
    cond (in_window w j) (f (whole_pixel w.planes n j) (w.y0 + row_of w j) (w.x0 + column_of w j) (plane_of w j) v) v

-- a rule at place i of a lent row of n samples, the row y of the image, whose first pixel is the image column x0
unfoldable pub on_row : {A : Type 0} → (x0 p y n : ℕ) → Rule A → ℕ → A → A
on_row x0 p y n f i v = f (whole_pixel p n i) y (x0 + i / p) (i % p) v
