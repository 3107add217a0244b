-- What a caller may conclude from the contract of a call (`Levelled`), over any sample kind and any number of planes.
-- Document 02, M-109; document 01, 'How a promise is judged'. proofs/Theorems proves each under its name in lower case:
--     1 Determined   2 ExactlyWhen   3 Keeps   4 Pointwise   5 Tiles
use Rattle.std.specs.Prelude.{ℕ, ◌+◌, ◌*◌, ◌≤◌, ◌<◌, true, false, List, ◌↔◌, ◌≡◌, Float, length, get_or, Ok, Err, is_ok}
use Rattle.std.specs.Float.{nan}
use Rattle.row_black.specs.declared.Field.{Field}
use Rattle.row_black.specs.declared.Pattern.{Pattern}
use Rattle.row_black.specs.declared.Refused.TheVariants.{Range, Tables, Samples}
use Rattle.row_black.specs.Black.{Levels, levelled, total, field_in_range, tabled, sampled, Answer, answer_of, BlackOut, black_out, Levelled}

-- ---- 1. two results that meet the contract are equal

abbrev pub Determined : Type 0
Determined =
    (o : BlackOut) (r r' : Answer) (out out' : List Float) → Levelled o r out → Levelled o r' out'
    → (r ≡ r') × (out ≡ out')

-- ---- 2. each answer exactly when: 1, 60, 61, in that order

module _ (f : Field) (p : Pattern) (b s input output : ℕ) where
  abbrev pub When : Answer → Type 0
  When (Err Range) = field_in_range f ≡ false
  When (Err Tables) = (field_in_range f ≡ true) × (tabled p f.planes b s ≡ false)
  When (Err Samples) = (field_in_range f ≡ true) × (tabled p f.planes b s ≡ true) × (sampled f input output ≡ false)
  When (Ok u) = (field_in_range f ≡ true) × (tabled p f.planes b s ≡ true) × (sampled f input output ≡ true)

abbrev pub ExactlyWhen : Type 0
ExactlyWhen =
    (f : Field) (p : Pattern) (b s input output : ℕ) (a : Answer)
    → (answer_of f p b s input output ≡ a) ↔ When f p b s input output a

-- ---- the output of a call, and where the sample of row y, column x and plane k of a frame stands

module _ {A : Type 0} (none : A) (to_float : A → Float) where
  abbrev pub output_of : Field → Levels → List A → List Float → List Float
  output_of f l s out = (black_out none to_float f l s out).output

  abbrev pub answer_to : Field → Levels → List A → List Float → Answer
  answer_to f l s out = (black_out none to_float f l s out).answer

abbrev pub place_of : Field → (y x k : ℕ) → ℕ
place_of f y x k = (y * f.width + x) * f.planes + k

module _ {A : Type 0} (none : A) (to_float : A → Float) (f : Field) (l : Levels) (s : List A) (out : List Float) where
  -- ---- 3. what a call leaves alone
  pub record Kept : Type 0 where
    -- on a refusal, everything
    pub refused : is_ok (answer_to none to_float f l s out) ≡ false → output_of none to_float f l s out ≡ out
    -- on every answer, what stands behind the frame
    pub behind : (j : ℕ) → total f ≤ j → get_or (output_of none to_float f l s out) j nan ≡ get_or out j nan
    pub long : length (output_of none to_float f l s out) ≡ length out

  -- ---- 4. "each sample depends only on itself and its position"
  pub record Alone : Type 0 where
    -- another input that agrees at a place gives an output that agrees there
    pub itself : (s' : List A) (j : ℕ) → total f ≤ length s → total f ≤ length s' → get_or s j none ≡ get_or s' j none
        → get_or (output_of none to_float f l s out) j nan ≡ get_or (output_of none to_float f l s' out) j nan
    -- and what stands there is the rule of the image row, the image column and the plane
    pub position : (y x k : ℕ) → answer_to none to_float f l s out ≡ Ok tt → y < f.height → x < f.width → k < f.planes
        → get_or (output_of none to_float f l s out) (place_of f y x k) nan
        ≡ levelled l (f.y0 + y) (f.x0 + x) k (to_float (get_or s (place_of f y x k) none))

abbrev pub Keeps : Type 1
Keeps =
    (A : Type 0) (none : A) (to_float : A → Float) (f : Field) (l : Levels) (s : List A) (out : List Float)
    → Kept none to_float f l s out

abbrev pub Pointwise : Type 1
Pointwise =
    (A : Type 0) (none : A) (to_float : A → Float) (f : Field) (l : Levels) (s : List A) (out : List Float)
    → Alone none to_float f l s out

-- ---- 5. so a frame may be cut: a tile called by itself gives the frame's samples; a band is a tile of full width

-- w by h pixels from column x and row y of the frame on
abbrev pub tile_of : Field → (x y w h : ℕ) → Field
tile_of f x y w h = record { width = w; height = h; planes = f.planes; x0 = f.x0 + x; y0 = f.y0 + y }

module _ {A : Type 0} (none : A) (to_float : A → Float) (f : Field) (l : Levels) (s : List A) (out : List Float)
    (x y w h : ℕ) (t : List A) (tile : List Float) where
  -- the tile lies in the frame, neither call is refused, and the tile's input t has the frame's samples
  pub record TiledIf : Type 0 where
    pub columns : x + w ≤ f.width
    pub rows : y + h ≤ f.height
    pub frame : answer_to none to_float f l s out ≡ Ok tt
    pub part : answer_to none to_float (tile_of f x y w h) l t tile ≡ Ok tt
    pub input : (r c k : ℕ) → r < h → c < w → k < f.planes
        → get_or t (place_of (tile_of f x y w h) r c k) none ≡ get_or s (place_of f (y + r) (x + c) k) none

  abbrev pub Tiled : Type 0
  Tiled =
      (r c k : ℕ) → r < h → c < w → k < f.planes
      → get_or (output_of none to_float (tile_of f x y w h) l t tile) (place_of (tile_of f x y w h) r c k) nan
      ≡ get_or (output_of none to_float f l s out) (place_of f (y + r) (x + c) k) nan

abbrev pub Tiles : Type 1
Tiles =
    (A : Type 0) (none : A) (to_float : A → Float) (f : Field) (l : Levels) (s : List A) (out : List Float)
    (x y w h : ℕ) (t : List A) (tile : List Float)
    → TiledIf none to_float f l s out x y w h t tile → Tiled none to_float f l s out x y w h t tile
