-- Document 02, M-110, tiles give the frame: a window cut into rectangles that cover it without overlap, each run as its
-- own window, one after another in any order, leaves the samples of the one run. Over any sample kind.
use Rattle.std.specs.Prelude.{ℕ, ◌+◌, ◌-◌, ◌*◌, ◌≤◌, ◌<◌, min, Bool, true, ◌&&◌, cond, List, [], ◌∷◌, ◌++◌, ◌≡◌, leb, ltb, Float, length, take, drop, Ok}
use Rattle.dng.specs.declared.Window.{Window}
use Rattle.dng.specs.declared.Settings.{Settings}
use Rattle.dng.specs.declared.Answer.TheVariants as Ans
use Rattle.dng.specs.List.{Item, reading_of}
use Rattle.dng.specs.declared.Class.{Class}
use Rattle.dng.specs.Run.{kept_in, Kind, f32_kind, u16_kind, Room, names_of, skipped, skipped16, takes16, takes_rows}
use Rattle.dng.specs.Answer.{in_range, frame_of, takes_all, Out, run_out, f32_out, u16_out}
use Rattle.law_rows.specs.NoRepair.{no_repair}

-- ---- a tile

-- A rectangle of a window, from its column x and row y on, and how many samples are lent from its first on.
pub record Tile : Type 0 where
  pub x : ℕ
  pub y : ℕ
  pub width : ℕ
  pub height : ℕ
  pub lent : ℕ

-- "as its own window, with its own x0, y0, the frame's stride, full sizes, planes"
abbrev pub tile_window : Window → Tile → Window
tile_window w t =
    record {
      width = t.width;
      height = t.height;
      planes = w.planes;
      stride = w.stride;
      x0 = w.x0 + t.x;
      y0 = w.y0 + t.y;
      full_width = w.full_width;
      full_height = w.full_height;
    }

-- where its first sample stands, and how many it is lent of n: no more than there are
abbrev pub tile_start : Window → Tile → ℕ
tile_start w t = (t.y * w.stride + t.x) * w.planes

abbrev pub tile_length : Window → (n : ℕ) → Tile → ℕ
tile_length w n t = min t.lent (n - tile_start w t)

-- the samples lent, and all samples with those put back
abbrev pub tile_part : {A : Type 0} → Window → Tile → List A → List A
tile_part w t s = take (tile_length w (length s) t) (drop (tile_start w t) s)

abbrev pub tile_put : {A : Type 0} → Window → Tile → List A → List A → List A
tile_put w t part s = take (tile_start w t) s ++ (part ++ drop (tile_length w (length s) t) (drop (tile_start w t) s))

-- ---- a cut

-- column x of row y of the window lies in the tile
unfoldable pub within : Tile → (x y : ℕ) → Bool
within t x y = leb t.x x && (ltb x (t.x + t.width) && (leb t.y y && ltb y (t.y + t.height)))

-- in how many of the tiles
unfoldable pub hits : (x y : ℕ) → List Tile → ℕ
hits x y [] = 0
hits x y (t ∷ ts) = cond (within t x y) 1 0 + hits x y ts

-- "rectangles that cover it without overlap": every position of the window lies in one tile, every other in none
abbrev pub Cut : Window → List Tile → Type 0
Cut w ts = (x y : ℕ) → hits x y ts ≡ cond (ltb x w.width && ltb y w.height) 1 0

-- every pixel of the window is among n lent samples
abbrev pub Lent : Window → (n : ℕ) → Type 0
Lent w n = (x y : ℕ) → x < w.width → y < w.height → (y * w.stride + (x + 1)) * w.planes ≤ n

-- "each inside document 01's limits", and lent up to its last sample or past it
pub record Fit (w : Window) (period : ℕ) (t : Tile) : Type 0 where
  pub ranges : in_range (tile_window w t) period ≡ true
  pub full : Lent (tile_window w t) t.lent

abbrev pub Fits : Window → (period : ℕ) → List Tile → Type 0
Fits w period [] = Unit {0}
Fits w period (t ∷ ts) = Fit w period t × Fits w period ts

-- ---- the runs

-- a form of the run: its sample kind, the lists that it takes, the opcodes that it names
pub record Form (A : Type 0) : Type 1 where
  pub kind : Kind A
  pub takes : List Item → Bool
  pub skip : Class → Bool

-- the f32 run at a scale: the frame's full sizes and scale, for the window and for its tiles
abbrev pub f32_form : Window → (scale : Float) → Form Float
f32_form w scale = record { kind = f32_kind (frame_of w scale); takes = takes_all; skip = skipped }

abbrev pub u16_form : Form ℕ
u16_form = record { kind = u16_kind; takes = takes16; skip = skipped16 }

module _ {A : Type 0} (f : Form A) (period : ℕ) (preview : Bool) (room : Room) (list names : List ℕ) where
  abbrev pub out_on : Window → List A → Out A
  out_on w s = run_out f.kind f.takes f.skip w period preview room list s names

  -- one tile of a window, run and put back
  abbrev pub one_tile : Window → Tile → List A → List A
  one_tile w t s = tile_put w t (out_on (tile_window w t) (tile_part w t s)).samples s

  -- one after another, through one list of samples
  unfoldable pub all_tiles : Window → List Tile → List A → List A
  all_tiles w [] s = s
  all_tiles w (t ∷ ts) s = all_tiles w ts (one_tile w t s)

-- the two public runs are such forms, on the window and on its tiles
pub record Runs : Type 0 where
  pub f32 : (w : Window) (set : Settings) (room : Room) (list names : List ℕ) (s : List Float)
      → out_on (f32_form w set.scale) set.period set.preview room list names w s ≡ f32_out w set room list s names
  pub f32_tile : (w : Window) (t : Tile) (set : Settings) (room : Room) (list names : List ℕ) (s : List Float)
      → out_on (f32_form w set.scale) set.period set.preview room list names (tile_window w t) s
      ≡ f32_out (tile_window w t) set room list s names
  pub u16 : (w : Window) (period : ℕ) (preview : Bool) (room : Room) (list names s : List ℕ)
      → out_on u16_form period preview room list names w s ≡ u16_out w period preview room list s names

-- ---- the theorem

-- the list, or what a preview leaves of it: read whole, taken by the form, without a repair, "given room for the skips"
pub record Suits {A : Type 0} (f : Form A) (preview : Bool) (list names : List ℕ) : Type 0 where
  pub opcodes : ℕ
  pub whole : reading_of list ≡ Ok opcodes
  pub taken : f.takes (kept_in preview list) ≡ true
  pub without : no_repair (kept_in preview list) ≡ true
  pub roomy : length (names_of f.skip (kept_in preview list)) ≤ length names

-- "a list of the row form" is one for the f32 run; one that has tables and unapplied opcodes alone is for the u16 run
pub record SuitingLists : Type 0 where
  pub rows : (w : Window) (scale : Float) (preview : Bool) (list names : List ℕ) (n : ℕ) → reading_of list ≡ Ok n
      → takes_rows (kept_in preview list) ≡ true → length (names_of skipped (kept_in preview list)) ≤ length names
      → Suits (f32_form w scale) preview list names
  pub tables : (preview : Bool) (list names : List ℕ) (n : ℕ) → reading_of list ≡ Ok n
      → takes16 (kept_in preview list) ≡ true
      → no_repair (kept_in preview list) ≡ true → length (names_of skipped16 (kept_in preview list)) ≤ length names
      → Suits u16_form preview list names

-- the cut: "a window inside document 01's limits whose data is complete, stride at least width and width at least 1"
pub record TilesIf (w : Window) (period n : ℕ) (ts : List Tile) : Type 0 where
  pub ranges : in_range w period ≡ true
  pub wide : 1 ≤ w.width
  pub strided : w.width ≤ w.stride
  pub full : Lent w n
  pub fits : Fits w period ts
  pub cut : Cut w ts

-- what is promised
pub record Tiled {A : Type 0} (f : Form A) (w : Window) (period : ℕ) (preview : Bool) (room : Room)
    (list : List ℕ) (s : List A) (names : List ℕ) (ts : List Tile) : Type 0 where
  -- every tile's run answers 0, whatever the samples are by then
  pub tiles : (t : Tile) (u : List A) → Fit w period t
      → (out_on f period preview room list names (tile_window w t) (tile_part w t u)).answer
      ≡ Ans.Done (length (names_of f.skip (kept_in preview list))) 0 0
  -- and so does the frame's, with nothing repaired and nothing left
  pub run : (out_on f period preview room list names w s).answer
      ≡ Ans.Done (length (names_of f.skip (kept_in preview list))) 0 0
  pub samples : all_tiles f period preview room list names w ts s ≡ (out_on f period preview room list names w s).samples

abbrev pub TilesGiveTheFrame : Type 1
TilesGiveTheFrame =
    (A : Type 0) (f : Form A) (w : Window) (period : ℕ) (preview : Bool) (room : Room) (list : List ℕ) (s : List A)
    (names : List ℕ) (ts : List Tile) → Suits f preview list names → TilesIf w period (length s) ts
    → Tiled f w period preview room list s names ts
