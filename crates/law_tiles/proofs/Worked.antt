-- A worked instance: the frame and the cut of specs/Worked, its last column first, with an empty rectangle between the two, and ScalePerColumn.
-- The theorem's hypotheses can be met, and the samples it speaks of are these, by computing, from the tiles and from the run. The same in u16
-- with a table.
use Prim.Native.Nat.{ℕ, zero, suc, ◌/◌, ◌%◌, ◌≤◌}
use mathlib.Core.Path.{◌≡◌, refl, sym, ap, ◌∙◌}
use mathlib.Core.Bool.{Bool, false, ◌&&◌, cond}
use mathlib.Core.List.{List, [], ◌∷◌, ◌++◌, map}
use native.Mathlib.Omega.{arith}
use lib.Dec.{ltb}
use lib.Ieee.{Float, binary32, of_int, of_bits, round, mul, units, odd, size, span, climb}
use lib.IntN.{pos}
use Rattle.num_words.specs.Words.{big}
use Rattle.pointwise.specs.Points.{each}
use Rattle.pointwise.proofs.Each.{below_or}
use Rattle.pointwise.specs.Select.{selects, on_columns}
use Rattle.dng.specs.List.{reading_of, items_of, counted, read_from, step_at, next_at, parsed_at, counted_at}
use Rattle.dng.specs.Select.{on_region, on_window, in_window, active, whole_pixel}
use Rattle.dng.specs.Value.{nth, scaled, map_table16}
use Rattle.dng.specs.Run.{kept_of, Room, names_of, takes16_on, takes16_from, takes_rows, perform_all}
use Rattle.dng.specs.Answer.{in_range, ran_on, run_out}
use Rattle.law_rows.specs.NoRepair.{no_repair}
use Rattle.law_tiles.specs.Tiles.{Tile, within, hits, Cut, Fits, f32_form, u16_form, out_on, all_tiles, Suits, TilesIf, Tiled}
use Rattle.law_tiles.specs.Worked.{frame, first, last, full}
use Rattle.law_tiles.proofs.Parts.{within-left, within-right, within-below}
use Rattle.law_tiles.proofs.Bands.{out-right, out_below}
use Rattle.law_tiles.proofs.Theorem.{suiting-lists, tiles-give-the-frame}

abbrev words : List ℕ → List ℕ
words [] = []
words (n ∷ ns) = n / 16777216 % 256 ∷ n / 65536 % 256 ∷ n / 256 % 256 ∷ n % 256 ∷ words ns

-- one ScalePerColumn over the frame, both planes: by 2, 4 and 8
abbrev list : List ℕ
list = words (1 ∷ 13 ∷ 16973824 ∷ 0 ∷ 48 ∷ 20 ∷ 10 ∷ 22 ∷ 13 ∷ 0 ∷ 2 ∷ 1 ∷ 1 ∷ 3 ∷ 0x40000000 ∷ 0x40800000 ∷ 0x41000000 ∷ [])

-- one MapTable over columns 11 and 12: 50, 70, 90
abbrev table : List ℕ
table = words (1 ∷ 7 ∷ 16973824 ∷ 0 ∷ 42 ∷ 20 ∷ 11 ∷ 22 ∷ 13 ∷ 0 ∷ 2 ∷ 1 ∷ 1 ∷ 3 ∷ []) ++ (0 ∷ 50 ∷ 0 ∷ 70 ∷ 0 ∷ 90 ∷ [])

abbrev whole : ℕ → Float
whole n = of_int binary32 (pos n)

abbrev before : List Float
before = map whole (1 ∷ 2 ∷ 3 ∷ 4 ∷ 5 ∷ 6 ∷ 7 ∷ 8 ∷ 9 ∷ 10 ∷ 11 ∷ 12 ∷ 13 ∷ 14 ∷ [])

abbrev after : List Float
after = map whole (2 ∷ 4 ∷ 12 ∷ 16 ∷ 40 ∷ 48 ∷ 7 ∷ 8 ∷ 18 ∷ 20 ∷ 44 ∷ 48 ∷ 104 ∷ 112 ∷ [])

abbrev before16 : List ℕ
before16 = 0 ∷ 1 ∷ 0 ∷ 1 ∷ 2 ∷ 3 ∷ 0 ∷ 1 ∷ 2 ∷ 3 ∷ 2 ∷ 1 ∷ 0 ∷ 65535 ∷ []

abbrev after16 : List ℕ
after16 = 0 ∷ 1 ∷ 50 ∷ 70 ∷ 90 ∷ 90 ∷ 0 ∷ 1 ∷ 2 ∷ 3 ∷ 90 ∷ 70 ∷ 50 ∷ 90 ∷ []

abbrev empty : Tile
empty = record { x = 1; y = 1; width = 0; height = 5; lent = 0 }

abbrev order : List Tile
order = last ∷ empty ∷ first ∷ []

-- the cut: in turn for each position of the frame, and outside it
empty-none : (x y : ℕ) → within empty x y ≡ false
empty-none x y = below_or x 1 (within-left empty x y) (within-right empty x y)

no_hit : (x y : ℕ) → within last x y ≡ false → within first x y ≡ false → hits x y order ≡ 0
unfolding hits
no_hit x y a b =
    let hit : Bool → ℕ = λ c. cond c 1 0 in
    omega (arith, ap hit a, ap hit (empty-none x y), ap hit b)

below : (x y : ℕ) → 2 ≤ y → hits x y order ≡ cond (ltb x 3 && ltb y 2) 1 0
below x y h = no_hit x y (within-below last x y h) (within-below first x y h) ∙ sym (out_below frame x y h)

cut : Cut frame order
unfolding hits within
cut zero zero = refl
cut zero (suc zero) = refl
cut zero (suc (suc y)) = below 0 (suc (suc y)) (omega arith)
cut (suc zero) zero = refl
cut (suc zero) (suc zero) = refl
cut (suc zero) (suc (suc y)) = below 1 (suc (suc y)) (omega arith)
cut (suc (suc zero)) zero = refl
cut (suc (suc zero)) (suc zero) = refl
cut (suc (suc zero)) (suc (suc y)) = below 2 (suc (suc y)) (omega arith)
cut (suc (suc (suc x))) y =
    let z : ℕ = suc (suc (suc x)) in
    no_hit z y (within-right last z y (omega arith)) (within-right first z y (omega arith)) ∙ sym (out-right frame z y (omega arith))

-- each fits, the empty one too, though nothing is lent to it
fits : Fits frame 1 order
unfolding in_range
fits = (
  record { ranges = refl; full = λ x y a b. omega arith },
  (
    record { ranges = refl; full = λ x y a b. absurd (omega arith) },
    (record { ranges = refl; full = λ x y a b. omega arith }, tt),
  ),
)

-- the hypotheses hold
held : TilesIf frame 1 14 order
unfolding in_range
held = record { ranges = refl; wide = omega arith; strided = omega arith; full = full; fits = fits; cut = cut }

suits : Suits (f32_form frame (whole 1)) false list []
unfolding big reading_of items_of counted read_from step_at next_at parsed_at counted_at kept_of names_of takes_rows
suits = suiting-lists.rows frame (whole 1) false list [] 1 refl refl (omega arith)

suits16 : Suits u16_form false table []
unfolding big reading_of items_of counted read_from step_at next_at parsed_at counted_at kept_of names_of takes16_on takes16_from no_repair
suits16 = suiting-lists.tables false table [] 1 refl refl refl (omega arith)

-- what the theorem says of it, with any scratch
pub worked : (room : Room) → Tiled (f32_form frame (whole 1)) frame 1 false room list before [] order
worked room = tiles-give-the-frame Float (f32_form frame (whole 1)) frame 1 false room list before [] order suits held

pub worked16 : (room : Room) → Tiled u16_form frame 1 false room table before16 [] order
worked16 room = tiles-give-the-frame ℕ u16_form frame 1 false room table before16 [] order suits16 held

-- both sides, computed
pub tiles-worked : (room : Room) → all_tiles (f32_form frame (whole 1)) 1 false room list [] frame order before ≡ after
unfolding big each selects on_columns reading_of items_of counted read_from step_at next_at parsed_at counted_at on_region on_window in_window active whole_pixel nth
    scaled kept_of names_of perform_all in_range ran_on run_out all_tiles of_int round units odd size span climb mul of_bits
tiles-worked room = refl

pub run-worked : (room : Room) → (out_on (f32_form frame (whole 1)) 1 false room list [] frame before).samples ≡ after
unfolding big each selects on_columns reading_of items_of counted read_from step_at next_at parsed_at counted_at on_region on_window in_window active whole_pixel nth
    scaled kept_of names_of perform_all in_range ran_on run_out of_int round units odd size span climb mul of_bits
run-worked room = refl

pub tiles-worked16 : (room : Room) → all_tiles u16_form 1 false room table [] frame order before16 ≡ after16
unfolding big each selects on_columns reading_of items_of counted read_from step_at next_at parsed_at counted_at on_region on_window in_window active whole_pixel
    map_table16 kept_of names_of takes16_on takes16_from perform_all in_range ran_on run_out all_tiles
tiles-worked16 room = refl

pub run-worked16 : (room : Room) → (out_on u16_form 1 false room table [] frame before16).samples ≡ after16
unfolding big each selects on_columns reading_of items_of counted read_from step_at next_at parsed_at counted_at on_region on_window in_window active whole_pixel
    map_table16 kept_of names_of takes16_on takes16_from perform_all in_range ran_on run_out
run-worked16 room = refl
