-- What is asked of a position whose neighbours are looked for, which of them are sound, and the steps and neighbours as
-- the code has them.
-- Document 01, 'What each does to a value', Repair.
use Rattle.std.proofs.Common.{sym, ap, subst, ◌∙◌, length-take-le, take-append-drop}
use Rattle.std.specs.Prelude.{ℕ, ◌+◌, ◌-◌, ◌*◌, ◌/◌, ◌%◌, ◌≤◌, ◌<◌, Bool, true, false, not, ◌&&◌, cond, List, [], ◌∷◌, ◌++◌, Option, Some, None, ◌≡◌, leb, ltb, eqb, ℤ, pos, negsuc, length, get_or, take, drop, replicate}
use Rattle.dng.specs.declared.Window.{Window}
use Rattle.dng.specs.Repair.{steps, moved, sound}
use Rattle.fix_scratch.specs.Marks.{Fits}
use Rattle.num_sorted.specs.Sorts.{has, Rises}
use Rattle.fix_constant.specs.declared.Spot.{Spot}
use Rattle.fix_near.specs.declared.Step.{Step}

-- the position lies in the window, the period is in range, and the marks ascend
pub record Asks (marks : List ℕ) (w : Window) (period x y : ℕ) : Type 0 where
  pub fits : Fits w
  pub column : x < w.width
  pub row : y < w.height
  pub step : 1 ≤ period
  pub far : period ≤ 65536
  pub rises : Rises 0 marks

-- all eight neighbours lie in the window
pub record Inside (w : Window) (period x y : ℕ) : Type 0 where
  pub left : period ≤ x
  pub right : x + period < w.width
  pub up : period ≤ y
  pub down : y + period < w.height

-- the first n entries as marks
abbrev pub marked : List ℕ → ℕ → ℕ → Bool
marked marks n = has (take n marks)

-- no mark at all
abbrev pub none : ℕ → Bool
none q = false

-- none of these steps leads to a marked position of the window
unfoldable pub LoneOn : (ℕ → Bool) → Window → (period x y : ℕ) → List (ℤ × ℤ) → Type 0
LoneOn bad w period x y [] = Unit
LoneOn bad w period x y (d ∷ ds) =
    (moved x d.0 period w.width < w.width → moved y d.1 period w.height < w.height
    → bad (moved y d.1 period w.height * w.width + moved x d.0 period w.width) ≡ false)
    × LoneOn bad w period x y ds

-- no neighbour is marked
unfoldable pub Lone : (ℕ → Bool) → Window → (period x y : ℕ) → Type 0
Lone bad w period x y = LoneOn bad w period x y steps

-- ---- the same of mark i

abbrev pub AsksMark : List ℕ → Window → (period i : ℕ) → Type 0
AsksMark marks w period i = (i < length marks) × Asks marks w period (get_or marks i 0 % w.width) (get_or marks i 0 / w.width)

abbrev pub LoneMark : List ℕ → Window → (period i : ℕ) → Type 0
LoneMark marks w period i = Lone (has marks) w period (get_or marks i 0 % w.width) (get_or marks i 0 / w.width)

-- ---- where their samples begin

abbrev pub first_of : Window → (x y : ℕ) → ℕ
first_of w x y = (y * w.stride + x) * w.planes

-- of the sound neighbours, in the order of the steps
unfoldable pub near_on : Window → (period : ℕ) → (ℕ → Bool) → (x y : ℕ) → List (ℤ × ℤ) → List ℕ
near_on w period bad x y [] = []
near_on w period bad x y (d ∷ ds) =
    sound w.width w.height period bad x y d
    (λ xx yy. first_of w xx yy ∷ near_on w period bad x y ds) (near_on w period bad x y ds)

abbrev pub near_of : Window → (period : ℕ) → (ℕ → Bool) → (x y : ℕ) → List ℕ
near_of w period bad x y = near_on w period bad x y steps

-- ---- at most eight of them, in an array of eight

-- the array: zeros behind them
abbrev pub array_of : List ℕ → List ℕ
array_of l = l ++ replicate (8 - length l) 0

-- they are the first n of the array
pub record InArray (n : ℕ) (at : List ℕ) : Type 0 where
  pub few : n ≤ 8
  pub eight : length at ≡ 8
  pub zeros : drop n at ≡ replicate (8 - n) 0

-- and give the array back
module _ {n : ℕ} {at : List ℕ} (a : InArray n at) where
  pub length-near : length (take n at) ≡ n
  length-near = length-take-le n at (subst (λ (k : ℕ). n ≤ k) (sym a.eight) a.few)

  pub array_of-near : array_of (take n at) ≡ at
  array_of-near =
      ap (λ (k : ℕ). take n at ++ replicate (8 - k) 0) length-near ∙ ap (λ (l : List ℕ). take n at ++ l) (sym a.zeros)
      ∙ take-append-drop n at

-- ---- the parts

-- a step of the code as the definition has it
abbrev pub pair_of : Step → ℤ × ℤ
pair_of s = (s.dx, s.dy)

-- back, none, or on
unfoldable pub one_step : ℤ → Bool
one_step (pos k) = leb k 1
one_step (negsuc k) = eqb k 0

-- a step of the period from (x, y), which 64 bits hold
abbrev pub Steps : (period x y : ℕ) → ℤ × ℤ → Type 0
Steps period x y d =
    ((one_step d.0 ≡ true) × (one_step d.1 ≡ true)) × ((period ≤ 65536) × ((x ≤ 65536) × (y ≤ 65536)))

-- the position (x, y), where it lies in the window and is not marked
unfoldable pub open_at : (width height : ℕ) → (ℕ → Bool) → (x y : ℕ) → Option Spot
open_at width height bad x y = cond (ltb x width && (ltb y height && not (bad (y * width + x)))) (Some (record { x = x; y = y })) None

-- the neighbour one step away, where it is sound
unfoldable pub sound_of : (width height period : ℕ) → (ℕ → Bool) → (x y : ℕ) → ℤ × ℤ → Option Spot
sound_of width height period bad x y d = sound width height period bad x y d (λ xx yy. Some (record { x = xx; y = yy })) None
