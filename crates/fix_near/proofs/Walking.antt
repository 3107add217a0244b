-- The walk over the steps: one neighbour, and the list of the sound ones step by step.
-- Assumes nothing.
use Prim.Native.Nat.{ℕ, zero, suc, ◌+◌, ◌*◌, ◌≤◌, ◌<◌}
use mathlib.Core.Path.{◌≡◌, refl, sym, ap, subst, ◌∙◌}
use mathlib.Core.Bool.{Bool, true, false, not, ◌&&◌, cond}
use mathlib.Core.List.{List, [], ◌∷◌, ◌++◌, map, append_assoc, append-nil}
use native.Mathlib.Nat.{not-suc-le-zero, le_of_suc-le-suc, add-zero}
use native.Mathlib.Numerals.{add-one}
use native.Mathlib.Omega.{arith}
use borrow.Author.Tests.{lt-ltb, le-ltb, ltb-true}
use lib.Dec.{ltb}
use lib.IntN.{ℤ, pos}
use lib.ListN.{length, get_or, drop, get_or-map, length-append}
use lib.Seq.{drop-cons}
use Rattle.dng.specs.declared.Window.{Window}
use Rattle.dng.specs.Repair.{steps, moved, sound}
use Rattle.fix_near.specs.declared.Step.{Step}
use Rattle.std.specs.Prelude.{Option, Some, None}
use Rattle.fix_constant.specs.declared.Spot.{Spot}
use Rattle.fix_near.specs.Looks.{Inside, none, pair_of, one_step, open_at, sound_of, first_of, near_on, near_of}
use Rattle.fix_near.proofs.Sound.{sound-ap}
use Rattle.fix_near.proofs.Moving.{moved_in}
use Rattle.fix_constant.proofs.Places.{and_first, and_second}

-- ---- one position

module _ (width height : ℕ) (bad : ℕ → Bool) (x y : ℕ) where
  pub open-right : width ≤ x → None ≡ open_at width height bad x y
  unfolding open_at
  open-right h = rw (le-ltb x width h) refl

  pub open-below : x < width → height ≤ y → None ≡ open_at width height bad x y
  unfolding open_at
  open-below p h = rw (lt-ltb x width p, le-ltb y height h) refl

  pub open-marked : x < width → y < height → bad (y * width + x) ≡ true → None ≡ open_at width height bad x y
  unfolding open_at
  open-marked p q e = rw (lt-ltb x width p, lt-ltb y height q, e) refl

  pub open-sound : x < width → y < height → bad (y * width + x) ≡ false → Some (record { x = x; y = y }) ≡ open_at width height bad x y
  unfolding open_at
  open-sound p q e = rw (lt-ltb x width p, lt-ltb y height q, e) refl

  -- what is found open lies in the window
  pub open_in : (to : Spot) → open_at width height bad x y ≡ Some to → (to.x < width) × (to.y < height)
  unfolding open_at
  open_in to e = go (ltb x width) (ltb y height) (bad (y * width + x)) (ltb-true x width) (ltb-true y height) e
    where
      go : (a b c : Bool) → (a ≡ true → x < width) → (b ≡ true → y < height) → cond (a && (b && not c)) (Some (record { x = x; y = y })) None ≡ Some to
          → (to.x < width) × (to.y < height)
      go true true false p q e =
          let s : ◌≡◌ {A = Spot} (record { x = x; y = y }) to = cc in
          (subst (λ (z : Spot). z.x < width) s (p refl), subst (λ (z : Spot). z.y < height) s (q refl))
      go true true true p q e = cc
      go true false c p q e = cc
      go false b c p q e = cc

-- ---- one step

-- the sound neighbour one step away, in a window
abbrev pub near_by : Window → (period : ℕ) → (ℕ → Bool) → (x y : ℕ) → ℤ × ℤ → Option Spot
near_by w period bad x y d = sound_of w.width w.height period bad x y d

-- what is open one step away is the sound neighbour
pub step_is : (w : Window) (period : ℕ) (bad : ℕ → Bool) (x y xx yy : ℕ) (d : ℤ × ℤ)
    → xx ≡ moved x d.0 period w.width → yy ≡ moved y d.1 period w.height
    → open_at w.width w.height bad xx yy ≡ near_by w period bad x y d
unfolding open_at sound_of sound
step_is w period bad x y xx yy d e f = rw (e, f) refl

-- and lies in the window
pub step_in : (w : Window) (period : ℕ) (bad : ℕ → Bool) (x y : ℕ) (d : ℤ × ℤ) {to : Spot} → Some to ≡ near_by w period bad x y d
    → (to.x < w.width) × (to.y < w.height)
step_in w period bad x y d {to} e =
    open_in w.width w.height bad (moved x d.0 period w.width) (moved y d.1 period w.height) to
    (step_is w period bad x y _ _ d refl refl ∙ sym e)

-- what stands past the last step, and is not looked at
abbrev pub stay : Step
stay = record { dx = pos 0; dy = pos 0 }

-- step i of the code's array
abbrev pub step_on : List Step → ℕ → ℤ × ℤ
step_on all i = pair_of (get_or all i stay)

unfoldable all_of : {A : Type 0} → (A → Bool) → List A → Bool
all_of good [] = true
all_of good (a ∷ l) = good a && all_of good l

abbrev single : ℤ × ℤ → Bool
single d = one_step d.0 && one_step d.1

each : {A : Type 0} (good : A → Bool) (l : List A) (i : ℕ) (o : A) → all_of good l ≡ true → i < length l → good (get_or l i o) ≡ true
unfolding all_of
each good [] i o e h = absurd (not-suc-le-zero h)
each good (a ∷ l) zero o e h = and_first (good a) (all_of good l) e
each good (a ∷ l) (suc i) o e h = each good l i o (and_second (good a) (all_of good l) e) (le_of_suc-le-suc h)

pub step-at : (all : List Step) (i : ℕ) → map pair_of all ≡ steps → step_on all i ≡ get_or steps i (pair_of stay)
step-at all i e = sym (get_or-map pair_of all i stay) ∙ ap (λ (l : List (ℤ × ℤ)). get_or l i (pair_of stay)) e

-- every step is back, none or on, in both coordinates
pub step-one : (all : List Step) (i : ℕ) → map pair_of all ≡ steps → i < 8
    → (one_step (step_on all i).0 ≡ true) × (one_step (step_on all i).1 ≡ true)
unfolding all_of
step-one all i e h =
    let x : Bool = one_step (step_on all i).0 in
    let y : Bool = one_step (step_on all i).1 in
    (and_first x y good, and_second x y good)
  where
    good : single (step_on all i) ≡ true
    good = ap single (step-at all i e) ∙ each single steps i (pair_of stay) (unfold one_step in refl) h

-- with a period on all sides, every step leads to a position of the window
pub step-inside : (w : Window) (period x y : ℕ) → Inside w period x y → (all : List Step) (i : ℕ) → map pair_of all ≡ steps → i < 8 → {xx yy : ℕ}
    → xx ≡ moved x (step_on all i).0 period w.width → yy ≡ moved y (step_on all i).1 period w.height → (xx < w.width) × (yy < w.height)
step-inside w period x y s all i e h f g =
    let one = step-one all i e h in (
      rw f (moved_in x period w.width s.left s.right (step_on all i).0 one.0),
      rw g (moved_in y period w.height s.up s.down (step_on all i).1 one.1),
    )

-- the sound neighbour, as any answer that is made of it
abbrev pick : {B : Type 0} → Option Spot → (ℕ → ℕ → B) → B → B
pick (Some to) f t = f to.x to.y
pick None f t = t

sound-pick : {B : Type 0} (width height period : ℕ) (bad : ℕ → Bool) (x y : ℕ) (d : ℤ × ℤ) (f : ℕ → ℕ → B) (t : B)
    → sound width height period bad x y d f t ≡ pick (sound_of width height period bad x y d) f t
unfolding sound_of
sound-pick width height period bad x y d f t =
    sym (sound-ap width height period bad x y d (λ (r : Option Spot). pick r f t) (λ xx yy. Some (record { x = xx; y = yy })) None)

-- ---- the sound neighbours, step by step

-- those at step i and after it
abbrev pub onward : Window → (period : ℕ) → (ℕ → Bool) → (x y i : ℕ) → List ℕ
onward w period bad x y i = near_on w period bad x y (drop i steps)

-- i steps are made: with those that are left the list is whole
pub record Walked (w : Window) (period : ℕ) (bad : ℕ → Bool) (x y i : ℕ) (near : List ℕ) : Type 0 where
  pub few : length near ≤ i
  pub left : near ++ onward w period bad x y i ≡ near_of w period bad x y

pub walk_start : (w : Window) (period : ℕ) (bad : ℕ → Bool) (x y : ℕ) → Walked w period bad x y 0 []
walk_start w period bad x y = record { few = omega arith; left = refl }

module _ {w : Window} {period : ℕ} {bad : ℕ → Bool} {x y i : ℕ} {near : List ℕ} (k : Walked w period bad x y i near) where
  -- one step of the list
  next : (all : List Step) → map pair_of all ≡ steps → i < 8
      → onward w period bad x y i
      ≡ pick (near_by w period bad x y (step_on all i)) (λ xx yy. first_of w xx yy ∷ onward w period bad x y (i + 1)) (onward w period bad x y (i + 1))
  unfolding near_on
  next all e h = rw (add-one, drop-cons steps i (pair_of stay) h, sound-pick, step-at all i e) refl

  pub walk_at : (all : List Step) {to : Spot} {p : ℕ} → map pair_of all ≡ steps → i < 8
      → Some to ≡ near_by w period bad x y (step_on all i) → p ≡ first_of w to.x to.y + 0
      → Walked w period bad x y (i + 1) (near ++ p ∷ [])
  walk_at all {to} {p} e h f u =
      let n = rw (sym f) at (next all e h) in
      let v : p ≡ first_of w to.x to.y = u ∙ add-zero (first_of w to.x to.y) in
      record {
        few = omega (arith, k.few, length-append near (p ∷ []));
        left =
            append_assoc near (p ∷ []) (onward w period bad x y (i + 1))
            ∙ ap (λ (q : ℕ). near ++ (q ∷ onward w period bad x y (i + 1))) v
            ∙ ap (λ (l : List ℕ). near ++ l) (sym n) ∙ k.left;
      }

  pub walk-missing : (all : List Step) → map pair_of all ≡ steps → i < 8 → None ≡ near_by w period bad x y (step_on all i)
      → Walked w period bad x y (i + 1) near
  walk-missing all e h f =
      let n = rw (sym f) at (next all e h) in
      record { few = omega (arith, k.few); left = ap (λ (l : List ℕ). near ++ l) (sym n) ∙ k.left }

  -- nothing is marked: every position of the window is sound
  pub walk-free : (all : List Step) {xx yy p : ℕ} → map pair_of all ≡ steps → i < 8 → bad ≡ none → xx ≡ moved x (step_on all i).0 period w.width
      → yy ≡ moved y (step_on all i).1 period w.height → (xx < w.width) × (yy < w.height) → p ≡ first_of w xx yy + 0
      → Walked w period bad x y (i + 1) (near ++ p ∷ [])
  walk-free all {xx} {yy} e h b f g s u =
      walk_at all {to = record { x = xx; y = yy }} e h
      (open-sound w.width w.height bad xx yy s.0 s.1 (ap (λ (m : ℕ → Bool). m (yy * w.width + xx)) b)
      ∙ step_is w period bad x y xx yy (step_on all i) f g)
      u

  pub walk_end : i ≡ 8 → near ≡ near_of w period bad x y
  unfolding near_on
  walk_end done =
      sym (append-nil near) ∙ subst (λ (j : ℕ). near ++ onward w period bad x y j ≡ near_of w period bad x y) done k.left
