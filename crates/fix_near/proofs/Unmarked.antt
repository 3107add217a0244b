-- With no neighbour marked, the sound neighbours are those with no marks at all. Assumes nothing.
use Prim.Native.Nat.{ℕ, ◌+◌, ◌*◌, ◌<◌}
use mathlib.Core.Path.{◌≡◌, refl, sym, ap, ◌∙◌}
use mathlib.Core.Bool.{Bool, true, false, not, ◌&&◌, cond}
use mathlib.Core.List.{List, [], ◌∷◌}
use borrow.Author.Tests.{ltb-true}
use lib.Dec.{ltb}
use lib.IntN.{ℤ}
use Rattle.dng.specs.declared.Window.{Window}
use Rattle.dng.specs.Repair.{steps, moved, sound}
use Rattle.num_sorted.specs.Sorts.{occ, has, Rises}
use Rattle.fix_near.specs.Looks.{Asks, LoneOn, Lone, none, first_of, near_on, near_of}

module _ (bad : ℕ → Bool) (w : Window) (period x y : ℕ) where
  lone-sound : {B : Type 0} (d : ℤ × ℤ) (f : ℕ → ℕ → B) (t : B)
      → (moved x d.0 period w.width < w.width → moved y d.1 period w.height < w.height
      → bad (moved y d.1 period w.height * w.width + moved x d.0 period w.width) ≡ false)
      → sound w.width w.height period none x y d f t ≡ sound w.width w.height period bad x y d f t
  unfolding sound
  lone-sound {B} d f t h =
      let xx : ℕ = moved x d.0 period w.width in
      let yy : ℕ = moved y d.1 period w.height in
      go xx yy (ltb xx w.width) (ltb yy w.height) (bad (yy * w.width + xx)) (ltb-true xx w.width) (ltb-true yy w.height) h
    where
      go : (xx yy : ℕ) (a b c : Bool) → (a ≡ true → xx < w.width) → (b ≡ true → yy < w.height)
          → (xx < w.width → yy < w.height → c ≡ false) → cond (a && (b && not false)) (f xx yy) t ≡ cond (a && (b && not c)) (f xx yy) t
      go xx yy true true c p q h = ap (λ (z : Bool). cond (not z) (f xx yy) t) (sym (h (p refl) (q refl)))
      go xx yy true false c p q h = refl
      go xx yy false b c p q h = refl

  lone-near-on : (ds : List (ℤ × ℤ)) → LoneOn bad w period x y ds → near_on w period none x y ds ≡ near_on w period bad x y ds
  unfolding near_on LoneOn
  lone-near-on [] l = refl
  lone-near-on (d ∷ ds) l =
      ap (λ (r : List ℕ). sound w.width w.height period none x y d (λ xx yy. first_of w xx yy ∷ r) r) (lone-near-on ds l.1)
      ∙ lone-sound d (λ xx yy. first_of w xx yy ∷ near_on w period bad x y ds) (near_on w period bad x y ds) l.0

  pub lone-near : Lone bad w period x y → near_of w period none x y ≡ near_of w period bad x y
  unfolding Lone
  lone-near l = lone-near-on steps l

  -- those of a list with no mark
  pub lone-empty : Lone bad w period x y → near_of w period (has []) x y ≡ near_of w period bad x y
  unfolding has occ
  lone-empty l = lone-near l

-- which may be asked for
pub asks-none : {marks : List ℕ} {w : Window} {period x y : ℕ} → Asks marks w period x y → Asks [] w period x y
unfolding Rises
asks-none a = record { fits = a.fits; column = a.column; row = a.row; step = a.step; far = a.far; rises = tt }
