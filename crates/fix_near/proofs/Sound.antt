-- What is made of the neighbour one step away, over any answer. Assumes nothing.
use Prim.Native.Nat.{ℕ, ◌+◌, ◌*◌, ◌<◌}
use mathlib.Core.Path.{◌≡◌, refl}
use mathlib.Core.Bool.{Bool, true, false, not, ◌&&◌, cond}
use borrow.Author.Tests.{ltb-true}
use lib.Dec.{ltb}
use lib.IntN.{ℤ}
use Rattle.dng.specs.Repair.{moved, sound}

module _ (width height period : ℕ) (bad : ℕ → Bool) (x y : ℕ) (d : ℤ × ℤ) where
  -- what is so for `t`, and for `f` at any unmarked position of the window, is so for the neighbour
  pub sound-any : {B : Type 0} (P : B → Type 0) (f : ℕ → ℕ → B) (t : B)
      → ((xx yy : ℕ) → xx < width → yy < height → bad (yy * width + xx) ≡ false → P (f xx yy)) → P t
      → P (sound width height period bad x y d f t)
  unfolding sound
  sound-any P f t h k =
      let xx : ℕ = moved x d.0 period width in
      let yy : ℕ = moved y d.1 period height in
      go xx yy (ltb xx width) (ltb yy height) (bad (yy * width + xx)) (ltb-true xx width) (ltb-true yy height) (h xx yy)
    where
      go : (xx yy : ℕ) (a b c : Bool) → (a ≡ true → xx < width) → (b ≡ true → yy < height)
          → (xx < width → yy < height → c ≡ false → P (f xx yy)) → P (cond (a && (b && not c)) (f xx yy) t)
      go xx yy true true true p q h = k
      go xx yy true true false p q h = h (p refl) (q refl) refl
      go xx yy true false c p q h = k
      go xx yy false b c p q h = k

  -- a function of what is made of the neighbour
  pub sound-ap : {A B : Type 0} (g : A → B) (f : ℕ → ℕ → A) (t : A)
      → g (sound width height period bad x y d f t) ≡ sound width height period bad x y d (λ xx yy. g (f xx yy)) (g t)
  unfolding sound
  sound-ap g f t =
      let xx : ℕ = moved x d.0 period width in
      let yy : ℕ = moved y d.1 period height in
      go xx yy (ltb xx width && (ltb yy height && not (bad (yy * width + xx))))
    where
      go : (xx yy : ℕ) (b : Bool) → g (cond b (f xx yy) t) ≡ cond b (g (f xx yy)) (g t)
      go xx yy true = refl
      go xx yy false = refl

  -- two answers that agree wherever the neighbour lies, and where there is none
  pub sound-two : {A B : Type 0} (R : A → B → Type 0) (f : ℕ → ℕ → A) (t : A) (g : ℕ → ℕ → B) (u : B)
      → ((xx yy : ℕ) → R (f xx yy) (g xx yy)) → R t u
      → R (sound width height period bad x y d f t) (sound width height period bad x y d g u)
  unfolding sound
  sound-two R f t g u h k =
      let xx : ℕ = moved x d.0 period width in
      let yy : ℕ = moved y d.1 period height in
      go xx yy (ltb xx width && (ltb yy height && not (bad (yy * width + xx))))
    where
      go : (xx yy : ℕ) (b : Bool) → R (cond b (f xx yy) t) (cond b (g xx yy) u)
      go xx yy true = h xx yy
      go xx yy false = k
