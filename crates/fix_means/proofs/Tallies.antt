-- Tallies, over any value of a position: how many a tally counts depends on the marks only, and a tally looks at unmarked positions of
-- the window and at nothing else. Assumes nothing.
use Prim.Native.Nat.{ℕ, ◌+◌, ◌*◌, ◌≤◌, ◌<◌}
use mathlib.Core.Path.{◌≡◌, refl, sym, ap, ap₂, ◌∙◌}
use mathlib.Core.Bool.{Bool, true, false, not, ◌&&◌, cond}
use mathlib.Core.List.{List, [], ◌∷◌}
use native.Mathlib.Nat.{add-zero}
use native.Mathlib.Omega.{arith}
use borrow.Author.Tests.{ltb-true}
use lib.Dec.{ltb}
use lib.IntN.{ℤ}
use lib.Ieee.{Float, binary32, add}
use lib.ListN.{length}
use Rattle.dng.specs.declared.Window.{Window}
use Rattle.dng.specs.Repair.{Tally, positions, steps, moved, sound, tally_on, tally_at, sound_on}
use Rattle.dng.specs.Value.{nought}
use Rattle.fix_near.proofs.Sound.{sound-any, sound-ap}
use Rattle.fix_constant.proofs.Places.{position_in}

-- one neighbour more
abbrev pub more : (ℕ → ℕ → Float) → Tally → ℕ → ℕ → Tally
more value t xx yy = record { sum = add binary32 t.sum (value xx yy); n = t.n + 1 }

-- ---- the count

sound-count : (width height period : ℕ) (bad : ℕ → Bool) (x y n : ℕ) (d : ℤ × ℤ)
    → sound width height period bad x y d (λ xx yy. n + 1) n ≡ n + sound width height period bad x y d (λ xx yy. 1) 0
sound-count width height period bad x y n d =
    rw add-zero at (sym (sound-ap width height period bad x y d (λ (k : ℕ). n + k) (λ xx yy. 1) 0))

tally-on-count : (width height period : ℕ) (bad : ℕ → Bool) (value : ℕ → ℕ → Float) (x y : ℕ) (ds : List (ℤ × ℤ)) (t : Tally)
    → (tally_on width height period bad value x y ds t).n ≡ t.n + sound_on width height period bad x y ds
unfolding tally_on sound_on
tally-on-count width height period bad value x y [] t = omega arith
tally-on-count width height period bad value x y (d ∷ ds) t =
    let u : Tally = sound width height period bad x y d (more value t) t in
    let e : u.n ≡ t.n + sound width height period bad x y d (λ xx yy. 1) 0 =
    sound-ap width height period bad x y d (λ (u : Tally). u.n) (more value t) t ∙ sound-count width height period bad x y t.n d in
    omega (arith, tally-on-count width height period bad value x y ds u, e)

pub tally-count : (width height period : ℕ) (bad : ℕ → Bool) (value : ℕ → ℕ → Float) (x y : ℕ)
    → (tally_at width height period bad value x y).n ≡ sound_on width height period bad x y steps
tally-count width height period bad value x y =
    omega (arith, tally-on-count width height period bad value x y steps (record { sum = nought; n = 0 }))

sound-le : (width height period : ℕ) (bad : ℕ → Bool) (x y : ℕ) (d : ℤ × ℤ) → sound width height period bad x y d (λ xx yy. 1) 0 ≤ 1
sound-le width height period bad x y d =
    sound-any width height period bad x y d (λ (k : ℕ). k ≤ 1) (λ xx yy. 1) 0 (λ xx yy h k u. omega arith) (omega arith)

pub sound-few : (width height period : ℕ) (bad : ℕ → Bool) (x y : ℕ) (ds : List (ℤ × ℤ))
    → sound_on width height period bad x y ds ≤ length ds
unfolding sound_on
sound-few width height period bad x y [] = omega arith
sound-few width height period bad x y (d ∷ ds) =
    omega (arith, sound-few width height period bad x y ds, sound-le width height period bad x y d)

-- ---- marks that agree below the number of positions, and values that agree at unmarked positions of the window

module _ (w : Window) (period : ℕ) (bad bad' : ℕ → Bool) (same : (q : ℕ) → q < positions w → bad q ≡ bad' q) (x y : ℕ) where
  pub sound-ext : {B : Type 0} (d : ℤ × ℤ) (f g : ℕ → ℕ → B) (t : B)
      → ((xx yy : ℕ) → xx < w.width → yy < w.height → bad (yy * w.width + xx) ≡ false → f xx yy ≡ g xx yy)
      → sound w.width w.height period bad x y d f t ≡ sound w.width w.height period bad' x y d g t
  unfolding sound
  sound-ext {B} d f g t h =
      let xx : ℕ = moved x d.0 period w.width in
      let yy : ℕ = moved y d.1 period w.height in
      let q : ℕ = yy * w.width + xx in
      go xx yy (ltb xx w.width) (ltb yy w.height) (bad q) (bad' q) (ltb-true xx w.width) (ltb-true yy w.height)
      (λ p r. same q (position_in w xx yy p r)) (h xx yy)
    where
      go : (xx yy : ℕ) (a b c e : Bool) → (a ≡ true → xx < w.width) → (b ≡ true → yy < w.height)
          → (xx < w.width → yy < w.height → c ≡ e) → (xx < w.width → yy < w.height → c ≡ false → f xx yy ≡ g xx yy)
          → cond (a && (b && not c)) (f xx yy) t ≡ cond (a && (b && not e)) (g xx yy) t
      go xx yy true true true e p q r v = ap (λ (z : Bool). cond (not z) (g xx yy) t) (r (p refl) (q refl))
      go xx yy true true false e p q r v = v (p refl) (q refl) refl ∙ ap (λ (z : Bool). cond (not z) (g xx yy) t) (r (p refl) (q refl))
      go xx yy true false c e p q r v = refl
      go xx yy false b c e p q r v = refl

  pub sound-on-ext : (ds : List (ℤ × ℤ))
      → sound_on w.width w.height period bad x y ds ≡ sound_on w.width w.height period bad' x y ds
  unfolding sound_on
  sound-on-ext [] = refl
  sound-on-ext (d ∷ ds) = ap₂ ◌+◌ (sound-ext d (λ xx yy. 1) (λ xx yy. 1) 0 (λ xx yy p q u. refl)) (sound-on-ext ds)

  tally-on-ext : (f g : ℕ → ℕ → Float)
      → ((xx yy : ℕ) → xx < w.width → yy < w.height → bad (yy * w.width + xx) ≡ false → f xx yy ≡ g xx yy)
      → (ds : List (ℤ × ℤ)) (t : Tally)
      → tally_on w.width w.height period bad f x y ds t ≡ tally_on w.width w.height period bad' g x y ds t
  unfolding tally_on
  tally-on-ext f g h [] t = refl
  tally-on-ext f g h (d ∷ ds) t =
      tally-on-ext f g h ds (sound w.width w.height period bad x y d (more f t) t)
      ∙ ap (tally_on w.width w.height period bad' g x y ds)
      (sound-ext d (more f t) (more g t) t
      (λ xx yy p q u. ap (λ (v : Float). record { sum = add binary32 t.sum v; n = t.n + 1 }) (h xx yy p q u)))

  pub tally-ext : (f g : ℕ → ℕ → Float)
      → ((xx yy : ℕ) → xx < w.width → yy < w.height → bad (yy * w.width + xx) ≡ false → f xx yy ≡ g xx yy)
      → tally_at w.width w.height period bad f x y ≡ tally_at w.width w.height period bad' g x y
  tally-ext f g h = tally-on-ext f g h steps (record { sum = nought; n = 0 })
