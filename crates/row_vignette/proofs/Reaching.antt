-- The cases of `reach_of`, for the code that works them out and for a caller that takes the answer apart.
-- Assumes nothing.
use Prim.Native.Nat.{ℕ}
use mathlib.Core.Bool.{Bool, true, false, cond, ◌&&◌}
use mathlib.Core.Path.{◌≡◌, refl, sym, ap, ap₂, ◌∙◌}
use native.Mathlib.Omega.{arith}
use lib.Ieee.{Float, inf, lt}
use Rattle.dng.specs.declared.Radial.{Radial}
use Rattle.dng.specs.Value.{nought, usable, m2_of}
use Rattle.std.specs.Prelude.{Option, Some, None}
use Rattle.row_vignette.specs.Reach.{frame_at, reach_of, Reaches}

module _ (m : Float) where
  pub reach-usable : lt nought m ≡ true → lt m (inf false) ≡ true → reach_of m ≡ Some m
  unfolding reach_of usable
  reach-usable p q = ap₂ (λ (b c : Bool). cond (b && c) (Some m) None) p q

  pub reach-low : lt nought m ≡ false → reach_of m ≡ None
  unfolding reach_of usable
  reach-low p = ap (λ (b : Bool). cond (b && lt m (inf false)) (Some m) None) p

  pub reach-high : lt nought m ≡ true → lt m (inf false) ≡ false → reach_of m ≡ None
  unfolding reach_of usable
  reach-high p q = ap₂ (λ (b c : Bool). cond (b && c) (Some m) None) p q

-- ---- for a caller that takes the answer of `m2` apart

usable-of : (m z : Float) (b : Bool) → Some m ≡ cond b (Some z) None → (m ≡ z) × (b ≡ true)
usable-of m z true e = (cc, refl)
usable-of m z false e = absurd (let n : ◌≡◌ {A = ℕ} 0 1 = cc in omega arith)

unusable-of : (z : Float) (b : Bool) → None ≡ cond b (Some z) None → b ≡ false
unusable-of z true e = absurd (let n : ◌≡◌ {A = ℕ} 0 1 = cc in omega arith)
unusable-of z false e = refl

module _ (q : Radial) (fw fh : ℕ) {r : Option Float} (answer : (scale : Float) → r ≡ reach_of (m2_of (frame_at scale fw fh) q)) where
  -- usable: what `vignette_row` asks
  pub reaches : {m : Float} → r ≡ Some m → Reaches q m fw fh
  unfolding reach_of
  reaches {m} e =
      record {
        farthest = λ scale. (at scale).0;
        positive = ap usable (at nought).0 ∙ (at nought).1;
      }
    where
      at : (scale : Float) → (m ≡ m2_of (frame_at scale fw fh) q) × (usable (m2_of (frame_at scale fw fh) q) ≡ true)
      at scale = usable-of m (m2_of (frame_at scale fw fh) q) (usable (m2_of (frame_at scale fw fh) q)) (sym e ∙ answer scale)

  -- unusable: what `row-unusable` asks
  pub unusable : r ≡ None → (scale : Float) → usable (m2_of (frame_at scale fw fh) q) ≡ false
  unfolding reach_of
  unusable e scale = unusable-of (m2_of (frame_at scale fw fh) q) (usable (m2_of (frame_at scale fw fh) q)) (sym e ∙ answer scale)
