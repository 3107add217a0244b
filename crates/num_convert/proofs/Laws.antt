-- A whole number that an f64 holds, rounded from there to an f32, is the number rounded at once (`narrow-whole`): the f64 has the number's
-- value, and `narrow` sees only the value. And the three cases of `held_to`, by its two tests.
use mathlib.Core.Path.{◌≡◌, ap, ◌∙◌}
use Prim.Native.Nat.{ℕ, ◌^◌, ◌≤◌}
use native.Mathlib.Nat.{zero-lt-suc}
use mathlib.Core.Bool.{Bool, true, false, cond}
use lib.IntN.{pos}
use lib.Ieee.{Float, binary32, binary64, lt, of_int, round}
use lib.Ieee.Back.{round_whole}
use Rattle.num_narrow.specs.Narrow.{narrow}
use Rattle.num_narrow.proofs.Rounding.{narrow_at}
use Rattle.num_convert.specs.Convert.{held_to}

pub narrow-whole : (n : ℕ) → n ≤ 2 ^ 53 → narrow (of_int binary64 (pos n)) ≡ of_int binary32 (pos n)
unfolding of_int
narrow-whole n h = narrow_at (round binary64 false n 1) false n 1 (zero-lt-suc 0) (round_whole binary64 false n h)

module _ (x a b : Float) where
  pub held_low : lt x a ≡ true → held_to a b x ≡ a
  unfolding held_to
  held_low l = ap (λ (t : Bool). cond t a (cond (lt b x) b x)) l

  within : lt x a ≡ false → held_to a b x ≡ cond (lt b x) b x
  unfolding held_to
  within l = ap (λ (t : Bool). cond t a (cond (lt b x) b x)) l

  pub held_high : lt x a ≡ false → lt b x ≡ true → held_to a b x ≡ b
  held_high l h = within l ∙ ap (λ (t : Bool). cond t b x) h

  pub held-inside : lt x a ≡ false → lt b x ≡ false → held_to a b x ≡ x
  held-inside l h = within l ∙ ap (λ (t : Bool). cond t b x) h
