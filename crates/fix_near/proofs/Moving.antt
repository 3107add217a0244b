-- One coordinate moved back, not at all, or on; and a signed number of one step through its bits. Assumes nothing.
use Prim.Native.Nat.{ℕ, ◌+◌, ◌-◌, ◌*◌, ◌≤◌, ◌<◌}
use mathlib.Core.Path.{◌≡◌, refl, ap}
use mathlib.Core.Bool.{true}
use native.Mathlib.Omega.{arith}
use borrow.Author.Tests.{eqb-true, leb-true, le-leb, lt-leb}
use lib.IntN.{ℤ, pos, negsuc}
use mir.Syntax.{w64}
use mir.Val.{to_z, of_z}
use mir.ValLaws.{to_z-of_z}
use Rattle.dng.specs.Repair.{moved}
use Rattle.num_sorted.proofs.Occ.{equal-or}
use Rattle.fix_near.specs.Looks.{one_step}

module _ (x period n : ℕ) where
  pub moved_none : (d : ℤ) → d ≡ pos 0 → x ≡ moved x d period n
  unfolding moved
  moved_none d e = rw e (omega arith)

  pub moved_on : (d : ℤ) → d ≡ pos 1 → x + period ≡ moved x d period n
  unfolding moved
  moved_on d e = rw e (omega arith)

  pub moved_out : (d : ℤ) → d ≡ negsuc 0 → x < period → n ≡ moved x d period n
  unfolding moved
  moved_out d e h = rw (e, lt-leb (1 * period) x (omega arith)) refl

  pub moved_back : (d : ℤ) → d ≡ negsuc 0 → period ≤ x → x - period ≡ moved x d period n
  unfolding moved
  moved_back d e h = rw (e, le-leb (1 * period) x (omega arith)) (omega arith)

-- a step is none, on or back
one_of : {C : Type 0} (d : ℤ) → one_step d ≡ true → (d ≡ pos 0 → C) → (d ≡ pos 1 → C) → (d ≡ negsuc 0 → C) → C
unfolding one_step
one_of (pos k) e none on back = equal-or k 0 (λ z. none (ap pos z)) (λ z. on (ap pos (omega (arith, leb-true k 1 e))))
one_of (negsuc k) e none on back = back (ap negsuc (eqb-true k 0 e))

-- and stays inside, where a period on both sides does
pub moved_in : (x period n : ℕ) → period ≤ x → x + period < n → (d : ℤ) → one_step d ≡ true → moved x d period n < n
moved_in x period n low high d e =
    one_of d e (λ z. omega (arith, moved_none x period n d z)) (λ z. omega (arith, moved_on x period n d z))
    (λ z. omega (arith, moved_back x period n d z low))

-- a step that the code tests by its bits
pub is_none : (d : ℤ) → one_step d ≡ true → of_z w64 d ≡ 0 → d ≡ pos 0
unfolding one_step
is_none (pos k) e z = ap pos z
is_none (negsuc k) e z = absurd (omega (arith, eqb-true k 0 e))

pub is-on : (d : ℤ) → one_step d ≡ true → of_z w64 d ≡ 1 → d ≡ pos 1
unfolding one_step
is-on (pos k) e z = ap pos z
is-on (negsuc k) e z = absurd (omega (arith, eqb-true k 0 e))

pub is-back : (d : ℤ) → one_step d ≡ true → (of_z w64 d ≡ 0 → ⊥) → (of_z w64 d ≡ 1 → ⊥) → d ≡ negsuc 0
unfolding one_step
is-back (pos k) e f g = absurd (omega (arith, leb-true k 1 e))
is-back (negsuc k) e f g = ap negsuc (eqb-true k 0 e)

-- the bits of a step, read back
pub bits-step : (d : ℤ) → one_step d ≡ true → to_z w64 (of_z w64 d) ≡ d
unfolding one_step
bits-step (pos k) e = to_z-of_z w64 (pos k) (record { sfits = omega (arith, leb-true k 1 e) })
bits-step (negsuc k) e = to_z-of_z w64 (negsuc k) (record { sfits = omega (arith, eqb-true k 0 e) })
