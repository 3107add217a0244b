-- A mark around which enough is free is lone. Assumes nothing.
use Prim.Native.Nat.{ℕ, ◌+◌, ◌-◌, ◌*◌, ◌/◌, ◌%◌, ◌≤◌, ◌<◌}
use mathlib.Core.Path.{◌≡◌, refl, sym, ap, subst, ◌∙◌}
use mathlib.Core.Bool.{Bool, false}
use mathlib.Core.List.{List}
use native.Mathlib.Nat.{add-mul, div-add-mod', le_refl}
use native.Mathlib.Omega.{arith}
use lib.IntN.{pos, negsuc}
use lib.ListN.{length, get_or}
use Rattle.num_sorted.specs.Sorts.{has, Rises}
use Rattle.num_sorted.proofs.Occ.{below_or}
use Rattle.dng.specs.declared.Window.{Window}
use Rattle.dng.specs.Repair.{moved}
use Rattle.fix_near.proofs.Moving.{moved_none, moved_on, moved_out, moved_back}
use Rattle.fix_near.specs.Looks.{Asks, LoneOn, Lone}
use Rattle.fix_places.specs.Beside.{Under, Over, Free}
use Rattle.fix_places.proofs.Between.{under-from, over-from, free-between}

module _ (marks : List ℕ) (rises : Rises 0 marks) where
  -- between a mark and the one before it, and between it and the one after it
  pub free-left : (i period t : ℕ) → i < length marks → 1 ≤ period → Under marks i (get_or marks i 0 - period) → t + period ≡ get_or marks i 0
      → has marks t ≡ false
  free-left i period t h s u e =
      free-between marks i (get_or marks i 0 - period) t u (over-from marks rises i t (omega (arith, s, e))) t (omega (arith, e)) (le_refl t)

  pub free-right : (i period t : ℕ) → i < length marks → 1 ≤ period → Over marks (i + 1) (get_or marks i 0 + period) → t ≡ get_or marks i 0 + period
      → has marks t ≡ false
  free-right i period t h s o e =
      let d : i ≡ i + 1 - 1 = omega arith in
      free-between marks (i + 1) t (get_or marks i 0 + period)
      (under-from marks rises (i + 1) t (omega arith) (omega arith) (subst (λ (z : ℕ). get_or marks z 0 < t) d (omega (arith, s, e)))) o t (le_refl t)
      (omega (arith, e))

-- ---- lone

module _ (x period n : ℕ) where
  -- a step back that stays inside
  back_in : moved x (negsuc 0) period n < n → moved x (negsuc 0) period n + period ≡ x
  back_in h =
      below_or x period (λ l. absurd (omega (arith, h, moved_out x period n (negsuc 0) refl l)))
      (λ l. omega (arith, l, moved_back x period n (negsuc 0) refl l))

  none_is : moved x (pos 0) period n ≡ x
  none_is = sym (moved_none x period n (pos 0) refl)

  on-is : moved x (pos 1) period n ≡ x + period
  on-is = sym (moved_on x period n (pos 1) refl)

-- what is free around the position q of (x, y)
pub record Around (bad : ℕ → Bool) (q period far : ℕ) : Type 0 where
  pub left : (t : ℕ) → t + period ≡ q → bad t ≡ false
  pub right : (t : ℕ) → t ≡ q + period → bad t ≡ false
  pub above : (t : ℕ) → q ≤ t + (far + period) → t + far ≤ q + period → bad t ≡ false
  pub below : (t : ℕ) → q + far ≤ t + period → t ≤ q + far + period → bad t ≡ false

module _ (bad : ℕ → Bool) (w : Window) (period x y q : ℕ) (e : y * w.width + x ≡ q) (a : Around bad q period (period * w.width)) where
  same_row : (yy xx : ℕ) → yy ≡ y → yy * w.width + xx ≡ y * w.width + xx
  same_row yy xx f = ap (λ (z : ℕ). z * w.width + xx) f

  row_up : (yy : ℕ) → yy + period ≡ y → yy * w.width + period * w.width ≡ y * w.width
  row_up yy f = sym (add-mul yy period w.width) ∙ ap (λ (z : ℕ). z * w.width) f

  row-down : (yy : ℕ) → yy ≡ y + period → yy * w.width ≡ y * w.width + period * w.width
  row-down yy f = ap (λ (z : ℕ). z * w.width) f ∙ add-mul y period w.width

  -- within one step in its row, one row up and one row down
  up-free : (xx yy : ℕ) → yy + period ≡ y → x ≤ xx + period → xx ≤ x + period → bad (yy * w.width + xx) ≡ false
  up-free xx yy f g h =
      a.above (yy * w.width + xx) (omega (arith, e, row_up yy f, g, h)) (omega (arith, e, row_up yy f, g, h))

  down-free : (xx yy : ℕ) → yy ≡ y + period → x ≤ xx + period → xx ≤ x + period → bad (yy * w.width + xx) ≡ false
  down-free xx yy f g h =
      a.below (yy * w.width + xx) (omega (arith, e, row-down yy f, g, h)) (omega (arith, e, row-down yy f, g, h))

  pub lone-around : Lone bad w period x y
  unfolding Lone LoneOn
  lone-around =
      let back = back_in x period w.width in
      let none = none_is x period w.width in
      let on = on-is x period w.width in
      let row = none_is y period w.height in
      let up = back_in y period w.height in
      let down = on-is y period w.height in (
        λ h k. a.left _ (omega (arith, e, same_row _ (moved x (negsuc 0) period w.width) row, back h)),
        (
          λ h k. a.right _ (omega (arith, e, same_row _ (moved x (pos 1) period w.width) row, on)),
          (
            λ h k. up-free _ _ (up k) (omega (arith, none)) (omega (arith, none)),
            (
              λ h k. down-free _ _ down (omega (arith, none)) (omega (arith, none)),
              (
                λ h k. up-free _ _ (up k) (omega (arith, back h)) (omega (arith, back h)),
                (
                  λ h k. down-free _ _ down (omega (arith, on)) (omega (arith, on)),
                  (
                    λ h k. down-free _ _ down (omega (arith, back h)) (omega (arith, back h)),
                    (
                      λ h k. up-free _ _ (up k) (omega (arith, on)) (omega (arith, on)),
                      tt,
                    ),
                  ),
                ),
              ),
            ),
          ),
        ),
      )

-- what `alone` has looked at is free around mark i
pub lone-mark : (marks : List ℕ) (w : Window) (period i q far least lo hi : ℕ) → i < length marks
    → Asks marks w period (get_or marks i 0 % w.width) (get_or marks i 0 / w.width) → q ≡ get_or marks i 0 → far ≡ period * w.width
    → least ≡ q - period → lo ≡ q - (far + period) → hi ≡ q + period - far → period ≤ far
    → Under marks i least → Over marks (i + 1) (q + period) → Free marks lo hi → Free marks (q + far - period) (q + far + period)
    → Lone (has marks) w period (get_or marks i 0 % w.width) (get_or marks i 0 / w.width)
lone-mark marks w period i q far least lo hi h k e f eleast elo ehi wide u o above below =
    lone-around (has marks) w period (get_or marks i 0 % w.width) (get_or marks i 0 / w.width) (get_or marks i 0)
    (div-add-mod' (get_or marks i 0) w.width)
    (record {
      left = λ t d. free-left marks k.rises i period t h k.step (λ j l. omega (arith, u j l, e, eleast)) d;
      right = λ t d. free-right marks k.rises i period t h k.step (λ j l m. omega (arith, o j l m, e)) d;
      above = λ t a b. above t (omega (arith, e, f, elo, a)) (omega (arith, e, f, ehi, b));
      below = λ t a b. below t (omega (arith, e, f, a, wide)) (omega (arith, e, f, b));
    })
