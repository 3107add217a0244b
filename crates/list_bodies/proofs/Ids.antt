-- Which body an id has, where the code goes by the id's range: an id of no opcode, and 10 to 13. Assumes nothing.
use mathlib.Core.Path.{◌≡◌, refl, sym, subst}
use mathlib.Core.List.{List}
use Prim.Native.Nat.{ℕ, suc, ◌≤◌, ◌<◌}
use native.Mathlib.Nat.{not-le_of_lt, lt_of_not-le}
use native.Mathlib.Decide.{ℕ_discrete}
use native.Mathlib.Omega.{arith}
use borrow.Author.Tests.{ne_eqb}
use lib.Dec.{eqb, lit≤}
use mathlib.Core.Bool.{false}
use Rattle.dng.specs.declared.Opcode.TheVariants.{Other}
use Rattle.std.specs.Prelude.{Ok}
use Rattle.dng.specs.List.{counted_at, parsed_at}
use Rattle.list_bodies.specs.Bodies.{line_of}

-- below 10, what is none of 1 to 9 is 0: one key after another is passed
above : (k id : ℕ) → k ≤ id → (id ≡ k → ⊥) → suc k ≤ id
above k id h n = omega arith

pub nought :
    (id : ℕ) → id < 10 → (id ≡ 1 → ⊥) → (id ≡ 2 → ⊥) → (id ≡ 3 → ⊥) → (id ≡ 4 → ⊥) → (id ≡ 5 → ⊥) → (id ≡ 6 → ⊥) → (id ≡ 7 → ⊥)
    → (id ≡ 8 → ⊥) → (id ≡ 9 → ⊥) → id < 1
nought id h a b c d e f g i j =
    lt_of_not-le
    (λ l.
    not-le_of_lt h
    (above 9 id
    (above 8 id (above 7 id (above 6 id (above 5 id (above 4 id (above 3 id (above 2 id (above 1 id l a) b) c) d) e) f) g) i) j))

module _ (s : List ℕ) (id at len : ℕ) where
  pub none-0 : id < 1 → Ok (Other id) ≡ parsed_at s id at len
  unfolding parsed_at
  none-0 h = let e : id ≡ 0 = omega arith in rw e

  pub none-high : 13 < id → Ok (Other id) ≡ parsed_at s id at len
  unfolding parsed_at
  none-high h =
      let no : (k : ℕ) → k < id → eqb id k ≡ false = λ k l. ne_eqb id k (λ e. omega arith) in
      let o : (k : ℕ) → k ≤ 13 → eqb id k ≡ false = λ k l. no k (omega arith) in
      simp (
        o 1 (lit≤ tt),
        o 2 (lit≤ tt),
        o 3 (lit≤ tt),
        o 4 (lit≤ tt),
        o 5 (lit≤ tt),
        o 6 (lit≤ tt),
        o 7 (lit≤ tt),
        o 8 (lit≤ tt),
        o 9 (lit≤ tt),
        o 10 (lit≤ tt),
        o 11 (lit≤ tt),
        o 12 (lit≤ tt),
        o 13 (lit≤ tt),
      )

  Line : ℕ → Type 0
  Line k = counted_at 4 (line_of k) s at len ≡ parsed_at s k at len

  one : (k : ℕ) → Line k → id ≡ k → Line id
  one k h e = subst (λ (x : ℕ). Line x) (sym e) h

  or : (k : ℕ) → Line k → Dec (id ≡ k) → ((id ≡ k → ⊥) → Line id) → Line id
  or k h (yes e) r = one k h e
  or k h (no n) r = r n

  pub lines : 10 ≤ id → id ≤ 13 → counted_at 4 (line_of id) s at len ≡ parsed_at s id at len
  unfolding Line parsed_at
  lines h i =
      or 10 refl (ℕ_discrete id 10)
      (λ a. or 11 refl (ℕ_discrete id 11) (λ b. or 12 refl (ℕ_discrete id 12) (λ c. one 13 refl (omega arith))))
