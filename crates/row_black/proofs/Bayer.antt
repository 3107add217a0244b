-- One plane and a pattern of one or two columns: the levels of even and odd samples are those of the pattern's columns. Assumes nothing.
use Prim.Native.Nat.{ℕ, ◌+◌, ◌-◌, ◌%◌, ◌≤◌, ◌<◌}
use mathlib.Core.Bool.{Bool, true, false, ◌&&◌, cond}
use mathlib.Core.List.{List}
use mathlib.Core.Path.{◌≡◌, refl, sym, ap, ap₂, ◌∙◌}
use native.Mathlib.Nat.{mod-lt, mod-one, div-one, add-mod-mod}
use native.Mathlib.Omega.{arith}
use borrow.Author.Tests.{eq-eqb, ne_eqb, eqb-true, leb-true}
use lib.Dec.{eqb, leb}
use lib.Ieee.{Float, nan, binary32, add}
use lib.ListN.{length, get_or, take, drop}
use lib.Seq.{get_or-take, get_or-drop}
use Rattle.pointwise.specs.Points.{each}
use Rattle.pointwise.proofs.Each.{below_or, each-agree}
use Rattle.row_black.specs.declared.Level.{Level}
use Rattle.row_black.specs.declared.Pattern.{Pattern}
use Rattle.row_black.specs.Black.{levels, with_delta, black_at, levelled_by, levelled}
use Rattle.row_black.specs.Rows.{level_in, settled_at, pair_of, no_delta, own_delta, pair_rule, row_rule}
use Rattle.row_black.proofs.Values.{delta-here, delta-past}
use Rattle.row_black.proofs.Refusals.{split}

-- a pattern of one or two columns goes by even and odd
two-columns : (w x j : ℕ) → 1 ≤ w → w ≤ 2 → (x + j) % w ≡ (x + j % 2) % w
two-columns w x j some few =
    below_or w 2
    (λ h. let e : w ≡ 1 = omega arith in rw e (mod-one (x + j) ∙ sym (mod-one (x + j % 2))))
    (λ h. let e : w ≡ 2 = omega arith in rw e (sym (add-mod-mod x j 2)))

module _ {A : Type 0} (none : A) (to_float : A → Float) (s : List A) (p : Pattern) (blacks scales rows columns : List Float) (planes x0 y : ℕ)
    (paired : (eqb planes 1 && leb p.width 2) ≡ true) (wide : 1 ≤ p.width) where
  one : planes ≡ 1
  one = eqb-true planes 1 (split (eqb planes 1) (leb p.width 2) paired).0

  two : p.width ≤ 2
  two = leb-true p.width 2 (split (eqb planes 1) (leb p.width 2) paired).1

  -- the level of image column x, before its delta
  at : ℕ → Level
  at x = level_in p blacks scales rows y (x % p.width) 0

  -- the row's rule, with its one plane
  rule-is : (j : ℕ) → row_rule none to_float s (levels p blacks scales rows columns) planes x0 y j
      ≡ levelled_by (with_delta columns (x0 + j) (at (x0 + j)).black) (at (x0 + j)).scale (to_float (get_or s j none))
  unfolding row_rule levelled black_at at
  rule-is j = rw (one, div-one j, mod-one j) refl

  pair_is : (j : ℕ) → pair_of (at x0) (at (x0 + 1)) j ≡ at (x0 + j)
  unfolding at
  pair_is j =
      below_or (j % 2) 1
      (λ h.
      let e : j % 2 ≡ 0 = omega arith in
      let c : (x0 + j) % p.width ≡ x0 % p.width =
      two-columns p.width x0 j wide two ∙ ap (λ (k : ℕ). k % p.width) (let q : x0 + j % 2 ≡ x0 = omega (arith, e) in q) in
      ap (λ (b : Bool). cond b (at x0) (at (x0 + 1))) (eq-eqb (j % 2) 0 e) ∙ sym (ap (λ (k : ℕ). level_in p blacks scales rows y k 0) c))
      (λ h.
      let e : j % 2 ≡ 1 = omega (arith, mod-lt j {m = 2} (omega arith)) in
      let c : (x0 + j) % p.width ≡ (x0 + 1) % p.width =
      two-columns p.width x0 j wide two ∙ ap (λ (k : ℕ). (x0 + k) % p.width) e in
      ap (λ (b : Bool). cond b (at x0) (at (x0 + 1))) (ne_eqb (j % 2) 0 (λ q. omega (arith, q, e)))
      ∙ sym (ap (λ (k : ℕ). level_in p blacks scales rows y k 0) c))

  -- no column of the row has a delta of its own: the same is added to all, or nothing
  pub none-rule : (even odd even' odd' : Level) (out : List Float) → length columns ≤ x0
      → even ≡ level_in p blacks scales rows y (x0 % p.width) 0 → odd ≡ level_in p blacks scales rows y ((x0 + 1) % p.width) 0
      → even' ≡ settled_at columns x0 even → odd' ≡ settled_at columns (x0 + 1) odd
      → each (λ j v. pair_rule none to_float s no_delta even' odd' j) out
      ≡ each (λ j v. row_rule none to_float s (levels p blacks scales rows columns) planes x0 y j) out
  unfolding at pair_rule
  none-rule even odd even' odd' out past e o e' o' =
      each-agree (λ j v. pair_rule none to_float s no_delta even' odd' j)
      (λ j v. row_rule none to_float s (levels p blacks scales rows columns) planes x0 y j) out
      (λ j v h. ap (λ (a : Level). levelled_by a.black a.scale (to_float (get_or s j none))) (pair j) ∙ sym (rule-is j))
    where
      settle : (x k : ℕ) (a : Level) → length columns ≤ x → length columns ≤ k → settled_at columns x a ≡ settled_at columns k a
      settle x k a h q = ap (λ (b : Float). record { black = b; scale = a.scale }) (delta-past columns x k a.black h q)

      through : (g : Level → Level) (a b : Level) (t : Bool) → cond t (g a) (g b) ≡ g (cond t a b)
      through g a b true = refl
      through g a b false = refl

      pair : (j : ℕ) → pair_of even' odd' j ≡ settled_at columns (x0 + j) (at (x0 + j))
      pair j =
          ap₂ (λ (a b : Level). pair_of a b j)
          (e' ∙ ap (settled_at columns x0) e ∙ settle x0 (x0 + j) (at x0) past (omega arith))
          (o' ∙ ap (settled_at columns (x0 + 1)) o ∙ settle (x0 + 1) (x0 + j) (at (x0 + 1)) (omega arith) (omega arith))
          ∙ through (settled_at columns (x0 + j)) (at x0) (at (x0 + 1)) (eqb (j % 2) 0)
          ∙ ap (settled_at columns (x0 + j)) (pair_is j)

  -- every column of the row has one
  pub own-rule : (even odd : Level) (out : List Float) → x0 + length out ≤ length columns
      → even ≡ level_in p blacks scales rows y (x0 % p.width) 0 → odd ≡ level_in p blacks scales rows y ((x0 + 1) % p.width) 0
      → each (λ j v. pair_rule none to_float s (own_delta (take (x0 + length out - x0) (drop x0 columns))) even odd j) out
      ≡ each (λ j v. row_rule none to_float s (levels p blacks scales rows columns) planes x0 y j) out
  unfolding at pair_rule
  own-rule even odd out covered e o =
      each-agree (λ j v. pair_rule none to_float s (own_delta (take (x0 + length out - x0) (drop x0 columns))) even odd j)
      (λ j v. row_rule none to_float s (levels p blacks scales rows columns) planes x0 y j) out
      (λ j v h.
      ap
      (λ (a : Level).
      levelled_by (add binary32 a.black (get_or (take (x0 + length out - x0) (drop x0 columns)) j nan)) a.scale (to_float (get_or s j none)))
      (pair j)
      ∙ ap (λ (b : Float). levelled_by b (at (x0 + j)).scale (to_float (get_or s j none))) (delta j h)
      ∙ sym (rule-is j))
    where
      pair : (j : ℕ) → pair_of even odd j ≡ at (x0 + j)
      pair j = ap₂ (λ (a b : Level). pair_of a b j) e o ∙ pair_is j

      delta : (j : ℕ) → j < length out
          → add binary32 (at (x0 + j)).black (get_or (take (x0 + length out - x0) (drop x0 columns)) j nan)
          ≡ with_delta columns (x0 + j) (at (x0 + j)).black
      delta j h =
          ap (add binary32 (at (x0 + j)).black)
          (get_or-take (x0 + length out - x0) (drop x0 columns) j nan (omega arith) ∙ get_or-drop x0 columns j nan)
          ∙ delta-here columns (x0 + j) (at (x0 + j)).black (omega arith)

-- a column of the pattern, and that of an image column, have one level
pub level-is : (p : Pattern) (blacks scales rows : List Float) (y x : ℕ) {c : ℕ} {a : Level} → c ≡ x % p.width
    → a ≡ level_in p blacks scales rows y c 0 → a ≡ level_in p blacks scales rows y (x % p.width) 0
level-is p blacks scales rows y x e h = h ∙ ap (λ (k : ℕ). level_in p blacks scales rows y k 0) e
