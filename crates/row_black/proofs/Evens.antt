-- Samples by pairs: which level a place has, and a loop over pairs. Assumes nothing.
use Prim.Native.Nat.{ℕ, ◌+◌, ◌*◌, ◌%◌, ◌<◌}
use mathlib.Core.Bool.{Bool, cond}
use mathlib.Core.List.{List}
use mathlib.Core.Path.{◌≡◌, sym, ap, subst, ◌∙◌}
use native.Mathlib.Omega.{arith}
use borrow.Author.Tests.{eq-eqb, ne_eqb}
use lib.Ieee.{Float, nan}
use lib.ListN.{length, get_or, set, length-set}
use lib.Seq.{get_or-set_same, get_or-set_other}
use Rattle.std.proofs.lemmas.List.{get_or_default}
use Rattle.pointwise.specs.Points.{each}
use Rattle.pointwise.proofs.Each.{below_or, is-each}
use Rattle.row_black.specs.declared.Level.{Level}
use Rattle.row_black.specs.Black.{levelled_by}
use Rattle.row_black.specs.Rows.{pair_of, pair_rule, PairAt}

module _ (even odd : Level) (k : ℕ) where
  at-even : pair_of even odd (2 * k) ≡ even
  at-even = ap (λ (b : Bool). cond b even odd) (eq-eqb (2 * k % 2) 0 (omega arith))

  at-odd : pair_of even odd (2 * k + 1) ≡ odd
  at-odd = ap (λ (b : Bool). cond b even odd) (ne_eqb ((2 * k + 1) % 2) 0 (λ q. omega arith))

module _ (P : ℕ → Float → Type 0) (now : List Float) {v : Float} (m : ℕ) where
  -- a store at m, where all before it is done
  stored : m < length now → ((i : ℕ) → i < m → P i (get_or now i nan)) → P m v → (i : ℕ) → i < m + 1 → P i (get_or (set now m v) i nan)
  stored h below here i q =
      below_or i m
      (λ r. subst (P i) (sym (get_or-set_other now m i v nan (λ e. omega arith))) (below i r))
      (λ r.
      let e : i ≡ m = omega arith in
      rw e (subst (P m) (sym (get_or-set_same now m v nan h)) here))

module _ {A : Type 0} (none : A) (to_float : A → Float) (s : List A) (black : ℕ → Float → Float → Type 0) (even odd : Level) where
  -- a loop that has done the places before j
  abbrev pub Paired : List Float → ℕ → Type 0
  Paired now j = (i : ℕ) → i < j → PairAt none to_float s black even odd i (get_or now i nan)

  -- what place j of the level a becomes: x is its sample, and w that as a float
  value : {x : A} {w b v : Float} {a : Level} (j : ℕ) → j < length s → pair_of even odd j ≡ a
      → black j a.black b → v ≡ levelled_by b a.scale w → w ≡ to_float x → x ≡ get_or s j x
      → PairAt none to_float s black even odd j v
  value {x} {w} {b} {v} {a} j h e given made wide is =
      record {
        used = b;
        given = subst (λ (l : Level). black j l.black b) (sym e) given;
        value = made
            ∙ ap (levelled_by b a.scale) (wide ∙ ap to_float (is ∙ get_or_default s j x none h))
            ∙ sym (ap (λ (l : Level). levelled_by b l.scale (to_float (get_or s j none))) e);
      }

  module _ (k : ℕ) where
    pub value-even : {x : A} {w b v : Float} → 2 * k < length s → black (2 * k) even.black b → v ≡ levelled_by b even.scale w
        → w ≡ to_float x → x ≡ get_or s (2 * k) x → PairAt none to_float s black even odd (2 * k) v
    value-even h = value (2 * k) h (at-even even odd k)

    pub value-odd : {x : A} {w b v : Float} → 2 * k + 1 < length s → black (2 * k + 1) odd.black b → v ≡ levelled_by b odd.scale w
        → w ≡ to_float x → x ≡ get_or s (2 * k + 1) x → PairAt none to_float s black even odd (2 * k + 1) v
    value-odd h = value (2 * k + 1) h (at-odd even odd k)

    -- two stores, or one
    pub pairs_next : (now : List Float) {v w : Float} → 2 * k + 1 < length now → Paired now (2 * k)
        → PairAt none to_float s black even odd (2 * k) v → PairAt none to_float s black even odd (2 * k + 1) w
        → Paired (set (set now (2 * k) v) (2 * k + 1) w) (2 * (k + 1))
    pairs_next now {v} h below a b =
        rw (let e : 2 * (k + 1) ≡ 2 * k + 1 + 1 = omega arith in e)
        (stored (PairAt none to_float s black even odd) (set now (2 * k) v) (2 * k + 1) (simp length-set h)
        (stored (PairAt none to_float s black even odd) now (2 * k) (omega arith) below a) b)

    pub pairs-last : (now : List Float) {x : A} {w b v : Float} {j : ℕ} → j ≡ 2 * k → j < length now → j < length s → Paired now (2 * k)
        → black j even.black b → v ≡ levelled_by b even.scale w → w ≡ to_float x → x ≡ get_or s j x → Paired (set now j v) (j + 1)
    pairs-last now {x} {w} {b} {v} {j} e h q below given made wide is =
        stored (PairAt none to_float s black even odd) now j h (λ i r. below i (omega arith))
        (value j q (rw e (at-even even odd k)) given made wide is)

  -- each place by the rule, where the black is `plus`
  pub paired : (plus : ℕ → Float → Float) (old new : List Float) → length new ≡ length old → Paired new (length old)
      → ((j : ℕ) (b r : Float) → j < length old → black j b r → r ≡ plus j b)
      → new ≡ each (λ j v. pair_rule none to_float s plus even odd j) old
  unfolding pair_rule
  paired plus old new same made is =
      is-each nan (λ j v. pair_rule none to_float s plus even odd j) old new same
      (λ j h.
      let p = made j h in
      p.value
      ∙ ap (λ (b : Float). levelled_by b (pair_of even odd j).scale (to_float (get_or s j none)))
      (is j (pair_of even odd j).black p.used h p.given))
