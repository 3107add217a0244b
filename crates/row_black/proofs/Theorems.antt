-- The statements of specs/Promises. Assumes nothing.
use Prim.Native.Nat.{ℕ, ◌+◌, ◌*◌, ◌/◌, ◌%◌, ◌≤◌, ◌<◌}
use mathlib.Core.Bool.{Bool, false, cond}
use mathlib.Core.List.{List}
use mathlib.Core.Path.{◌≡◌, refl, sym, ap, ap₂, subst, ◌∙◌}
use native.Mathlib.Nat.{mul_comm}
use native.Mathlib.Omega.{arith}
use borrow.Author.Tests.{le-leb, lt-ltb}
use lib.Arith.{digits_lt, digits_div, digits_mod}
use lib.Dec.{ltb}
use Rattle.std.specs.Prelude.{Ok, Err, is_ok}
use lib.Ieee.{Float, nan}
use lib.ListN.{length, get_or, get_or-eq_default}
use Rattle.pointwise.specs.Points.{each}
use Rattle.pointwise.proofs.Each.{below_or, length-each, get_or-each}
use Rattle.row_black.specs.declared.Field.{Field}
use Rattle.row_black.specs.declared.Pattern.{Pattern}
use Rattle.row_black.specs.declared.Refused.TheVariants.{Range, Tables, Samples}
use Rattle.row_black.specs.Black.{Levels, levelled, total, levelled_at, field_in_range, tabled, sampled, Answer, answer_of, black_out}
use Rattle.row_black.specs.Promises.{Determined, When, ExactlyWhen, Kept, Keeps, place_of, Pointwise, tile_of, Tiles}
use Rattle.row_black.proofs.Refusals.{by_cases, goes}
use Rattle.row_black.proofs.Frames.{behind}

-- ---- 1

pub determined : Determined
determined o r r' out out' a b = (a.answered ∙ sym b.answered, a.left ∙ sym b.left)

-- ---- 2

module _ (f : Field) (p : Pattern) (b s input output : ℕ) where
  -- the tests give the answer
  gives : (a : Answer) → When f p b s input output a → answer_of f p b s input output ≡ a
  unfolding answer_of
  gives (Ok u) (r, t, n) = rw (r, t, n) refl
  gives (Err Range) r = rw r refl
  gives (Err Tables) (r, t) = rw (r, t) refl
  gives (Err Samples) (r, t, n) = rw (r, t, n) refl

  -- and every answer has its tests
  holds_of : (a : Answer) → When f p b s input output a → When f p b s input output (answer_of f p b s input output)
  holds_of a w = subst (When f p b s input output) (sym (gives a w)) w

  tested : When f p b s input output (answer_of f p b s input output)
  tested =
      by_cases (field_in_range f)
      (λ r.
      by_cases (tabled p f.planes b s)
      (λ t. by_cases (sampled f input output) (λ n. holds_of (Ok tt) (r, t, n)) (λ n. holds_of (Err Samples) (r, t, n)))
      (λ t. holds_of (Err Tables) (r, t)))
      (λ r. holds_of (Err Range) r)

pub exactly-when : ExactlyWhen
exactly-when f p b s input output a =
    (λ e. subst (When f p b s input output) e (tested f p b s input output), gives f p b s input output a)

-- ---- 3

module _ {A : Type 0} (none : A) (to_float : A → Float) (f : Field) (l : Levels) (s : List A) (out : List Float) where
  new : List Float
  new = each (levelled_at none to_float f l s) out

  -- the output is the new one, or the old one
  output-done : (black_out none to_float f l s out).answer ≡ Ok tt → (black_out none to_float f l s out).output ≡ new
  unfolding black_out new
  output-done e = ap (λ (a : Answer). cond (is_ok a) new out) e

  output-refused : is_ok (black_out none to_float f l s out).answer ≡ false → (black_out none to_float f l s out).output ≡ out
  unfolding black_out new
  output-refused e = ap (λ (b : Bool). cond b new out) e

  -- what holds of both holds of the output
  either : (P : List Float → Type 0) → P new → P out → P (black_out none to_float f l s out).output
  unfolding black_out new
  either P n o = by_cases (is_ok a) (λ e. subst (λ (b : Bool). P (cond b new out)) (sym e) n) (λ e. subst (λ (b : Bool). P (cond b new out)) (sym e) o)
    where
      a : Answer
      a = answer_of f l.pattern (length l.blacks) (length l.scales) (length s) (length out)

  new-behind : (j : ℕ) → total f ≤ j → get_or new j nan ≡ get_or out j nan
  unfolding new
  new-behind j h =
      below_or j (length out)
      (λ q. get_or-each (levelled_at none to_float f l s) out j nan q ∙ behind none to_float f l s j (get_or out j nan) h)
      (λ q.
      get_or-eq_default new nan (omega (arith, length-each (levelled_at none to_float f l s) out)) ∙ sym (get_or-eq_default out nan q))

  kept : Kept none to_float f l s out
  unfolding new
  kept =
      record {
        refused = output-refused;
        behind = λ j h. either (λ o. get_or o j nan ≡ get_or out j nan) (new-behind j h) refl;
        long = either (λ o. length o ≡ length out) (length-each (levelled_at none to_float f l s) out) refl;
      }

pub keeps : Keeps
keeps A none to_float f l s out = kept none to_float f l s out

-- ---- 4

module _ {A : Type 0} (none : A) (to_float : A → Float) (f : Field) (l : Levels) (out : List Float) where
  -- the rule at a place looks at the sample there
  same_at : (s s' : List A) (j : ℕ) (v : Float) → get_or s j none ≡ get_or s' j none
      → levelled_at none to_float f l s j v ≡ levelled_at none to_float f l s' j v
  unfolding levelled_at
  same_at s s' j v e =
      ap
      (λ (a : A).
      cond (ltb j (total f))
      (levelled l (f.y0 + j / f.planes / f.width) (f.x0 + j / f.planes % f.width) (j % f.planes) (to_float a)) v)
      e

  same_new : (s s' : List A) (j : ℕ) → get_or s j none ≡ get_or s' j none
      → get_or (new none to_float f l s out) j nan ≡ get_or (new none to_float f l s' out) j nan
  unfolding new
  same_new s s' j e =
      below_or j (length out)
      (λ h.
      get_or-each (levelled_at none to_float f l s) out j nan h ∙ same_at s s' j (get_or out j nan) e
      ∙ sym (get_or-each (levelled_at none to_float f l s') out j nan h))
      (λ h.
      get_or-eq_default (each (levelled_at none to_float f l s) out) nan (omega (arith, length-each (levelled_at none to_float f l s) out))
      ∙ sym (get_or-eq_default (each (levelled_at none to_float f l s') out) nan (omega (arith, length-each (levelled_at none to_float f l s') out))))

  -- inputs that are both long enough have one answer
  same_answer : (s s' : List A) → total f ≤ length s → total f ≤ length s'
      → (black_out none to_float f l s out).answer ≡ (black_out none to_float f l s' out).answer
  unfolding black_out answer_of sampled
  same_answer s s' h h' = rw (le-leb (total f) (length s) h, le-leb (total f) (length s') h') refl

  itself-at : (s s' : List A) (j : ℕ) → total f ≤ length s → total f ≤ length s' → get_or s j none ≡ get_or s' j none
      → get_or (black_out none to_float f l s out).output j nan ≡ get_or (black_out none to_float f l s' out).output j nan
  unfolding black_out new
  itself-at s s' j h h' e =
      go (is_ok (black_out none to_float f l s out).answer) (is_ok (black_out none to_float f l s' out).answer) (ap is_ok (same_answer s s' h h'))
    where
      go : (a a' : Bool) → a ≡ a'
          → get_or (cond a (new none to_float f l s out) out) j nan ≡ get_or (cond a' (new none to_float f l s' out) out) j nan
      go a a' q =
          by_cases a
          (λ r. rw (r, sym q ∙ r) (same_new s s' j e))
          (λ r. rw (r, sym q ∙ r) refl)

  -- the place of a sample, taken apart again
  place_in : (y x k : ℕ) → y < f.height → x < f.width → k < f.planes → place_of f y x k < total f
  place_in y x k hy hx hk = omega (arith, digits_lt (digits_lt hy hx) hk, ap (λ (m : ℕ). m * f.planes) (mul_comm f.height f.width))

  rule-at : (s : List A) (y x k : ℕ) (v : Float) → y < f.height → x < f.width → k < f.planes
      → levelled_at none to_float f l s (place_of f y x k) v ≡ levelled l (f.y0 + y) (f.x0 + x) k (to_float (get_or s (place_of f y x k) none))
  unfolding levelled_at
  rule-at s y x k v hy hx hk =
      rw (
        lt-ltb (place_of f y x k) (total f) (place_in y x k hy hx hk),
        digits_div (y * f.width + x) {m = f.planes} {r = k} hk,
        digits_mod (y * f.width + x) {m = f.planes} {r = k} hk,
        digits_div y {m = f.width} {r = x} hx,
        digits_mod y {m = f.width} {r = x} hx,
      ) refl

  written : (s : List A) → (black_out none to_float f l s out).answer ≡ Ok tt → total f ≤ length out
  unfolding black_out
  written s e = (goes f l.pattern (length l.blacks) (length l.scales) (length s) (length out) e).written

  position_at : (s : List A) (y x k : ℕ) → (black_out none to_float f l s out).answer ≡ Ok tt → y < f.height → x < f.width → k < f.planes
      → get_or (black_out none to_float f l s out).output (place_of f y x k) nan
      ≡ levelled l (f.y0 + y) (f.x0 + x) k (to_float (get_or s (place_of f y x k) none))
  unfolding new
  position_at s y x k e hy hx hk =
      ap (λ (o : List Float). get_or o (place_of f y x k) nan) (output-done none to_float f l s out e)
      ∙ get_or-each (levelled_at none to_float f l s) out (place_of f y x k) nan (omega (arith, place_in y x k hy hx hk, written s e))
      ∙ rule-at s y x k (get_or out (place_of f y x k) nan) hy hx hk

pub pointwise : Pointwise
pointwise A none to_float f l s out = record { itself = itself-at none to_float f l out s; position = position_at none to_float f l out s }

-- ---- 5

-- both are the rule of the same position, of the same sample
pub tiles : Tiles
tiles A none to_float f l s out x y w h t tile g r c k hr hc hk =
    position_at none to_float (tile_of f x y w h) l tile t r c k g.part hr hc hk
    ∙ ap (λ (v : A). levelled l (f.y0 + y + r) (f.x0 + x + c) k (to_float v)) (g.input r c k hr hc hk)
    ∙ ap₂ (λ (m n : ℕ). levelled l m n k (to_float (get_or s (place_of f (y + r) (x + c) k) none)))
    (let e : f.y0 + y + r ≡ f.y0 + (y + r) = omega arith in e) (let e : f.x0 + x + c ≡ f.x0 + (x + c) = omega arith in e)
    ∙ sym (position_at none to_float f l out s (y + r) (x + c) k g.frame (omega (arith, g.rows)) (omega (arith, g.columns)) hk)
