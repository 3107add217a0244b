-- The tests of a call: products by quotients, and what a call that is not refused has. Assumes nothing.
use Prim.Native.Nat.{ℕ, ◌*◌, ◌/◌, ◌≤◌, ◌<◌}
use mathlib.Core.Bool.{Bool, true, false, ◌&&◌}
use mathlib.Core.Path.{◌≡◌, refl, sym, ◌∙◌}
use native.Mathlib.Nat.{mul_assoc, mul_comm, mul-le-mul, mul-le-mul_left, mul-one, le-div_iff_mul-le}
use native.Mathlib.Omega.{arith}
use borrow.Author.Tests.{le-leb, lt-leb, leb-true}
use lib.Dec.{leb}
use Rattle.std.specs.Prelude.{Ok}
use Rattle.pointwise.proofs.Each.{below_or}
use Rattle.row_black.specs.declared.Field.{Field}
use Rattle.row_black.specs.declared.Pattern.{Pattern}
use Rattle.row_black.specs.Black.{total, field_in_range, holds, tabled, sampled, answer_of}

-- ---- products by quotients

-- the product of three, the last two first
product : (planes h w : ℕ) → planes * h * w ≡ h * w * planes
product planes h w = mul_assoc planes h w ∙ mul_comm planes (h * w)

module _ (p : Pattern) (planes n : ℕ) (some : 1 ≤ planes) (wide : 1 ≤ p.width) where
  -- the pattern fits a table: its sizes may be multiplied
  pub sizes : p.height ≤ n / p.width → p.height * p.width ≤ n
  sizes h = (le-div_iff_mul-le wide).0 h

  pub held : leb (p.height * p.width) (n / planes) ≡ holds p planes n
  held =
      below_or (n / planes) (p.height * p.width)
      (λ h.
      lt-leb _ _ h
      ∙ sym (lt-leb _ _ (below_or n (planes * p.height * p.width) (λ q. q) (λ q. absurd (omega (arith, h, within q))))))
      (λ h. le-leb _ _ h ∙ sym (le-leb _ _ (fits h)))
    where
      fits : p.height * p.width ≤ n / planes → planes * p.height * p.width ≤ n
      fits h = rw product ((le-div_iff_mul-le some).0 h)

      within : planes * p.height * p.width ≤ n → p.height * p.width ≤ n / planes
      within q = (le-div_iff_mul-le some).1 (rw product at q)

  -- it does not: nor do as many as there are planes
  pub not-held : n / p.width < p.height → false ≡ holds p planes n
  not-held h = sym (lt-leb _ _ (below_or n (planes * p.height * p.width) (λ q. q) (λ q. absurd (omega (arith, h, within q)))))
    where
      within : planes * p.height * p.width ≤ n → p.height ≤ n / p.width
      within q =
          (le-div_iff_mul-le wide).1
          (omega (arith, product planes p.height p.width, mul-le-mul_left (p.height * p.width) some, mul-one (p.height * p.width)))

-- ---- what the tests give

pub split : (a b : Bool) → (a && b) ≡ true → (a ≡ true) × (b ≡ true)
split true true e = (refl, refl)
split true false e = (refl, e)
split false b e = (e, e-of b e)
  where
    e-of : (b : Bool) → false ≡ true → b ≡ true
    e-of true q = refl
    e-of false q = q

-- a Bool, looked at
pub by_cases : {C : Type 0} (b : Bool) → (b ≡ true → C) → (b ≡ false → C) → C
by_cases true y n = y refl
by_cases false y n = n refl

pub record Ranged (f : Field) : Type 0 where
  pub width : f.width ≤ 65536
  pub height : f.height ≤ 65536
  pub some : 1 ≤ f.planes
  pub few : f.planes ≤ 8
  pub column : f.x0 ≤ 16777216
  pub row : f.y0 ≤ 16777216

pub ranged : (f : Field) → field_in_range f ≡ true → Ranged f
unfolding field_in_range
ranged f e =
    let a = split (leb f.width 65536) _ e in
    let b = split (leb f.height 65536) _ a.1 in
    let c = split (leb 1 f.planes) _ b.1 in
    let d = split (leb f.planes 8) _ c.1 in
    let g = split (leb f.x0 16777216) _ d.1 in
    record {
      width = leb-true _ _ a.0;
      height = leb-true _ _ b.0;
      some = leb-true _ _ c.0;
      few = leb-true _ _ d.0;
      column = leb-true _ _ g.0;
      row = leb-true _ _ g.1;
    }

-- a frame in range has at most 2^32 pixels, and no product of its sizes wraps
pub pixels-fit : {f : Field} → Ranged f → f.width * f.height ≤ 4294967296
pixels-fit r = mul-le-mul r.width r.height

pub total-fits : {f : Field} → Ranged f → total f ≤ 34359738368
total-fits r = mul-le-mul (pixels-fit r) r.few

pub row_fits : {f : Field} → Ranged f → f.width * f.planes ≤ 524288
row_fits r = mul-le-mul r.width r.few

pub record Tabled (p : Pattern) (planes b s : ℕ) : Type 0 where
  pub tall : 1 ≤ p.height
  pub wide : 1 ≤ p.width
  pub black : planes * p.height * p.width ≤ b
  pub scale : planes * p.height * p.width ≤ s

pub has-tables : (p : Pattern) (planes b s : ℕ) → tabled p planes b s ≡ true → Tabled p planes b s
unfolding tabled
has-tables p planes b s e =
    let a = split (leb 1 p.height) _ e in
    let c = split (leb 1 p.width) _ a.1 in
    let d = split (holds p planes b) _ c.1 in
    record { tall = leb-true _ _ a.0; wide = leb-true _ _ c.0; black = leb-true _ _ d.0; scale = leb-true _ _ d.1 }

-- ---- the answer

-- what a call that is not refused may rely on
pub record Goes (f : Field) (p : Pattern) (b s input output : ℕ) : Type 0 where
  pub ranges : Ranged f
  pub tables : Tabled p f.planes b s
  pub read : total f ≤ input
  pub written : total f ≤ output

pub goes : (f : Field) (p : Pattern) (b s input output : ℕ) → answer_of f p b s input output ≡ Ok tt → Goes f p b s input output
unfolding answer_of sampled
goes f p b s input output =
    by_cases (field_in_range f)
    (λ r.
    by_cases (tabled p f.planes b s)
    (λ t.
    by_cases (leb (total f) input && leb (total f) output)
    (λ n e.
    let m = split (leb (total f) input) _ n in
    record { ranges = ranged f r; tables = has-tables p f.planes b s t; read = leb-true _ _ m.0; written = leb-true _ _ m.1 })
    (λ n e. cc (rw (r, t, n) at e)))
    (λ t e. cc (rw (r, t) at e)))
    (λ r e. cc (rw r at e))
