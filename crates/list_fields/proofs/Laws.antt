-- A field read at its clamped place; what is read of a body, by whether it is whole, and back from what was read. Assumes nothing.
use mathlib.Core.Path.{◌≡◌, refl, sym, ap, ◌∙◌}
use mathlib.Core.Bool.{Bool, true, false, cond}
use mathlib.Core.List.{List}
use Prim.Native.Nat.{ℕ, ◌+◌, ◌-◌, ◌*◌, ◌/◌, ◌≤◌, ◌<◌, min}
use native.Mathlib.Nat.{min-eq_left}
use native.Mathlib.Decide.{dec_le}
use native.Mathlib.Omega.{arith}
use borrow.Author.Tests.{le-leb, lt-leb, leb-true, leb-false}
use lib.Dec.{leb}
use lib.ListN.{length}
use Rattle.std.specs.Prelude.{Result, Ok, Err}
use Rattle.num_words.specs.declared.Cut.{Cut}
use Rattle.num_words.specs.Words.{big, cut, word_in}
use Rattle.num_words.proofs.Laws.{past}
use Rattle.dng.specs.declared.Region.{Region}
use Rattle.dng.specs.declared.Grid.{Grid}
use Rattle.dng.specs.declared.Radial.{Radial}
use Rattle.dng.specs.List.{u32_at, offset_in, first_cut, fours, eights, vignette_fields, region_at, grid_at, radial_at}
use Rattle.dng.proofs.Cuts.{cut-same}
use Rattle.list_fields.specs.Fields.{word_at, area_at, lattice_at, lens_at}

clamped-by : (k : ℕ) (s : List ℕ) (at p : ℕ) → p ≡ min at (length s) → Dec (at ≤ length s) → big k s p ≡ big k s at
clamped-by k s at p e (yes h) = ap (big k s) (e ∙ min-eq_left h)
clamped-by k s at p e (no h) = past k s p (omega arith) ∙ sym (past k s at (omega arith))

-- at the list's end a word is the same as anywhere past it
pub clamped : (k : ℕ) (s : List ℕ) (at : ℕ) {p : ℕ} → p ≡ min at (length s) → big k s p ≡ big k s at
clamped k s at {p} e = clamped-by k s at p e (dec_le at (length s))

module _ (s : List ℕ) (at len : ℕ) where
  -- ---- what is read, by whether it is whole

  pub word-is : (k : ℕ) {r : Result ℕ Cut} {p l : ℕ} → r ≡ word_in s p l → p ≡ offset_in s at k → l ≡ len - k → r ≡ word_at s at k len
  unfolding word_in word_at
  word-is k {r} {p} {l} e i j = e ∙ go (dec_le 4 l)
    where
      go : Dec (4 ≤ l) → cond (leb 4 l) (Ok (big 4 s p)) (Err (cut p)) ≡ cond (leb (k + 4) len) (Ok (u32_at s (at + k))) (Err (cut (offset_in s at k)))
      go (yes h) = let m : k + 4 ≤ len = omega arith in simp (le-leb _ _ h, le-leb _ _ m, clamped 4 s (at + k) i)
      go (no h) = let m : len < k + 4 = omega arith in simp (lt-leb 4 l (omega arith), lt-leb _ _ m, i)

  pub area-cut : {p : ℕ} → len < 32 → p ≡ offset_in s at (len / 4 * 4) → Err (cut p) ≡ area_at s at len
  unfolding area_at
  area-cut h e = simp (lt-leb _ _ h, e, cut-same 4 8 len (omega arith) (omega arith))

  pub area-is : {r : Region} → 32 ≤ len → r ≡ region_at s at → Ok r ≡ area_at s at len
  unfolding area_at
  area-is h e = simp (le-leb _ _ h, e)

  pub lattice-cut : {p l : ℕ} → len < 72 → l ≡ len - 40 → p ≡ offset_in s at (40 + l / 8 * 8) → Err (cut p) ≡ lattice_at s at len
  unfolding lattice_at
  lattice-cut h i e = simp (lt-leb _ _ h, e, i, cut-same 8 4 (len - 40) (omega arith) (omega arith))

  pub lattice-is : {g : Grid} → 72 ≤ len → g ≡ grid_at s (at + 40) → Ok g ≡ lattice_at s at len
  unfolding lattice_at
  lattice-is h e = simp (le-leb _ _ h, e)

  pub lens-cut : {p : ℕ} → len < 56 → p ≡ offset_in s at (len / 8 * 8) → Err (cut p) ≡ lens_at s at len
  unfolding lens_at
  lens-cut h e = simp (lt-leb _ _ h, e, cut-same 8 7 len (omega arith) (omega arith))

  pub lens-is : {q : Radial} → 56 ≤ len → q ≡ radial_at s at → Ok q ≡ lens_at s at len
  unfolding lens_at
  lens-is h e = simp (le-leb _ _ h, e)

  -- ---- back from what was read: how long the body is, and the value or the place

  pub value-is : (k : ℕ) {x : Result ℕ Cut} {v : ℕ} → x ≡ word_at s at k len → x ≡ Ok v → (k + 4 ≤ len) × (v ≡ u32_at s (at + k))
  unfolding word_at
  value-is k {x} {v} e f = go (leb (k + 4) len) refl (sym e ∙ f)
    where
      go :
          (b : Bool) → leb (k + 4) len ≡ b → cond b (Ok (u32_at s (at + k))) (Err (cut (offset_in s at k))) ≡ Ok v
          → (k + 4 ≤ len) × (v ≡ u32_at s (at + k))
      go true t q = (leb-true _ _ t, cc)
      go false t q = absurd (let z : ◌≡◌ {A = ℕ} 0 1 = cc in omega arith)

  pub value-cut : (k : ℕ) {x : Result ℕ Cut} {d : Cut} → x ≡ word_at s at k len → x ≡ Err d → (len < k + 4) × (d.at ≡ offset_in s at k)
  unfolding word_at
  value-cut k {x} {d} e g = go (leb (k + 4) len) refl (sym e ∙ g)
    where
      go :
          (b : Bool) → leb (k + 4) len ≡ b → cond b (Ok (u32_at s (at + k))) (Err (cut (offset_in s at k))) ≡ Err d
          → (len < k + 4) × (d.at ≡ offset_in s at k)
      go true t q = absurd (let z : ◌≡◌ {A = ℕ} 0 1 = cc in omega arith)
      go false t q = (leb-false _ _ t, cc)

  pub region-is : {x : Result Region Cut} {r : Region} → x ≡ area_at s at len → x ≡ Ok r → (32 ≤ len) × (r ≡ region_at s at)
  unfolding area_at
  region-is {x} {r} e f = go (leb 32 len) refl (sym e ∙ f)
    where
      go :
          (b : Bool) → leb 32 len ≡ b → cond b (Ok (region_at s at)) (Err (cut (offset_in s at (first_cut (fours 8) len)))) ≡ Ok r
          → (32 ≤ len) × (r ≡ region_at s at)
      go true t q = (leb-true _ _ t, cc)
      go false t q = absurd (let z : ◌≡◌ {A = ℕ} 0 1 = cc in omega arith)

  pub region-cut : {x : Result Region Cut} {d : Cut} → x ≡ area_at s at len → x ≡ Err d → (len < 32) × (d.at ≡ offset_in s at (first_cut (fours 8) len))
  unfolding area_at
  region-cut {x} {d} e g = go (leb 32 len) refl (sym e ∙ g)
    where
      go :
          (b : Bool) → leb 32 len ≡ b → cond b (Ok (region_at s at)) (Err (cut (offset_in s at (first_cut (fours 8) len)))) ≡ Err d
          → (len < 32) × (d.at ≡ offset_in s at (first_cut (fours 8) len))
      go true t q = absurd (let z : ◌≡◌ {A = ℕ} 0 1 = cc in omega arith)
      go false t q = (leb-false _ _ t, cc)

  pub grid-is : {x : Result Grid Cut} {g : Grid} → x ≡ lattice_at s at len → x ≡ Ok g → (72 ≤ len) × (g ≡ grid_at s (at + 40))
  unfolding lattice_at
  grid-is {x} {g} e f = go (leb 72 len) refl (sym e ∙ f)
    where
      go :
          (b : Bool) → leb 72 len ≡ b → cond b (Ok (grid_at s (at + 40))) (Err (cut (offset_in s at (40 + first_cut (eights 4) (len - 40))))) ≡ Ok g
          → (72 ≤ len) × (g ≡ grid_at s (at + 40))
      go true t q = (leb-true _ _ t, cc)
      go false t q = absurd (let z : ◌≡◌ {A = ℕ} 0 1 = cc in omega arith)

  pub grid-cut : {x : Result Grid Cut} {d : Cut} → x ≡ lattice_at s at len → x ≡ Err d → (len < 72) × (d.at ≡ offset_in s at (40 + first_cut (eights 4) (len - 40)))
  unfolding lattice_at
  grid-cut {x} {d} e g = go (leb 72 len) refl (sym e ∙ g)
    where
      go :
          (b : Bool) → leb 72 len ≡ b → cond b (Ok (grid_at s (at + 40))) (Err (cut (offset_in s at (40 + first_cut (eights 4) (len - 40))))) ≡ Err d
          → (len < 72) × (d.at ≡ offset_in s at (40 + first_cut (eights 4) (len - 40)))
      go true t q = absurd (let z : ◌≡◌ {A = ℕ} 0 1 = cc in omega arith)
      go false t q = (leb-false _ _ t, cc)

  pub radial-is : {x : Result Radial Cut} {q : Radial} → x ≡ lens_at s at len → x ≡ Ok q → (56 ≤ len) × (q ≡ radial_at s at)
  unfolding lens_at
  radial-is {x} {q} e f = go (leb 56 len) refl (sym e ∙ f)
    where
      go :
          (b : Bool) → leb 56 len ≡ b → cond b (Ok (radial_at s at)) (Err (cut (offset_in s at (first_cut vignette_fields len)))) ≡ Ok q
          → (56 ≤ len) × (q ≡ radial_at s at)
      go true t z = (leb-true _ _ t, cc)
      go false t z = absurd (let z : ◌≡◌ {A = ℕ} 0 1 = cc in omega arith)

  pub radial-cut : {x : Result Radial Cut} {d : Cut} → x ≡ lens_at s at len → x ≡ Err d → (len < 56) × (d.at ≡ offset_in s at (first_cut vignette_fields len))
  unfolding lens_at
  radial-cut {x} {d} e g = go (leb 56 len) refl (sym e ∙ g)
    where
      go :
          (b : Bool) → leb 56 len ≡ b → cond b (Ok (radial_at s at)) (Err (cut (offset_in s at (first_cut vignette_fields len)))) ≡ Err d
          → (len < 56) × (d.at ≡ offset_in s at (first_cut vignette_fields len))
      go true t z = absurd (let z : ◌≡◌ {A = ℕ} 0 1 = cc in omega arith)
      go false t z = (leb-false _ _ t, cc)
