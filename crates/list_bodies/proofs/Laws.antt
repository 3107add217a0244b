-- Each body, by what was read of it: the opcode that the code makes of the fields where its counts hold; where they do not, or where a
-- field is cut, a malformed body, with the reason and the byte. Assumes nothing.
use mathlib.Core.Path.{◌≡◌, refl, sym, ap, subst, ◌∙◌}
use mathlib.Core.Bool.{Bool, true, false, ◌&&◌, cond}
use mathlib.Core.List.{List, ◌∷◌, ◌++◌}
use Prim.Native.Nat.{ℕ, ◌+◌, ◌*◌, ◌/◌, ◌≤◌, ◌<◌}
use native.Mathlib.Omega.{arith}
use borrow.Author.Tests.{le-leb, lt-leb, leb-true, leb-false}
use lib.Dec.{leb}
use lib.Ieee.{Float}
use native.Mathlib.Nat.{add-zero}
use Rattle.std.specs.Prelude.{Result, Ok, Err}
use Rattle.num_words.specs.declared.Cut.{Cut}
use Rattle.num_words.specs.Words.{cut}
use Rattle.dng.specs.declared.Region.{Region}
use Rattle.dng.specs.declared.Grid.{Grid}
use Rattle.dng.specs.declared.Radial.{Radial}
use Rattle.dng.specs.declared.Opcode.{Opcode}
use Rattle.dng.specs.declared.Opcode.TheVariants.{WarpRectilinear, FixVignetteRadial, FixBadPixelsConstant, FixBadPixelsList, TrimBounds, MapPolynomial, GainMap}
use Rattle.dng.specs.declared.Reason.{Reason}
use Rattle.dng.specs.declared.Reason.TheVariants as Why
use Rattle.dng.specs.declared.Refusal.{Refusal}
use Rattle.dng.specs.List.{refusal, offset_in, extent, first_cut, fours, eights, vignette_fields, constant_fields, bad_list_fields, trim_fields, counted_fields, gain_fields, inside_why, field_why}
use Rattle.dng.specs.List.{u32_at, f64_at, region_at, grid_at, radial_at, given, half, warp_at, vignette_at, constant_at, bad_list_at, trim_at, counted_at, polynomial_at, gain_at}
use Rattle.dng.proofs.Cuts.{cut-same, extent-append, cut-early, cut-late, cut-here}
use Rattle.list_fields.specs.Fields.{word_at, area_at, lattice_at, lens_at}
use Rattle.list_fields.proofs.Laws.{value-cut, region-cut, grid-cut, radial-cut}
use Rattle.list_counts.specs.Fits.{warp_fits, bad_list_fits, values_fit, degree_fits, gains_fit, gains_at}
use Rattle.list_bodies.specs.declared.Counted.{Counted}
use Rattle.list_bodies.specs.Bodies.{counted_in}

-- a test that was made, as the definition has it
holds : {A : Type 0} {b ok : Bool} (x y : A) → b ≡ ok → b ≡ true → x ≡ cond ok x y
holds x y e t = subst (λ (k : Bool). x ≡ cond k x y) (sym t ∙ e) refl

fails : {A : Type 0} {b ok : Bool} (x y : A) → b ≡ ok → b ≡ false → y ≡ cond ok x y
fails x y e t = subst (λ (k : Bool). y ≡ cond k x y) (sym t ∙ e) refl

taken : {b ok : Bool} (o : Opcode) (why : Refusal) → b ≡ ok → b ≡ true → Ok o ≡ given ok o why
taken o why e t = holds (Ok o) (Err why) e t

shut : {b ok : Bool} (o : Opcode) (why : Refusal) → b ≡ ok → b ≡ false → Err why ≡ given ok o why
shut o why e t = fails (Ok o) (Err why) e t

long : {k len : ℕ} (o : Opcode) (why : Refusal) → k ≤ len → Ok o ≡ given (leb k len) o why
long o why h = taken o why (sym (le-leb _ _ h)) refl

-- f is the offset of the first of a body's fields that is not whole
pub record CutAt (s : List ℕ) (at len : ℕ) (fields : List ℕ) (f : ℕ) : Type 0 where
  pub short : len < extent fields
  pub place : f ≡ offset_in s at (first_cut fields len)

module _ (s : List ℕ) (at len : ℕ) where
  -- ---- which field is cut, from the reader that met it

  -- in the first of two groups of fields
  pub early : (xs ys : List ℕ) {f : ℕ} → CutAt s at len xs f → CutAt s at len (xs ++ ys) f
  early xs ys c =
      record {
        short = omega (arith, extent-append xs ys, c.short);
        place = c.place ∙ ap (λ (k : ℕ). offset_in s at k) (sym (cut-early xs ys len c.short));
      }

  -- a word after a group
  pub word_cut :
      (xs ys : List ℕ) {x : Result ℕ Cut} {d : Cut} → extent xs ≤ len → x ≡ word_at s at (extent xs) len → x ≡ Err d
      → CutAt s at len (xs ++ (4 ∷ ys)) d.at
  unfolding extent
  word_cut xs ys h e g =
      let v = value-cut s at len (extent xs) e g in
      record {
        short = omega (arith, extent-append xs (4 ∷ ys), v.0);
        place = v.1 ∙ ap (λ (k : ℕ). offset_in s at k) (sym (cut-here xs 4 ys len h v.0));
      }

  pub area-cut : (ys : List ℕ) {x : Result Region Cut} {d : Cut} → x ≡ area_at s at len → x ≡ Err d → CutAt s at len (fours 8 ++ ys) d.at
  unfolding extent
  area-cut ys e g = let v = region-cut s at len e g in early (fours 8) ys (record { short = v.0; place = v.1 })

  pub lattice-cut :
      (ys : List ℕ) {x : Result Grid Cut} {d : Cut} → 40 ≤ len → x ≡ lattice_at s at len → x ≡ Err d
      → CutAt s at len ((fours 10 ++ eights 4) ++ ys) d.at
  unfolding extent
  lattice-cut ys h e g =
      let v = grid-cut s at len e g in
      early (fours 10 ++ eights 4) ys
      (record { short = v.0; place = v.1 ∙ ap (λ (k : ℕ). offset_in s at k) (sym (cut-late (fours 10) (eights 4) len h)) })

  pub lens-cut : {x : Result Radial Cut} {d : Cut} → x ≡ lens_at s at len → x ≡ Err d → CutAt s at len vignette_fields d.at
  unfolding extent
  lens-cut e g = let v = radial-cut s at len e g in record { short = v.0; place = v.1 }

  -- 23, whatever the counts are
  cut_inside :
      {ok : Bool} (fields : List ℕ) (o : Opcode) {f : ℕ} → false ≡ ok → CutAt s at len fields f
      → Err (refusal Why.Inside f) ≡ given ok o (inside_why fields s at len)
  unfolding inside_why
  cut_inside fields o t c = rw c.place (shut o _ t refl)

  cut-counted :
      {ok : Bool} (fields : List ℕ) (r : Reason) (k : ℕ) (o : Opcode) {f : ℕ} → false ≡ ok → CutAt s at len fields f
      → Err (refusal Why.Inside f) ≡ given ok o (field_why fields r k s at len)
  unfolding field_why
  cut-counted fields r k o t c = simp (lt-leb (extent fields) len c.short) (cut_inside fields o t c)

  -- 24 or 25, where all fields are whole
  miscounted :
      {b ok : Bool} (fields : List ℕ) (r : Reason) (k : ℕ) (o : Opcode) → b ≡ ok → b ≡ false → extent fields ≤ len
      → Err (refusal r (offset_in s at k)) ≡ given ok o (field_why fields r k s at len)
  unfolding field_why
  miscounted fields r k o e t h = simp (le-leb (extent fields) len h) (shut o _ e t)

  -- the field that a body starts with
  first : {x : ℕ} → x ≡ u32_at s (at + 0) → x ≡ u32_at s at
  first e = e ∙ ap (λ (k : ℕ). u32_at s k) (add-zero at)

  -- ---- bodies of a fixed length

  pub vignette-read : {q : Radial} → 56 ≤ len → q ≡ radial_at s at → Ok (FixVignetteRadial q) ≡ vignette_at s at len
  unfolding vignette_at
  vignette-read h e = rw e (long _ _ h)

  pub vignette-cut : {f : ℕ} → CutAt s at len vignette_fields f → Err (refusal Why.Inside f) ≡ vignette_at s at len
  unfolding vignette_at extent
  vignette-cut c = cut_inside vignette_fields _ (sym (lt-leb 56 len c.short)) c

  pub constant-read :
      {c p : ℕ} → 8 ≤ len → c ≡ u32_at s (at + 0) → p ≡ u32_at s (at + 4) → Ok (FixBadPixelsConstant c p) ≡ constant_at s at len
  unfolding constant_at
  constant-read h i j = rw (first i, j) (long _ _ h)

  pub constant-cut : {f : ℕ} → CutAt s at len constant_fields f → Err (refusal Why.Inside f) ≡ constant_at s at len
  unfolding constant_at extent
  constant-cut c = cut_inside constant_fields _ (sym (lt-leb 8 len c.short)) c

  pub constant-short : {r : Refusal} → r ≡ refusal Why.Inside (offset_in s at (len / 4 * 4)) → len < 8 → Err r ≡ constant_at s at len
  unfolding extent
  constant-short e h =
      ap Err e ∙ constant-cut (record { short = h; place = ap (λ (k : ℕ). offset_in s at k) (sym (cut-same 4 2 len (omega arith) (omega arith))) })

  pub trim-read :
      {t l b r : ℕ} → 16 ≤ len → t ≡ u32_at s (at + 0) → l ≡ u32_at s (at + 4) → b ≡ u32_at s (at + 8) → r ≡ u32_at s (at + 12)
      → Ok (TrimBounds t l b r) ≡ trim_at s at len
  unfolding trim_at
  trim-read h i j k l = rw (first i, j, k, l) (long _ _ h)

  pub trim-cut : {f : ℕ} → CutAt s at len trim_fields f → Err (refusal Why.Inside f) ≡ trim_at s at len
  unfolding trim_at extent
  trim-cut c = cut_inside trim_fields _ (sym (lt-leb 16 len c.short)) c

  pub trim-short : {r : Refusal} → r ≡ refusal Why.Inside (offset_in s at (len / 4 * 4)) → len < 16 → Err r ≡ trim_at s at len
  unfolding extent
  trim-short e h =
      ap Err e ∙ trim-cut (record { short = h; place = ap (λ (k : ℕ). offset_in s at k) (sym (cut-same 4 4 len (omega arith) (omega arith))) })

  -- ---- a warp, which is always read

  fourth : (n : ℕ) → at + (4 + n * 48) ≡ at + 4 + 6 * n * 8
  fourth n = omega arith

  twelfth : (n : ℕ) → at + (12 + n * 48) ≡ at + 4 + (6 * n + 1) * 8
  twelfth n = omega arith

  pub warp-read :
      {b : Bool} {n : ℕ} {cx cy : Float} → b ≡ warp_fits (u32_at s at) len → b ≡ true → n ≡ u32_at s (at + 0)
      → cx ≡ f64_at s (at + (4 + n * 48)) → cy ≡ f64_at s (at + (12 + n * 48))
      → WarpRectilinear n cx cy ≡ warp_at s at len
  unfolding warp_at warp_fits
  warp-read e t i x y = rw (x, y, first i, fourth (u32_at s at), twelfth (u32_at s at)) (holds _ _ e t)

  pub warp-not : {b : Bool} → b ≡ warp_fits (u32_at s at) len → b ≡ false → WarpRectilinear 0 half half ≡ warp_at s at len
  unfolding warp_at warp_fits
  warp-not e t = fails _ _ e t

  -- ---- bodies with counts

  -- a test that asks for the fields first is not held where one is cut
  unmet : {n : ℕ} (rest : Bool) → len < n → false ≡ (leb n len && rest)
  unmet {n} rest h = simp (lt-leb n len h)

  pub bad-list-read :
      {b : Bool} {p np nr : ℕ} → b ≡ bad_list_fits (u32_at s (at + 4)) (u32_at s (at + 8)) len → b ≡ true → p ≡ u32_at s (at + 0)
      → np ≡ u32_at s (at + 4) → nr ≡ u32_at s (at + 8) → Ok (FixBadPixelsList p np nr) ≡ bad_list_at s at len
  unfolding bad_list_at bad_list_fits
  bad-list-read e t i j k = rw (first i, j, k) (taken _ _ e t)

  pub bad-list-cut : {f : ℕ} → CutAt s at len bad_list_fields f → Err (refusal Why.Inside f) ≡ bad_list_at s at len
  unfolding bad_list_at extent
  bad-list-cut c = cut-counted bad_list_fields Why.Count 4 _ (unmet _ c.short) c

  pub bad-list-not :
      {b : Bool} → b ≡ bad_list_fits (u32_at s (at + 4)) (u32_at s (at + 8)) len → b ≡ false → 12 ≤ len
      → Err (refusal Why.Count (offset_in s at 4)) ≡ bad_list_at s at len
  unfolding bad_list_at bad_list_fits extent
  bad-list-not e t h = miscounted bad_list_fields Why.Count 4 _ e t h

  -- a region and the number behind it
  pub counted_is : {r : Region} {n : ℕ} → 36 ≤ len → r ≡ region_at s at → n ≡ u32_at s (at + 32) → Ok (record { region = r; n = n }) ≡ counted_in s at len
  unfolding counted_in
  counted_is h i j = simp (le-leb _ _ h, i, j)

  pub counted-cut : {f : ℕ} → CutAt s at len counted_fields f → Err (cut f) ≡ counted_in s at len
  unfolding counted_in extent
  counted-cut c = simp (lt-leb 36 len c.short, c.place)

  pub is-counted :
      {x : Result Counted Cut} {d : Counted} → x ≡ counted_in s at len → x ≡ Ok d
      → (36 ≤ len) × (d.region ≡ region_at s at) × (d.n ≡ u32_at s (at + 32))
  unfolding counted_in
  is-counted {x} {d} e f = go (leb 36 len) refl (sym e ∙ f)
    where
      go :
          (b : Bool) → leb 36 len ≡ b
          → cond {A = Result Counted Cut} b (Ok (record { region = region_at s at; n = u32_at s (at + 32) })) (Err (cut (offset_in s at (first_cut counted_fields len)))) ≡ Ok d
          → (36 ≤ len) × (d.region ≡ region_at s at) × (d.n ≡ u32_at s (at + 32))
      go true t q = (leb-true _ _ t, cc, cc)
      go false t q = absurd (let z : ◌≡◌ {A = ℕ} 0 1 = cc in omega arith)

  pub cut-counted-at : {x : Result Counted Cut} {d : Cut} → x ≡ counted_in s at len → x ≡ Err d → CutAt s at len counted_fields d.at
  unfolding counted_in extent
  cut-counted-at {x} {d} e g = go (leb 36 len) refl (sym e ∙ g)
    where
      go :
          (b : Bool) → leb 36 len ≡ b
          → cond {A = Result Counted Cut} b (Ok (record { region = region_at s at; n = u32_at s (at + 32) })) (Err (cut (offset_in s at (first_cut counted_fields len)))) ≡ Err d
          → CutAt s at len counted_fields d.at
      go true t q = absurd (let z : ◌≡◌ {A = ℕ} 0 1 = cc in omega arith)
      go false t q = record { short = leb-false _ _ t; place = cc }

  pub values-read :
      (size : ℕ) (op : Region → ℕ → Opcode) {b : Bool} {r : Region} {n : ℕ} → b ≡ values_fit size (u32_at s (at + 32)) len → b ≡ true
      → r ≡ region_at s at → n ≡ u32_at s (at + 32) → Ok (op r n) ≡ counted_at size op s at len
  unfolding counted_at values_fit
  values-read size op e t i j = rw (i, j) (taken _ _ e t)

  pub values-cut :
      (size : ℕ) (op : Region → ℕ → Opcode) {f : ℕ} → CutAt s at len counted_fields f
      → Err (refusal Why.Inside f) ≡ counted_at size op s at len
  unfolding counted_at extent
  values-cut size op c = cut-counted counted_fields Why.Count 32 _ (unmet _ c.short) c

  pub values-not :
      (size : ℕ) (op : Region → ℕ → Opcode) {b : Bool} → b ≡ values_fit size (u32_at s (at + 32)) len → b ≡ false → 36 ≤ len
      → Err (refusal Why.Count (offset_in s at 32)) ≡ counted_at size op s at len
  unfolding counted_at values_fit extent
  values-not size op e t h = miscounted counted_fields Why.Count 32 _ e t h

  pub degree-read :
      {b : Bool} {r : Region} {d : ℕ} → b ≡ degree_fits (u32_at s (at + 32)) len → b ≡ true → r ≡ region_at s at → d ≡ u32_at s (at + 32)
      → Ok (MapPolynomial r d) ≡ polynomial_at s at len
  unfolding polynomial_at degree_fits
  degree-read e t i j = rw (i, j) (taken _ _ e t)

  pub degree-cut : {f : ℕ} → CutAt s at len counted_fields f → Err (refusal Why.Inside f) ≡ polynomial_at s at len
  unfolding polynomial_at extent
  degree-cut c = cut-counted counted_fields _ 32 _ (unmet _ c.short) c

  pub degree-not :
      {b : Bool} {d : ℕ} {r : Reason} → b ≡ degree_fits (u32_at s (at + 32)) len → b ≡ false → 36 ≤ len → d ≡ u32_at s (at + 32)
      → r ≡ cond (leb d 8) Why.Count Why.Degree → Err (refusal r (offset_in s at 32)) ≡ polynomial_at s at len
  unfolding polynomial_at degree_fits extent
  degree-not e t h i j = rw (j, i) (miscounted counted_fields _ 32 _ e t h)

  pub gain-read :
      {b : Bool} {r : Region} {v h m : ℕ} {g : Grid} → b ≡ gains_fit (gains_at s at) len → b ≡ true → r ≡ region_at s at
      → v ≡ u32_at s (at + 32) → h ≡ u32_at s (at + 36) → g ≡ grid_at s (at + 40) → m ≡ u32_at s (at + 72)
      → Ok (GainMap r v h g m) ≡ gain_at s at len
  unfolding gain_at gains_fit
  gain-read e t i j k l m = rw (i, j, k, l, m) (taken _ _ e t)

  pub gain-cut : {f : ℕ} → CutAt s at len gain_fields f → Err (refusal Why.Inside f) ≡ gain_at s at len
  unfolding gain_at extent
  gain-cut c = cut-counted gain_fields Why.Count 32 _ (unmet _ c.short) c

  pub gain-not :
      {b : Bool} → b ≡ gains_fit (gains_at s at) len → b ≡ false → 76 ≤ len
      → Err (refusal Why.Count (offset_in s at 32)) ≡ gain_at s at len
  unfolding gain_at gains_fit extent
  gain-not e t h = miscounted gain_fields Why.Count 32 _ e t h
