-- The offset of a refusal lies in the list, or is its length. In an entry of a list it is the field's own place: the list's end holds nothing.
-- Assumes nothing.
use mathlib.Core.Path.{◌≡◌, refl, ap, subst}
use mathlib.Core.Bool.{Bool, true, false, ◌&&◌, cond}
use mathlib.Core.List.{List}
use Prim.Native.Nat.{ℕ, zero, suc, ◌+◌, ◌-◌, ◌*◌, ◌≤◌, max, zero-le}
use native.Mathlib.Nat.{min-eq_left, min-le_right, le_trans}
use native.Mathlib.Omega.{arith}
use borrow.Author.Tests.{le-leb, leb-true}
use lib.Dec.{leb, eqb}
use lib.ListN.{length}
use Rattle.dng.specs.declared.Cursor.{Cursor}
use Rattle.dng.specs.declared.Region.{Region}
use Rattle.dng.specs.declared.Opcode.{Opcode}
use Rattle.dng.specs.declared.Opcode.TheVariants.{MapTable, DeltaPerRow, DeltaPerColumn, ScalePerRow, ScalePerColumn}
use Rattle.dng.specs.declared.Reason.{Reason}
use Rattle.dng.specs.declared.Reason.TheVariants as Why
use Rattle.dng.specs.declared.Refusal.{Refusal}
use Rattle.dng.specs.declared.Found.{Found}
use Rattle.dng.specs.declared.Step.{Step}
use Rattle.std.specs.Prelude.{Result, Ok, Err}
use Rattle.dng.specs.List.{u32_at, refusal, offset_in, extent, first_cut, header_fields, vignette_fields, constant_fields, bad_list_fields, trim_fields, counted_fields, gain_fields, region_at, header_at, header_why, next_at, inside_why, field_why}
use Rattle.dng.specs.List.{vignette_at, constant_at, bad_list_at, trim_at, counted_at, polynomial_at, gain_at, parsed_at, step_on, step_of, step_at, why_on, why_from, why_of, malformed, reading_of}
use Rattle.dng.proofs.Cuts.{cut-bound}
use Rattle.list_read.proofs.Fold.{refused}

-- ---- a body that lies in the list: the place itself

module _ (s : List ℕ) (at len : ℕ) (h : at + len ≤ length s) where
  pub exact : (k : ℕ) → k ≤ len → offset_in s at k ≡ at + k
  exact k l = min-eq_left (omega arith)

  pub exact-inside : (fields : List ℕ) → inside_why fields s at len ≡ refusal Why.Inside (at + first_cut fields len)
  unfolding inside_why
  exact-inside fields = ap (refusal Why.Inside) (exact (first_cut fields len) (cut-bound fields len))

  pub exact-field :
      (fields : List ℕ) (r : Reason) (k : ℕ) → k ≤ extent fields → extent fields ≤ len
      → field_why fields r k s at len ≡ refusal r (at + k)
  unfolding field_why
  exact-field fields r k l m = simp (le-leb _ _ m) (ap (refusal r) (exact k (le_trans l m)))

-- ---- any body, any entry: not past the list's end

abbrev InList : List ℕ → Result Opcode Refusal → Type 0
InList s (Ok op) = Unit
InList s (Err why) = why.at ≤ length s

-- kept shut, so that a case of `cond` shows which body it is of
pub record Held (s : List ℕ) (p : Result Opcode Refusal) : Type 0 where
  pub holds : InList s p

module _ (s : List ℕ) (at len : ℕ) where
  read : (op : Opcode) → Held s (Ok op)
  read op = record { holds = tt }

  either : (b : Bool) {x y : Result Opcode Refusal} → Held s x → Held s y → Held s (cond b x y)
  either true h i = h
  either false h i = i

  inside-held : (fields : List ℕ) → (inside_why fields s at len).at ≤ length s
  unfolding inside_why
  inside-held fields = min-le_right (at + first_cut fields len) (length s)

  field-held : (fields : List ℕ) (r : Reason) (k : ℕ) → (field_why fields r k s at len).at ≤ length s
  unfolding field_why
  field-held fields r k = go (leb (extent fields) len)
    where
      go : (b : Bool) → (cond b (refusal r (offset_in s at k)) (inside_why fields s at len)).at ≤ length s
      go true = min-le_right (at + k) (length s)
      go false = inside-held fields

  cut-held : (fields : List ℕ) → Held s (Err (inside_why fields s at len))
  cut-held fields = record { holds = inside-held fields }

  not-held : (fields : List ℕ) (r : Reason) (k : ℕ) → Held s (Err (field_why fields r k s at len))
  not-held fields r k = record { holds = field-held fields r k }

  vignette-held : Held s (vignette_at s at len)
  unfolding vignette_at
  vignette-held = either (leb 56 len) (read _) (cut-held vignette_fields)

  constant-held : Held s (constant_at s at len)
  unfolding constant_at
  constant-held = either (leb 8 len) (read _) (cut-held constant_fields)

  trim-held : Held s (trim_at s at len)
  unfolding trim_at
  trim-held = either (leb 16 len) (read _) (cut-held trim_fields)

  bad-list-held : Held s (bad_list_at s at len)
  unfolding bad_list_at
  bad-list-held =
      either (leb 12 len && leb (12 + (8 * u32_at s (at + 4) + 16 * u32_at s (at + 8))) len) (read _) (not-held bad_list_fields Why.Count 4)

  counted-held : (size : ℕ) (op : Region → ℕ → Opcode) → Held s (counted_at size op s at len)
  unfolding counted_at
  counted-held size op =
      let n = u32_at s (at + 32) in
      either (leb 36 len && (leb n 16777216 && leb (36 + size * n) len)) (read (op (region_at s at) n)) (not-held counted_fields Why.Count 32)

  polynomial-held : Held s (polynomial_at s at len)
  unfolding polynomial_at
  polynomial-held =
      let d = u32_at s (at + 32) in
      either (leb 36 len && (leb d 8 && leb (36 + 8 * (d + 1)) len)) (read _)
      (not-held counted_fields (cond (leb d 8) Why.Count Why.Degree) 32)

  gain-held : Held s (gain_at s at len)
  unfolding gain_at
  gain-held =
      let total = u32_at s (at + 32) * u32_at s (at + 36) * max (u32_at s (at + 72)) 1 in
      either (leb 76 len && (leb 1 total && (leb total 16777216 && leb (76 + 4 * total) len))) (read _) (not-held gain_fields Why.Count 32)

  parsed-held : (id : ℕ) → Held s (parsed_at s id at len)
  unfolding parsed_at
  parsed-held id =
      either (eqb id 1) (read _)
      (either (eqb id 2) (read _)
      (either (eqb id 3) vignette-held
      (either (eqb id 4) constant-held
      (either (eqb id 5) bad-list-held
      (either (eqb id 6) trim-held
      (either (eqb id 7) (counted-held 2 MapTable)
      (either (eqb id 8) polynomial-held
      (either (eqb id 9) gain-held
      (either (eqb id 10) (counted-held 4 DeltaPerRow)
      (either (eqb id 11) (counted-held 4 DeltaPerColumn)
      (either (eqb id 12) (counted-held 4 ScalePerRow)
      (either (eqb id 13) (counted-held 4 ScalePerColumn)
      (read _)))))))))))))

-- the entry at a cursor that lies in the list: so does the next cursor, or the refusal
unfoldable HeldNext : List ℕ → Result Found Refusal → Type 0
HeldNext s (Ok f) = f.next.at ≤ length s
HeldNext s (Err why) = why.at ≤ length s

unfoldable HeldStep : List ℕ → Result Step Refusal → Type 0
HeldStep s (Ok i) = i.next.at ≤ length s
HeldStep s (Err why) = why.at ≤ length s

module _ (s : List ℕ) where
  header-held : (at : ℕ) → at ≤ length s → (header_why s at).at ≤ length s
  unfolding header_why
  header-held at h = go (leb (at + 16) (length s)) (λ t. leb-true _ _ t)
    where
      go :
          (b : Bool) → (b ≡ true → at + 16 ≤ length s)
          → (cond b (refusal Why.TooLong (at + 12)) (refusal Why.Ends (at + first_cut header_fields (length s - at)))).at ≤ length s
      go true l = let m : at + 16 ≤ length s = l refl in omega arith
      go false l = omega (arith, cut-bound header_fields (length s - at))

  next-held : (c : Cursor) → c.at ≤ length s → HeldNext s (next_at s c)
  unfolding next_at HeldNext
  next-held c h = go (leb (c.at + 16) (length s)) (leb (c.at + 16 + u32_at s (c.at + 12)) (length s)) (λ t. leb-true _ _ t)
    where
      go :
          (a b : Bool) → (b ≡ true → c.at + 16 + u32_at s (c.at + 12) ≤ length s)
          → HeldNext s (cond {A = Result Found Refusal} (a && b) (Ok (record { entry = header_at s c.at; next = record { at = c.at + 16 + u32_at s (c.at + 12) } }))
          (Err (header_why s c.at)))
      go true true l = l refl
      go true false l = header-held c.at h
      go false b l = header-held c.at h

  body-held : (f : Found) (p : Result Opcode Refusal) → f.next.at ≤ length s → Held s p → HeldStep s (step_on f p)
  unfolding HeldStep
  body-held f (Ok op) h i = h
  body-held f (Err why) h i = i.holds

  found-held : (n : Result Found Refusal) → HeldNext s n → HeldStep s (step_of s n)
  unfolding HeldStep HeldNext
  found-held (Ok f) h =
      let e = f.entry in body-held f (parsed_at s e.id e.at e.len) h (parsed-held s e.at e.len e.id)
  found-held (Err why) h = h

  step-held : (c : Cursor) → c.at ≤ length s → HeldStep s (step_at s c)
  unfolding step_at
  step-held c h = found-held (next_at s c) (next-held c h)

  on-held :
      (rest : Cursor → Refusal) → ((next : Cursor) → next.at ≤ length s → (rest next).at ≤ length s) → (r : Result Step Refusal) → HeldStep s r
      → (why_on rest r).at ≤ length s
  unfolding HeldStep
  on-held rest h (Ok k) i = h k.next i
  on-held rest h (Err why) i = i

  from-held : (n : ℕ) (c : Cursor) → c.at ≤ length s → (why_from s n c).at ≤ length s
  unfolding why_from
  from-held zero c h = zero-le
  from-held (suc n) c h = on-held (λ (next : Cursor). why_from s n next) (λ next. from-held n next) (step_at s c) (step-held c h)

  why-held : (why_of s).at ≤ length s
  unfolding why_of
  why-held = go (leb 4 (length s)) (leb (u32_at s 0) 4096) (λ t. leb-true _ _ t)
    where
      go :
          (a b : Bool) → (a ≡ true → 4 ≤ length s)
          → (cond a (cond b (why_from s (u32_at s 0) (record { at = 4 })) (refusal Why.TooMany 0)) (refusal Why.Ends 0)).at ≤ length s
      go true true l = from-held (u32_at s 0) (record { at = 4 }) (l refl)
      go true false l = zero-le
      go false b l = zero-le

-- of a list that is refused
pub offset-held : (s : List ℕ) {k : ℕ} {why : Refusal} → reading_of s ≡ Err (malformed k why) → why.at ≤ length s
offset-held s e = subst (λ (w : Refusal). w.at ≤ length s) (refused s e).1 (why-held s)
