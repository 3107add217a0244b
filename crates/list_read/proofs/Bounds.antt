-- What holds of an entry that was read whole: its counts are bounded, its body lies inside the list, and the next entry starts after it.
-- Assumes nothing.
use mathlib.Core.Path.{◌≡◌, refl, sym, ◌∙◌, subst}
use mathlib.Core.Bool.{Bool, true, false, ◌&&◌, cond}
use mathlib.Core.List.{List}
use Prim.Native.Nat.{ℕ, ◌+◌, ◌*◌, ◌≤◌, max}
use borrow.Author.Tests.{leb-true}
use lib.Dec.{leb, eqb}
use lib.ListN.{length}
use Rattle.dng.specs.declared.Cursor.{Cursor}
use Rattle.dng.specs.declared.Region.{Region}
use Rattle.dng.specs.declared.Opcode.{Opcode}
use Rattle.dng.specs.declared.Opcode.TheVariants.{WarpFisheye, FixVignetteRadial, FixBadPixelsConstant, FixBadPixelsList, TrimBounds, MapTable, MapPolynomial, GainMap, DeltaPerRow, DeltaPerColumn, ScalePerRow, ScalePerColumn, Other}
use Rattle.dng.specs.declared.Refusal.{Refusal}
use Rattle.dng.specs.declared.Found.{Found}
use Rattle.dng.specs.declared.Step.{Step}
use Rattle.std.specs.Prelude.{Result, Ok, Err}
use Rattle.dng.specs.List.{u32_at, region_at, grid_at, given, header_at, header_why, next_at, warp_at, vignette_at, constant_at, bad_list_at, trim_at, counted_at, polynomial_at, gain_at, parsed_at, step_on, step_of, step_at, items_of, Item}
use Rattle.dng.specs.Bounds.{bounded}
use Rattle.list_read.proofs.Fold.{All, every-item}

-- ---- a body that was read has bounded counts

abbrev pub bounded_in : Result Opcode Refusal → Bool
bounded_in (Ok op) = bounded op
bounded_in (Err why) = true

pub record Bounded (p : Result Opcode Refusal) : Type 0 where
  pub holds : bounded_in p ≡ true

either : (b : Bool) {x y : Result Opcode Refusal} → Bounded x → Bounded y → Bounded (cond b x y)
either true h i = h
either false h i = i

-- an opcode that is bounded whatever its fields are
plain : (op : Opcode) → bounded op ≡ true → Bounded (Ok op)
plain op h = record { holds = h }

nothing : {why : Refusal} → Bounded (Err why)
nothing = record { holds = refl }

-- of a test in three parts the second bounds the count, of one in four the second and the third
three : (a b c : Bool) (o : Opcode) (why : Refusal) → bounded o ≡ b → Bounded (given (a && (b && c)) o why)
three true true true o why h = plain o h
three true true false o why h = nothing
three true false c o why h = nothing
three false b c o why h = nothing

four : (a b c d : Bool) (o : Opcode) (why : Refusal) → bounded o ≡ (b && c) → Bounded (given (a && (b && (c && d))) o why)
four true true true true o why h = plain o h
four true true true false o why h = nothing
four true true false d o why h = nothing
four true false c d o why h = nothing
four false b c d o why h = nothing

either-warp : (b : Bool) (x y : Opcode) → bounded x ≡ true → bounded y ≡ true → Bounded (Ok (cond b x y))
either-warp true x y h i = plain x h
either-warp false x y h i = plain y i

module _ (s : List ℕ) (at len : ℕ) where
  counted-bounded :
      (size : ℕ) (op : Region → ℕ → Opcode) → ((r : Region) (n : ℕ) → bounded (op r n) ≡ leb n 16777216)
      → Bounded (counted_at size op s at len)
  unfolding counted_at
  counted-bounded size op h =
      let n = u32_at s (at + 32) in
      three (leb 36 len) (leb n 16777216) (leb (36 + size * n) len) (op (region_at s at) n) _ (h (region_at s at) n)

  polynomial-bounded : Bounded (polynomial_at s at len)
  unfolding polynomial_at
  polynomial-bounded =
      let d = u32_at s (at + 32) in
      three (leb 36 len) (leb d 8) (leb (36 + 8 * (d + 1)) len) (MapPolynomial (region_at s at) d) _ refl

  gain-bounded : Bounded (gain_at s at len)
  unfolding gain_at
  gain-bounded =
      let v = u32_at s (at + 32) in
      let h = u32_at s (at + 36) in
      let m = u32_at s (at + 72) in
      let total = v * h * max m 1 in
      four (leb 76 len) (leb 1 total) (leb total 16777216) (leb (76 + 4 * total) len)
      (GainMap (region_at s at) v h (grid_at s (at + 40)) m) _ refl

  warp-bounded : Bounded (Ok (warp_at s at len))
  unfolding warp_at
  warp-bounded =
      either-warp (leb 4 len && (leb 1 (u32_at s at) && (leb (u32_at s at) 4 && leb (4 + (6 * u32_at s at + 2) * 8) len))) _ _ refl refl

  bad-list-bounded : Bounded (bad_list_at s at len)
  unfolding bad_list_at
  bad-list-bounded =
      either (leb 12 len && leb (12 + (8 * u32_at s (at + 4) + 16 * u32_at s (at + 8))) len) (plain (FixBadPixelsList _ _ _) refl) nothing

  pub parsed-bounded : (id : ℕ) → Bounded (parsed_at s id at len)
  unfolding parsed_at vignette_at constant_at trim_at
  parsed-bounded id =
      either (eqb id 1) warp-bounded
      (either (eqb id 2) (plain WarpFisheye refl)
      (either (eqb id 3) (either (leb 56 len) (plain (FixVignetteRadial _) refl) nothing)
      (either (eqb id 4) (either (leb 8 len) (plain (FixBadPixelsConstant _ _) refl) nothing)
      (either (eqb id 5) bad-list-bounded
      (either (eqb id 6) (either (leb 16 len) (plain (TrimBounds _ _ _ _) refl) nothing)
      (either (eqb id 7) (counted-bounded 2 MapTable (λ r n. refl))
      (either (eqb id 8) polynomial-bounded
      (either (eqb id 9) gain-bounded
      (either (eqb id 10) (counted-bounded 4 DeltaPerRow (λ r n. refl))
      (either (eqb id 11) (counted-bounded 4 DeltaPerColumn (λ r n. refl))
      (either (eqb id 12) (counted-bounded 4 ScalePerRow (λ r n. refl))
      (either (eqb id 13) (counted-bounded 4 ScalePerColumn (λ r n. refl))
      (plain (Other id) refl)))))))))))))

-- ---- an entry that was read lies inside the list

-- its body, which ends where the next entry starts
pub record Inside (s : List ℕ) (f : Found) : Type 0 where
  pub ends : f.entry.at + f.entry.len ≤ length s
  pub goes_on : f.next.at ≡ f.entry.at + f.entry.len

unfoldable InsideNext : List ℕ → Result Found Refusal → Type 0
InsideNext s (Ok f) = Inside s f
InsideNext s (Err why) = Unit

next-inside : (s : List ℕ) (c : Cursor) → InsideNext s (next_at s c)
unfolding next_at InsideNext
next-inside s c = go (leb (c.at + 16) (length s)) (leb (c.at + 16 + u32_at s (c.at + 12)) (length s)) (λ h. leb-true _ _ h)
  where
    go :
        (a b : Bool) → (b ≡ true → c.at + 16 + u32_at s (c.at + 12) ≤ length s)
        → InsideNext s (cond {A = Result Found Refusal} (a && b) (Ok (record { entry = header_at s c.at; next = record { at = c.at + 16 + u32_at s (c.at + 12) } }))
        (Err (header_why s c.at)))
    go true true h = record { ends = h refl; goes_on = refl }
    go true false h = tt
    go false b h = tt

-- ---- both, of the item that a step returns

pub record Sound (s : List ℕ) (i : Step) : Type 0 where
  pub counts : bounded i.op ≡ true
  pub within : i.entry.at + i.entry.len ≤ length s
  pub goes_on : i.next.at ≡ i.entry.at + i.entry.len

unfoldable SoundStep : List ℕ → Result Step Refusal → Type 0
SoundStep s (Ok i) = Sound s i
SoundStep s (Err why) = Unit

parsed-sound : (s : List ℕ) (f : Found) (p : Result Opcode Refusal) → Inside s f → Bounded p → SoundStep s (step_on f p)
unfolding SoundStep
parsed-sound s f (Ok op) h b = record { counts = b.holds; within = h.ends; goes_on = h.goes_on }
parsed-sound s f (Err why) h b = tt

next-sound : (s : List ℕ) (n : Result Found Refusal) → InsideNext s n → SoundStep s (step_of s n)
unfolding SoundStep InsideNext
next-sound s (Ok f) h =
    let e = f.entry in parsed-sound s f (parsed_at s e.id e.at e.len) h (parsed-bounded s e.at e.len e.id)
next-sound s (Err why) h = tt

pub sound : (s : List ℕ) (c : Cursor) {r : Result Step Refusal} {i : Step} → r ≡ step_at s c → r ≡ Ok i → Sound s i
unfolding step_at SoundStep
sound s c p q = subst (λ (r : Result Step Refusal). SoundStep s r) (sym p ∙ q) (next-sound s (next_at s c) (next-inside s c))

-- ---- both, of every item of a list

pub record SoundItem (s : List ℕ) (i : Item) : Type 0 where
  pub counts : bounded i.op ≡ true
  pub within : i.entry.at + i.entry.len ≤ length s

pub items-sound : (s : List ℕ) → All (SoundItem s) (items_of s)
items-sound s =
    every-item s (SoundItem s)
    (λ c i q. let h = sound s c refl q in record { counts = h.counts; within = h.within })
