-- What one item more means to the buffer that holds the names. Over what is skipped. Assumes nothing.
use mathlib.Core.Path.{◌≡◌, refl, sym, ap, ap₂, ◌∙◌}
use mathlib.Core.Bool.{Bool, true, false, not, ◌&&◌, cond}
use mathlib.Core.List.{List, [], ◌∷◌}
use Prim.Native.Nat.{ℕ, ◌+◌, ◌≤◌}
use native.Mathlib.Nat.{add-zero, zero-add}
use native.Mathlib.Numerals.{add-one}
use lib.ListN.{length, set}
use lib.Seq.{sets, sets-eq, set_out}
use Rattle.dng.specs.declared.Entry.{Entry}
use Rattle.dng.specs.declared.Opcode.{Opcode}
use Rattle.dng.specs.List.{Item, preview_of}
use Rattle.dng.specs.declared.Class.{Class}
use Rattle.dng.specs.Run.{kept_of, class_of, name_of, names_of}
use Rattle.dng.specs.Answer.{written}

-- ---- one store, made or not

module _ (k : Bool) (names : List ℕ) (j x : ℕ) where
  pub stored : {y : ℕ} → k ≡ true → y ≡ x → set names j y ≡ cond k (set names j x) names
  stored t e = simp (t, e)

  pub not-stored : k ≡ false → names ≡ cond k (set names j x) names
  not-stored t = simp t

pub no_room : (k : Bool) (names : List ℕ) (j x : ℕ) → length names ≤ j → names ≡ cond k (set names j x) names
no_room true names j x h = sym (set_out names j x h)
no_room false names j x h = refl

-- ---- one item

by :
    (k : Bool) (names : List ℕ) (j x : ℕ) (r : List ℕ)
    → sets (cond k (set names j x) names) (j + cond k 1 0) r ≡ sets names j (cond k (x ∷ r) r)
by true names j x r = ap (λ (i : ℕ). sets (set names j x) i r) (add-one j)
by false names j x r = ap (λ (i : ℕ). sets names i r) (add-zero j)

-- an entry is dropped, or it is the first of those that are left
one :
    (skip : Class → Bool) (d : Bool) (i : Item) (rest : List Item)
    → cond (not d && skip (class_of i.op)) (name_of i.op ∷ names_of skip rest) (names_of skip rest) ≡ names_of skip (cond d rest (i ∷ rest))
unfolding names_of
one skip true i rest = refl
one skip false i rest = refl

module _ (preview : Bool) (skip : Class → Bool) (e : Entry) (op : Opcode) {is rest : List Item} (more : is ≡ record { entry = e; op = op } ∷ rest)
    {b : Bool} {d : ℕ} (h : b ≡ (not (preview && preview_of e) && skip (class_of op))) (i : d ≡ cond b 1 0) where
  pub put-more :
      (names : List ℕ) (j : ℕ) {names' : List ℕ} → names' ≡ cond b (set names j (name_of op)) names
      → sets names' (j + d) (names_of skip (kept_of preview rest)) ≡ sets names j (names_of skip (kept_of preview is))
  unfolding kept_of
  put-more names j p =
      ap₂ (λ (l : List ℕ) (n : ℕ). sets l (j + n) (names_of skip (kept_of preview rest))) p i
      ∙ by b names j (name_of op) (names_of skip (kept_of preview rest))
      ∙ ap (λ (k : Bool). sets names j (cond k (name_of op ∷ names_of skip (kept_of preview rest)) (names_of skip (kept_of preview rest)))) h
      ∙ ap (λ (l : List ℕ). sets names j l) (one skip (preview && preview_of e) (record { entry = e; op = op }) (kept_of preview rest))
      ∙ sym (ap (λ (l : List Item). sets names j (names_of skip (kept_of preview l))) more)

-- ---- no item more

pub none : (preview : Bool) (skip : Class → Bool) {is : List Item} → is ≡ [] → names_of skip (kept_of preview is) ≡ []
unfolding names_of kept_of
none preview skip e = ap (λ (l : List Item). names_of skip (kept_of preview l)) e

-- ---- all names, for a caller who has asked for room

pub with-room : (l b : List ℕ) → length l ≤ length b → sets b 0 l ≡ written l b
with-room l b h = sets-eq l b 0 (rw zero-add h) ∙ simp zero-add
