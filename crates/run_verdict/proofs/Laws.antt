-- One entry more means one test more, and no entry more means that all were settled; m2 by what was told of it. Assumes nothing.
use Prim.Native.Nat.{ℕ}
use mathlib.Core.Path.{◌≡◌, refl, sym, ap, ◌∙◌}
use mathlib.Core.Bool.{Bool, true, false, ◌&&◌, ◌||◌, cond}
use mathlib.Core.List.{List, [], ◌∷◌}
use lib.Ieee.{Float}
use borrow.Author.Tests.{eq-eqb, ne_eqb}
use Rattle.dng.specs.declared.Entry.{Entry}
use Rattle.dng.specs.declared.Opcode.{Opcode}
use Rattle.dng.specs.List.{Item, preview_of, optional_of}
use Rattle.dng.specs.Value.{usable}
use Rattle.dng.specs.Run.{kept_of}
use Rattle.std.specs.Prelude.{Some, None, is_some}
use Rattle.row_vignette.specs.Reach.{reach_of}
use Rattle.run_verdict.specs.Verdict.{had_effect, whole_items, whole_list, whole_frame}

-- ---- m2

-- it is told exactly where it is usable
pub told : (m : Float) → is_some (reach_of m) ≡ usable m
unfolding reach_of
told m = go (usable m)
  where
    go : (b : Bool) → is_some (cond b (Some m) None) ≡ b
    go true = refl
    go false = refl

-- ---- the entries

module _ (fw fh : ℕ) (preview : Bool) where
  one :
      (d : Bool) (i : Item) (rest : List Item) {b : Bool} → b ≡ (d || (optional_of i.entry || had_effect fw fh i.op))
      → whole_items fw fh (cond d rest (i ∷ rest)) ≡ (b && whole_items fw fh rest)
  unfolding whole_items
  one true i rest h = ap (λ (b : Bool). b && whole_items fw fh rest) (sym h)
  one false i rest h = ap (λ (b : Bool). b && whole_items fw fh rest) (sym h)

  module _ (e : Entry) (op : Opcode) {is rest : List Item} (more : is ≡ record { entry = e; op = op } ∷ rest) {b : Bool}
      (h : b ≡ ((preview && preview_of e) || (optional_of e || had_effect fw fh op))) where
    split : whole_items fw fh (kept_of preview is) ≡ (b && whole_items fw fh (kept_of preview rest))
    unfolding kept_of
    split =
        ap (λ (l : List Item). whole_items fw fh (kept_of preview l)) more
        ∙ one (preview && preview_of e) (record { entry = e; op = op }) (kept_of preview rest) h

    pub settled : b ≡ true → whole_items fw fh (kept_of preview rest) ≡ whole_items fw fh (kept_of preview is)
    settled t = sym (split ∙ ap (λ (c : Bool). c && whole_items fw fh (kept_of preview rest)) t)

    pub unsettled : b ≡ false → false ≡ whole_items fw fh (kept_of preview is)
    unsettled f = sym (split ∙ ap (λ (c : Bool). c && whole_items fw fh (kept_of preview rest)) f)

  pub none : {is : List Item} → is ≡ [] → true ≡ whole_items fw fh (kept_of preview is)
  unfolding whole_items kept_of
  none h = sym (ap (λ (l : List Item). whole_items fw fh (kept_of preview l)) h)

  -- ---- the frame

  module _ (list : List ℕ) (number : ℕ) where
    pub done : number ≡ 0 → {b : Bool} → b ≡ whole_list fw fh preview list → b ≡ whole_frame fw fh preview list number
    done z h = h ∙ sym (ap (λ (d : Bool). d && whole_list fw fh preview list) (eq-eqb number 0 z))

    pub refused : (number ≡ 0 → ⊥) → false ≡ whole_frame fw fh preview list number
    refused z = sym (ap (λ (d : Bool). d && whole_list fw fh preview list) (ne_eqb number 0 z))
