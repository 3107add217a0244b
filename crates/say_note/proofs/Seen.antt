-- The flags of the names that have appeared, one for every byte. Assumes nothing.
use Prim.Native.Nat.{ℕ, ◌+◌, ◌<◌}
use mathlib.Core.Path.{◌≡◌, refl, sym, ap, ◌∙◌}
use mathlib.Core.Bool.{Bool, true, false, cond}
use mathlib.Core.List.{List, [], ◌∷◌, ◌++◌}
use native.Mathlib.Omega.{arith}
use native.Mathlib.Numerals.{add-one}
use borrow.Author.Tests.{eqb-true, eqb-false, lt-ltb}
use lib.Dec.{eqb, ltb}
use lib.ListN.{length, length-set, length-replicate, get_or, get_or-replicate, set, replicate, take}
use lib.Seq.{take-suc, get_or-set_same, get_or-set_other}
use Rattle.say_note.specs.Note.{occurs}
use Rattle.say_note.proofs.Parts.{occurs-append}

-- a flag is set where its name occurs in ns
pub record Seen (flags : List Bool) (ns : List ℕ) : Type 0 where
  pub size : length flags ≡ 256
  pub flag : (x : ℕ) → x < 256 → get_or flags x false ≡ ltb 0 (occurs x ns)

pub seen_none : Seen (replicate 256 false) []
unfolding occurs
seen_none = record { size = length-replicate 256 false; flag = λ x h. get_or-replicate 256 x false false h }

-- one name more
module _ {flags : List Bool} {ns : List ℕ} (s : Seen flags ns) (n : ℕ) (b : n < 256) where
  alone : (x : ℕ) (t : Bool) → eqb n x ≡ t → occurs x (n ∷ []) ≡ cond t 1 0
  unfolding occurs
  alone x t e = rw e (omega arith)

  flag-more : (x : ℕ) → x < 256 → (t : Bool) → eqb n x ≡ t → get_or (set flags n true) x false ≡ ltb 0 (occurs x (ns ++ (n ∷ [])))
  flag-more x h true e =
      let q : n ≡ x = eqb-true n x e in
      let o : 0 < occurs x (ns ++ (n ∷ [])) = omega (arith, occurs-append x ns (n ∷ []), alone x true e) in
      ap (λ (y : ℕ). get_or (set flags n true) y false) (sym q) ∙ get_or-set_same flags n true false (omega (arith, s.size)) ∙ sym (lt-ltb 0 _ o)
  flag-more x h false e =
      let q = eqb-false n x e in
      let o : occurs x (ns ++ (n ∷ [])) ≡ occurs x ns = omega (arith, occurs-append x ns (n ∷ []), alone x false e) in
      get_or-set_other flags n x true false (λ y. q (sym y)) ∙ s.flag x h ∙ ap (ltb 0) (sym o)

  seen_one : Seen (set flags n true) (ns ++ (n ∷ []))
  seen_one = record { size = length-set flags n true ∙ s.size; flag = λ x h. flag-more x h (eqb n x) refl }

pub seen_more :
    {flags : List Bool} (ns : List ℕ) (k : ℕ) → k < length ns → get_or ns k 0 < 256 → Seen flags (take k ns)
    → Seen (set flags (get_or ns k 0) true) (take (k + 1) ns)
seen_more {flags} ns k h b s = rw (ap (λ (n : ℕ). take n ns) (add-one k) ∙ take-suc ns k 0 h) (seen_one s (get_or ns k 0) b)
