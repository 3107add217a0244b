-- The promises of specs/Promises, proved. Assumes nothing.
use Prim.Native.Nat.{ℕ, ◌+◌, ◌≤◌}
use mathlib.Core.Bool.{Bool, true, false}
use mathlib.Core.List.{List}
use mathlib.Core.Path.{◌≡◌, refl, sym, ◌∙◌}
use native.Mathlib.Omega.{arith}
use lib.ListN.{length, length-take, length-drop}
use Rattle.list_find.specs.declared.Which.{Which}
use Rattle.std.specs.Prelude.{Err}
use Rattle.list_find.specs.declared.FindError.TheVariants.{NotTiff}
use Rattle.list_find.specs.Walk.{At, headed, found_in}
use Rattle.list_find.specs.Promises.{Promises}
use Rattle.list_find.proofs.Fine.{found_none, found-lies}

inside : (s : List ℕ) (which : Which) (start len : ℕ) → found_in s which ≡ At start len → start + len ≤ length s
inside s which start len e = go (headed s) refl
  where
    go : (b : Bool) → headed s ≡ b → start + len ≤ length s
    go true h = let l = found-lies s which h in rw e at l
    go false h = let n = found_none s which refl h in let z : ◌≡◌ {A = ℕ} 0 1 = cc in absurd (omega arith)

tiff : (s : List ℕ) (which : Which) → found_in s which ≡ Err NotTiff → headed s ≡ false
tiff s which e = go (headed s) refl
  where
    go : (b : Bool) → headed s ≡ b → headed s ≡ false
    go true h = let l = found-lies s which h in absurd (rw e at l)
    go false h = h

pub promises : Promises
promises =
    record {
      determined = λ s which a b p q. p ∙ sym q;
      inside = inside;
      handed = λ s which start len e. let h = inside s which start len e in simp (length-take, length-drop) (omega arith);
      tiff = λ s which. (tiff s which, λ h. sym (found_none s which refl h));
    }
