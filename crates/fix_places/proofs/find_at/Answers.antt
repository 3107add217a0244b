-- `fix_places::find_at` meets its contract: what the entry shows, or the search. Assumes nothing.
use Prim.Native.Nat.{ℕ}
use mathlib.Core.List.{List}
use mathlib.Core.Path.{◌≡◌, sym, subst}
use native.Mathlib.Nat.{le_refl}
use lib.ListN.{length, take}
use lib.Seq.{take-length}
use Rattle.num_sorted.specs.Sorts.{has, Rises}
use Rattle.fix_places.proofs.find_at.Goals as goal

pub returns-then-stands : goal.returns-then-stands
returns-then-stands c = sym (c.stands.ensures c.if-stands.true)

pub returns-then-free : goal.returns-then-free
returns-then-free c = sym (c.free.ensures c.if-free.true _ (le_refl _) (le_refl _))

pub returns : goal.returns
returns c =
    let a = c.args in
    let whole : take (length a.marks.now) a.marks.now ≡ a.marks.now = take-length a.marks.now in
    subst (λ (l : List ℕ). Rises 0 l → c.find.result ≡ has l a.q) whole (c.find.ensures (le_refl _)) c.requires
