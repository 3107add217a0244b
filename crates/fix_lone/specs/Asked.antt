-- What is asked of a mark has at most one proof, so that a struct may hold it.
use Rattle.std.specs.Prelude.{ℕ, List, [], ◌∷◌}
use Rattle.std.specs.Coded.{×_prop, Unit-prop, le_prop}
use Rattle.dng.specs.declared.Window.{Window}
use Rattle.num_sorted.specs.Sorts.{Rises}
use Rattle.fix_near.specs.Looks.{AsksMark}

pub Rises-prop : (a : ℕ) (l : List ℕ) → IsProp (Rises a l)
unfolding Rises
Rises-prop a [] = Unit-prop
Rises-prop a (x ∷ l) = ×_prop le_prop (Rises-prop _ l)

pub AsksMark-prop : (marks : List ℕ) (w : Window) (period i : ℕ) → IsProp (AsksMark marks w period i)
AsksMark-prop marks w period i = hlevel (le_prop, Rises-prop)
