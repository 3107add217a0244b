-- `try_call::put_pair` meets its contract. Assumes nothing.
use Prim.Native.Nat.{ℕ}
use mathlib.Core.Path.{ap₂, ◌∙◌}
use mathlib.Core.List.{[], ◌∷◌, ◌++◌}
use native.Mathlib.Omega.{arith}
use lib.ListN.{take, length-set}
use Rattle.try_call.proofs.Laws.{pair_put}
use Rattle.try_call.proofs.put_pair.Goals as goal

pub bounds-text-at-2 : goal.bounds-text-at-2
bounds-text-at-2 c = simp length-set (omega arith)

pub returns : goal.returns
returns c = pair_put _ _ _ _ c.requires
    ∙ ap₂ (λ (x y : ℕ). take c.args.at c.args.text.now ++ (x ∷ y ∷ [])) c.digit.ensures
    c.digit-2.ensures
