-- What a `?` returns, where the error's `From` says which error it gives. Assumes nothing.
use mathlib.Core.Path.{◌≡◌, ap, ◌∙◌}
use Rattle.std.specs.Prelude.{Result, Err, IsErrAnd}
use Rattle.std.proofs.lemmas.Result.{err_from_is_err_and}

pub exit : {A E : Type 0} {r : Result A E} {e : E} → IsErrAnd r (λ (x : E). x ≡ e) → r ≡ Err e
exit {r = r} h = let p = err_from_is_err_and r h in p.1 ∙ ap Err p.2
