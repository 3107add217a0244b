-- `black` meets its contract: done, or refused. Assumes nothing.
use mathlib.Core.Path.{sym, ap, ◌∙◌}
use Rattle.std.specs.Prelude.{Err}
use Rattle.std.proofs.lemmas.Result.{err_from_is_err_and}
use Rattle.row_black.specs.Black.{levels_in}
use Rattle.row_black.proofs.Calls.{called, refused}
use Rattle.row_black.proofs.black.Goals as goal

pub returns-in_err-answer : goal.returns-in_err-answer
returns-in_err-answer g c =
    let r = err_from_is_err_and c.from_residual.result c.from_residual.ensures.1 in
    refused g.S.Sample.none g.S.Sample.to_float c.args.f (levels_in c.args.lent) c.args.input.now c.args.out.now (r.1 ∙ ap Err r.2)
    (c.in_err-answer.ensures {u = tt})

pub all_rows-requires : goal.all_rows-requires
all_rows-requires g c = sym (c.in_ok-answer.ensures {u = tt})

pub returns : goal.returns
returns g c =
    called g.S.Sample.none g.S.Sample.to_float c.args.f (levels_in c.args.lent) c.args.input.now c.args.out.now
    (c.in_ok-answer.ensures {u = tt}) c.all_rows.ensures
