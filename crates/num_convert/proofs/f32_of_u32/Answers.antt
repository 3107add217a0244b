-- `num_convert::f32_of_u32` meets its contract: the f64 holds the number, so that the one rounding is `narrow`'s.
use mathlib.Core.Path.{◌∙◌}
use native.Mathlib.Omega.{arith}
use Rattle.num_convert.proofs.Laws.{narrow-whole}
use Rattle.num_convert.proofs.f32_of_u32.Goals as goal

pub returns : goal.returns
returns c = c.to_f32.ensures ∙ narrow-whole c.args.n (omega arith)
