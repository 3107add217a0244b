-- All marks in one pass; with none, nothing.
use Rattle.std.proofs.Common.{rules, ◌≡◌, length, arith}
use Rattle.fix_fills.proofs.Passing.{mended-few}
use Rattle.fix_repair.proofs.Gathering.{settled-none, samples-none}
use Rattle.fix_repair.proofs.settle.Goals as goal

pub returns-then-is_empty : goal.returns-then-is_empty
returns-then-is_empty g c =
    let s = g.S.Sample in
    let none : length c.args.marks.now ≡ 0 = search rules in
    (settled-none c.args.w c.args.step c.default.result c.default.ensures _ none, samples-none c.args.w c.args.step s.none s.to_float s.of_mean c.args.samples.now _ none)

pub overflow_sub-result : goal.overflow_sub-result
overflow_sub-result g c = omega (arith, mended-few c.args.marks.now c.args.w c.args.step, c.fill-repaired.ensures.0)
