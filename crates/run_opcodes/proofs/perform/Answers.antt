-- `run_opcodes::perform` meets its contract. The loop's invariant: the opcodes that are left, performed on the samples as they stand, with the
-- totals so far, are all of them performed on the samples as they came. Assumes nothing.
use native.Mathlib.Omega.{arith}
use Rattle.list_read.proofs.Bounds.{sound}
use Rattle.run_opcodes.proofs.Laws.{positions-few, same-room, adds, begins, ends, stops, goes_on, marks-full}
use Rattle.run_opcodes.proofs.perform.Goals as goal

pub loop-k-init : goal.loop-k-init
loop-k-init g c = begins _ _ _ _ _ _ _ _ c.count-n.ensures

pub one-requires : goal.one-requires
one-requires g c = (c.requires, (sound _ _ c.step.ensures c.in-Ok.is).counts)

-- the totals after an opcode do not wrap
pub overflow_add-repaired : goal.overflow_add-repaired
overflow_add-repaired g c =
    let d = c.loop-k.invariant in
    omega (arith, adds c.args.w _ _ _ _ (positions-few c.args.w c.args.set.period c.requires) d.short c.loop-k-test.true d.few c.one.ensures.few c.in-Some.is)

pub overflow_add-left : goal.overflow_add-left
overflow_add-left g c =
    let d = c.loop-k.invariant in
    omega (arith, adds c.args.w _ _ _ _ (positions-few c.args.w c.args.set.period c.requires) d.short c.loop-k-test.true d.few c.one.ensures.few c.in-Some.is)

pub loop-k-preserved : goal.loop-k-preserved
loop-k-preserved g c =
    goes_on _ _ _ _ _ _ _ _ _ _ _ _ _ c.loop-k.invariant c.loop-k-test.true c.step.ensures c.in-Ok.is
    (same-room c.loop-k.auto.marks c.one.ensures) (positions-few c.args.w c.args.set.period c.requires) c.in-Some.is

-- 5
pub returns-in_default-one : goal.returns-in_default-one
returns-in_default-one g c =
    marks-full _ _ _ _ _ _ _ _ _ _ _ _ _ c.loop-k.invariant c.loop-k-test.true c.step.ensures c.in-Ok.is
    (same-room c.loop-k.auto.marks c.one.ensures) c.in_default-one.is

pub returns-in_default : goal.returns-in_default
returns-in_default g c =
    stops _ _ _ _ _ _ _ _ _ _ _ _ _ c.loop-k.invariant c.loop-k-test.true c.step.ensures c.in_default.is

pub returns : goal.returns
returns g c = ends _ _ _ _ _ _ _ _ _ _ _ _ _ c.loop-k.invariant c.loop-k-test.false
