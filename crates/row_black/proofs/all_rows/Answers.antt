-- `all_rows` meets its contract: the rows before y are done. Assumes nothing.
use Prim.Native.Nat.{ℕ, ◌+◌, ◌*◌, ◌%◌}
use mathlib.Core.Path.{◌≡◌, refl, ap, ◌∙◌}
use native.Mathlib.Omega.{arith}
use Rattle.row_black.proofs.Refusals.{goes, row_fits, total-fits}
use Rattle.row_black.proofs.Frames.{wide, rows_start, row_inside, rows-turn, rows_end, row-placed, row-lent}
use Rattle.row_black.proofs.all_rows.Goals as goal

pub overflow_mul-n : goal.overflow_mul-n
overflow_mul-n g c = omega (arith, row_fits (goes c.args.f c.args.lent.pattern _ _ _ _ c.requires).ranges)

pub nonzero_rem-first : goal.nonzero_rem-first
nonzero_rem-first g c = omega (arith, (goes c.args.f c.args.lent.pattern _ _ _ _ c.requires).tables.wide)

pub nonzero_rem-line : goal.nonzero_rem-line
nonzero_rem-line g c = omega (arith, (goes c.args.f c.args.lent.pattern _ _ _ _ c.requires).tables.tall)

pub loop-y-init : goal.loop-y-init
loop-y-init g c =
    let f = c.args.f in
    let here : f.y0 ≡ f.y0 + 0 = omega arith in
    (rows_start, ap (λ (k : ℕ). k % c.args.lent.pattern.height) here)

pub overflow_mul-at : goal.overflow_mul-at
overflow_mul-at g c =
    omega (arith, row_inside c.loop-y.invariant.0 c.loop-y-test.true, total-fits (goes c.args.f c.args.lent.pattern _ _ _ _ c.requires).ranges)

pub overflow_add-end : goal.overflow_add-end
overflow_add-end g c =
    omega (arith, row_inside c.loop-y.invariant.0 c.loop-y-test.true, total-fits (goes c.args.f c.args.lent.pattern _ _ _ _ c.requires).ranges)

pub offset_bounds-input-at : goal.offset_bounds-input-at
offset_bounds-input-at g c =
    omega (arith, row_inside c.loop-y.invariant.0 c.loop-y-test.true, (goes c.args.f c.args.lent.pattern _ _ _ _ c.requires).read)

pub slice_bounds-one_row-end : goal.slice_bounds-one_row-end
slice_bounds-one_row-end g c =
    omega (arith, row_inside c.loop-y.invariant.0 c.loop-y-test.true, (goes c.args.f c.args.lent.pattern _ _ _ _ c.requires).read)

pub offset_bounds-out-at : goal.offset_bounds-out-at
offset_bounds-out-at g c =
    omega (arith, row_inside c.loop-y.invariant.0 c.loop-y-test.true, total-fits (goes c.args.f c.args.lent.pattern _ _ _ _ c.requires).ranges)

pub slice_bounds-one_row-end-in-loop-y : goal.slice_bounds-one_row-end-in-loop-y
slice_bounds-one_row-end-in-loop-y g c =
    omega (
      arith,
      row_inside c.loop-y.invariant.0 c.loop-y-test.true,
      (goes c.args.f c.args.lent.pattern _ _ _ _ c.requires).written,
      c.loop-y.invariant.0.same,
    )

pub overflow_add-row : goal.overflow_add-row
overflow_add-row g c =
    let r = (goes c.args.f c.args.lent.pattern _ _ _ _ c.requires).ranges in
    omega (arith, c.loop-y-test.true, r.row, r.height)

pub invariant_of-row : goal.invariant_of-row
invariant_of-row g c =
    record { placed = row-placed c.args.input.now c.args.out.now (goes c.args.f c.args.lent.pattern _ _ _ _ c.requires) c.loop-y.invariant.1 refl }

pub one_row-requires : goal.one_row-requires
one_row-requires g c =
    row-lent c.args.input.now c.args.out.now (goes c.args.f c.args.lent.pattern _ _ _ _ c.requires) (c.loop-y.y * wide c.args.f) c.loop-y.out
    c.loop-y.invariant.0.same (row_inside c.loop-y.invariant.0 c.loop-y-test.true)

pub loop-y-preserved : goal.loop-y-preserved
loop-y-preserved g c =
    let f = c.args.f in
    let on : f.y0 + c.loop-y.y + 1 ≡ f.y0 + (c.loop-y.y + 1) = omega arith in (
      rows-turn c.loop-y.invariant.0 c.loop-y-test.true (goes c.args.f c.args.lent.pattern _ _ _ _ c.requires).written c.one_row.ensures,
      c.after-line.ensures (f.y0 + c.loop-y.y) c.loop-y.invariant.1 ∙ ap (λ (k : ℕ). k % c.args.lent.pattern.height) on,
    )

pub returns : goal.returns
returns g c = rows_end c.loop-y.invariant.0 c.loop-y-test.false
