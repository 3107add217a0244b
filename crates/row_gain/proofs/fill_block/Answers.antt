-- `fill_block` meets its contract: each turn fills one entry. Assumes nothing.
use Prim.Native.Nat.{ℕ, ◌+◌, ◌*◌, ◌<◌, min}
use mathlib.Core.Path.{◌≡◌}
use native.Mathlib.Omega.{arith}
use lib.ListN.{length}
use Rattle.row_gain.proofs.Laws.{column-on}
use Rattle.row_gain.proofs.Tables.{filling-next, in-room}
use Rattle.row_gain.proofs.fill_block.Goals as goal

-- in a turn, there is an entry n
inside : (x pitch room end stop at n : ℕ) → stop ≡ min end (x + room * pitch) → at ≡ x + n * pitch → at < stop → n < room
inside x pitch room end stop at n is place h = in-room x pitch room at n place (omega (arith, h, is))

pub loop-at-preserved : goal.loop-at-preserved
loop-at-preserved c =
    let u = c.loop-at.invariant.0 in
    let room = inside _ c.args.pitch (length c.args.columns.now) _ _ _ _ c.min-stop.ensures u.place c.loop-at-test.true in (
      filling-next u (omega (arith, room, u.same)) (column-on c.ruler-r.ensures _ c.column.ensures),
      omega (arith, c.loop-at-test.true, c.min-stop.ensures),
    )

pub returns-2 : goal.returns-2
returns-2 c =
    let u = c.loop-at.invariant.0 in
    let room = inside _ c.args.pitch (length c.args.columns.now) _ _ _ _ c.min-stop.ensures u.place c.loop-at-test.true in
    let filled = filling-next u (omega (arith, room, u.same)) (column-on c.ruler-r.ensures _ c.column.ensures) in (
      filled.filled,
      record {
        fits = omega (arith, room);
        all = omega (arith, filled.place, c.min-stop.ensures);
        near = omega (arith, filled.place, c.loop-at-test.true, c.min-stop.ensures);
      },
    )
