-- The sound neighbours of the mark's row and column.
use Prim.Native.Nat.{ℕ}
use lib.ListN.{get_or}
use Rattle.num_sorted.specs.Sorts.{has}
use Rattle.fix_fills.proofs.Lying.{mark-asks, spot-asks, spot-lone}
use Rattle.fix_fills.proofs.near_mark.Goals as goal

pub lone_mark-lone-requires : goal.lone_mark-lone-requires
lone_mark-lone-requires c =
    let a = c.args in
    (c.requires.1.0, mark-asks a.marks.now a.w a.step c.requires.0 a.i c.requires.1.0)

pub all_near-requires : goal.all_near-requires
all_near-requires c =
    let a = c.args in
    let mark : ℕ = get_or a.marks.now a.i 0 in (
      spot-asks a.w a.step (has a.marks.now) mark a.spot.x a.spot.y c.requires.1.1
          (mark-asks a.marks.now a.w a.step c.requires.0 a.i c.requires.1.0),
      λ e. spot-lone a.w a.step (has a.marks.now) mark a.spot.x a.spot.y c.requires.1.1 (c.lone_mark-lone.ensures e),
    )
