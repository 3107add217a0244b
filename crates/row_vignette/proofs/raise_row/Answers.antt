-- `raise_row` meets its contract: each turn is one block of whole pixels. Assumes nothing.
use Prim.Native.Nat.{ℕ, ◌+◌, ◌-◌, ◌*◌, ◌/◌, ◌≤◌, ◌<◌, min}
use mathlib.Core.List.{List, ◌++◌}
use mathlib.Core.Path.{◌≡◌, ap, subst, ◌∙◌}
use native.Mathlib.Omega.{arith}
use lib.Ieee.{Float}
use lib.ListN.{length, take, drop}
use lib.Seq.{length-take-le, take_at}
use Rattle.pointwise.specs.Points.{each}
use Rattle.pointwise.proofs.Each.{length-each}
use Rattle.row_vignette.specs.declared.Line.{Line}
use Rattle.row_vignette.specs.Rows.{wide_at, raised_by}
use Rattle.row_vignette.proofs.Pixels.{Done, row-begin, row_inside, row_next, row-end}
use Rattle.row_vignette.proofs.raise_row.Goals as goal

-- one turn, at pixel `at` of the row's: n pixels, whose gains fill the table's first n places
module _ {t : Line} {x0 p : ℕ} {l row : List Float} {at n : ℕ} (table : List Float) {filled : List Float} (pos : 1 ≤ p) (below : at < length l / p)
    (is : n ≡ min (length l / p - at) 64) (room : length table ≡ 64) (gains : filled ≡ each (wide_at t (x0 + at)) (take n table))
    (u : Done t x0 p l row (min at (length l / p))) where
  size : length (take n table) ≡ n
  size = length-take-le n table (omega (arith, is, room))

  lent : take n (filled ++ drop n table) ≡ filled
  lent = take_at _ _ _ (ap length gains ∙ length-each _ _ ∙ size)

  here : Done t x0 p l row at
  here = subst (Done t x0 p l row) (omega arith) u

  fits : at * p + length (take n (filled ++ drop n table)) * p ≤ length row
  fits =
      omega (
        arith,
        row_inside here n (omega (arith, is)),
        ap (λ (m : ℕ). m * p) (ap length lent ∙ ap length gains ∙ length-each _ _ ∙ size),
        u.same,
      )

  turn : {new : List Float} → new ≡ each (raised_by (take n (filled ++ drop n table)) (at * p) p) row
      → Done t x0 p l new (min (at + 64) (length l / p))
  turn {new} raised =
      subst (Done t x0 p l new) (omega (arith, is)) (row_next here (take n table) pos size (omega (arith, is)) (lent ∙ gains) raised)

pub loop-done-init : goal.loop-done-init
loop-done-init c = subst (Done _ _ _ _ _) (omega arith) row-begin

pub raise_block-requires : goal.raise_block-requires
raise_block-requires c =
    fits _ c.requires.some c.loop-done-test.true c.min-n.ensures c.min-n.array_long c.wide_gains.ensures c.loop-done.invariant

pub loop-done-preserved : goal.loop-done-preserved
loop-done-preserved c =
    turn _ c.requires.some c.loop-done-test.true c.min-n.ensures c.min-n.array_long c.wide_gains.ensures c.loop-done.invariant
    c.raise_block.ensures

pub returns : goal.returns
returns c = row-end c.loop-done.invariant (omega arith)

pub returns-2 : goal.returns-2
returns-2 c =
    row-end
    (turn _ c.requires.some c.loop-done-test.true c.min-n.ensures c.min-n.array_long c.wide_gains.ensures c.loop-done.invariant
    c.raise_block.ensures)
    (omega arith)
