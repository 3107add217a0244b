-- `Polynomial::apply` meets its contract: each turn takes the walk a block further. Assumes nothing.
use Prim.Native.Nat.{ℕ, ◌+◌, ◌-◌, ◌*◌, ◌≤◌, ◌<◌, min}
use mathlib.Core.Path.{◌≡◌, ap, subst, ◌∙◌}
use mathlib.Core.List.{List, ◌++◌}
use native.Mathlib.Nat.{mul-le-mul_right}
use native.Mathlib.Omega.{arith}
use lib.Ieee.{Float}
use lib.ListN.{length, take, drop}
use lib.Seq.{length-take-le, take_at}
use Rattle.pointwise.proofs.Each.{below_or}
use Rattle.row_select.specs.declared.Walk.{Walk}
use Rattle.row_select.specs.Walks.{Walks}
use Rattle.row_select.proofs.Sizes.{begin-small}
use Rattle.row_select.proofs.Going.{Going, begin, end}
use Rattle.row_polynomial.specs.declared.polynomial.Polynomial.{Polynomial}
use Rattle.row_polynomial.specs.Blocks.{Counted, Evaluated, written}
use Rattle.row_polynomial.proofs.Passes.{mapped, block-done}
use Rattle.row_polynomial.proofs.polynomial.Polynomial.apply.Goals as goal

-- a block of 64 samples is followed by the next, and a shorter one is the last
module _ {i step stop n : ℕ} (counted : Counted i step stop n) where
  full : i + 64 * step < stop → n ≡ 64
  full h =
      below_or n 64 (λ q. omega (arith, counted.all q, h, mul-le-mul_right {m = n} {n = 64} step (omega arith)))
      (λ q. omega (arith, counted.few))

  last : stop ≤ i + 64 * step → stop ≤ i + n * step
  last h = below_or n 64 counted.all (λ q. omega (arith, h, mul-le-mul_right {m = 64} {n = n} step q))

-- one turn
module _ (p : Polynomial) (k : Walk) (table filled : List Float) {l row new : List Float} {c i n stop : ℕ} (w : Walks k (length l))
    (is : stop ≡ min (length l) ((k.right - k.x0) * k.planes)) (u : Going k (mapped p) l row c i)
    (counted : Counted i (k.pitch * k.planes) stop n) (room : length table ≡ 64) (values : Evaluated p i (k.pitch * k.planes) row filled)
    (kept : length filled ≡ length (take n table))
    (done : new ≡ written i (k.pitch * k.planes) (take n (filled ++ drop n table)) (length (take n (filled ++ drop n table))) row) where
  turn : Going k (mapped p) l new (c + n * k.pitch) (i + n * (k.pitch * k.planes))
  turn =
      let size : length filled ≡ n = kept ∙ length-take-le n table (omega (arith, counted.few, room)) in
      block-done p n filled new w u (omega (arith, counted.ends, is)) size values
      (done ∙ ap (λ (z : List Float). written i (k.pitch * k.planes) z (length z) row) (take_at _ _ _ size))

pub overflow_mul-i : goal.overflow_mul-i
overflow_mul-i c = omega (arith, begin-small c.requires)

pub overflow_step-i : goal.overflow_step-i
overflow_step-i c = omega (arith, begin-small c.requires)

pub loop-i-init : goal.loop-i-init
loop-i-init c = (_, begin c.requires)

pub loop-i-preserved : goal.loop-i-preserved
loop-i-preserved c =
    let a = c.args in
    let n = c.count_of-n.ensures in
    let at : ℕ = c.loop-i.invariant.0 + c.count_of-n.result * a.k.pitch in (
      at,
      subst (λ (m : ℕ). Going a.k (mapped a.self) a.row.now c.write_block.new.row at (c.loop-i.i + m * (a.k.pitch * a.k.planes)))
          (full n (omega arith))
          (turn a.self a.k c.loop-i.xs _ c.requires c.stop_of-stop.ensures c.loop-i.invariant.1 n c.count_of-n.array_long c.evaluate.ensures
          c.evaluate.auto.xs c.write_block.ensures),
    )

pub returns : goal.returns
returns c = end c.requires c.loop-i.invariant.1 (omega arith)

pub returns-2 : goal.returns-2
returns-2 c =
    let a = c.args in
    let n = c.count_of-n.ensures in
    end c.requires
    (turn a.self a.k c.loop-i.xs _ c.requires c.stop_of-stop.ensures c.loop-i.invariant.1 n c.count_of-n.array_long c.evaluate.ensures
    c.evaluate.auto.xs c.write_block.ensures)
    (omega (arith, last n (omega arith), c.stop_of-stop.ensures))
