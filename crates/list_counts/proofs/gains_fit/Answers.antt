-- `list_counts::gains_fit` meets its contract: each return says how far the comparisons came. The product of three factors is made only
-- where that of the first two is within the limit. Assumes nothing.
use Prim.Native.Nat.{◌*◌}
use native.Mathlib.Omega.{arith}
use Rattle.list_counts.proofs.Laws.{gains-no, gains-yes, product, grows, below}
use borrow.Author.Rules.{rules}
use Rattle.list_counts.proofs.gains_fit.Goals as goal

pub returns-then-len-lt76 : goal.returns-then-len-lt76
returns-then-len-lt76 c = gains-no (product c.word-v.ensures c.word-h.ensures c.word.ensures c.planes_of-planes.ensures) (λ h i j k. omega arith)

pub overflow_mul-points : goal.overflow_mul-points
overflow_mul-points c = record { fits = below 32 32 (search rules) (search rules) }

pub returns-then-points : goal.returns-then-points
returns-then-points c =
    gains-no (product c.word-v.ensures c.word-h.ensures c.word.ensures c.planes_of-planes.ensures)
    (λ h i j k. omega (arith, grows (c.word-v.result * c.word-h.result) _ c.planes_of-planes.ensures))

pub overflow_mul-total : goal.overflow_mul-total
overflow_mul-total c =
    let points = c.word-v.result * c.word-h.result in
    record { fits = omega (arith, below 25 32 {a = points} {b = c.planes_of-planes.result} (omega arith) (omega arith)) }

pub returns-then-total-lt1 : goal.returns-then-total-lt1
returns-then-total-lt1 c = gains-no (product c.word-v.ensures c.word-h.ensures c.word.ensures c.planes_of-planes.ensures) (λ h i j k. omega arith)

pub returns-then-total : goal.returns-then-total
returns-then-total c = gains-no (product c.word-v.ensures c.word-h.ensures c.word.ensures c.planes_of-planes.ensures) (λ h i j k. omega arith)

pub returns-then-len-total : goal.returns-then-len-total
returns-then-len-total c = gains-no (product c.word-v.ensures c.word-h.ensures c.word.ensures c.planes_of-planes.ensures) (λ h i j k. omega arith)

pub returns : goal.returns
returns c = gains-yes (product c.word-v.ensures c.word-h.ensures c.word.ensures c.planes_of-planes.ensures) (omega arith) (omega arith) (omega arith) (omega arith)
