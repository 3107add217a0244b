-- `list_counts::warp_fits` meets its contract: each return says how far the comparisons came. Assumes nothing.
use native.Mathlib.Nat.{add-zero}
use Rattle.list_counts.proofs.Laws.{warp-no, warp-yes}
use native.Mathlib.Omega.{arith}
use Rattle.list_counts.proofs.warp_fits.Goals as goal

pub returns-then-len-lt4 : goal.returns-then-len-lt4
returns-then-len-lt4 c = warp-no (simp add-zero at c.word-n.ensures) (λ h i j k. omega arith)

pub returns-then-n-lt1 : goal.returns-then-n-lt1
returns-then-n-lt1 c = warp-no (simp add-zero at c.word-n.ensures) (λ h i j k. omega arith)

pub returns-then-n-gt4 : goal.returns-then-n-gt4
returns-then-n-gt4 c = warp-no (simp add-zero at c.word-n.ensures) (λ h i j k. omega arith)

pub returns-then-len-n : goal.returns-then-len-n
returns-then-len-n c = warp-no (simp add-zero at c.word-n.ensures) (λ h i j k. omega arith)

pub returns : goal.returns
returns c =
    warp-yes (simp add-zero at c.word-n.ensures) (omega arith) (omega arith) (omega arith) (omega arith)
