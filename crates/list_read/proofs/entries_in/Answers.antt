-- `list_read::entries_in` meets its contract, by the word that was read and its test. Assumes nothing.
use Rattle.list_read.proofs.Laws.{count_cut, count-over, count_kept}
use native.Mathlib.Omega.{arith}
use Rattle.list_read.proofs.entries_in.Goals as goal

pub returns-in_default : goal.returns-in_default
returns-in_default c = count_cut _ c.u32_in.ensures c.in_default.is

pub returns-then-n-gt-MAX_OPCODES : goal.returns-then-n-gt-MAX_OPCODES
returns-then-n-gt-MAX_OPCODES c = count-over _ c.u32_in.ensures c.in-Ok.is (omega arith)

pub returns : goal.returns
returns c = count_kept _ c.u32_in.ensures c.in-Ok.is (omega arith)
