-- Worked values of the first selected column, each by the rule of `first_column`. Assumes nothing.
use mathlib.Core.Path.{refl}
use native.Mathlib.Omega.{arith}
use Rattle.pointwise.proofs.Walk.{first-left, first_on, first_off}
use Rattle.pointwise.specs.Select.{First}

-- P3 of document 01, 'Bench frames': left 1, pitch 2, x0 2: column 3, one past x0, the 1st after left
pub p3-first : First 1 2 2 1 1
p3-first = first_off 1 2 2 2 refl (omega arith) (omega arith)

-- on a selected column: that column; left of the region: its left edge; a pitch of 0 counts as 1
pub on-first : First 1 2 5 0 2
on-first = first_on 1 2 5 2 refl (omega arith) refl

pub left-first : First 7 3 2 5 0
left-first = first-left 7 3 2 (omega arith)

pub no-pitch-first : First 1 0 4 0 3
no-pitch-first = first_on 1 0 4 1 refl (omega arith) refl

-- the largest numbers of 32 bits: one step forward lies past them
pub wide-first : First 0 4294967295 4294967294 1 1
wide-first = first_off 0 4294967295 4294967294 4294967295 refl (omega arith) (omega arith)

pub past_first : First 1 4294967295 2 4294967294 1
past_first = first_off 1 4294967295 2 4294967295 refl (omega arith) (omega arith)
