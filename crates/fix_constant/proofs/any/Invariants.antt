-- While nothing is hit, no sample passed equals the constant.
use Rattle.std.proofs.Common.{◌≡◌, false, ℕ, ◌<◌, get_or}
use Rattle.fix_constant.proofs.any.Given as goal

abbrev pub invariant-loop-v : goal.invariant-loop-v
invariant-loop-v g l =
    l.hit ≡ false → (i : ℕ) → i < l.v-index → g.S.PartialEq.eq (get_or l.s i g.S.Sample.none) l.k ≡ false
