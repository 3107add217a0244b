-- `with_delta` meets its contract: no list, an entry, a missing one. Assumes nothing.
use mathlib.Core.Path.{ap, ◌∙◌}
use lib.Ieee.{binary32, add}
use Rattle.row_black.proofs.Values.{zero_is, delta-none, delta-here, delta-missing}
use Rattle.row_black.proofs.with_delta.Goals as goal

pub returns-then-deltas-eq0 : goal.returns-then-deltas-eq0
returns-then-deltas-eq0 c = delta-none c.args.deltas.now c.args.i c.args.b c.if-deltas-eq0.true

pub returns-then-i-deltas : goal.returns-then-i-deltas
returns-then-i-deltas c = let s = c.args in delta-here s.deltas.now s.i s.b c.if-i-deltas.true

pub returns-else-i-deltas : goal.returns-else-i-deltas
returns-else-i-deltas c =
    let s = c.args in
    ap (add binary32 s.b) zero_is ∙ delta-missing s.deltas.now s.i s.b c.if-deltas-eq0.false c.if-i-deltas.false
