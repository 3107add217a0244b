-- `whole_value16` meets its contract: a u16 is below 65536, so holding it changes nothing. Assumes nothing.
use Prim.Native.Nat.{◌-◌, min}
use mathlib.Core.Path.{◌≡◌, ap, ◌∙◌}
use native.Mathlib.Omega.{arith}
use Rattle.dng.specs.Value.{map_table16, table_at}
use Rattle.row_tables.proofs.whole_value16.Goals as goal

pub returns : goal.returns
unfolding map_table16
returns c =
    let a = c.args in
    let unheld : a.v ≡ min a.v (a.n - 1) = omega arith in
    c.full_entry.ensures ∙ ap (table_at a.body.now) unheld
