-- `touched` meets its contract: a row that lacks the region's planes or its columns, or is not selected, has none of its samples. Assumes
-- nothing.
use Prim.Native.Nat.{ℕ}
use mathlib.Core.Path.{◌≡◌, sym, ◌∙◌}
use mathlib.Core.Bool.{true, false}
use native.Mathlib.Omega.{arith}
use Rattle.pointwise.specs.Select.{selects}
use Rattle.pointwise.proofs.Walk.{first-bound}
use Rattle.dng.specs.declared.Region.{Region}
use Rattle.row_opcode.specs.declared.Place.{Place}
use Rattle.row_opcode.specs.Planes.{Untouched}
use Rattle.row_opcode.proofs.Planes.{none-by-planes, none-by-columns, none-by-length, none-by-row}
use Rattle.row_opcode.proofs.touched.Goals as goal

-- what an early `false` says
no : (g : Place) (r : Region) (n : ℕ) → Untouched g r n
    → (false ≡ true → selects r.top r.bottom r.row_pitch g.y ≡ true) × (false ≡ false → Untouched g r n)
no g r n u = (λ e. cc, λ e. u)

pub returns-then-planes_end-r : goal.returns-then-planes_end-r
returns-then-planes_end-r c =
    no c.args.g c.args.r c.args.len
    (none-by-planes c.args.g c.args.r c.args.len c.requires.0.some (omega (arith, c.if-planes_end-r.true, c.planes_end.ensures)))

pub overflow_add-g : goal.overflow_add-g
overflow_add-g c =
    omega (arith, first-bound _ _ _ _ _ c.requires.1, c.requires.0.column)

pub returns-then-r-g : goal.returns-then-r-g
returns-then-r-g c =
    no c.args.g c.args.r c.args.len
    (none-by-columns c.args.g c.args.r c.requires.1 c.args.len c.if-r-g.true)

pub returns-then-len-start : goal.returns-then-len-start
returns-then-len-start c =
    no c.args.g c.args.r c.args.len
    (none-by-length c.args.g c.args.r c.requires.1 c.args.len c.requires.0.some c.if-len-start.true)

pub returns : goal.returns
returns c =
    let is = c.row_selected.ensures in
    (λ e. sym is ∙ e, λ e. none-by-row c.args.g c.args.r c.args.len (sym is ∙ e))
