-- The whole-number form names what the f32 run names, but for empty tables. Assumes nothing.
use Prim.Native.Nat.{ℕ}
use mathlib.Core.Path.{◌≡◌, refl, sym, ap, ◌∙◌}
use mathlib.Core.Bool.{Bool, true, false, cond}
use mathlib.Core.List.{List, [], ◌∷◌}
use lib.Dec.{eqb}
use Rattle.dng.specs.declared.Opcode.{Opcode}
use Rattle.dng.specs.declared.Opcode.TheVariants.{WarpRectilinear, WarpFisheye, FixVignetteRadial, FixBadPixelsConstant, FixBadPixelsList, TrimBounds, MapTable, MapPolynomial, GainMap, DeltaPerRow, DeltaPerColumn, ScalePerRow, ScalePerColumn, Other}
use Rattle.dng.specs.List.{Item}
use Rattle.dng.specs.declared.Class.TheVariants.{Table, Empty}
use Rattle.dng.specs.Run.{class_of, name_of, names_of, skipped, skipped16}
use Rattle.law_wholes.specs.WholeForm.{without_tables}

-- one opcode, before the names ns of the others
one_name : (op : Opcode) (ns : List ℕ)
    → without_tables (cond (skipped (class_of op)) (name_of op ∷ ns) ns)
    ≡ cond (skipped16 (class_of op)) (name_of op ∷ without_tables ns) (without_tables ns)
unfolding without_tables
one_name (WarpRectilinear n cx cy) ns = refl
one_name WarpFisheye ns = refl
one_name (FixVignetteRadial q) ns = refl
one_name (FixBadPixelsConstant c p) ns = refl
one_name (FixBadPixelsList p np nr) ns = refl
one_name (TrimBounds t l bm r) ns = refl
one_name (MapTable r n) ns = go (eqb n 0)
  where
    go : (z : Bool)
        → without_tables (cond (skipped (cond z Empty Table)) (7 ∷ ns) ns)
        ≡ cond (skipped16 (cond z Empty Table)) (7 ∷ without_tables ns) (without_tables ns)
    go true = refl
    go false = refl
one_name (MapPolynomial r d) ns = refl
one_name (GainMap r pv ph g mp) ns = refl
one_name (DeltaPerRow r n) ns = refl
one_name (DeltaPerColumn r n) ns = refl
one_name (ScalePerRow r n) ns = refl
one_name (ScalePerColumn r n) ns = refl
one_name (Other i) ns = refl

pub names-without : (is : List Item) → names_of skipped16 is ≡ without_tables (names_of skipped is)
unfolding names_of without_tables
names-without [] = refl
names-without (i ∷ is) =
    ap (λ (ns : List ℕ). cond (skipped16 (class_of i.op)) (name_of i.op ∷ ns) ns) (names-without is)
    ∙ sym (one_name i.op (names_of skipped is))
