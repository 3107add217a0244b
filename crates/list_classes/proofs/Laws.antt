-- The class of a table. Assumes nothing.
use Prim.Native.Nat.{ℕ}
use mathlib.Core.Path.{◌≡◌, sym, ap, ◌∙◌}
use borrow.Author.Tests.{eq-eqb, ne_eqb}
use Rattle.dng.specs.declared.Class.TheVariants.{Table, Empty}
use Rattle.dng.specs.declared.Region.{Region}
use Rattle.dng.specs.declared.Opcode.{Opcode}
use Rattle.dng.specs.declared.Opcode.TheVariants.{MapTable}
use Rattle.dng.specs.Run.{class_of}

-- a table's class goes by its count
module _ {op : Opcode} {r : Region} {n : ℕ} (e : op ≡ MapTable r n) where
  pub no-entries : n ≡ 0 → Empty ≡ class_of op
  no-entries z = sym (ap class_of e ∙ simp (eq-eqb n 0 z))

  pub some-entries : (n ≡ 0 → ⊥) → Table ≡ class_of op
  some-entries z = sym (ap class_of e ∙ simp (ne_eqb n 0 z))
