-- `run_opcodes::one` meets its contract, by the class that was told. Assumes nothing.
use mathlib.Core.Path.{◌≡◌, refl, sym, ap, ◌∙◌}
use mathlib.Core.Bool.{Bool, ◌&&◌, cond}
use lib.ListN.{length}
use Rattle.dng.specs.declared.Class.{Class}
use Rattle.dng.specs.declared.Class.TheVariants.{Unapplied}
use Rattle.dng.specs.declared.Opcode.{Opcode}
use Rattle.dng.specs.List.{preview_of, body_of}
use Rattle.dng.specs.Run.{class_of}
use Rattle.win_rows.proofs.Turns.{window-fits}
use Rattle.run_opcodes.proofs.Laws.{passed, stepped, repaired}
use Rattle.run_opcodes.proofs.one.Goals as goal

-- the class that was told is the opcode's, or that of one that is dropped
classed :
    {r k : Class} {d d' : Bool} (op : Opcode) → r ≡ cond d Unapplied (class_of op) → d ≡ d' → r ≡ k
    → k ≡ cond d' Unapplied (class_of op)
classed op e h q = sym q ∙ e ∙ ap (λ (d : Bool). cond d Unapplied (class_of op)) h

pub window_step-requires : goal.window_step-requires
window_step-requires g c = (window-fits _ _ c.requires.0, c.requires.1)

pub returns-in-Repair : goal.returns-in-Repair
returns-in-Repair g c =
    repaired _ _ _ _ (c.args.set.preview && preview_of c.args.i.entry) c.args.i.op (body_of c.args.list.now c.args.i.entry) _
    (classed c.args.i.op c.class_in.ensures c.dropped.ensures c.in-Repair.is) c.body-body.ensures c.fix.ensures
