-- `run_row::perform_one` meets its contract: nothing, the step, or a gain map on all planes. Assumes nothing.
use mathlib.Core.List.{List}
use Prim.Native.Nat.{ℕ}
use lib.Ieee.{Float}
use lib.ListN.{length}
use Rattle.pointwise.specs.Points.{each}
use Rattle.dng.specs.declared.Entry.{Entry}
use Rattle.dng.specs.declared.Opcode.{Opcode}
use Rattle.dng.specs.List.{body_of}
use Rattle.dng.specs.Select.{on_row}
use Rattle.dng.specs.Value.{rule_of}
use Rattle.row_opcode.specs.declared.Place.{Place}
use Rattle.win_gain.proofs.Gains.{map-fits, map_row}
use Rattle.run_row.specs.Rows.{frame_of}
use Rattle.run_row.proofs.Laws.{lent, left_out, not-left-out}
use Rattle.run_row.proofs.perform_one.Goals as goal

-- the row that the opcode makes
abbrev made : Place → Float → Opcode → List ℕ → Entry → List Float → List Float
made g scale op list e row = each (on_row g.x0 g.planes g.y (length row) (rule_of (frame_of g scale) op (body_of list e))) row

pub gain_planes-requires : goal.gain_planes-requires
gain_planes-requires c = (c.requires.0, c.requires.2, map-fits c.args.op c.gain_of.ensures c.in-Some.is c.requires.1)

pub returns-then-dropped : goal.returns-then-dropped
returns-then-dropped c =
    let a = c.args in
    left_out c.dropped.ensures a.row.now (made a.g a.scale a.op a.list.now a.e a.row.now) c.if-dropped.true

pub returns-then-g-lt2 : goal.returns-then-g-lt2
returns-then-g-lt2 c =
    let a = c.args in
    not-left-out c.dropped.ensures a.row.now (made a.g a.scale a.op a.list.now a.e a.row.now) c.if-dropped.false c.step_one.ensures

pub returns-in-Some : goal.returns-in-Some
returns-in-Some c =
    let a = c.args in
    let g = a.g in
    not-left-out c.dropped.ensures a.row.now (made g a.scale a.op a.list.now a.e a.row.now) c.if-dropped.false
    (lent (frame_of g a.scale) g.x0 g.planes g.y a.list.now a.e a.op c.body.ensures a.row.now
    (map_row a.op c.gain_of.ensures c.in-Some.is g.x0 g.planes g.y (length a.row.now) g.full_width g.full_height
    a.scale c.body.result.now a.row.now _ c.gain_planes.ensures))

pub returns-in-None : goal.returns-in-None
returns-in-None c =
    let a = c.args in
    not-left-out c.dropped.ensures a.row.now (made a.g a.scale a.op a.list.now a.e a.row.now) c.if-dropped.false
    c.step_one-in-None.ensures
