-- `by_kind` meets its contract: a gain map's own run, or the rows. Assumes nothing.
use lib.ListN.{length}
use Rattle.win_gain.proofs.Gains.{map-fits, map-rule}
use Rattle.win_opcode.proofs.by_kind.Goals as goal

pub gain_window-requires : goal.gain_window-requires
gain_window-requires c =
    (c.requires.0, c.requires.1, map-fits c.args.op c.gain_of.ensures c.in-Some.is c.requires.2)

pub returns-in-Some : goal.returns-in-Some
returns-in-Some c =
    let a = c.args in
    map-rule a.op c.gain_of.ensures c.in-Some.is a.w a.scale (length a.samples.now) a.body.now a.samples.now _
    c.gain_window.ensures
