-- `fix_near::shifted` meets its contract: each of the three steps. Assumes nothing.
use Rattle.fix_near.proofs.Moving.{moved_none, moved_on, moved_out, moved_back, is_none, is-on, is-back}
use Rattle.fix_near.proofs.shifted.Goals as goal

pub returns-else-at-period : goal.returns-else-at-period
returns-else-at-period c =
    let back = is-back c.args.d c.requires.0 c.if-d-eq0.false c.if-d-eq1.false in
    let a = c.args in
    moved_back a.at a.period a.outside a.d back c.if-at-period.false

pub returns-then-d-eq0 : goal.returns-then-d-eq0
returns-then-d-eq0 c =
    let a = c.args in
    moved_none a.at a.period a.outside a.d (is_none a.d c.requires.0 c.if-d-eq0.true)

pub returns-then-d-eq1 : goal.returns-then-d-eq1
returns-then-d-eq1 c =
    let a = c.args in
    moved_on a.at a.period a.outside a.d (is-on a.d c.requires.0 c.if-d-eq1.true)

pub returns-then-at-period : goal.returns-then-at-period
returns-then-at-period c =
    let back = is-back c.args.d c.requires.0 c.if-d-eq0.false c.if-d-eq1.false in
    let a = c.args in
    moved_out a.at a.period a.outside a.d back c.if-at-period.true
