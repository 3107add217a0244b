-- `say_pgm::read_header` meets its contract. Assumes nothing.
use mathlib.Core.Path.{sym, ap, ◌∙◌}
use Rattle.say_pgm.specs.Pgm.{white}
use Rattle.say_pgm.proofs.Laws.{five, white-in, header-yes, header-no}
use native.Mathlib.Omega.{arith}
use Rattle.say_pgm.proofs.read_header.Goals as goal

pub overflow_add-result : goal.overflow_add-result
overflow_add-result c =
    let e = sym (c.is_white.ensures ∙ ap white c.byte.ensures)
    ∙ (five c.is_p5.result c.is_sound.result c.is_sound-2.result c.is_sound-3.result
    c.is_white.result c.if-ok.true).fifth in
    omega (arith, white-in c.args.bytes.now c.next_number-m.result.end e)

pub returns-then-ok : goal.returns-then-ok
returns-then-ok c =
    header-yes _ _ _ _ c.next_number-w.ensures c.next_number-h.ensures c.next_number-m.ensures
    c.is_p5.ensures c.is_sound.ensures c.is_sound-2.ensures c.is_sound-3.ensures
    (c.is_white.ensures ∙ ap white c.byte.ensures) c.if-ok.true

pub returns-else-ok : goal.returns-else-ok
returns-else-ok c =
    header-no _ _ _ _ c.next_number-w.ensures c.next_number-h.ensures c.next_number-m.ensures
    c.is_p5.ensures c.is_sound.ensures c.is_sound-2.ensures c.is_sound-3.ensures
    (c.is_white.ensures ∙ ap white c.byte.ensures) c.if-ok.false
