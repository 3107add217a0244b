-- `say_pgm::put_header` meets its contract. Assumes nothing.
use native.Mathlib.Omega.{arith}
use Rattle.num_text.proofs.Laws.{appended_then}
use Rattle.say_pgm.specs.Pgm.{header_text}
use Rattle.say_pgm.proofs.put_header.Goals as goal

pub put_after-b-requires : goal.put_after-b-requires
put_after-b-requires c = omega (arith, c.put_after-a.ensures.short, c.put_after-a.auto.out)

pub put_after-c-requires : goal.put_after-c-requires
put_after-c-requires c =
    omega (arith, c.put_after-b.ensures.short, c.put_after-b.auto.out, c.put_after-a.ensures.short, c.put_after-a.auto.out)

pub put_byte-requires : goal.put_byte-requires
put_byte-requires c =
    omega (
      arith,
      c.put_after-c.ensures.short,
      c.put_after-c.auto.out,
      c.put_after-b.ensures.short,
      c.put_after-b.auto.out,
      c.put_after-a.ensures.short,
      c.put_after-a.auto.out,
    )

pub returns : goal.returns
unfolding header_text
returns c =
    appended_then
    (appended_then (appended_then c.put_after-a.ensures.appended c.put_after-b.ensures.appended) c.put_after-c.ensures.appended)
    c.put_byte.ensures
