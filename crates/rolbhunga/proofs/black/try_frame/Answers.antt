-- `rolbhunga::black::try_frame` meets its contract: refused, too little room, or done. Assumes nothing.
use Prim.Native.Nat.{◌/◌}
use mathlib.Core.Path.{sym, ◌∙◌}
use lib.ListN.{length}
use lib.Seq.{length-take-le}
use Rattle.row_black.specs.Black.{levels_in}
use Rattle.rolbhunga.proofs.BlackBytes.{not-refused, counted, put_refused, short-work, short-made, put-done}
use Rattle.rolbhunga.proofs.black.try_frame.Goals as goal

pub returns-then-is_err : goal.returns-then-is_err
returns-then-is_err g c =
    let v = c.args in
    put_refused g.S.Sample.none g.S.InBytes.ZERO g.S.Sample.to_float (g.S.InBytes.at v.input.now) (length v.input.now / g.S.InBytes.SIZE) v.f
    (levels_in v.lent) v.bytes.now (length v.work.now) (length v.made.now) (rw c.SIZE.ensures at c.answer-a.ensures)
    (sym c.is_err.ensures.value ∙ c.if-is_err.true) c.number.ensures

pub returns-then-work-n : goal.returns-then-work-n
returns-then-work-n g c =
    let v = c.args in
    short-work g.S.Sample.none g.S.InBytes.ZERO g.S.Sample.to_float (g.S.InBytes.at v.input.now) (length v.input.now / g.S.InBytes.SIZE) v.f
    (levels_in v.lent) v.bytes.now (length v.work.now) (length v.made.now) (rw c.SIZE.ensures at c.answer-a.ensures)
    (sym c.is_err.ensures.value ∙ c.if-is_err.false) c.samples_of-n.ensures c.if-work-n.true

pub returns-then-made-n : goal.returns-then-made-n
returns-then-made-n g c =
    let v = c.args in
    short-made g.S.Sample.none g.S.InBytes.ZERO g.S.Sample.to_float (g.S.InBytes.at v.input.now) (length v.input.now / g.S.InBytes.SIZE) v.f
    (levels_in v.lent) v.bytes.now (length v.work.now) (length v.made.now) (rw c.SIZE.ensures at c.answer-a.ensures)
    (sym c.is_err.ensures.value ∙ c.if-is_err.false) c.samples_of-n.ensures c.if-work-n.false c.if-made-n.true

pub write-requires : goal.write-requires
write-requires g c =
    let v = c.args in
    let size =
    counted g.S.Sample.none g.S.InBytes.ZERO g.S.Sample.to_float (g.S.InBytes.at v.input.now) (length v.input.now / g.S.InBytes.SIZE) v.f
    (levels_in v.lent) v.bytes.now (length v.work.now) (length v.made.now) (rw c.SIZE.ensures at c.answer-a.ensures)
    (sym c.is_err.ensures.value ∙ c.if-is_err.false) c.samples_of-n.ensures in
    record {
      goes = not-refused g.S.Sample.none g.S.InBytes.ZERO g.S.Sample.to_float (g.S.InBytes.at v.input.now)
          (length v.input.now / g.S.InBytes.SIZE) v.f
          (levels_in v.lent) v.bytes.now (length v.work.now) (length v.made.now) (rw c.SIZE.ensures at c.answer-a.ensures)
          (sym c.is_err.ensures.value ∙ c.if-is_err.false);
      before = length-take-le _ _ c.if-work-n.false ∙ size;
      after = length-take-le _ _ c.if-made-n.false ∙ size;
    }

pub returns : goal.returns
returns g c =
    let v = c.args in
    put-done g.S.Sample.none g.S.InBytes.ZERO g.S.Sample.to_float (g.S.InBytes.at v.input.now) (length v.input.now / g.S.InBytes.SIZE) v.f
    (levels_in v.lent) v.bytes.now (length v.work.now) (length v.made.now) (rw c.SIZE.ensures at c.answer-a.ensures)
    (sym c.is_err.ensures.value ∙ c.if-is_err.false) c.samples_of-n.ensures c.if-work-n.false c.if-made-n.false c.write.ensures
