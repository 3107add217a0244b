-- `run_bytes::encode` meets its contract. The bytes of the samples before i are put. Assumes nothing.
use Rattle.std.proofs.Common.{◌*◌, length, refl, sym, ap, ◌∙◌, arith}
use Rattle.std.proofs.lemmas.List.{get_or_read_under}
use Rattle.num_words.specs.Words.{put}
use Rattle.pointwise.proofs.Parts.{each-between-empty}
use Rattle.run_bytes.proofs.Laws.{put_next, encoded-all}
use Rattle.run_bytes.proofs.encode.Goals as goal

pub loop-i-init : goal.loop-i-init
loop-i-init g c = sym (each-between-empty 0 (0 * g.S.InBytes.SIZE) _ c.args.bytes.now (omega arith))

pub loop-i-preserved : goal.loop-i-preserved
loop-i-preserved g c =
    let b = g.S.InBytes in
    c.put.ensures
    ∙ ap (λ v. put b.SIZE c.loop-i.bytes (c.loop-i.i * b.SIZE) (b.bits v))
    (get_or_read_under c.args.room.now _ (length c.args.room.now) _ g.S.Sample.none c.index-room-i.is (omega arith) refl)
    ∙ put_next b.SIZE b.bits g.S.Sample.none c.args.room.now _ _ _ c.loop-i.invariant c.requires (omega arith)

pub returns : goal.returns
returns g c = encoded-all g.S.InBytes.SIZE g.S.InBytes.bits g.S.Sample.none c.args.room.now _ _ _ c.loop-i.invariant (omega arith)
