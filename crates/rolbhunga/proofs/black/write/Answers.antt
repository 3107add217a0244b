-- `rolbhunga::black::write` meets its contract: decoded, levelled, put back. Assumes nothing.
use Prim.Native.Nat.{◌/◌}
use lib.ListN.{length}
use Rattle.row_black.specs.Black.{levels_in}
use Rattle.rolbhunga.proofs.BlackBytes.{written, read_fits, write-fits}
use Rattle.rolbhunga.proofs.black.write.Goals as goal

pub decode-requires : goal.decode-requires
decode-requires g c = read_fits c.requires g.met.S.InBytes.some

pub encode-requires : goal.encode-requires
encode-requires g c = rw c.black.auto.out (write-fits c.requires)

pub returns : goal.returns
returns g c =
    let v = c.args in
    written g.S.Sample.none g.S.InBytes.ZERO g.S.Sample.to_float (g.S.InBytes.at v.input.now) (length v.input.now / g.S.InBytes.SIZE) v.f
    (levels_in v.lent) v.bytes.now
    v.work.now _ v.made.now _ c.requires.goes c.requires.before c.requires.after c.decode.ensures c.black.ensures
    c.encode.ensures
