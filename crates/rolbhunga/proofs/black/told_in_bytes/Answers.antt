-- `rolbhunga::black::told_in_bytes` meets its contract: tried, and both rooms cleared. Assumes nothing.
use borrow.Author.Rules.{rules}
use lib.ListN.{length}
use Rattle.run_bytes.proofs.Laws.{cleared-whole}
use Rattle.rolbhunga.proofs.black.told_in_bytes.Goals as goal

pub returns : goal.returns
returns g c =
    let v = c.args in
    record {
      put = c.try_frame-r.ensures;
      work_clear = cleared-whole _ _ c.clear.new.room (length v.work.now) c.clear.ensures (search rules);
      made_clear = cleared-whole _ _ c.clear-2.new.room (length v.made.now) c.clear-2.ensures (search rules);
    }
