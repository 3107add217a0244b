-- `run_row::run_row` meets its contract, by the plan: the row as it was, or with all opcodes. Assumes nothing.
use Rattle.run_row.proofs.Laws.{refused, goes-narrow, goes-fits, goes-spans, done}
use Rattle.run_row.proofs.run_row.Goals as goal

pub place_of-requires : goal.place_of-requires
place_of-requires c =
    let a = c.args in
    goes-narrow a.w a.scale a.preview a.y a.list.now a.row.now c.settle_row.ensures c.in-Ok.is

pub perform-requires : goal.perform-requires
perform-requires c =
    let a = c.args in
    let settled = c.settle_row.ensures in (
      goes-fits a.w a.scale a.preview a.y a.list.now a.row.now settled c.in-Ok.is c.place_of.ensures,
      goes-spans a.w a.scale a.preview a.y a.list.now a.row.now settled c.in-Ok.is c.place_of.ensures
          c.max.ensures,
    )

pub returns-in-Err : goal.returns-in-Err
returns-in-Err c =
    let a = c.args in
    refused a.w a.scale a.preview a.y a.list.now a.row.now c.settle_row.ensures
    c.in-Err.is

pub returns-in-Ok : goal.returns-in-Ok
returns-in-Ok c =
    let a = c.args in
    done a.w a.scale a.preview a.y a.list.now a.row.now c.settle_row.ensures c.in-Ok.is
    c.place_of.ensures c.perform.ensures
