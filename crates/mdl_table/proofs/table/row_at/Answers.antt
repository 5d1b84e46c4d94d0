use Rattle.std.proofs.Common.{◌≡◌, ◌+◌, arith}
use Rattle.mdl_table.proofs.TableRows.{row_at_place}
use Rattle.mdl_table.proofs.table.row_at.Goals as goal

pub returns : goal.returns
returns c =
    let number : 1 + c.from.result ≡ c.args.number = omega arith in
    rw (← number) (row_at_place c.from.result c.at.result (omega arith) c.at.ensures)
