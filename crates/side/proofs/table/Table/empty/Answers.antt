-- `side::table::Table::empty` meets its contract. Assumes nothing.
use lib.ListN.{replicate, length-replicate}
use Rattle.rules.specs.Book.{places_a_side}
use Rattle.side.specs.Table.{free}
use Rattle.side.proofs.tables.LawsNumbered.{numbered_none}
use Rattle.side.proofs.table.Table.empty.Goals as goal

pub invariant_of-result : goal.invariant_of-result
invariant_of-result c = (numbered_none c.own_rows.result (replicate places_a_side free) c.own_rows.ensures (length-replicate places_a_side free)).holds

pub returns : goal.returns
returns c = (numbered_none c.own_rows.result (replicate places_a_side free) c.own_rows.ensures (length-replicate places_a_side free)).is
