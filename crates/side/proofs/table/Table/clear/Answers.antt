-- `side::table::Table::clear` meets its contract. Assumes nothing.
use Rattle.side.proofs.rows.LawsShown.{side_cleared}
use Rattle.side.proofs.table.Table.clear.Goals as goal

pub invariant_of-self : goal.invariant_of-self
invariant_of-self c = let t = c.self.inside in (side_cleared t.held t.index t.rows c.self.invariant).holds

pub returns : goal.returns
returns c = let t = c.self.inside in (side_cleared t.held t.index t.rows c.self.invariant).is
