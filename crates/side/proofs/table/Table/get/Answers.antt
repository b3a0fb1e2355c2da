-- `side::table::Table::get` meets its contract. Assumes nothing.
use mathlib.Core.Path.{sym}
use native.Mathlib.Omega.{arith}
use Rattle.rules.specs.Book.{unused}
use Rattle.std.proofs.lemmas.Option.{slice_get-get_or, slice_get_past}
use Rattle.side.proofs.rows.LawsShown.{length_is}
use Rattle.side.proofs.table.Table.get.Goals as goal

pub returns-then-rank-self : goal.returns-then-rank-self
returns-then-rank-self c =
    let a = c.args in
    rw c.at.ensures (sym (slice_get-get_or a.self.now a.rank unused (omega (arith, c.if-rank-self.true, length_is c.self.inside c.self.view_is))))

pub returns-else-rank-self : goal.returns-else-rank-self
returns-else-rank-self c =
    let a = c.args in
    sym (slice_get_past a.self.now a.rank (omega (arith, c.if-rank-self.false, length_is c.self.inside c.self.view_is)))
