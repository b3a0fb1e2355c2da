-- `side::table::Table::find` meets its contract. The loop's invariant: what is left gives the same rank. Assumes nothing.
use mathlib.Core.Path.{sym, ◌∙◌}
use native.Mathlib.Omega.{arith}
use Rattle.basics.proofs.LawsLoops.{found_here, found_later}
use Rattle.rules.specs.Book.{unused}
use Rattle.rules.specs.Commands.{is_number}
use Rattle.side.proofs.LawsHints.{rank_found}
use Rattle.side.proofs.table.Table.find.Goals as goal

pub returns-then-eq : goal.returns-then-eq
returns-then-eq c =
    let a = c.args in
    let l = c.loop-rank in
    let here = found_here (is_number a.number) unused a.self.now l.rank (omega arith) (rw c.at-o.ensures at (sym c.eq.ensures ∙ c.if-eq.true)) in
    sym (rank_found a.number a.self.now l.rank (omega arith) (sym here ∙ l.invariant.2))

pub loop-rank-preserved : goal.loop-rank-preserved
loop-rank-preserved c =
    let a = c.args in
    let l = c.loop-rank in
    let on = found_later (is_number a.number) unused a.self.now l.rank (omega arith) (rw c.at-o.ensures at (sym c.eq.ensures ∙ c.if-eq.false)) in
    (omega arith, l.invariant.1, sym on ∙ l.invariant.2)
