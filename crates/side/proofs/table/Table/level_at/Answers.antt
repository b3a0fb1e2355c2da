-- `side::table::Table::level_at` meets its contract, for a buy and for a sell: the row of an order has its levels. Assumes nothing.
use Prim.Native.Nat.{ℕ}
use mathlib.Core.List.{List}
use mathlib.Core.Path.{◌≡◌, ap, ◌∙◌}
use lib.ListN.{get_or}
use native.Mathlib.Omega.{arith}
use Rattle.rules.specs.declared.Resting.{Resting}
use Rattle.rules.specs.Book.{unused}
use Rattle.side.specs.Table.{level_of, level_in, free}
use Rattle.side.proofs.rows.LawsShown.{length_is, level_at_lem}
use Rattle.side.proofs.table.Table.level_at.Goals as goal
use Rattle.side.proofs.table.Table.level_at.Goals.{After-slot_at}

level_is : (c : After-slot_at)
    → let a = c.args in
    level_in a.buying (get_or c.self.inside.rows c.slot_at.result free) ≡ level_of a.buying (get_or a.self.now a.rank unused)
level_is c =
    let a = c.args in
    let t = c.self.inside in
    ap (λ (j : ℕ). level_in a.buying (get_or t.rows j free)) c.slot_at.ensures.0
    ∙ level_at_lem t.held t.index t.rows a.rank (omega (arith, c.requires, length_is c.self.inside c.self.view_is)) c.self.invariant a.buying
    ∙ ap (λ (s : List Resting). level_of a.buying (get_or s a.rank unused)) c.self.view_is

pub returns-then-buying : goal.returns-then-buying
returns-then-buying c = rw c.if-buying.true (rw c.if-buying.true at (level_is (goal.at.returns-then-buying c).After-slot_at))

pub returns-else-buying : goal.returns-else-buying
returns-else-buying c = rw c.if-buying.false (rw c.if-buying.false at (level_is (goal.at.returns-else-buying c).After-slot_at))
