-- `side::table::Table::at` meets its contract: the order stands in the row that the index names. Assumes nothing.
use Prim.Native.Nat.{ℕ}
use mathlib.Core.List.{List}
use mathlib.Core.Path.{ap, ◌∙◌}
use lib.ListN.{get_or}
use native.Mathlib.Omega.{arith}
use Rattle.rules.specs.declared.Resting.{Resting}
use Rattle.rules.specs.Book.{unused}
use Rattle.side.specs.Table.{order_of, free}
use Rattle.side.proofs.rows.LawsShown.{length_is, order_at}
use Rattle.side.proofs.table.Table.at.Goals as goal

pub returns : goal.returns
returns c =
    let t = c.self.inside in
    ap (λ (j : ℕ). order_of (get_or t.rows j free)) c.slot_at.ensures.0
    ∙ order_at t.held t.index t.rows c.args.rank (omega (arith, c.requires, length_is c.self.inside c.self.view_is))
    ∙ ap (λ (s : List Resting). get_or s c.args.rank unused) c.self.view_is
