-- `side::table::Table::reduce` meets its contract: the order at the rank is put back with the shares that it keeps. Assumes nothing.
use Prim.Native.Nat.{ℕ, ◌<◌}
use mathlib.Core.Path.{◌≡◌, ap, ◌∙◌}
use lib.ListN.{get_or, set}
use native.Mathlib.Omega.{arith}
use Rattle.rules.specs.Book.{unused}
use Rattle.side.specs.Shifts.{less_by}
use Rattle.side.specs.Table.{order_of, row_of, free, ranked, side}
use Rattle.side.proofs.rows.LawsShown.{Shows, length_is, order_at, side_put}
use Rattle.side.proofs.table.Table.reduce.Goals as goal
use Rattle.side.proofs.table.Table.reduce.Goals.{After-row_of}

shown : (c : After-row_of)
    → let a = c.args in
    let t = c.self.inside in
    Shows (set a.self.now a.at (less_by a.part.0 (get_or a.self.now a.at unused))) t.held t.index (set t.rows c.slot_at-slot.result c.row_of.result)
shown c =
    let a = c.args in
    let t = c.self.inside in
    let l : a.at < t.held = omega (arith, c.requires, length_is c.self.inside c.self.view_is) in
    let slot : c.slot_at-slot.result ≡ get_or (ranked t.held t.index) a.at 0 = c.slot_at-slot.ensures.0 in
    let o = order_of (get_or t.rows c.slot_at-slot.result free) in
    let read : o ≡ get_or (side t.held t.index t.rows) a.at unused =
    ap (λ (j : ℕ). order_of (get_or t.rows j free)) slot ∙ order_at t.held t.index t.rows a.at l in
    let put : c.row_of.result ≡ row_of (less_by a.part.0 o) =
    c.row_of.ensures
    ∙ rw (c.cut-minimum.ensures, c.saturating_sub-reserve.ensures, c.saturating_sub-more.ensures, c.saturating_sub-shown.ensures) in
    rw (put, read, slot, ← c.self.view_is) (side_put t.held t.index t.rows c.self.invariant a.at (less_by a.part.0 (get_or (side t.held t.index t.rows) a.at unused)) l)

pub invariant_of-self : goal.invariant_of-self
invariant_of-self c = (shown (goal.at.invariant_of-self c).After-row_of).holds

pub returns : goal.returns
returns c = (shown (goal.at.returns c).After-row_of).is
