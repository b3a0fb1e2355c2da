-- `side::table::Table::follow_hint` meets its contract: a hint that leads to the number in a row in use leads to its order. Assumes nothing.
use Prim.Native.Nat.{◌-◌, ◌%◌, ◌<◌}
use mathlib.Core.Bool.{true}
use mathlib.Core.Path.{◌≡◌, sym, ◌∙◌}
use lib.ListN.{get_or}
use native.Mathlib.Omega.{arith}
use borrow.Author.Tests.{not-false}
use Rattle.basics.specs.Lists.{first_where}
use Rattle.rules.specs.Book.{places_a_side}
use Rattle.rules.specs.Commands.{is_number}
use Rattle.side.specs.Table.{order_of, free}
use Rattle.side.proofs.rows.LawsIndex.{names_below}
use Rattle.side.proofs.rows.LawsShown.{length_is}
use Rattle.side.proofs.LawsHints.{rank_found, hint_leads}
use Rattle.side.proofs.table.Table.follow_hint.Goals as goal

pub overflow_sub-result : goal.overflow_sub-result
overflow_sub-result c = omega (arith, (c.place_of.ensures c.in_ok-i.i c.in_ok-i.was).0)

pub overflow_sub-result-2 : goal.overflow_sub-result-2
overflow_sub-result-2 c = omega (arith, (c.place_of.ensures c.in_ok-i.i c.in_ok-i.was).0)

pub returns : goal.returns
returns c =
    let a = c.args in
    let t = c.self.inside in
    let holds = c.self.invariant in
    let i = c.in_ok-i.i in
    let place = c.place_of.ensures i c.in_ok-i.was in
    let hint = c.from-slot.result in
    let slot = hint % places_a_side in
    let in_table : get_or t.index i 0 < places_a_side = names_below t.index holds.names i (omega (arith, place.0, holds.fits)) in
    let named : get_or t.index i 0 ≡ slot = omega (arith, place.1, c.from-slot.ensures, in_table) in
    let its : is_number a.number (order_of (get_or t.rows slot free)) ≡ true = not-false _ (sym c.ne.ensures ∙ c.if-ne.false) in
    let led : t.held - 1 - i ≡ first_where (is_number a.number) a.self.now =
    rw c.self.view_is at (hint_leads t.held t.index t.rows holds a.number (rw (← c.self.view_is) at c.requires) slot i named place.0 its) in
    λ x e. rank_found a.number a.self.now (t.held - 1 - i) (omega (arith, place.0, length_is t c.self.view_is)) led ∙ e
