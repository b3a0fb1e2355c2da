-- `orders::enter` meets its contract: the header gets its number and its time where the order is accepted, and else it stays. Assumes nothing.
use mathlib.Core.Path.{refl, sym, ◌∙◌}
use Rattle.rules.specs.declared.Body.TheVariants as body
use Rattle.rules.specs.Book.{Book}
use Rattle.rules.proofs.LawsCommands.{order_does}
use Rattle.side.proofs.tables.LawsAnswers.{header_done, header_kept}
use Rattle.orders.proofs.enter.Goals as goal
use Rattle.orders.proofs.enter.Goals.{Start}

abbrev book : Start → Book
book s = record { held = s.args.held.now; buys = s.args.buys.now; sells = s.args.sells.now }

pub returns-in_err-length-clause-header : goal.returns-in_err-length-clause-header
returns-in_err-length-clause-header c =
    let a = c.args in
    let b = book (goal.at.returns-in_err-length-clause-header c).Start in
    sym (header_kept a.number a.time (body.Order a.o) b _ c.in_err-length.field-0.0 (sym c.in_err-length.was ∙ (c.judge_and_match.ensures a.time).0))

pub returns-clause-header : goal.returns-clause-header
returns-clause-header c =
    let a = c.args in
    let b = book (goal.at.returns-clause-header c).Start in
    let done = header_done a.number a.time (body.Order a.o) b _ c.in_ok-length.length (sym c.in_ok-length.was ∙ (c.judge_and_match.ensures a.time).0) in
    c.accepted.ensures ∙ sym (done ∙ rw (order_does a.number a.time b a.o).0 refl)
