-- `lent::lend` meets its contract: the side's count is not that of its leading records, or the side is lent. Assumes nothing.
use lib.ListN.{length}
use mathlib.Core.Bool.{true, false}
use mathlib.Core.Path.{◌≡◌, sym, ◌∙◌}
use borrow.Author.Rules.{rules}
use Rattle.rules.specs.Book.{places_a_side}
use Rattle.book.specs.Record.{record_in}
use Rattle.lent.specs.Lent.{is_counted, side_of}
use Rattle.lent.proofs.LawsLentStep.{lending_uncounted, lending_counted}
use Rattle.lent.proofs.lend.Goals as goal

pub returns-then-not-counted : goal.returns-then-not-counted
returns-then-not-counted c =
    let a = c.args in
    let e : is_counted (side_of a.buys (record_in a.book.now)) ≡ false = rw c.side_of.ensures at (sym c.is_counted-counted.ensures ∙ c.if-not-counted.true) in
    rw c.refused.ensures (lending_uncounted a.buys a.book.now a.line.now a.out.now e)

pub returns : goal.returns
returns c =
    let a = c.args in
    let long : length c.take_out-table.result ≡ places_a_side = search rules in
    let e : is_counted (side_of a.buys (record_in a.book.now)) ≡ true = rw c.side_of.ensures at (sym c.is_counted-counted.ensures ∙ c.if-not-counted.false) in
    let all : length (side_of a.buys (record_in a.book.now)).places ≡ places_a_side = rw c.take_out-table.ensures.value at long in
    let w = c.work-answer in
    let told = lending_counted a.buys a.book.now a.line.now a.out.now e all w.new.book w.result w.new.table w.new.out (rw (c.take_out-table.ensures.book_after, c.take_out-table.ensures.value) at w.ensures) in
    rw c.put_in.ensures told
