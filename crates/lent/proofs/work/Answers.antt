-- `lent::work` meets its contract: a table that does not fit is refused, and else what the whole book answers is taken apart. Assumes nothing.
use lib.ListN.{length}
use mathlib.Core.Bool.{true, false}
use mathlib.Core.Logic.{◌≢◌}
use mathlib.Core.Path.{◌≡◌, sym, ◌∙◌}
use Rattle.rules.specs.Book.{places_a_side}
use Rattle.book.specs.Record.{record_in, book_with}
use Rattle.lent.specs.Lent.{is_empty, places_lent, side_of, with_places}
use Rattle.lent.proofs.LawsLentStep.{left_short, left_unfit, left_fit}
use Rattle.lent.proofs.work.Goals as goal

pub returns-in_default : goal.returns-in_default
returns-in_default c =
    let a = c.args in
    let h : length a.table.now ≢ places_a_side = c.in_default.ensures.1 in
    rw c.refused.ensures (left_short a.buys a.book.now a.table.now a.line.now a.out.now h)

pub returns-then-not-empty : goal.returns-then-not-empty
returns-then-not-empty c =
    let a = c.args in
    let e : is_empty (side_of a.buys (record_in a.book.now)) ≡ false = rw c.side_of.ensures at (sym c.is_empty-empty.ensures ∙ c.if-not-empty.true) in
    rw c.refused-then-not-empty.ensures (left_unfit a.buys a.book.now a.table.now a.line.now a.out.now e)

pub returns : goal.returns
returns c =
    let a = c.args in
    let e : is_empty (side_of a.buys (record_in a.book.now)) ≡ true = rw c.side_of.ensures at (sym c.is_empty-empty.ensures ∙ c.if-not-empty.false) in
    let h = c.in-Ok.ensures.1 in
    let all : length a.table.now ≡ places_a_side = h.long in
    let whole : c.put_in.new.book ≡ book_with (with_places a.buys (places_lent a.table.now) (record_in a.book.now)) = rw h.same at c.put_in.ensures in
    let r = c.answer-reply in
    let told = left_fit a.buys a.book.now a.table.now a.line.now a.out.now all e r.result (rw whole at r.ensures.value) r.new.out (rw whole at r.ensures.out_after) in
    rw (c.take_out-left.ensures.book_after, c.copy_from_slice.ensures.after, c.take_out-left.ensures.value) told
