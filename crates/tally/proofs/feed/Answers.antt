-- `tally::feed` meets its contract. The loop's invariant (`Feeding`): the lines ahead lead the tally on to what all lines of the piece
-- do. Assumes nothing.
use native.Mathlib.Omega.{arith}
use Rattle.tally.proofs.LawsFed.{feeding_start, feeding_line, feeding_end}
use Rattle.tally.proofs.feed.Goals as goal

pub loop-rest-init : goal.loop-rest-init
loop-rest-init c =
    let a = c.args in
    feeding_start a.number a.t a.input.now

pub loop-rest-preserved : goal.loop-rest-preserved
loop-rest-preserved c =
    let a = c.args in
    let l = c.loop-rest in
    let end = c.scan_line-end.result in
    feeding_line a.number a.t a.input.now l.tally l.at l.invariant end c.scan_line-end.ensures
    (omega (arith, c.if-rest-end.false)) c.take_line-tally.result c.take_line-tally.ensures

pub returns : goal.returns
returns c =
    let a = c.args in
    let l = c.loop-rest in
    feeding_end a.number a.t a.input.now l.tally l.at l.invariant c.scan_line-end.result c.scan_line-end.ensures
    (omega (arith, c.if-rest-end.true))
