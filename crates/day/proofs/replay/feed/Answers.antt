-- `day::replay::feed` meets its contract. The loop's invariant (`Feeding`): what is worked so far, and what is worked of the rest, are
-- together what is worked of the whole input. Assumes nothing.
use Prim.Native.Nat.{◌+◌, ◌≤◌}
use lib.ListN.{length}
use native.Mathlib.Omega.{arith}
use borrow.Author.Rules.{rules}
use Rattle.day.proofs.replay.LawsFeed.{feeding_start, lines_have_room, feeding_line, ends_full, ends_found, left_end}
use Rattle.day.proofs.replay.feed.Goals as goal

pub loop-out-init : goal.loop-out-init
loop-out-init c = feeding_start c.args.input.now c.args.out.now c.args.book.now

pub overflow_add-length : goal.overflow_add-length
overflow_add-length c =
    let l = c.loop-out in
    let p = c.print_line-printed in
    let room = lines_have_room _ p.new.out l.out l.length p.ensures.2 p.auto.out in
    let fit : l.length + p.result ≤ length c.args.out.now = omega (arith, p.ensures.0, room, l.invariant.fits, l.invariant.long) in
    search (rules, fit)

pub loop-out-preserved : goal.loop-out-preserved
loop-out-preserved c =
    let l = c.loop-out in
    let p = c.print_line-printed in
    let found = c.first_line-line in
    feeding_line c.args.input.now c.args.out.now c.args.book.now l.book l.out l.at l.length l.invariant
    c.if-out-length-lt-LEAST_ROOM.false found.result found.ensures (omega (arith, c.if-input-at.false))
    p.new.book p.result p.new.out p.ensures p.auto.out

pub returns-then-out-length-lt-LEAST_ROOM : goal.returns-then-out-length-lt-LEAST_ROOM
returns-then-out-length-lt-LEAST_ROOM c =
    let a = c.args in
    let l = c.loop-out in
    left_end a.input.now a.out.now a.book.now l.book l.out l.at l.length l.invariant
    (ends_full a.input.now a.out.now a.book.now l.book l.out l.at l.length l.invariant c.if-out-length-lt-LEAST_ROOM.true)

pub returns-then-input-at : goal.returns-then-input-at
returns-then-input-at c =
    let a = c.args in
    let l = c.loop-out in
    left_end a.input.now a.out.now a.book.now l.book l.out l.at l.length l.invariant
    (ends_found a.input.now a.out.now a.book.now l.book l.out l.at l.length l.invariant
    c.first_line-line.result c.first_line-line.ensures (omega (arith, c.if-input-at.true)))
