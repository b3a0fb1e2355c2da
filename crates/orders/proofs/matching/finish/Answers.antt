-- `orders::matching::finish` meets its contract: the order's last line, and behind it those of the refills. Assumes nothing.
use mathlib.Core.Path.{sym}
use Prim.Native.Nat.{ℕ, ◌+◌, ◌-◌, ◌*◌, ◌≤◌}
use mathlib.Core.List.{List}
use lib.ListN.{length, take, drop, length-take, length-drop, length-append}
use native.Mathlib.Omega.{arith}
use Rattle.rules.specs.declared.Event.{Event}
use Rattle.rules.specs.Settling.{told}
use Rattle.rules.specs.Working.{last_line, refill_fate}
use Rattle.rules.proofs.LawsEvents.{event_lines_append, lines_behind, last_long, told_long}
use Rattle.orders.proofs.matching.finish.Goals as goal
use Rattle.orders.proofs.matching.finish.Goals.{After-conclude-len}

-- what the last line leaves of the output
module _ (c : After-conclude-len) where
  abbrev last : List Event
  last = last_line c.args.number c.args.left.0 c.args.end

  abbrev out : List ℕ
  out = c.conclude-len.new.out

  room : c.conclude-len.result + 27 * length c.args.opposite.now ≤ length out
  room = omega (arith, c.conclude-len.ensures.value, last_long c.args.number c.args.left.0 c.args.end, c.requires.room)

pub slice_bounds-refill-count : goal.slice_bounds-refill-count
slice_bounds-refill-count c = omega (arith, room (goal.at.slice_bounds-refill-count c).After-conclude-len)

pub slice_bounds-refill-start : goal.slice_bounds-refill-start
slice_bounds-refill-start c = omega (arith, room (goal.at.slice_bounds-refill-start c).After-conclude-len)

pub refill-more-requires-clause-room : goal.refill-more-requires-clause-room
refill-more-requires-clause-room c =
    let here = (goal.at.refill-more-requires-clause-room c).After-conclude-len in
    let len = c.conclude-len.result in
    let g : 27 * length c.args.opposite.now ≤ length (take (length (out here) - len) (drop len (out here))) =
    simp (length-take, length-drop) (omega (arith, room here)) in
    omega (arith, g, told_long refill_fate c.args.opposite.now)

pub overflow_add-result : goal.overflow_add-result
overflow_add-result c =
    omega (
      arith,
      c.refill-more.ensures.value,
      told_long refill_fate c.args.opposite.now,
      c.requires.may_refill.fits,
      c.conclude-len.ensures.value,
      last_long c.args.number c.args.left.0 c.args.end,
    )

pub returns : goal.returns
returns c =
    let here = (goal.at.returns c).After-conclude-len in
    let a = c.args in
    let l = c.conclude-len in
    let f = c.refill-more in
    let refills = told refill_fate a.opposite.now in
    record {
      value = rw (event_lines_append (last here) refills, length-append, l.ensures.value, f.ensures.value);
      own_after = l.ensures.own_after;
      opposite_after = rw (sym c.is_buy.ensures) f.ensures.settles;
      out_after = lines_behind (last here) refills l.result (out here) a.out.now f.new.out l.ensures.value l.ensures.out_after f.ensures.out_after;
    }
