-- `orders::matching::match_order` meets its contract: the takings of the walk, and the ending, are together 01's match. Assumes nothing.
use Prim.Native.Nat.{ℕ, ◌+◌, ◌-◌, ◌*◌, ◌≤◌, min}
use mathlib.Core.Bool.{true, false, not}
use mathlib.Core.List.{List, ◌++◌, map, append_assoc}
use mathlib.Core.Path.{◌≡◌, refl, sym, ap, subst, ◌∙◌}
use lib.ListN.{length, take, drop, length-take, length-drop, length-append}
use native.Mathlib.Omega.{arith}
use Rattle.std.specs.Prelude.{Ok}
use Rattle.basics.specs.Bytes.{onto}
use Rattle.basics.specs.Lists.{All, every}
use Rattle.basics.proofs.LawsBytes.{onto_none}
use Rattle.basics.proofs.LawsLists.{all_alike}
use Rattle.side.specs.Shifts.{keeps}
use Rattle.kinds.specs.declared.HalfCents.{HalfCents}
use Rattle.kinds.specs.declared.Number.{Number}
use Rattle.rules.specs.declared.Away.{Away}
use Rattle.rules.specs.declared.Ending.{Ending}
use Rattle.rules.specs.declared.Event.{Event}
use Rattle.rules.specs.declared.Order.{Order}
use Rattle.rules.specs.declared.Resting.{Resting}
use Rattle.rules.specs.Book.{places_a_side}
use Rattle.rules.specs.EventLines.{event_lines}
use Rattle.rules.specs.Refusals.{least_room}
use Rattle.rules.specs.Holdings.{holdings, executions, after}
use Rattle.rules.specs.Settling.{first_move, told, settled_side}
use Rattle.rules.specs.Working.{buying, Met, execution_price, takings, ending, last_line, refill_fate}
use Rattle.rules.proofs.LawsEvents.{executed_length, event_lines_append, lines_behind, last_long, told_long}
use Rattle.orders.specs.declared.takings.Taking.{Taking}
use Rattle.orders.specs.declared.walk.Walked.{Walked}
use Rattle.orders.specs.Bound.{bound_of, bound_under}
use Rattle.orders.specs.Fills.{MinimumRemains, after_takings}
use Rattle.orders.specs.Locks.{locked_price, executes_at}
use Rattle.orders.specs.Matching.{is_full, rests_below, Ready}
use Rattle.orders.specs.Refills.{MayRefill}
use Rattle.orders.specs.Reports.{execution_of}
use Rattle.orders.specs.Walking.{met_with, Walkable, walk_bound, walk_for, takings_for, takings_by, Walks, ending_by_best}
use Rattle.orders.proofs.fills.LawsTakenOff.{all_keep, after_long}
use Rattle.orders.proofs.matching.LawsMatched.{ending_below, refused, ended_is, may_refill}
use Rattle.orders.proofs.reports.LawsReports.{lines_length, takings_executed}
use Rattle.orders.proofs.work.LawsEnding.{ending_by_best_lem}
use Rattle.orders.proofs.work.LawsLeft.{best_left, post_first, taken_left, best_tells}
use Rattle.orders.proofs.work.LawsWalking.{executes_at_lem, walk_within, walks as walks_bound, takings_fit}
use Rattle.orders.proofs.matching.match_order.Goals as goal
use Rattle.orders.proofs.matching.match_order.Goals.{After-ending_of-end}

-- what is known once the order has walked and its ending is found
record Known : Type 0 where
  pub o : Order
  pub number : Number
  pub away : Away
  pub own : List Resting
  pub opposite : List Resting
  pub locked : HalfCents
  pub bound : HalfCents
  pub walk : Walked
  pub took : List Taking
  pub end : Ending
  pub fits : length opposite ≤ places_a_side
  -- the limit and the Locking Price are numbers that four bytes hold
  pub walkable : Walkable o (met_with away own opposite)
  pub locked_is : locked ≡ locked_price own
  pub bound_is : bound ≡ bound_under (buying o) locked (bound_of o away)
  pub walk_is : walk ≡ walk_for o bound opposite
  pub took_is : took ≡ takings_for o bound opposite
  -- at the rank of the best of those that the walk leaves
  pub end_is : end ≡ ending_by_best walk.left.0 o away locked (drop (min walk.skipped walk.at) opposite)

abbrev known : After-ending_of-end → Known
known c =
    let a = c.args in
    record {
      o = a.o;
      number = a.number;
      away = a.away;
      own = a.own.now;
      opposite = a.opposite.now;
      locked = c.locked_price-locked.result;
      bound = c.bound_under-bound.result;
      walk = c.walk_of-w.result;
      took = c.walk_of-w.new.took;
      end = c.ending_of-end.result;
      fits = c.len.ensures.fits;
      walkable = c.requires.ready.walkable;
      locked_is = c.locked_price-locked.ensures;
      bound_is = c.bound_under-bound.ensures;
      walk_is = c.walk_of-w.ensures.value;
      took_is = c.walk_of-w.ensures.took_after;
      end_is = cc;
    }

-- of the walk and the ending
module _ (k : Known) where
  abbrev met : Met
  met = met_with k.away k.own k.opposite

  bound_walks : k.bound ≡ walk_bound k.o met
  bound_walks = k.bound_is ∙ ap (λ (p : HalfCents). bound_under (buying k.o) p (bound_of k.o k.away)) k.locked_is

  walk_for_lem : k.walk ≡ walk_for k.o (walk_bound k.o met) k.opposite
  walk_for_lem = k.walk_is ∙ ap (λ (b : HalfCents). walk_for k.o b k.opposite) bound_walks

  took_for : k.took ≡ takings_for k.o (walk_bound k.o met) k.opposite
  took_for = k.took_is ∙ ap (λ (b : HalfCents). takings_for k.o b k.opposite) bound_walks

  walks : Walks k.o met k.walk k.took
  walks = rw (walk_for_lem, took_for) (walks_bound k.o met k.walkable)

  abbrev kept : ℕ
  kept = min k.walk.skipped k.walk.at

  kept_best : kept ≡ best_left k.o met
  kept_best = ap (λ (w : Walked). min w.skipped w.at) walk_for_lem

  ends_by_best : k.end ≡ ending_by_best k.walk.left.0 k.o k.away (locked_price k.own) (drop kept k.opposite)
  ends_by_best = k.end_is ∙ ap (λ (p : HalfCents). ending_by_best k.walk.left.0 k.o k.away p (drop kept k.opposite)) k.locked_is

  ends : k.end ≡ ending k.o met
  ends =
      let tells = best_tells k.o met k.walkable k.fits (sym took_for ∙ walks.takes) (ap (λ (w : Walked). w.left.0) (sym walk_for_lem) ∙ walks.leaves) in
      ends_by_best
      ∙ ap (λ (i : ℕ). ending_by_best k.walk.left.0 k.o k.away (locked_price k.own) (drop i k.opposite)) kept_best
      ∙ ap (λ (i : ℕ). ending_by_best i k.o k.away (locked_price k.own) (drop (best_left k.o met) k.opposite)) walks.leaves
      ∙ sym (ending_by_best_lem k.o met k.walkable (best_left k.o met) (λ some other. tells some) (post_first k.o met))

  executed : List Event
  executed = executions k.number (execution_price k.o met) (holdings k.opposite) (takings k.o met)

  -- at the price of the execution against its order
  abbrev at_price : HalfCents → HalfCents
  at_price = executes_at (buying k.o) k.locked

  executed_is : map (execution_of k.number at_price k.opposite) k.took ≡ executed
  unfolding executed
  executed_is =
      ap (map (execution_of k.number at_price k.opposite)) walks.takes
      ∙ ap (λ (p : HalfCents). map (execution_of k.number (executes_at (buying k.o) p) k.opposite) (takings_by k.o met)) k.locked_is
      ∙ takings_executed k.number (executes_at (buying k.o) (locked_price k.own)) (execution_price k.o met) k.opposite
      (executes_at_lem k.o met k.walkable) (takings k.o met)

  executed_long : 35 * length k.took ≡ length (event_lines executed)
  executed_long =
      let by = execution_of k.number at_price k.opposite in
      sym (lines_length by 35 (λ t. executed_length k.number _ (at_price t.price) t.shares) k.took)
      ∙ ap (λ (es : List Event). length (event_lines es)) executed_is

  took_fits : length k.took ≤ 2 * length k.opposite
  took_fits = rw took_for (takings_fit k.o met k.walkable)

  abbrev given : List ℕ
  given = takings k.o met

  keep_all : every keeps k.opposite ≡ true
  keep_all = all_keep (all_alike (λ h w. w.holds) k.walkable.workable)

  remain_all : All MinimumRemains k.opposite
  remain_all = all_alike (λ h w. w.remains) k.walkable.workable

  -- the opposite side after the walk
  module _ (left : List Resting) (is : left ≡ after_takings k.took k.opposite) where
    left_is : left ≡ after k.opposite given
    left_is = is ∙ (ap (λ (ks : List Taking). after_takings ks k.opposite) walks.takes ∙ taken_left k.o met k.walkable k.fits)

    -- those that were not reached all stay
    unreached_stay : length k.opposite - k.walk.at ≤ length left
    unreached_stay = rw is (after_long k.walk.at walks.before k.opposite remain_all keep_all)

    refills_are : Ready k.o k.number met → length left ≤ places_a_side
        → MayRefill (not (buying k.o)) k.number (length left - (length k.opposite - k.walk.at)) left
    refills_are ready most =
        let taken = sym is ∙ left_is in
        rw left_is (may_refill (not (buying k.o)) k.number k.walk.at walks.before k.opposite given taken k.walkable.ranked k.walkable.workable
        ready.opposite_older (rw left_is at most))

    -- the output after the executions has room for the other lines
    room_behind : {written room : ℕ} → length left ≤ places_a_side → written ≡ 35 * length k.took → least_room ≤ room
        → written + 27 + 27 * length left ≤ room
    room_behind most wrote enough = omega (arith, wrote, enough, took_fits, k.fits, most)

pub overflow_sub-unreached : goal.overflow_sub-unreached
overflow_sub-unreached c =
    let a = c.args in
    let within = walk_within a.o (met_with a.away a.opposite.now a.opposite.now) c.bound_under-bound.result in
    rw (ap (λ (w : Walked). w.at) c.walk_of-w.ensures.value, c.len.ensures.value) within

-- "or refusal 11 with the same sides"
pub returns-then-full : goal.returns-then-full
unfolding event_lines
returns-then-full c =
    let k = known (goal.at.returns-then-full c).After-ending_of-end in
    let full : is_full k.end k.own ≡ true = rw (c.is_rest.ensures, c.is_full.ensures) at c.if-full.true in
    let is : is_full (ending k.o (met k)) k.own ≡ true = ap (λ (end : Ending). is_full end k.own) (sym (ends k)) ∙ full in
    rw (refused k.o k.number (met k) is) (refl, refl, refl, onto_none c.args.out.now)

pub report-length-requires : goal.report-length-requires
report-length-requires c =
    let k = known (goal.at.report-length-requires c).After-ending_of-end in
    record {
      below = all_alike (λ (t : Taking) l. omega (arith, l, (walks k).reaches)) (walks k).before;
      room = omega (arith, took_fits k, k.fits, c.requires.room);
      locks = rw k.locked_is k.walkable.locked_below;
    }

pub take_off-requires : goal.take_off-requires
take_off-requires c =
    let k = known (goal.at.take_off-requires c).After-ending_of-end in
    record { within = (walks k).reaches; below = (walks k).before; keep = keep_all k; remain = remain_all k }

pub overflow_sub-reached : goal.overflow_sub-reached
overflow_sub-reached c =
    let k = known (goal.at.overflow_sub-reached c).After-ending_of-end in
    omega (arith, unreached_stay k c.take_off.new.t c.take_off.ensures, c.len.ensures.value, c.len-2.ensures.value)

pub slice_bounds-finish-count : goal.slice_bounds-finish-count
slice_bounds-finish-count c =
    let k = known (goal.at.slice_bounds-finish-count c).After-ending_of-end in
    omega (arith, room_behind k c.take_off.new.t c.take_off.ensures c.len-2.ensures.fits c.report-length.ensures.value c.requires.room)

pub slice_bounds-finish-start : goal.slice_bounds-finish-start
slice_bounds-finish-start c =
    let k = known (goal.at.slice_bounds-finish-start c).After-ending_of-end in
    omega (arith, room_behind k c.take_off.new.t c.take_off.ensures c.len-2.ensures.fits c.report-length.ensures.value c.requires.room)

pub finish-more-requires-clause-may_rest : goal.finish-more-requires-clause-may_rest
finish-more-requires-clause-may_rest c =
    let k = known (goal.at.finish-more-requires-clause-may_rest c).After-ending_of-end in
    let ready = c.requires.ready in
    record {
      priced = subst rests_below (sym (ends_by_best k)) (ending_below k.o k.away k.walkable.limited k.walk.left.0 (locked_price k.own) (drop (kept k) k.opposite));
      ranked = ready.own_ranked;
      older = ready.older;
    }

pub finish-more-requires-clause-may_refill : goal.finish-more-requires-clause-may_refill
finish-more-requires-clause-may_refill c =
    let k = known (goal.at.finish-more-requires-clause-may_refill c).After-ending_of-end in
    rw (c.len.ensures.value, c.len-2.ensures.value) (refills_are k c.take_off.new.t c.take_off.ensures c.requires.ready c.len-2.ensures.fits)

pub finish-more-requires-clause-room : goal.finish-more-requires-clause-room
finish-more-requires-clause-room c =
    let k = known (goal.at.finish-more-requires-clause-room c).After-ending_of-end in
    let room = room_behind k c.take_off.new.t c.take_off.ensures c.len-2.ensures.fits c.report-length.ensures.value c.requires.room in
    simp (length-take, length-drop) (omega (arith, room))

pub overflow_add-result : goal.overflow_add-result
overflow_add-result c =
    let k = known (goal.at.overflow_add-result c).After-ending_of-end in
    let left = c.take_off.new.t in
    let last = last_line k.number k.walk.left.0 k.end in
    omega (
      arith,
      c.report-length.ensures.value,
      took_fits k,
      k.fits,
      c.finish-more.ensures.value,
      length-append (event_lines last) (event_lines (told refill_fate left)),
      ap length (event_lines_append last (told refill_fate left)),
      last_long k.number k.walk.left.0 k.end,
      told_long refill_fate left,
      c.len-2.ensures.fits,
    )

pub returns : goal.returns
unfolding executed
returns c =
    let k = known (goal.at.returns c).After-ending_of-end in
    let a = c.args in
    let r = c.report-length in
    let f = c.finish-more in
    let last = last_line a.number k.walk.left.0 k.end in
    let s = after k.opposite (given k) in
    let rest = last ++ told refill_fate s in
    let left : c.take_off.new.t ≡ s = left_is k c.take_off.new.t c.take_off.ensures in
    let is_room : is_full k.end k.own ≡ false = rw (c.is_rest.ensures, c.is_full.ensures) at c.if-full.false in
    let is = ended_is a.o a.number (met k) k.walk.left.0 k.end (walks k).leaves (ends k) is_room in
    let joined : (executed k ++ last) ++ told refill_fate s ≡ executed k ++ rest = append_assoc (executed k) last (told refill_fate s) in
    let len : r.result ≡ length (event_lines (executed k)) = r.ensures.value ∙ executed_long k in
    let more : f.result ≡ length (event_lines rest) = f.ensures.value ∙ ap (λ (u : List Resting). length (event_lines (last ++ told refill_fate u))) left in
    let long : r.result + f.result ≡ length (event_lines (executed k ++ rest)) =
    rw (event_lines_append (executed k) rest) (omega (arith, length-append (event_lines (executed k)) (event_lines rest), len, more)) in
    let x = r.new.out in
    let wrote : x ≡ onto (event_lines (executed k)) a.out.now =
    (rw c.is_buy.ensures at r.ensures.out_after) ∙ ap (λ (es : List Event). onto (event_lines es) a.out.now) (executed_is k) in
    let behind : f.new.out ≡ onto (event_lines rest) (take (length x - r.result) (drop r.result x)) =
    f.ensures.out_after
    ∙ ap (λ (u : List Resting). onto (event_lines (last ++ told refill_fate u)) (take (length x - r.result) (drop r.result x))) left in
    rw (is, joined) (
      ap Ok long,
      f.ensures.own_after,
      f.ensures.opposite_after ∙ ap (settled_side a.number first_move (not (buying a.o)) refill_fate) left,
      lines_behind (executed k) rest r.result x a.out.now f.new.out len wrote behind,
    )
