-- `orders::walk::walk` meets its contract. The loop's invariant is `Underway` of LawsWalk, and its measure the parts ahead of the cursor.
-- Assumes nothing.
use mathlib.Core.Bool.{true, false}
use mathlib.Core.List.{[]}
use mathlib.Core.Path.{◌≡◌, sym, ◌∙◌}
use native.Mathlib.Omega.{arith}
use Rattle.orders.specs.Cursor.{ahead, Gives}
use Rattle.orders.specs.Walk.{is_within, part_is_skipped}
use Rattle.orders.proofs.walk.LawsWalk.{underway_start, underway_taken, underway_past, room_next, ended_side, ended_none, ended_beyond}
use Rattle.orders.proofs.walk.walk.Goals as goal
use Rattle.orders.proofs.walk.walk.Goals.{In-Some}

-- the part that the cursor gave
gave : (c : In-Some) → Gives c.args.t.now c.loop-left.c c.in-Some.part c.in-Some.next
gave c = c.in-Some.ensures.value

pub loop-left-init : goal.loop-left-init
loop-left-init c = rw c.clear.ensures (underway_start (is_within c.args.buying c.args.bound) c.args.want.0 c.args.t.now)

pub take_from-left-requires-clause-room : goal.take_from-left-requires-clause-room
take_from-left-requires-clause-room c =
    room_next c.loop-left.invariant (omega arith) (gave (goal.at.take_from-left-requires-clause-room c).In-Some) c.next.ensures.fits

pub loop-left-preserved-then-is_skipped : goal.loop-left-preserved-then-is_skipped
loop-left-preserved-then-is_skipped c =
    let within : is_within c.args.buying c.args.bound c.in-Some.part ≡ true = sym c.within.ensures ∙ c.if-not-within.false in
    let skipped : part_is_skipped c.loop-left.left.0 c.in-Some.part ≡ true = sym c.is_skipped.ensures ∙ c.if-is_skipped.true in
    rw c.min-skipped.ensures
    (underway_past c.loop-left.invariant (omega arith) (gave (goal.at.loop-left-preserved-then-is_skipped c).In-Some) within skipped)

pub loop-left-preserved : goal.loop-left-preserved
loop-left-preserved c =
    let within : is_within c.args.buying c.args.bound c.in-Some.part ≡ true = sym c.within.ensures ∙ c.if-not-within.false in
    let takes : part_is_skipped c.loop-left.left.0 c.in-Some.part ≡ false = sym c.is_skipped.ensures ∙ c.if-is_skipped.false in
    rw (c.take_from-left.ensures.value, c.take_from-left.ensures.took_after)
    (underway_taken c.loop-left.invariant (omega arith) (gave (goal.at.loop-left-preserved c).In-Some) within takes)

pub returns-then-left-eq0 : goal.returns-then-left-eq0
returns-then-left-eq0 c =
    let told = ended_none c.loop-left.invariant c.if-left-eq0.true in
    record { value = told.0; took_after = told.1 }

pub returns-in_default : goal.returns-in_default
returns-in_default c =
    let over : ahead c.args.t.now c.loop-left.c ≡ [] = rw c.in_default.is at c.next.ensures.value in
    let told = ended_side c.loop-left.invariant over in
    record { value = told.0; took_after = told.1 }

pub returns-then-not-within : goal.returns-then-not-within
returns-then-not-within c =
    let beyond : is_within c.args.buying c.args.bound c.in-Some.part ≡ false = sym c.within.ensures ∙ c.if-not-within.true in
    let told = ended_beyond c.loop-left.invariant (omega arith) (gave (goal.at.returns-then-not-within c).In-Some) beyond in
    record { value = told.0; took_after = told.1 }
