-- `settling::Settling::settle` meets its contract: the order stays, or is taken off, and is put back at its new rank where it is set anew. Assumes
-- nothing.
use Prim.Native.Nat.{ℕ, ◌+◌, ◌-◌, ◌≤◌}
use mathlib.Core.List.{List}
use mathlib.Core.Path.{sym, ◌∙◌}
use lib.ListN.{length, take, drop, length-take, length-drop, take-append-drop}
use native.Mathlib.Omega.{arith}
use Rattle.basics.specs.Bytes.{onto}
use Rattle.basics.proofs.LawsBytes.{onto_part}
use Rattle.rules.specs.declared.Event.{Event}
use Rattle.rules.specs.declared.Event.TheVariants.{Cancelled, Moved}
use Rattle.kinds.specs.Kinds.{shares}
use Rattle.rules.specs.Book.{shares_left}
use Rattle.rules.specs.EventLines.{event_line, event_lines}
use Rattle.rules.proofs.LawsEvents.{event_lines_one, cancelled_length, moved_length}
use Rattle.settling.proofs.Settling.settle.Goals as goal
use Rattle.settling.proofs.Settling.settle.Goals.{In-IsCancelled, In-IsSet}

-- room behind the lines is room in the part of the buffer that is lent
behind : (len size : ℕ) (out : List ℕ) → len + size ≤ length out → size ≤ length (take (length out - len) (drop len out))
behind len size out room = simp (length-take, length-drop) (omega arith)

-- the line of an order that is cancelled, and the room for it
abbrev gone : In-IsCancelled → Event
gone c = Cancelled c.args.o.number (shares (shares_left c.args.o)) c.in-IsCancelled.reason

gone_fits : (c : In-IsCancelled) → c.args.self.length + 21 ≤ length c.args.out.now
gone_fits c =
    let room = rw (c.in-IsCancelled.is, event_lines_one (gone c)) at c.requires.room in
    omega (arith, room, cancelled_length c.args.o.number (shares (shares_left c.args.o)) c.in-IsCancelled.reason)

-- the same of one that is set anew
abbrev set : In-IsSet → Event
set c = let new = c.in-IsSet.new in Moved new.number new.price new.shares

set_fits : (c : In-IsSet) → c.args.self.length + 27 ≤ length c.args.out.now
set_fits c =
    let new = c.in-IsSet.new in
    let room = rw (c.in-IsSet.is, event_lines_one (set c)) at c.requires.room in
    omega (arith, room, moved_length new.number new.price new.shares)

pub returns-in-Stays-clause-out_after : goal.returns-in-Stays-clause-out_after
unfolding event_lines onto
returns-in-Stays-clause-out_after c = rw c.in-Stays.is (sym (take-append-drop c.args.self.length c.args.out.now))

-- ── It is cancelled ──

pub write_cancelled-more-requires : goal.write_cancelled-more-requires
write_cancelled-more-requires c =
    behind c.args.self.length 21 c.args.out.now (gone_fits (goal.at.write_cancelled-more-requires c).In-IsCancelled)

pub returns-in-IsCancelled-clause-value : goal.returns-in-IsCancelled-clause-value
returns-in-IsCancelled-clause-value c =
    let e = gone (goal.at.returns-in-IsCancelled-clause-value c).In-IsCancelled in
    rw (c.in-IsCancelled.is, event_lines_one e, cancelled_length c.args.o.number (shares (shares_left c.args.o)) c.in-IsCancelled.reason, c.write_cancelled-more.ensures.value)

pub returns-in-IsCancelled-clause-out_after : goal.returns-in-IsCancelled-clause-out_after
returns-in-IsCancelled-clause-out_after c =
    let e = gone (goal.at.returns-in-IsCancelled-clause-out_after c).In-IsCancelled in
    let w = c.write_cancelled-more in
    rw (c.in-IsCancelled.is, event_lines_one e) (onto_part c.args.self.length (event_line e) c.args.out.now w.new.out (w.ensures.out_after ∙ rw c.shares_left-left.ensures))

-- ── It is set anew ──

pub write_moved-more-requires : goal.write_moved-more-requires
write_moved-more-requires c = behind c.args.self.length 27 c.args.out.now (set_fits (goal.at.write_moved-more-requires c).In-IsSet)

pub returns-in-IsSet-clause-value : goal.returns-in-IsSet-clause-value
returns-in-IsSet-clause-value c =
    let new = c.in-IsSet.new in
    let e = set (goal.at.returns-in-IsSet-clause-value c).In-IsSet in
    rw (c.in-IsSet.is, event_lines_one e, moved_length new.number new.price new.shares, c.write_moved-more.ensures.value)

pub returns-in-IsSet-clause-out_after : goal.returns-in-IsSet-clause-out_after
returns-in-IsSet-clause-out_after c =
    let e = set (goal.at.returns-in-IsSet-clause-out_after c).In-IsSet in
    let w = c.write_moved-more in
    rw (c.in-IsSet.is, event_lines_one e) (onto_part c.args.self.length (event_line e) c.args.out.now w.new.out w.ensures.out_after)
