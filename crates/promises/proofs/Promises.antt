-- The front door: what the customer asked for (00-demands), sentence by sentence, each a statement and a citation of its proof. To
-- believe these a reader needs the definitions that they name: 01 itself in `rules/specs`, the customer's words in `demands/specs`; for the
-- tally `tally/specs/Tally`, for the program `day/specs/Turns` with `Feed` and `Pieces` beside it and `command_lines/specs/Pieces`. What else holds of a day, and
-- of the lent table, stands in `Beyond` beside this file, and what the code itself is proved to do in `Entries`. Assumes nothing.
use Prim.Native.Nat.{ℕ, ◌+◌, ◌-◌, ◌%◌, ◌≤◌, ◌<◌, min}
use mathlib.Core.Bool.{Bool, true, false, not}
use mathlib.Core.List.{List, [], ◌∷◌, ◌++◌, map}
use mathlib.Core.Logic.{◌⊎◌, ◌≢◌}
use mathlib.Core.Path.{◌≡◌, refl}
use lib.ListN.{length}
use Rattle.basics.specs.Lists.{distinct, All, OneOf}
use Rattle.kinds.specs.Kinds.{in_half_cents, shares}
use Rattle.kinds.specs.declared.HalfCents.{HalfCents}
use Rattle.kinds.specs.declared.Number.{Number}
use Rattle.kinds.specs.declared.Shares.{Shares}
use Rattle.rules.specs.declared.Away.{Away}
use Rattle.rules.specs.declared.Body.TheVariants as body
use Rattle.rules.specs.declared.Command.{Command}
use Rattle.rules.specs.declared.Event.{Event}
use Rattle.rules.specs.declared.Ending.TheVariants.{Rests}
use Rattle.rules.specs.declared.Event.TheVariants.{Executed, Rested, Cancelled}
use Rattle.rules.specs.declared.Order.{Order}
use Rattle.rules.specs.declared.Resting.{Resting}
use Rattle.rules.specs.Book.{Book, BookRecord, places_a_side, fresh, in_rank_order, apart, sound, book_in, record_of, record_sound}
use Rattle.rules.specs.CommandLines.{command_in, line_of, Fits}
use Rattle.rules.specs.Commands.{does}
use Rattle.rules.specs.Day.{printed, book_after, printed_of}
use Rattle.rules.specs.EventLines.{FitsEvent, event_line, event_lines, refusal_line}
use Rattle.rules.specs.EventReading.{event_in}
use Rattle.rules.specs.Examples.{DeskExamples, QuoteExamples, ReserveExamples, LockExamples, MinimumExamples}
use Rattle.rules.specs.Holdings.{holdings, InWalkOrder, orders_of}
use Rattle.rules.specs.Instructions.{has, ioc, fok, iso, market, post_only}
use Rattle.rules.specs.Refusals.{least_room}
use Rattle.rules.specs.Step.{answer_to, step, step_on}
use Rattle.rules.specs.Working.{buying, minimum_of, seeks}
use Rattle.rules.proofs.Examples.{desk_examples, quote_examples_lem, reserve_examples_lem, lock_examples_lem, minimum_examples_lem}
use Rattle.rules.proofs.LawsEventReading.{event_in_event_line, event_in_is}
use Rattle.rules.proofs.LawsLines.{command_in_line_of, command_in_is, line_of_once}
use Rattle.rules.proofs.LawsHoldings.{holdings_shown, holdings_reserves}
use Rattle.rules.proofs.LawsWalkOrder.{holdings_walk}
use Rattle.soundness.proofs.LawsKept.{fresh_sound, after_sound}
use Rattle.demands.specs.Beyond.{one_to, repeated}
use Rattle.demands.specs.ExactlyWhen.{own, Applies, NoLower}
use Rattle.demands.specs.Executes.{executions_in, Executes}
use Rattle.demands.specs.Locks.{ExecutesWith, MeetsOrPasses, PostOnlyMeets, SaysOfPostOnly, StandApart, RestsAtWholeCents}
use Rattle.demands.specs.Minimum.{NoMinimum, NoneAsks, ExecutesInRank, StillMeets, SaysOfReason8, MinimumIs, BecomesWhatRemains}
use Rattle.demands.specs.Once.{EventLines, Refused, end_of, event_lines_of, acting_numbers, struck_out, none_refused, acts, by_line, reading_of, line_asked, Call, returned, by_call, lines_with_room}
use Rattle.demands.specs.Quoted.{Crosses, Quoted, WritesBoth}
use Rattle.demands.specs.Refilled.{Stands, Refills}
use Rattle.demands.specs.Room.{worst_lines, full_of_reserves, next_line}
use Rattle.demands.specs.Run.{events_of, Enters}
use Rattle.demands.specs.ShareOut.{opposite, Locked, PriceHere, Fair}
use Rattle.demands.specs.Told.{events_in, is_killed, executed_in, given_in, cancelled_in, resting_of}
use Rattle.demands.specs.Written.{OrderWrites, CancelWrites, close_line, IsOrder}
use Rattle.demands.proofs.LawsBeyond as beyond
use Rattle.demands.proofs.LawsCalls as calling
use Rattle.demands.proofs.LawsFills as fills
use Rattle.demands.proofs.LawsLocks as locks
use Rattle.demands.proofs.LawsMinimum as minimum
use Rattle.demands.proofs.LawsOnce as once
use Rattle.demands.proofs.LawsPlain as plain
use Rattle.demands.proofs.LawsQuoted as quoted
use Rattle.demands.proofs.LawsRefilled as refilled
use Rattle.demands.proofs.LawsRoom as room
use Rattle.demands.proofs.LawsRun as run
use Rattle.demands.proofs.LawsStillMeets as still
use Rattle.demands.proofs.LawsWorst as worst
use Rattle.demands.proofs.LawsWritten as written
use Rattle.command_lines.specs.Pieces.{all_of}
use Rattle.tally.specs.Tally.{tally_of, tally_of_pieces}
use Rattle.tally.proofs.LawsAgree.{tally_agrees}
use Rattle.tally.proofs.LawsLong.{tally_cut}
use Rattle.std.specs.Prelude.{Some, None, Ok}

-- ── Demand 1 ──

-- "Any bytes may arrive as a command, and any book record may be lent with them. The call ends with event lines or with one numbered
-- refusal from document 01. A refusal hands back the same book and writes no byte.": of a call by a line or by a method, with any output
pub any_call : (r : BookRecord) (c : Call) → EventLines c.out (returned r c) ⊎ Refused r c.out (returned r c)
any_call = calling.call_ends

-- a method call is the call of its line; its fields have their widths, as those of every command that the machine holds (`write_says`)
pub a_method_is_its_line : (r : BookRecord) (c : Command) (out : List ℕ) → Fits c → step_on r (Some c) out ≡ step r (line_of c) out
a_method_is_its_line = calling.method_line

-- the table of refusals, "Given exactly when": a refusal is given exactly if its row applies and no lower one does
pub refused_exactly_when : (r : BookRecord) (c : Call) (k : ℕ) → 1 ≤ k
    → ((returned r c).refusal ≡ k → Applies r (line_asked c.asks) c.out k × NoLower r (line_asked c.asks) c.out k)
    × (Applies r (line_asked c.asks) c.out k → NoLower r (line_asked c.asks) c.out k → (returned r c).refusal ≡ k)
refused_exactly_when = calling.call_refused_exactly

-- and a call is accepted exactly if no row applies
pub accepted_exactly_when : (r : BookRecord) (c : Call)
    → ((returned r c).refusal ≡ 0 → (k : ℕ) → Applies r (line_asked c.asks) c.out k → ⊥)
    × (((k : ℕ) → Applies r (line_asked c.asks) c.out k → ⊥) → (returned r c).refusal ≡ 0)
accepted_exactly_when = calling.call_accepted_exactly

-- "In one day from a fresh book each command number acts at most once": a day is a run of such calls, each with the record that the
-- one before handed back and with any output, so that some may be refused for want of room
pub each_number_once : (calls : List Call) → distinct (acting_numbers by_call (record_of fresh) calls) ≡ true
each_number_once = once.calls_once (record_of fresh)

-- "and that day with its refused commands struck out ends with the same book"
pub struck_out_ends : (calls : List Call)
    → end_of by_call (record_of fresh) (struck_out by_call (record_of fresh) calls) ≡ end_of by_call (record_of fresh) calls
struck_out_ends = once.calls_end (record_of fresh)

-- "and the same event lines"
pub struck_out_tells : (calls : List Call)
    → event_lines_of by_call (record_of fresh) (struck_out by_call (record_of fresh) calls) ≡ event_lines_of by_call (record_of fresh) calls
struck_out_tells = once.calls_tell (record_of fresh)

-- and nothing of it is refused
pub struck_out_acts : (calls : List Call) → none_refused by_call (record_of fresh) (struck_out by_call (record_of fresh) calls) ≡ true
struck_out_acts = once.calls_act (record_of fresh)

-- from any sound record a run of calls ends, tells and acts as the run of the lines of those calls that had room
pub calls_are_lines : (r : BookRecord) → record_sound r ≡ true → (calls : List Call)
    → (end_of by_call r calls ≡ record_of (book_after (book_in r) (lines_with_room calls)))
    × (event_lines_of by_call r calls ≡ event_lines_of by_line (book_in r) (lines_with_room calls))
    × (acting_numbers by_call r calls ≡ acting_numbers by_line (book_in r) (lines_with_room calls))
calls_are_lines = calling.calls_are_lines

-- the program's day is such a run of lines: each number acts at most once ..
pub each_number_once_by_line : (lines : List (List ℕ)) → distinct (acting_numbers by_line fresh lines) ≡ true
each_number_once_by_line = once.lines_once fresh

-- .. and with its refused lines struck out it ends with the same book and the same event lines, nothing of it is refused, and those
-- event lines are all that is printed of it
pub struck_out_by_line : (lines : List (List ℕ))
    → (book_after fresh (struck_out by_line fresh lines) ≡ book_after fresh lines)
    × (event_lines_of by_line fresh (struck_out by_line fresh lines) ≡ event_lines_of by_line fresh lines)
    × (none_refused by_line fresh (struck_out by_line fresh lines) ≡ true)
    × (printed_of fresh (struck_out by_line fresh lines) ≡ event_lines_of by_line fresh lines)
struck_out_by_line lines = (once.lines_end fresh lines, once.lines_tell fresh lines, once.lines_act fresh lines, once.lines_print fresh lines)

-- the repeat at three in the morning: once a line has acted, a line with its number is refused, whatever came between them,
-- whatever its time
pub a_repeat_is_refused : (earlier between : List (List ℕ)) (line again : List ℕ) (c d : Command) → acts (book_after fresh earlier) line ≡ true
    → command_in line ≡ Some c → command_in again ≡ Some d → d.number ≡ c.number
    → answer_to (book_after fresh (earlier ++ (line ∷ between))) again
    ≡ record { refusal = 4; book = book_after fresh (earlier ++ (line ∷ between)); events = [] }
a_repeat_is_refused = once.repeat_refused fresh

-- the same by calls: one with room gets 4
pub a_repeated_call_is_refused : (earlier between : List Call) (call again : Call) (c d : Command)
    → by_call.acts (end_of by_call (record_of fresh) earlier) call ≡ true → reading_of call.asks ≡ Some c
    → reading_of again.asks ≡ Some d → d.number ≡ c.number → least_room ≤ length again.out
    → (returned (end_of by_call (record_of fresh) (earlier ++ (call ∷ between))) again).refusal ≡ 4
a_repeated_call_is_refused = calling.repeat_refused_by_call

-- the accepted lines of a day, sent again after it in any order and number, get only refusal 4 and change nothing
pub sent_again_lem : (lines again : List (List ℕ)) → All (λ (l : List ℕ). OneOf l (struck_out by_line fresh lines)) again
    → (book_after (book_after fresh lines) again ≡ book_after fresh lines)
    × (printed_of (book_after fresh lines) again ≡ repeated (length again) (refusal_line 4))
sent_again_lem = beyond.sent_again_lem

-- the accepted numbers of a day are exactly 1 to the last
pub numbers_follow : (calls : List Call) → acting_numbers by_call (record_of fresh) calls ≡ one_to (end_of by_call (record_of fresh) calls).held.last.0
numbers_follow = beyond.numbers_follow_by_call

-- ── Demand 2 ──

-- "Every accepted command does what the EDGA rules, as condensed in document 01, say": `does` of `rules/specs/Commands`
pub does_what_01_says : (b : Book) (line : List ℕ) (c : Command) → command_in line ≡ Some c → acts b line ≡ true
    → ((answer_to b line).book ≡ (does c.number c.time c.body b).book)
    × ((answer_to b line).events ≡ (does c.number c.time c.body b).events)
does_what_01_says = run.accepted_does

-- the same of a call: the record that it hands back, and the bytes that it writes
pub a_call_does_what_01_says : (r : BookRecord) (k : Call) (c : Command) → reading_of k.asks ≡ Some c → by_call.acts r k ≡ true
    → ((returned r k).book ≡ record_of (does c.number c.time c.body (book_in r)).book)
    × (by_call.tells r k ≡ event_lines (does c.number c.time c.body (book_in r)).events)
a_call_does_what_01_says = calling.call_does

-- That `does` is 01 is for its reader to see. What follows from it, in words of its own:

-- an order writes its executions, one at most of each opposite holding, a shown part or a reserve, in the order of the walk, each at the
-- price of its order, or under a lock half a cent from it (02, W6); then at most one `12`, which tells how it rests, or `13`; and then a `14`
-- of each refill that is due, in former rank order (02, W4). `12` and `13` count both parts of an order, `14` the shown one
pub an_order_writes : (b : Book) (line : List ℕ) (c : Command) (o : Order) → sound b ≡ true → acts b line ≡ true → command_in line ≡ Some c
    → c.body ≡ body.Order o → OrderWrites c.number o b (answer_to b line).book (events_in (printed (answer_to b line)))
an_order_writes = written.order_writes

-- and nothing but an order writes an execution
pub only_orders_execute : (b : Book) (line : List ℕ) (c : Command) (incoming resting : Number) (price : HalfCents) (shares : Shares) → sound b ≡ true
    → acts b line ≡ true → command_in line ≡ Some c
    → OneOf (Executed incoming resting price shares) (events_in (printed (answer_to b line))) → IsOrder c.body
only_orders_execute = written.only_orders_execute

-- a cancel takes the order of that number off the book, reason 1, and no other
pub a_cancel_writes : (b : Book) (line : List ℕ) (c : Command) (of : Number) → sound b ≡ true → acts b line ≡ true → command_in line ≡ Some c
    → c.body ≡ body.Cancel of
    → CancelWrites of (b.buys ++ b.sells) ((answer_to b line).book.buys ++ (answer_to b line).book.sells) (events_in (printed (answer_to b line)))
a_cancel_writes = written.cancel_writes

-- "Close cancels all buys in rank order, then all sells, and closes."
pub a_close_writes : (b : Book) (line : List ℕ) (c : Command) → sound b ≡ true → acts b line ≡ true → command_in line ≡ Some c
    → c.body ≡ body.Close
    → (events_in (printed (answer_to b line)) ≡ map close_line (b.buys ++ b.sells))
    × ((answer_to b line).book.buys ≡ []) × ((answer_to b line).book.sells ≡ []) × ((answer_to b line).book.held.closed ≡ true)
a_close_writes = written.close_writes

-- every accepted command leaves its number and its time ..
pub a_command_leaves : (b : Book) (line : List ℕ) (c : Command) → acts b line ≡ true → command_in line ≡ Some c
    → ((answer_to b line).book.held.last ≡ c.number) × ((answer_to b line).book.held.time ≡ c.time)
a_command_leaves = written.number_and_time_left

-- .. a quote its away prices, and no other command changes those ..
pub a_quote_is_held : (b : Book) (line : List ℕ) (c : Command) (away : Away) → acts b line ≡ true → command_in line ≡ Some c
    → c.body ≡ body.Quote away → (answer_to b line).book.held.away ≡ away
a_quote_is_held = written.quote_held

pub a_quote_is_kept : (b : Book) (line : List ℕ) (c : Command) → acts b line ≡ true → command_in line ≡ Some c
    → ((away : Away) → c.body ≢ body.Quote away) → (answer_to b line).book.held.away ≡ b.held.away
a_quote_is_kept = written.away_kept

-- .. and none but a close closes the book
pub only_a_close_closes : (b : Book) (line : List ℕ) (c : Command) → acts b line ≡ true → command_in line ≡ Some c → c.body ≢ body.Close
    → (answer_to b line).book.held.closed ≡ false
only_a_close_closes = written.open_unless_closed

-- P1 to P12, "a single table with a single proved claim", a table of a moved quote (02, W2), one of a reserve (02, W4), one of a lock
-- (02, W6) and one of a minimum (02, W7), the sources' own examples among them; prices there are cents, for which the lines have twice as many half cents
pub examples_from_the_desk : DeskExamples
examples_from_the_desk = desk_examples

pub examples_of_a_moved_quote : QuoteExamples
examples_of_a_moved_quote = quote_examples_lem

pub examples_of_a_reserve : ReserveExamples
examples_of_a_reserve = reserve_examples_lem

pub examples_of_a_lock : LockExamples
examples_of_a_lock = lock_examples_lem

pub examples_of_a_minimum : MinimumExamples
examples_of_a_minimum = minimum_examples_lem

-- every call keeps a sound record sound, so the record of a day is always sound, and so is the book of a day of lines
pub sound_after_a_call : (r : BookRecord) (c : Call) → record_sound r ≡ true → record_sound (returned r c).book ≡ true
sound_after_a_call = calling.call_sound

pub sound_all_day : (calls : List Call) → record_sound (end_of by_call (record_of fresh) calls) ≡ true
sound_all_day = calling.calls_sound

pub sound_all_day_by_line : (lines : List (List ℕ)) → sound (book_after fresh lines) ≡ true
sound_all_day_by_line lines = after_sound fresh lines fresh_sound

-- "Command lines are read and written, each command having one line": what is written of a command is read as that command ..
pub one_line_a_command : (c : Command) → Fits c → command_in (line_of c) ≡ Some c
one_line_a_command = command_in_line_of

-- "and each well-formed line one command": .. and whatever is read as a command is the line that is written of it
pub one_command_a_line : (line : List ℕ) (c : Command) → command_in line ≡ Some c → (line ≡ line_of c) × Fits c
one_command_a_line line c is = let read = command_in_is line c is in (read.line_is_lem, read.fits_are)

-- and no two commands share a line
pub no_shared_line : (c d : Command) → Fits c → Fits d → line_of c ≡ line_of d → c ≡ d
no_shared_line = line_of_once

-- ── Demand 3 ──

-- "Take any run of commands from a fresh book, and in it any accepted order that isn't Post Only. .. A Fill-or-Kill is killed exactly
-- if no lawful share-out totals its size, and then executes nothing. Every other such order executes the greatest lawful total, and
-- no resting order gives a share while a better-ranked one that could lawfully give keeps one.": said of the lines that the order
-- itself prints, read back from their bytes; with W4 a resting order with reserve counts as two, its shown part and its reserve, "each as an
-- order of its own at its rank in the walk"; with W6 "that order's price" is the one given there (`PriceHere`), so that "a hidden order barred
-- here isn't one that could give"; where neither it nor one that it meets has a minimum (`NoMinimum`): else W7 has its own words, below
pub executes_the_greatest : (lines : List (List ℕ)) (stood : Book) (line : List ℕ) (c : Command) (o : Order)
    → Enters by_line fresh lines stood line c o → has o.word post_only ≡ false → NoMinimum o stood
    → Executes stood c o (events_in (printed (answer_to stood line)))
executes_the_greatest = run.run_executes

-- the same of any run of lines from a sound book, and of any run of calls from any record lent: on one that is not sound no order enters
pub executes_the_greatest_from : (b : Book) (lines : List (List ℕ)) (stood : Book) (line : List ℕ) (c : Command) (o : Order) → sound b ≡ true
    → Enters by_line b lines stood line c o → has o.word post_only ≡ false → NoMinimum o stood
    → Executes stood c o (events_in (printed (answer_to stood line)))
executes_the_greatest_from b lines stood line c o = run.executes_from

pub executes_the_greatest_by_call : (r : BookRecord) (calls : List Call) (stood : BookRecord) (call : Call) (c : Command) (o : Order)
    → Enters by_call r calls stood call c o → has o.word post_only ≡ false → NoMinimum o (book_in stood)
    → Executes (book_in stood) c o (events_in (by_call.tells stood call))
executes_the_greatest_by_call = calling.calls_execute

-- and outright in any run from a fresh book in which no accepted order asks for a least size (`NoneAsks`; W7's kind `06`): nobody that rests
-- has a minimum then
pub executes_the_greatest_all_day : (lines : List (List ℕ)) (stood : Book) (line : List ℕ) (c : Command) (o : Order) → NoneAsks fresh lines
    → Enters by_line fresh lines stood line c o → has o.word post_only ≡ false
    → Executes stood c o (events_in (printed (answer_to stood line)))
executes_the_greatest_all_day = plain.plain_run_executes

-- what is printed is read back whole: nothing that a day tells is lost in the reading, and refusals tell nothing
pub nothing_unread : (lines : List (List ℕ)) → events_in (printed_of fresh lines) ≡ events_of fresh lines
nothing_unread = run.run_read

-- "For each accepted order, shares entered equal shares executed plus cancelled, both summed from the event lines, plus those still
-- resting.": from all that the day prints, read back from its bytes; of an order with reserve both parts count (02, W4)
pub no_share_lost : (lines : List (List ℕ)) (stood : Book) (line : List ℕ) (c : Command) (o : Order) → Enters by_line fresh lines stood line c o
    → o.shares.0
    ≡ executed_in c.number (events_in (printed_of fresh lines)) + cancelled_in c.number (events_in (printed_of fresh lines))
    + resting_of c.number (book_after fresh lines)
no_share_lost = run.run_conserved

-- the same of any run of lines from a sound book, and of any run of calls from any record lent
pub no_share_lost_from : (b : Book) (lines : List (List ℕ)) (stood : Book) (line : List ℕ) (c : Command) (o : Order) → sound b ≡ true
    → Enters by_line b lines stood line c o
    → o.shares.0
    ≡ executed_in c.number (events_in (printed_of b lines)) + cancelled_in c.number (events_in (printed_of b lines))
    + resting_of c.number (book_after b lines)
no_share_lost_from b lines stood line c o = run.told_conserved

pub no_share_lost_by_call : (r : BookRecord) (calls : List Call) (stood : BookRecord) (call : Call) (c : Command) (o : Order)
    → Enters by_call r calls stood call c o
    → o.shares.0
    ≡ executed_in c.number (events_in (event_lines_of by_call r calls)) + cancelled_in c.number (events_in (event_lines_of by_call r calls))
    + resting_of c.number (book_in (end_of by_call r calls))
no_share_lost_by_call = calling.calls_conserve

-- and of the orders that rest in a sound book when a run begins
pub no_resting_share_lost : (n : Number) (r : BookRecord) (calls : List Call) → record_sound r ≡ true → n.0 ≤ r.held.last.0
    → resting_of n (book_in r)
    ≡ executed_in n (events_in (event_lines_of by_call r calls)) + cancelled_in n (events_in (event_lines_of by_call r calls))
    + resting_of n (book_in (end_of by_call r calls))
no_resting_share_lost = calling.calls_settle

-- demand 3 determines the fills: two outcomes that meet it give each resting order the same, and the same in all, by the same execution
-- lines, one after the other
pub fills_determined : (stood : Book) (c : Command) (o : Order) (es fs : List Event) → sound stood ≡ true
    → Executes stood c o es → Executes stood c o fs
    → ((h : Resting) → OneOf h (opposite o stood) → given_in h.number es ≡ given_in h.number fs)
    × (executed_in c.number es ≡ executed_in c.number fs)
    × (executions_in es ≡ executions_in fs)
fills_determined = fills.fills_determined

-- ── W1: our own lines, read back ──

-- In which order a bad line's faults are tried, and what stops a tally, is said in `event_in` of `rules/specs/EventReading` and in `turn` of
-- `tally/specs/Tally`; the readers meet those (`read_event_says`, `tally_says`).

-- "It is the exact opposite of the event writer": what is written of an event is read as that event ..
pub one_line_an_event : (e : Event) → FitsEvent e → event_in (event_line e) ≡ Ok e
one_line_an_event = event_in_event_line

-- .. and whatever is read as an event is the line that is written of it
pub one_event_a_line : (line : List ℕ) (e : Event) → event_in line ≡ Ok e → (line ≡ event_line e) × FitsEvent e
one_event_a_line line e is = let read = event_in_is line e is in (read.line_is_lem, read.fits_are)

-- the tally of a day's own lines "must agree with demand 3's sums": for each accepted order nothing stops it, and it gives just the
-- executed and the cancelled shares that the sums above count
pub the_tally_agrees : (lines : List (List ℕ)) (stood : Book) (line : List ℕ) (c : Command) (o : Order) → Enters by_line fresh lines stood line c o
    → ((tally_of c.number (printed_of fresh lines)).stop ≡ None)
    × ((tally_of c.number (printed_of fresh lines)).executed.0 ≡ executed_in c.number (events_in (printed_of fresh lines)))
    × ((tally_of c.number (printed_of fresh lines)).cancelled.0 ≡ cancelled_in c.number (events_in (printed_of fresh lines)))
the_tally_agrees lines stood line c o r = let has = tally_agrees lines stood line c o r in (has.going, has.executed_are, has.cancelled_are)

-- so that shares entered = executed + cancelled + resting is read off the tally
pub read_off_the_tally : (lines : List (List ℕ)) (stood : Book) (line : List ℕ) (c : Command) (o : Order) → Enters by_line fresh lines stood line c o
    → o.shares.0
    ≡ (tally_of c.number (printed_of fresh lines)).executed.0 + (tally_of c.number (printed_of fresh lines)).cancelled.0
    + resting_of c.number (book_after fresh lines)
read_off_the_tally lines stood line c o r =
    let has = tally_agrees lines stood line c o r in
    rw (has.executed_are, has.cancelled_are) (run.run_conserved lines stood line c o r)

-- and the tally of the pieces of an output is that of the whole output, however it is cut
pub tally_however_cut : (n : Number) (pieces : List (List ℕ)) → tally_of_pieces n pieces ≡ tally_of n (all_of pieces)
tally_however_cut = tally_cut

-- ── W2: a moved quote ──

-- an accepted quote on a sound book: who does not cross it stands as before; who does is set at the Locking Price with a new stamp, or is
-- gone, with Cancel Back; those that moved keep their order, behind whoever stood at that price; on both sides, each told by its line
pub a_quote_moves : (b : Book) (line : List ℕ) (n : Number) (time : ℕ) (away : Away) → sound b ≡ true
    → command_in line ≡ Some (record { number = n; time = time; body = body.Quote away }) → acts b line ≡ true
    → Quoted true n away b.buys (answer_to b line).book.buys (events_in (printed (answer_to b line)))
    × Quoted false n away b.sells (answer_to b line).book.sells (events_in (printed (answer_to b line)))
a_quote_moves = quoted.quote_moves

-- "Quote writes `14` .. or `13`, buys first, in former rank order", and nothing else
pub a_quote_writes : (b : Book) (line : List ℕ) (n : Number) (time : ℕ) (away : Away) → sound b ≡ true
    → command_in line ≡ Some (record { number = n; time = time; body = body.Quote away }) → acts b line ≡ true
    → WritesBoth away b.buys b.sells (events_in (printed (answer_to b line)))
a_quote_writes = quoted.quote_writes

-- so after it no non-displayed order crosses it; a displayed one may
pub no_hidden_order_crosses : (b : Book) (line : List ℕ) (n : Number) (time : ℕ) (away : Away)
    → command_in line ≡ Some (record { number = n; time = time; body = body.Quote away }) → acts b line ≡ true
    → All (λ (h : Resting). Crosses away h true → ⊥) (answer_to b line).book.buys
    × All (λ (h : Resting). Crosses away h false → ⊥) (answer_to b line).book.sells
no_hidden_order_crosses = quoted.no_hidden_order_crosses

-- ── W4: reserve quantity ──

-- "Refill is due when the shown part is used up and reserve is left; it happens after the incoming order's last line, in former rank order,
-- with a new stamp and a `14` line": what an accepted order on a sound book leaves of the side that it meets. Who gave all is gone; whose
-- shown part was not used up keeps its stamp and its reserve; whoever is due, and nobody else, is refilled to "the Max Floor .., or .. what is
-- left if that is less", behind all displayed orders at its price that were not refilled; and no refill changes what an order holds in all.
-- (Its lines stand in `an_order_writes`.)
pub an_order_refills : (b : Book) (line : List ℕ) (c : Command) (o : Order) → sound b ≡ true → acts b line ≡ true → command_in line ≡ Some c
    → c.body ≡ body.Order o
    → Refills (not (buying o)) c.number (opposite o b) (opposite o (answer_to b line).book) (events_in (printed (answer_to b line)))
an_order_refills = refilled.order_refills

-- "During one walk the order counts as two holdings: the shown part at its rank, the reserve behind every other order at that price, reserves
-- among themselves in the rank of their shown parts": the shown parts among the holdings of a side are those of its orders, one each, and
-- so are the reserves; and on a side in rank order each holding comes before all behind it (`InWalkOrder`), by better price, then shown parts
-- before reserves, then the rank of their orders (`walks_before`, both of `rules/specs/Holdings`)
pub the_holdings_stand_in_rank : (buy : Bool) (s : List Resting) → in_rank_order buy s ≡ true
    → (orders_of false (holdings s) ≡ s) × (orders_of true (holdings s) ≡ s) × InWalkOrder buy (holdings s)
the_holdings_stand_in_rank buy s ranked = (holdings_shown s, holdings_reserves s, holdings_walk buy s ranked)

-- ── W5: bigger sides ──

-- "Raise 64 resting orders a side to 256, output room to 32,768 bytes.": rows 11 and 1 of `refused_exactly_when` say so in these numbers
pub the_limits : (places_a_side ≡ 256) × (least_room ≡ 32768)
the_limits = (refl, refl)

-- what is printed of any line to a sound book, the event lines of a command or a refusal's, has at most `worst_lines` bytes, 70 for each
-- place of a side and 27
pub the_most_that_a_line_prints : (b : Book) (line : List ℕ) → sound b ≡ true → length (printed (answer_to b line)) ≤ worst_lines
the_most_that_a_line_prints = room.printed_long

-- and so any call writes, with any record lent and any output
pub the_most_that_a_call_writes : (r : BookRecord) (c : Call) → (returned r c).length ≤ worst_lines
the_most_that_a_call_writes r c = room.returned_long r (reading_of c.asks) c.out

-- this is reached by an order that walks through a full side of reserves, on a sound book
pub the_most_is_printed : (sound (full_of_reserves places_a_side) ≡ true) × (acts (full_of_reserves places_a_side) (next_line places_a_side) ≡ true)
    × (length (printed (answer_to (full_of_reserves places_a_side) (next_line places_a_side))) ≡ worst_lines)
the_most_is_printed = worst.worst_reached

-- so the 8,192 bytes of W4 would not do, and 32,768 do
pub the_room_is_needed : (worst_lines ≡ 17947) × (8192 < worst_lines) × (worst_lines ≤ least_room)
the_room_is_needed = (room.worst_is, room.worst_needs, room.worst_fits)

-- ── W6: half cents, and the Post Only that meets a hidden order ──

-- "While that lock stands, the hidden order doesn't execute at that price.": of every execution that an accepted order prints on a sound
-- book, where on that order's own side one is displayed at the price of the hidden one (`Locked`) ..
pub never_at_a_locked_price : {b : Book} {line : List ℕ} {o : Order} {h : Resting} {price : HalfCents} → ExecutesWith b line o h price
    → Locked (own o b) h → price.0 ≢ h.price.0
never_at_a_locked_price = locks.not_at_a_locked_price

-- .. but "half a cent under that price; a buy, the mirror"
pub half_a_cent_under_a_lock : {b : Book} {line : List ℕ} {o : Order} {h : Resting} {price : HalfCents} → ExecutesWith b line o h price
    → Locked (own o b) h → (o.side ≡ 0 → price.0 ≡ h.price.0 + 1) × (o.side ≡ 1 → price.0 + 1 ≡ h.price.0)
half_a_cent_under_a_lock = locks.half_a_cent

-- so an execution price is whole cents, an even number of half cents, exactly where no lock stands
pub whole_cents_without_a_lock : {b : Book} {line : List ℕ} {o : Order} {h : Resting} {price : HalfCents} → ExecutesWith b line o h price
    → (price.0 % 2 ≡ 0 → Locked (own o b) h → ⊥) × ((Locked (own o b) h → ⊥) → price.0 % 2 ≡ 0)
whole_cents_without_a_lock = locks.whole_without_a_lock

-- "Incoming orders on the displayed order's side, limited at the locked price, rest or cancel.": none of them executes against the hidden
-- order ..
pub none_limited_at_the_lock_executes : {b : Book} {line : List ℕ} {o : Order} {h : Resting} {price : HalfCents} → ExecutesWith b line o h price
    → Locked (own o b) h → has o.word market ≡ false → (in_half_cents o.price).0 ≢ h.price.0
none_limited_at_the_lock_executes = locks.not_limited_at_the_lock

-- .. and "a hidden order barred here isn't one that could give": no price given here is fair for such an order
pub a_barred_order_could_not_give : {o : Order} {away : Away} {own : List Resting} {h : Resting} {price : HalfCents} → Locked own h
    → has o.word market ≡ false → (in_half_cents o.price).0 ≡ h.price.0 → PriceHere o own h price → Fair o away price → ⊥
a_barred_order_could_not_give = locks.barred

-- "The away test uses the true execution price.": no order but an ISO buys above the away offer or sells below the away bid, at the price
-- that its line tells
pub never_through_the_away_quote : {b : Book} {line : List ℕ} {o : Order} {h : Resting} {price : HalfCents} → ExecutesWith b line o h price
    → has o.word iso ≡ false
    → (o.side ≡ 0 → b.held.away.offer.0 ≢ 0 → price.0 ≤ (in_half_cents b.held.away.offer).0)
    × (o.side ≡ 1 → b.held.away.bid.0 ≢ 0 → (in_half_cents b.held.away.bid).0 ≤ price.0)
never_through_the_away_quote = locks.not_through_the_away_quote

-- "Post Only is now cancelled with reason 6 only if it meets a displayed order or would pass a hidden one", at its price from step 4; and it
-- rests only where it does so of none
pub post_only_as_it_meets : (b : Book) (line : List ℕ) (c : Command) (o : Order) → sound b ≡ true → acts b line ≡ true
    → command_in line ≡ Some c → c.body ≡ body.Order o → All (SaysOfPostOnly o b) (events_in (printed (answer_to b line)))
post_only_as_it_meets = locks.post_only_as_it_meets

-- .. and the other way round, of a Post Only order, which a lawful word makes Day: it is cancelled with reason 6 if it meets a displayed order
-- or would pass a hidden one, and else it rests, at the price of an opposite hidden one too
pub post_only_is_cancelled : (b : Book) (line : List ℕ) (c : Command) (o : Order) → sound b ≡ true → acts b line ≡ true
    → command_in line ≡ Some c → c.body ≡ body.Order o → has o.word post_only ≡ true → has o.word fok ≡ false → has o.word ioc ≡ false
    → PostOnlyMeets o b → events_in (printed (answer_to b line)) ≡ Cancelled c.number o.shares 6 ∷ []
post_only_is_cancelled = locks.post_only_cancelled

pub post_only_rests : (b : Book) (line : List ℕ) (c : Command) (o : Order) → sound b ≡ true → acts b line ≡ true
    → command_in line ≡ Some c → c.body ≡ body.Order o → has o.word post_only ≡ true → has o.word fok ≡ false → has o.word ioc ≡ false
    → (price : HalfCents) → seeks o b.held.away ≡ Rests price → ((h : Resting) → OneOf h (opposite o b) → MeetsOrPasses o price h → ⊥)
    → events_in (printed (answer_to b line)) ≡ Rested c.number price o.shares ∷ []
post_only_rests = locks.post_only_rests

-- "Soundness becomes: displayed never meets displayed, nothing crosses.": the test of two sides in rank order, `apart`, holds exactly if it is
-- so of each buy and each sell
pub apart_exactly_when : (buys sells : List Resting) → in_rank_order true buys ≡ true → in_rank_order false sells ≡ true
    → (apart buys sells ≡ true → (buy sell : Resting) → OneOf buy buys → OneOf sell sells → StandApart buy sell)
    × (((buy sell : Resting) → OneOf buy buys → OneOf sell sells → StandApart buy sell) → apart buys sells ≡ true)
apart_exactly_when = locks.apart_exactly

-- and a record is sound only if each of its orders rests at 100 to 200,000 whole cents; so one that is lent with another price gets refusal 2
-- (`refused_exactly_when`)
pub sound_prices : (r : BookRecord) → record_sound r ≡ true → All RestsAtWholeCents ((book_in r).buys ++ (book_in r).sells)
sound_prices = locks.record_prices

-- so on every book of a day
pub stand_apart_all_day : (lines : List (List ℕ)) (buy sell : Resting) → OneOf buy (book_after fresh lines).buys
    → OneOf sell (book_after fresh lines).sells → StandApart buy sell
stand_apart_all_day lines = locks.stand_apart (book_after fresh lines) (sound_all_day_by_line lines)

-- ── W7: minimum execution quantity ──

-- "For such books and orders demand 3, its conserved sums kept, reads: FOK is killed exactly if the walk in rank order falls short, and then
-- executes nothing, nor does an incoming order whose walk gives less than its minimum. In every other walk an order reached is skipped exactly
-- in the case above, and any other gives the smaller of its holding and what is left.": of every accepted order that isn't Post Only, with
-- minimums or without, in any run from a fresh book ..
pub executes_in_rank : (lines : List (List ℕ)) (stood : Book) (line : List ℕ) (c : Command) (o : Order)
    → Enters by_line fresh lines stood line c o → has o.word post_only ≡ false
    → ExecutesInRank stood c o (events_in (printed (answer_to stood line)))
executes_in_rank = minimum.run_executes_in_rank

-- .. from a sound book, and by calls from any record lent; the conserved sums above (`no_share_lost`) ask nothing of minimums
pub executes_in_rank_from : (b : Book) (lines : List (List ℕ)) (stood : Book) (line : List ℕ) (c : Command) (o : Order) → sound b ≡ true
    → Enters by_line b lines stood line c o → has o.word post_only ≡ false
    → ExecutesInRank stood c o (events_in (printed (answer_to stood line)))
executes_in_rank_from b lines stood line c o = minimum.executes_in_rank_from

pub executes_in_rank_by_call : (r : BookRecord) (calls : List Call) (stood : BookRecord) (call : Call) (c : Command) (o : Order)
    → Enters by_call r calls stood call c o → has o.word post_only ≡ false
    → ExecutesInRank (book_in stood) c o (events_in (by_call.tells stood call))
executes_in_rank_by_call = minimum.calls_execute_in_rank

-- these words determine the fills too: two outcomes that meet them kill alike, and tell the same execution lines, one after the other
pub fills_in_rank_determined : (stood : Book) (c : Command) (o : Order) (es fs : List Event) → ExecutesInRank stood c o es
    → ExecutesInRank stood c o fs
    → ((n : Number) → given_in n es ≡ given_in n fs) × ((n : Number) → executed_in n es ≡ executed_in n fs)
    × (is_killed c.number es ≡ is_killed c.number fs) × (executions_in es ≡ executions_in fs)
fills_in_rank_determined = fills.in_rank_fills_determined

-- "a least size per execution": no execution line takes less of a resting order than its minimum, or its holding if that is less; an order
-- with a minimum has no reserve, so its shares are all that it holds
pub never_below_a_minimum : {b : Book} {line : List ℕ} {o : Order} {h : Resting} {price : HalfCents} (e : ExecutesWith b line o h price)
    → min h.minimum.0 h.shares.0 ≤ e.shares.0
never_below_a_minimum = minimum.gives_its_least

-- "An incoming one whose whole walk gives less than its minimum executes nothing": in all it executes nothing, or its minimum at least
pub nothing_or_its_minimum : (b : Book) (line : List ℕ) (c : Command) (o : Order) → sound b ≡ true → acts b line ≡ true
    → command_in line ≡ Some c → c.body ≡ body.Order o
    → (executed_in c.number (events_in (printed (answer_to b line))) ≡ 0)
    ⊎ (minimum_of o.carried ≤ executed_in c.number (events_in (printed (answer_to b line))))
nothing_or_its_minimum = minimum.executes_its_least

-- whoever gives nothing to an order, for it was skipped, or not reached, or the walk was undone, stands as before, stamp and minimum with it,
-- and so in the same rank among those that stay
pub who_gives_nothing_stays : (b : Book) (line : List ℕ) (c : Command) (o : Order) → sound b ≡ true → acts b line ≡ true
    → command_in line ≡ Some c → c.body ≡ body.Order o → (h : Resting) → OneOf h (opposite o b)
    → given_in h.number (events_in (printed (answer_to b line))) ≡ 0 → OneOf h (opposite o (answer_to b line).book)
who_gives_nothing_stays = minimum.untouched_stays

-- "When fewer shares remain than the minimum, the minimum becomes what remains": of each order that is left of the side that an order meets,
-- by what it was before. (What rests of an incoming one says the same in `an_order_writes`.)
pub a_minimum_becomes_what_remains : (b : Book) (line : List ℕ) (c : Command) (o : Order) → sound b ≡ true → acts b line ≡ true
    → command_in line ≡ Some c → c.body ≡ body.Order o → (h : Resting) → OneOf h (opposite o (answer_to b line).book)
    → Stands (BecomesWhatRemains h) (opposite o b)
a_minimum_becomes_what_remains = minimum.becomes_what_remains

-- a record is sound only if each minimum is 0, or 1 to what is left of a non-displayed order without reserve; so one that is lent with
-- another gets refusal 2 (`refused_exactly_when`)
pub sound_minimums : (r : BookRecord) → record_sound r ≡ true → All MinimumIs ((book_in r).buys ++ (book_in r).sells)
sound_minimums = minimum.record_minimums

-- "A remainder that would still equal or pass an opposite order, save Post Only or at W6's locked price, is cancelled, new reason 8.": reason 8
-- is given only to such a one, and whoever rests and isn't Post Only is none
pub reason_8_as_it_meets : (b : Book) (line : List ℕ) (c : Command) (o : Order) → sound b ≡ true → acts b line ≡ true
    → command_in line ≡ Some c → c.body ≡ body.Order o → All (SaysOfReason8 o b (answer_to b line).book) (events_in (printed (answer_to b line)))
reason_8_as_it_meets = still.reason_8

-- .. and to every such one, of all that did not execute
pub reason_8_is_given : (b : Book) (line : List ℕ) (c : Command) (o : Order) → sound b ≡ true → acts b line ≡ true
    → command_in line ≡ Some c → c.body ≡ body.Order o
    → executed_in c.number (events_in (printed (answer_to b line))) < o.shares.0 → StillMeets o b (answer_to b line).book
    → OneOf (Cancelled c.number (shares (o.shares.0 - executed_in c.number (events_in (printed (answer_to b line))))) 8)
    (events_in (printed (answer_to b line)))
reason_8_is_given = still.reason_8_given

-- where neither the order nor one opposite has a minimum, no line has reason 8
pub no_reason_8_without_a_minimum : (b : Book) (line : List ℕ) (c : Command) (o : Order) → sound b ≡ true → acts b line ≡ true
    → command_in line ≡ Some c → c.body ≡ body.Order o → NoMinimum o b → (n : Number) (left : Shares)
    → OneOf (Cancelled n left 8) (events_in (printed (answer_to b line))) → ⊥
no_reason_8_without_a_minimum = still.no_reason_8
