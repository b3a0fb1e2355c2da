-- The demands over a run of lines from a fresh book, said of what is printed. Assumes nothing.
use Prim.Native.Nat.{ℕ, ◌+◌, ◌≤◌}
use mathlib.Core.Bool.{true, false}
use mathlib.Core.List.{List}
use mathlib.Core.Logic.{⊎_elim}
use mathlib.Core.Path.{◌≡◌, refl, sym, subst}
use lib.Dec.{eqb}
use lib.ListN.{length}
use borrow.Author.Tests.{le-ltb}
use Rattle.basics.specs.Bytes.{onto}
use Rattle.std.specs.Prelude.{if◌then◌else◌, Some, None}
use Rattle.basics.proofs.LawsChoice.{holds_or_not}
use Rattle.kinds.specs.declared.Number.{Number}
use Rattle.rules.specs.declared.Body.TheVariants as body
use Rattle.rules.specs.declared.Command.{Command}
use Rattle.rules.specs.declared.Order.{Order}
use Rattle.rules.specs.Book.{Book, fresh, sound, record_of}
use Rattle.rules.specs.CommandLines.{command_in}
use Rattle.rules.specs.Commands.{does}
use Rattle.rules.specs.Day.{printed, book_after, printed_of}
use Rattle.rules.specs.EventLines.{event_lines}
use Rattle.rules.specs.Instructions.{post_only, has}
use Rattle.rules.specs.Refusals.{least_room, first_of, line_refusals, refusals}
use Rattle.rules.specs.Step.{done_by, answer, answer_to, step, step_on}
use Rattle.soundness.proofs.LawsKept.{answer_sound, fresh_sound, book_record, record_sound_lem}
use Rattle.demands.specs.Executes.{Executes}
use Rattle.demands.specs.Minimum.{NoMinimum}
use Rattle.demands.specs.Once.{acts, by_line}
use Rattle.demands.specs.Run.{events_of, Enters, now, later}
use Rattle.demands.specs.Told.{events_in, executed_in, cancelled_in, resting_of}
use Rattle.demands.proofs.LawsExecutes.{executes}
use Rattle.demands.proofs.LawsSums.{run_balance, conserved_from}
use Rattle.demands.proofs.LawsTold.{line_told, run_told}

-- ── A call in a day ──

-- a call on the record of a sound book, with room for the lines of a command, is a line of a day
pub call_answers : (b : Book) (line out : List ℕ) → sound b ≡ true → least_room ≤ length out
    → ((step (record_of b) line out).refusal ≡ (answer_to b line).refusal) × ((step (record_of b) line out).book ≡ record_of (answer_to b line).book)
    × ((step (record_of b) line out).length ≡ length (event_lines (answer_to b line).events))
    × ((step (record_of b) line out).out ≡ onto (event_lines (answer_to b line).events) out)
unfolding step step_on answer_to answer refusals first_of
call_answers b line out s room =
    let is_sound = record_sound_lem b s in
    let book = book_record b in
    let short = le-ltb (length out) least_room room in
    rw (is_sound, book, short) (refl, by_refusal (first_of (line_refusals b (command_in line))), refl, refl)
  where
    by_refusal : (refusal : ℕ) → (if eqb refusal 0 then record_of (if eqb refusal 0 then (done_by (command_in line) b).book else b) else record_of b)
        ≡ record_of (if eqb refusal 0 then (done_by (command_in line) b).book else b)
    by_refusal refusal =
        ⊎_elim
        (λ (t : eqb refusal 0 ≡ true). rw t refl)
        (λ (t : eqb refusal 0 ≡ false). rw t refl)
        (holds_or_not (eqb refusal 0))

-- ── Demand 2 ──

-- an accepted command does what 01 says of it
pub accepted_does : (b : Book) (line : List ℕ) (c : Command) → command_in line ≡ Some c → acts b line ≡ true
    → ((answer_to b line).book ≡ (does c.number c.time c.body b).book)
    × ((answer_to b line).events ≡ (does c.number c.time c.body b).events)
unfolding answer_to answer done_by
accepted_does b line c is t = (rw (t, is) refl, rw (t, is) refl)

-- ── Demand 3 ──

-- From any sound book.

-- the book that an order enters is sound, and its line is accepted there
pub record Entered (stood : Book) (line : List ℕ) (c : Command) (o : Order) : Type 0 where
  pub is_sound : sound stood ≡ true
  pub is_accepted : acts stood line ≡ true
  pub reads : command_in line ≡ Some c
  pub enters : c.body ≡ body.Order o

pub enters_sound : {b : Book} {lines : List (List ℕ)} {stood : Book} {line : List ℕ} {c : Command} {o : Order} → sound b ≡ true
    → Enters by_line b lines stood line c o → Entered stood line c o
enters_sound s (now t e f) = record { is_sound = s; is_accepted = t; reads = e; enters = f }
enters_sound s (later {b = b} {x = line} r) = enters_sound (answer_sound b line s) r

-- where there is no minimum, it executes the greatest lawful total
pub entered_executes : {stood : Book} {line : List ℕ} {c : Command} {o : Order} → Entered stood line c o → has o.word post_only ≡ false
    → NoMinimum o stood → Executes stood c o (events_in (printed (answer_to stood line)))
entered_executes {stood = b} {line = line} {c = c} {o = o} e not_post_only no_minimum =
    subst (Executes b c o) (sym (line_told b line e.is_sound))
    (executes b line c o e.is_sound e.is_accepted e.reads e.enters not_post_only no_minimum)

pub executes_from : {b : Book} {lines : List (List ℕ)} {stood : Book} {line : List ℕ} {c : Command} {o : Order} → sound b ≡ true
    → Enters by_line b lines stood line c o → has o.word post_only ≡ false → NoMinimum o stood
    → Executes stood c o (events_in (printed (answer_to stood line)))
executes_from s r = entered_executes (enters_sound s r)

-- the shares of each order that enters are executed, cancelled or rest
pub told_conserved : {b : Book} {lines : List (List ℕ)} {stood : Book} {line : List ℕ} {c : Command} {o : Order} → sound b ≡ true
    → Enters by_line b lines stood line c o
    → o.shares.0
    ≡ executed_in c.number (events_in (printed_of b lines)) + cancelled_in c.number (events_in (printed_of b lines))
    + resting_of c.number (book_after b lines)
told_conserved {b = b} {lines = lines} s r = rw (run_told b lines s) (conserved_from s r)

-- and so are those of each order that rested already
pub told_settled : (n : Number) (b : Book) (lines : List (List ℕ)) → sound b ≡ true → n.0 ≤ b.held.last.0
    → resting_of n b
    ≡ executed_in n (events_in (printed_of b lines)) + cancelled_in n (events_in (printed_of b lines)) + resting_of n (book_after b lines)
told_settled n b lines s old = rw (run_told b lines s) (run_balance n b lines s old)

-- the same from a fresh book
pub run_executes : (lines : List (List ℕ)) (stood : Book) (line : List ℕ) (c : Command) (o : Order) → Enters by_line fresh lines stood line c o
    → has o.word post_only ≡ false → NoMinimum o stood → Executes stood c o (events_in (printed (answer_to stood line)))
run_executes lines stood line c o r = executes_from fresh_sound r

pub run_read : (lines : List (List ℕ)) → events_in (printed_of fresh lines) ≡ events_of fresh lines
run_read lines = run_told fresh lines fresh_sound

pub run_conserved : (lines : List (List ℕ)) (stood : Book) (line : List ℕ) (c : Command) (o : Order) → Enters by_line fresh lines stood line c o
    → o.shares.0
    ≡ executed_in c.number (events_in (printed_of fresh lines)) + cancelled_in c.number (events_in (printed_of fresh lines))
    + resting_of c.number (book_after fresh lines)
run_conserved lines stood line c o r = told_conserved fresh_sound r
