-- The code at the front door: of each entry, that it is proved to meet its contract (`is-proved` cites the theorem of the function that is
-- compiled), what that contract asks of a caller (`asks`) and what it ensures (`says`), as the checker reads it from the source: each by
-- `refl`. `a` are the arguments, in the order that the comment names (`a.0`, `a.1.0`, `a.1.1.0` and so on), `s` what is left of them,
-- `r` the result; `now` is what a reference leads to. Assumes nothing.
use Prim.Native.Nat.{ℕ, ◌≤◌}
use mathlib.Core.List.{List}
use mathlib.Core.Path.{◌≡◌, refl}
use lib.ListN.{length}
use base.Logic.{SProp}
use contract.Monad.{Fun}
use contract.Notation.{connectives}
use types.Logic.{Logic}
use seplogic.Ra.Ura.{Ura}
use prog.Memory.{Memory}
use prog.Routine.{Routine}
use Rattle.basics.specs.Bytes.{onto}
use Rattle.kinds.specs.declared.Number.{Number}
use Rattle.command_lines.specs.declared.lines.Read.{Read}
use Rattle.command_lines.specs.Pieces.{read_behind}
use Rattle.rules.specs.declared.Body.{Body}
use Rattle.rules.specs.declared.Body.TheVariants as body
use Rattle.rules.specs.declared.Refusal.{Refusal}
use Rattle.rules.specs.EventReading.{EventReading}
use Rattle.rules.specs.CommandLines.{Reading}
use Rattle.rules.specs.Book as book
use Rattle.rules.specs.CommandLines.{line_of, command_in}
use Rattle.rules.specs.EventReading.{event_in}
use Rattle.rules.specs.Refusals.{least_room}
use Rattle.rules.specs.Refusing.{number_of}
use Rattle.rules.specs.Step.{Returned, step, step_on}
use Rattle.book.specs.declared.Book.{Book}
use Rattle.book.specs.declared.Reply.{Reply}
use Rattle.book.specs.Record.{record_in, book_with, reply_of}
use Rattle.lent.specs.Lent.{Answered}
use Rattle.lent.specs.contracts.answer as lent-contract
use Rattle.day.specs.declared.night.Turn.{Turn}
use Rattle.day.specs.Turns.{Takes}
use Rattle.day.specs.declared.replay.Fed.{Fed}
use Rattle.day.specs.Feed.{Feeds}
use Rattle.day.specs.Pieces.{printed_at_end}
use Rattle.tally.specs.declared.TalliedPiece as tallied
use Rattle.tally.specs.Tally.{fed_on}
use Rattle.command_lines.specs.Writing.{written_for, buffer_of}
use Rattle.book.proofs.Book.fresh.Met as fresh-met
use Rattle.book.proofs.Book.fresh.Reads as fresh
use Rattle.book.proofs.Book.fresh.Statement as fresh-statement
use Rattle.book.proofs.Book.accept.Met as accept-met
use Rattle.book.proofs.Book.accept.Reads as accept
use Rattle.book.proofs.Book.accept.Statement as accept-statement
use Rattle.book.proofs.Book.cancel.Met as cancel-met
use Rattle.book.proofs.Book.cancel.Reads as cancel
use Rattle.book.proofs.Book.cancel.Statement as cancel-statement
use Rattle.book.proofs.Book.quote.Met as quote-met
use Rattle.book.proofs.Book.quote.Reads as quote
use Rattle.book.proofs.Book.quote.Statement as quote-statement
use Rattle.book.proofs.Book.close.Met as close-met
use Rattle.book.proofs.Book.close.Reads as close
use Rattle.book.proofs.Book.close.Statement as close-statement
use Rattle.book.proofs.Book.answer.Met as answer-met
use Rattle.book.proofs.Book.answer.Reads as answer
use Rattle.book.proofs.Book.answer.Statement as answer-statement
use Rattle.lent.proofs.answer.Met as lent_met
use Rattle.lent.proofs.answer.Statement as lent-statement
use Rattle.lent.proofs.answer_lending.Met as lending-met
use Rattle.lent.proofs.answer_lending.Reads as lending
use Rattle.lent.proofs.answer_lending.Statement as lending-statement
use Rattle.command_lines.proofs.reader.read_command.Met as read-met
use Rattle.command_lines.proofs.reader.read_command.Reads as read
use Rattle.command_lines.proofs.reader.read_command.Statement as read-statement
use Rattle.command_lines.proofs.writer.write_command.Met as write-met
use Rattle.command_lines.proofs.writer.write_command.Reads as write
use Rattle.command_lines.proofs.writer.write_command.Statement as write-statement
use Rattle.event_lines.proofs.reader.read_event.Met as read-event-met
use Rattle.event_lines.proofs.reader.read_event.Reads as read-event
use Rattle.event_lines.proofs.reader.read_event.Statement as read-event-statement
use Rattle.day.proofs.replay.begin.Met as begin-met
use Rattle.day.proofs.replay.begin.Reads as begin
use Rattle.day.proofs.replay.begin.Statement as begin-statement
use Rattle.day.proofs.replay.begin_again.Met as begin-again-met
use Rattle.day.proofs.replay.begin_again.Reads as begin-again
use Rattle.day.proofs.replay.begin_again.Statement as begin-again-statement
use Rattle.day.proofs.replay.feed.Met as feed-met
use Rattle.day.proofs.replay.feed.Reads as feed
use Rattle.day.proofs.replay.feed.Statement as feed-statement
use Rattle.command_lines.proofs.lines.after_read.Met as after-read-met
use Rattle.command_lines.proofs.lines.after_read.Reads as after_read
use Rattle.command_lines.proofs.lines.after_read.Statement as after-read-statement
use Rattle.tally.proofs.feed.Met as tally-met
use Rattle.tally.proofs.feed.Reads as tally
use Rattle.tally.proofs.feed.Statement as tally-statement
use Rattle.day.proofs.night.take_turn.Met as turn-met
use Rattle.day.proofs.night.take_turn.Reads as turn
use Rattle.day.proofs.night.take_turn.Statement as turn-statement
use Rattle.day.proofs.night.finish.Met as finish-met
use Rattle.day.proofs.night.finish.Reads as finish
use Rattle.day.proofs.night.finish.Statement as finish-statement
use Rattle.rules.proofs.LawsRefusing.{returned_number}
use Rattle.std.specs.Prelude.{Some, Result, Err}

-- ── The book by value ──

-- The refusal of a reply has 01's number: `reply_of` finds it by its place in 01's table, and its number is `number_of`.
pub a_refusal_has_its_number : (r : Returned) (refusal : Refusal) → (reply_of r).answer ≡ Err refusal → number_of refusal ≡ r.refusal
a_refusal_has_its_number r refusal = returned_number r.length r.refusal refusal

-- `Book::fresh()`
pub fresh_is_proved : {M : Type 1} → fresh-statement.statement M
fresh_is_proved = fresh-met.met

pub fresh_asks : (κs : _) (a : _) → fresh.Pre κs a ≡ Unit {0}
fresh_asks κs a = refl

pub fresh_says : (κs : _) (a : _) (r : Book) (s : _) → fresh.Post κs a r s
    ≡ (r ≡ book_with (book.record_of book.fresh))
fresh_says κs a r s = refl

-- `Book::answer(self, line, out)`: a line of any bytes, to any book, with any output
pub answer_is_proved : {M : Type 1} → answer-statement.statement M
answer_is_proved = answer-met.met

pub answer_asks : (κs : _) (a : _) → answer.Pre κs a ≡ Unit {0}
answer_asks κs a = refl

pub answer_says : (κs : _) (a : _) (r : Reply) (s : _) → answer.Post κs a r s
    ≡ ((r ≡ reply_of (step (record_in a.0) a.1.0.now a.1.1.0.now))
    × (s.1.1.0.now ≡ (step (record_in a.0) a.1.0.now a.1.1.0.now).out))
answer_says κs a r s = refl

-- the command that a method asks for, on the book and with the output that are lent
abbrev Asks : Book → Number → ℕ → Body → List ℕ → Reply → List ℕ → Type 0
Asks b n time what out r out' =
    let asked = step_on (record_in b) (Some (record { number = n; time = time; body = what })) out in
    (r ≡ reply_of asked) × (out' ≡ asked.out)

-- `Book::accept(self, number, time, order, out)`: an order
pub accept_is_proved : {M : Type 1} → accept-statement.statement M
accept_is_proved = accept-met.met

pub accept_asks : (κs : _) (a : _) → accept.Pre κs a ≡ Unit {0}
accept_asks κs a = refl

pub accept_says : (κs : _) (a : _) (r : Reply) (s : _) → accept.Post κs a r s
    ≡ Asks a.0 a.1.0 a.1.1.0 (body.Order a.1.1.1.0) a.1.1.1.1.0.now r s.1.1.1.1.0.now
accept_says κs a r s = refl

-- `Book::cancel(self, number, time, of, out)`: a cancel
pub cancel_is_proved : {M : Type 1} → cancel-statement.statement M
cancel_is_proved = cancel-met.met

pub cancel_asks : (κs : _) (a : _) → cancel.Pre κs a ≡ Unit {0}
cancel_asks κs a = refl

pub cancel_says : (κs : _) (a : _) (r : Reply) (s : _) → cancel.Post κs a r s
    ≡ Asks a.0 a.1.0 a.1.1.0 (body.Cancel a.1.1.1.0) a.1.1.1.1.0.now r s.1.1.1.1.0.now
cancel_says κs a r s = refl

-- `Book::quote(self, number, time, away, out)`: an away quote
pub quote_is_proved : {M : Type 1} → quote-statement.statement M
quote_is_proved = quote-met.met

pub quote_asks : (κs : _) (a : _) → quote.Pre κs a ≡ Unit {0}
quote_asks κs a = refl

pub quote_says : (κs : _) (a : _) (r : Reply) (s : _) → quote.Post κs a r s
    ≡ Asks a.0 a.1.0 a.1.1.0 (body.Quote a.1.1.1.0) a.1.1.1.1.0.now r s.1.1.1.1.0.now
quote_says κs a r s = refl

-- `Book::close(self, number, time, out)`: a close
pub close_is_proved : {M : Type 1} → close-statement.statement M
close_is_proved = close-met.met

pub close_asks : (κs : _) (a : _) → close.Pre κs a ≡ Unit {0}
close_asks κs a = refl

pub close_says : (κs : _) (a : _) (r : Reply) (s : _) → close.Post κs a r s
    ≡ Asks a.0 a.1.0 a.1.1.0 body.Close a.1.1.1.0.now r s.1.1.1.0.now
close_says κs a r s = refl

-- ── One side lent as a slice of records ──

-- `lent::answer(book, buys, table, line, out)`. What its `ensures` states, in every model of the logic, is one fact
pub lent_is_proved : {M : Type 1} → lent-statement.statement M
lent_is_proved = lent_met.met

pub lent_says : {M : Type 1} {𝓤 : Ura M} (𝓛 : Logic 𝓤) (mem : Memory → SProp 𝓤) (run : Routine → Fun 𝓤)
    (κs : _) (a : _) (g : _) (r : Reply) (s : _)
    → (lent-contract.clauses 𝓛 mem run κs a).ensures g r s
    ≡ (connectives 𝓤).⌜◌⌝ (Answered a.1.0 (record_in a.0) a.1.1.0.now a.1.1.1.0.now a.1.1.1.1.0.now r
    s.1.1.0.now s.1.1.1.1.0.now)
lent_says 𝓛 mem run κs a g r s = refl

pub lent_asks : {M : Type 1} {𝓤 : Ura M} (𝓛 : Logic 𝓤) (mem : Memory → SProp 𝓤) (run : Routine → Fun 𝓤) (κs : _) (a : _) (g : _)
    → (lent-contract.clauses 𝓛 mem run κs a).requires g ≡ (connectives 𝓤).⊤ₛ
lent_asks 𝓛 mem run κs a g = refl

-- `lent::answer_lending(book, buys, line, out)`: by way of the table, whichever side is lent, the book answers as it does by itself
pub lending_is_proved : {M : Type 1} → lending-statement.statement M
lending_is_proved = lending-met.met

pub lending_asks : (κs : _) (a : _) → lending.Pre κs a ≡ Unit {0}
lending_asks κs a = refl

pub lending_says : (κs : _) (a : _) (r : Reply) (s : _) → lending.Post κs a r s
    ≡ ((r ≡ reply_of (step (record_in a.0) a.1.1.0.now a.1.1.1.0.now))
    × (s.1.1.1.0.now ≡ (step (record_in a.0) a.1.1.0.now a.1.1.1.0.now).out))
lending_says κs a r s = refl

-- ── Lines read and written ──

-- `command_lines::reader::read_command(s)`: any bytes
pub read_is_proved : {M : Type 1} → read-statement.statement M
read_is_proved = read-met.met

pub read_asks : (κs : _) (a : _) → read.Pre κs a ≡ Unit {0}
read_asks κs a = refl

pub read_says : (κs : _) (a : _) (r : Reading) (s : _) → read.Post κs a r s
    ≡ (r ≡ command_in a.0.now)
read_says κs a r s = refl

-- `command_lines::writer::write_command(c, out)`: any command that the machine holds, which its line then reads back as
pub write_is_proved : {M : Type 1} → write-statement.statement M
write_is_proved = write-met.met

pub write_asks : (κs : _) (a : _) → write.Pre κs a ≡ Unit {0}
write_asks κs a = refl

pub write_says : (κs : _) (a : _) (r : Result ℕ Refusal) (s : _) → write.Post κs a r s
    ≡ ((r ≡ written_for a.0 (length a.1.0.now))
    × ((s.1.0.now ≡ buffer_of a.0 a.1.0.now) × (command_in (line_of a.0) ≡ Some a.0)))
write_says κs a r s = refl

-- `event_lines::reader::read_event(s)`: any bytes (02, W1)
pub read_event_is_proved : {M : Type 1} → read-event-statement.statement M
read_event_is_proved = read-event-met.met

pub read_event_asks : (κs : _) (a : _) → read-event.Pre κs a ≡ Unit {0}
read_event_asks κs a = refl

pub read_event_says : (κs : _) (a : _) (r : EventReading) (s : _) → read-event.Post κs a r s
    ≡ (r ≡ event_in a.0.now)
read_event_says κs a r s = refl

-- ── A day, piece by piece ──

-- Here a book stands in place as a `SoundBook` of `side`, whose value is 01's book. That it is sound is an invariant of the type, so no
-- `asks` speaks of it: where the type's fields are written, or a value of it is made, its soundness is proved.

-- `day::replay::begin()`: a fresh book
pub begin_is_proved : {M : Type 1} → begin-statement.statement M
begin_is_proved = begin-met.met

pub begin_asks : (κs : _) (a : _) → begin.Pre κs a ≡ Unit {0}
begin_asks κs a = refl

pub begin_says : (κs : _) (a : _) (r : book.Book) (s : _) → begin.Post κs a r s
    ≡ (r ≡ book.fresh)
begin_says κs a r s = refl

-- `day::replay::begin_again(book)`: a fresh book, in the place of whatever book is lent
pub begin_again_is_proved : {M : Type 1} → begin-again-statement.statement M
begin_again_is_proved = begin-again-met.met

pub begin_again_asks : (κs : _) (a : _) → begin-again.Pre κs a ≡ Unit {0}
begin_again_asks κs a = refl

pub begin_again_says : (κs : _) (a : _) (r : _) (s : _) → begin-again.Post κs a r s
    ≡ (s.0.now ≡ book.fresh)
begin_again_says κs a r s = refl

-- `day::replay::feed(book, input, took, out)`: on any sound book, whatever the input and the output
pub feed_is_proved : {M : Type 1} → feed-statement.statement M
feed_is_proved = feed-met.met

pub feed_asks : (κs : _) (a : _) → feed.Pre κs a ≡ Unit {0}
feed_asks κs a = refl

pub feed_says : (κs : _) (a : _) (r : Fed) (s : _) → feed.Post κs a r s
    ≡ Feeds a.0.now a.1.0.now a.1.1.1.0.now r s.0.now s.1.1.1.0.now
feed_says κs a r s = refl

-- `day::night::take_turn(book, input, have, took, out)`: all that the program does between a read and a write
pub turn_is_proved : {M : Type 1} → turn-statement.statement M
turn_is_proved = turn-met.met

pub turn_asks : (κs : _) (a : _) → turn.Pre κs a ≡ ((a.1.1.0 ≤ length a.1.0.now) × (least_room ≤ length a.1.1.1.1.0.now))
turn_asks κs a = refl

pub turn_says : (κs : _) (a : _) (r : Turn) (s : _) → turn.Post κs a r s
    ≡ Takes a.0.now a.1.0.now a.1.1.0 a.1.1.1.1.0.now r s.0.now s.1.0.now s.1.1.1.1.0.now
turn_says κs a r s = refl

-- `command_lines::lines::after_read(got, have, room)`: what a read gave
pub after_read_is_proved : {M : Type 1} → after-read-statement.statement M
after_read_is_proved = after-read-met.met

pub after_read_asks : (κs : _) (a : _) → after_read.Pre κs a ≡ (a.1.0 ≤ a.1.1.0)
after_read_asks κs a = refl

pub after_read_says : (κs : _) (a : _) (r : Read) (s : _) → after_read.Post κs a r s
    ≡ (r ≡ read_behind a.0 a.1.0 a.1.1.0)
after_read_says κs a r s = refl

-- `day::night::finish(part, out)`: what it does when the input has ended
pub finish_is_proved : {M : Type 1} → finish-statement.statement M
finish_is_proved = finish-met.met

pub finish_asks : (κs : _) (a : _) → finish.Pre κs a ≡ (5 ≤ length a.1.0.now)
finish_asks κs a = refl

pub finish_says : (κs : _) (a : _) (r : ℕ) (s : _) → finish.Post κs a r s
    ≡ ((r ≡ length (printed_at_end a.0.now)) × ((r ≤ length s.1.0.now) × (s.1.0.now ≡ onto (printed_at_end a.0.now) a.1.0.now)))
finish_says κs a r s = refl

-- `tally::feed(t, number, input)`: the whole lines of a piece, tallied (02, W1)
pub tally_is_proved : {M : Type 1} → tally-statement.statement M
tally_is_proved = tally-met.met

pub tally_asks : (κs : _) (a : _) → tally.Pre κs a ≡ Unit {0}
tally_asks κs a = refl

pub tally_says : (κs : _) (a : _) (r : tallied.TalliedPiece) (s : _) → tally.Post κs a r s
    ≡ (r ≡ fed_on a.1.0 a.0 a.1.1.0.now)
tally_says κs a r s = refl
