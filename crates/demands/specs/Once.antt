-- Demand 1, in the customer's words: any bytes, with any book record lent, give event lines or one numbered refusal that hands back
-- the same book and writes no byte; each command number acts at most once in a day; and the day with its refused commands struck
-- out ends with the same book and the same event lines. These are the words of that statement; `LawsOnce` has its proofs.
use Rattle.std.specs.Prelude.{ℕ, ◌≤◌, Bool, true, ◌&&◌, List, [], ◌∷◌, ◌++◌, ◌≡◌, eqb, leb, length, take, if◌then◌else◌, Some, None}
use Rattle.basics.specs.Bytes.{onto}
use Rattle.rules.specs.declared.Command.{Command}
use Rattle.rules.specs.declared.Event.{Event}
use Rattle.rules.specs.CommandLines.{Reading}
use Rattle.rules.specs.Book.{Book, BookRecord}
use Rattle.rules.specs.CommandLines.{Fits, line_of, command_in}
use Rattle.rules.specs.EventLines.{event_lines}
use Rattle.rules.specs.Refusals.{least_room, last_refusal}
use Rattle.rules.specs.Step.{Returned, answer_to, step_on}

-- ── One call ──

-- a call ends "with event lines": there is room for them, they stand at the front of the output, and the bytes past them stay
pub record EventLines (out : List ℕ) (s : Returned) : Type 0 where
  pub accepted : s.refusal ≡ 0
  pub events : List Event
  pub fit : length (event_lines events) ≤ length out
  pub long : s.length ≡ length (event_lines events)
  pub written : s.out ≡ onto (event_lines events) out

-- "or with one numbered refusal .. A refusal hands back the same book and writes no byte."
pub record Refused (r : BookRecord) (out : List ℕ) (s : Returned) : Type 0 where
  pub numbered : (1 ≤ s.refusal) × (s.refusal ≤ last_refusal)
  pub no_line : s.length ≡ 0
  pub same_book : s.book ≡ r
  pub no_byte : s.out ≡ out

-- ── A run of commands ──

-- how books of a kind B answer commands of a kind C: whether a command acts, that is, is not refused; the book after it; the event
-- lines that it tells; and what it is read as
pub record Answering (B C : Type 0) : Type 0 where
  pub acts : B → C → Bool
  pub book : B → C → B
  pub tells : B → C → List ℕ
  pub reading : C → Reading

-- the number of the command that a reading is, or 0 where it is none
abbrev pub command_number : Reading → ℕ
command_number (Some c) = c.number.0
command_number None = 0

-- the book that a run ends with
unfoldable pub end_of : {B C : Type 0} → Answering B C → B → List C → B
end_of a b [] = b
end_of a b (c ∷ cs) = end_of a (a.book b c) cs

-- the event lines of a run; the line that a refusal is printed as is none
unfoldable pub event_lines_of : {B C : Type 0} → Answering B C → B → List C → List ℕ
event_lines_of a b [] = []
event_lines_of a b (c ∷ cs) = a.tells b c ++ event_lines_of a (a.book b c) cs

-- the command numbers that act in a run, in their order
unfoldable pub acting_numbers : {B C : Type 0} → Answering B C → B → List C → List ℕ
acting_numbers a b [] = []
acting_numbers a b (c ∷ cs) =
    if a.acts b c then command_number (a.reading c) ∷ acting_numbers a (a.book b c) cs
    else acting_numbers a (a.book b c) cs

-- a run with its refused commands struck out
unfoldable pub struck_out : {B C : Type 0} → Answering B C → B → List C → List C
struck_out a b [] = []
struck_out a b (c ∷ cs) =
    if a.acts b c then c ∷ struck_out a (a.book b c) cs
    else struck_out a (a.book b c) cs

-- no command of a run is refused
unfoldable pub none_refused : {B C : Type 0} → Answering B C → B → List C → Bool
none_refused a b [] = true
none_refused a b (c ∷ cs) = a.acts b c && none_refused a (a.book b c) cs

-- ── A day ──

-- a line acts on a book: it is not refused
abbrev pub acts : Book → List ℕ → Bool
acts b line = eqb (answer_to b line).refusal 0

-- a day of lines through a book, as the program runs it
abbrev pub by_line : Answering Book (List ℕ)
by_line = record {
  acts = acts;
  book = λ b line. (answer_to b line).book;
  tells = λ b line. event_lines (answer_to b line).events;
  reading = command_in;
}

-- what a call asks: a line of any bytes, or a command, by the method of its body; a command's fields fit their types
pub data Asked : Type 0 where
  a_line : List ℕ → Asked
  a_command : (c : Command) → Fits c → Asked

abbrev pub reading_of : Asked → Reading
reading_of (a_line line) = command_in line
reading_of (a_command c fits) = Some c

-- the line that asks the same
abbrev pub line_asked : Asked → List ℕ
line_asked (a_line line) = line
line_asked (a_command c fits) = line_of c

-- a call: what it asks, and the output that is lent with it
pub record Call : Type 0 where
  pub asks : Asked
  pub out : List ℕ

-- what it returns, on the record that is lent with it
abbrev pub returned : BookRecord → Call → Returned
returned r c = step_on r (reading_of c.asks) c.out

-- a day of calls, each with the record that the one before handed back
abbrev pub by_call : Answering BookRecord Call
by_call = record {
  acts = λ r c. eqb (returned r c).refusal 0;
  book = λ r c. (returned r c).book;
  tells = λ r c. take (returned r c).length (returned r c).out;
  reading = λ c. reading_of c.asks;
}

-- the lines of the calls of a run whose output has the room that 01 asks for
unfoldable pub lines_with_room : List Call → List (List ℕ)
lines_with_room [] = []
lines_with_room (c ∷ cs) =
    if leb least_room (length c.out) then line_asked c.asks ∷ lines_with_room cs
    else lines_with_room cs
