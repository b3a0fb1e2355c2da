-- Demand 1: a refusal hands back the same record and writes no byte; each command number acts at most once in a day; and the day with
-- its refused commands struck out ends with the same book and the same event lines. Assumes nothing.
use Prim.Native.Nat.{ℕ, zero, suc, ◌+◌, ◌≤◌}
use mathlib.Core.Bool.{true, false}
use mathlib.Core.List.{List, [], ◌∷◌, ◌++◌}
use mathlib.Core.Logic.{◌≢◌, ◌⊎◌, ⊎_elim}
use mathlib.Core.Path.{◌≡◌, refl, sym, ap, ◌∙◌, subst}
use lib.Dec.{eqb}
use lib.ListN.{length}
use native.Mathlib.Omega.{arith}
use borrow.Author.Tests.{eqb-true, eqb-false, ne_eqb, le-leb}
use Rattle.basics.specs.Bytes.{onto}
use Rattle.basics.specs.Lists.{distinct}
use Rattle.basics.proofs.LawsChoice.{holds_or_not, by_test, and_left, and_right}
use Rattle.kinds.specs.declared.Number.{Number}
use Rattle.rules.specs.declared.Command.{Command}
use Rattle.rules.specs.CommandLines.{Reading}
use Rattle.rules.specs.Book.{Book, BookRecord, book_in, record_of, record_sound}
use Rattle.rules.specs.CommandLines.{command_in}
use Rattle.rules.specs.Day.{printed, book_after, printed_of}
use Rattle.rules.specs.EventLines.{event_lines}
use Rattle.rules.specs.Refusals.{first_of, last_refusal, header_refusals, line_refusals, refusals}
use Rattle.rules.specs.Step.{done_by, answer, answer_to, step, step_on}
use Rattle.rules.proofs.LawsCommands.{does_number_and_time}
use Rattle.rules.proofs.LawsRefusals.{first_numbered, table_numbered}
use Rattle.soundness.proofs.LawsAccepted.{accepted}
use Rattle.demands.proofs.LawsRoom.{done_long, fit_for}
use Rattle.demands.proofs.LawsRuns.{Keeps, struck_out_end, struck_out_lines, struck_out_acts, each_once}
use Rattle.demands.specs.Once.{EventLines, Refused, end_of, event_lines_of, acting_numbers, struck_out, none_refused, command_number, acts, by_line, Call, reading_of, returned, by_call}
use Rattle.std.specs.Prelude.{Some, None}

-- ── Any bytes, any record, any output ──

refused_step : (r : BookRecord) (a : Reading) (out : List ℕ) → eqb (step_on r a out).refusal 0 ≡ false
    → ((step_on r a out).book ≡ r) × ((step_on r a out).out ≡ out) × ((step_on r a out).length ≡ 0)
unfolding step_on answer onto event_lines
refused_step r a out e = (rw e refl, rw e refl, rw e refl)

-- a refusal hands back the same record and writes no byte
pub refusal_touches_nothing : (r : BookRecord) (line out : List ℕ) → (step r line out).refusal ≢ 0
    → ((step r line out).book ≡ r) × ((step r line out).out ≡ out) × ((step r line out).length ≡ 0)
unfolding step
refusal_touches_nothing r line out n = refused_step r (command_in line) out (ne_eqb (step_on r (command_in line) out).refusal 0 n)

-- there are eleven refusals
pub refusal_numbers : (r : BookRecord) (line out : List ℕ) → (step r line out).refusal ≤ last_refusal
unfolding step step_on
refusal_numbers r line out =
    let table = refusals (length out) (record_sound r) (book_in r) (command_in line) in
    first_numbered last_refusal table (table_numbered (length out) (record_sound r) (book_in r) (command_in line))

-- every call ends with event lines or with one numbered refusal
pub lines_or_refusal : (r : BookRecord) (line out : List ℕ) → EventLines out (step r line out) ⊎ Refused r out (step r line out)
unfolding step step_on answer
lines_or_refusal r line out =
    by_test (eqb (step r line out).refusal 0)
    (λ (t : eqb (step r line out).refusal 0 ≡ true).
    let none : (step r line out).refusal ≡ 0 = eqb-true (step r line out).refusal 0 t in
    let facts = fit_for (length out) r (command_in line) none in
    record {
      accepted = none;
      events = (done_by (command_in line) (book_in r)).events;
      fit = omega (arith, facts.0, done_long (book_in r) (command_in line) facts.1);
      long = rw t refl;
      written = rw t refl;
    })
    (λ (t : eqb (step r line out).refusal 0 ≡ false).
    let some : (step r line out).refusal ≢ 0 = eqb-false (step r line out).refusal 0 t in
    let same = refusal_touches_nothing r line out some in
    record {
      numbered = (nonzero (step r line out).refusal some, refusal_numbers r line out);
      no_line = same.2;
      same_book = same.0;
      no_byte = same.1;
    })
  where
    nonzero : (k : ℕ) → k ≢ 0 → 1 ≤ k
    nonzero zero n = absurd (n refl)
    nonzero (suc k) n = omega arith

-- ── One line of a day ──

-- a line that is refused hands back the same book and gives no event
pub refused_book : (b : Book) (line : List ℕ) → acts b line ≡ false → (answer_to b line).book ≡ b
unfolding answer_to answer
refused_book b line e = rw e refl

pub refused_events : (b : Book) (line : List ℕ) → acts b line ≡ false → (answer_to b line).events ≡ []
unfolding answer_to answer
refused_events b line e = rw e refl

-- a line that no refusal is given for is a command with the number after the last, and leaves that number
next_done : (b : Book) (a : Reading) → first_of (line_refusals b a) ≡ 0 → (command_number a ≡ b.held.last.0 + 1) × ((done_by a b).book.held.last.0 ≡ b.held.last.0 + 1)
unfolding done_by line_refusals first_of
next_done b None e = let z : ⊥ = omega (arith, e) in absurd z
next_done b (Some c) e =
    let next = (accepted b c e).next in
    (next, rw (does_number_and_time c.number c.time b c.body).0 next)

pub next_acts : (b : Book) (line : List ℕ) → acts b line ≡ true
    → (command_number (command_in line) ≡ b.held.last.0 + 1) × ((answer_to b line).book.held.last.0 ≡ b.held.last.0 + 1)
unfolding answer_to answer refusals first_of
next_acts b line e =
    rw e (next_done b (command_in line) (eqb-true (first_of (line_refusals b (command_in line))) 0 e))

-- ── A day of lines ──

-- lines keep to what `LawsRuns` asks of a kind
pub by_line_keeps : Keeps by_line (λ (b : Book). b.held.last.0)
unfolding event_lines
by_line_keeps = record {
  same_book = refused_book;
  no_line = λ b line t. rw (refused_events b line t) refl;
  next = next_acts;
}

-- a run of lines ends with the book after it
pub end_is_lem : (b : Book) (lines : List (List ℕ)) → end_of by_line b lines ≡ book_after b lines
unfolding end_of book_after
end_is_lem b [] = refl
end_is_lem b (l ∷ ls) = end_is_lem (answer_to b l).book ls

-- where no line is refused, all that is printed is event lines
prints_events : (b : Book) (lines : List (List ℕ)) → none_refused by_line b lines ≡ true → printed_of b lines ≡ event_lines_of by_line b lines
unfolding printed_of printed event_lines_of none_refused
prints_events b [] t = refl
prints_events b (l ∷ ls) t =
    let first = and_left (acts b l) (none_refused by_line (answer_to b l).book ls) t in
    let rest = prints_events (answer_to b l).book ls (and_right (acts b l) (none_refused by_line (answer_to b l).book ls) t) in
    rw (first, rest) refl

-- each command number acts at most once
pub lines_once : (b : Book) (lines : List (List ℕ)) → distinct (acting_numbers by_line b lines) ≡ true
lines_once = each_once by_line_keeps

-- the day with its refused commands struck out ends with the same book
pub lines_end : (b : Book) (lines : List (List ℕ)) → book_after b (struck_out by_line b lines) ≡ book_after b lines
lines_end b lines = sym (end_is_lem b (struck_out by_line b lines)) ∙ struck_out_end by_line_keeps b lines ∙ end_is_lem b lines

-- .. and the same event lines
pub lines_tell : (b : Book) (lines : List (List ℕ)) → event_lines_of by_line b (struck_out by_line b lines) ≡ event_lines_of by_line b lines
lines_tell = struck_out_lines by_line_keeps

-- .. nothing of it is refused
pub lines_act : (b : Book) (lines : List (List ℕ)) → none_refused by_line b (struck_out by_line b lines) ≡ true
lines_act = struck_out_acts by_line_keeps

-- .. so they are all that is printed of it
pub lines_print : (b : Book) (lines : List (List ℕ)) → printed_of b (struck_out by_line b lines) ≡ event_lines_of by_line b lines
lines_print b lines = prints_events b (struck_out by_line b lines) (lines_act b lines) ∙ lines_tell b lines

-- ── A day of calls ──

-- a call that is not refused is a command with the number after the last, and leaves that number
call_next : (r : BookRecord) (c : Call) → by_call.acts r c ≡ true
    → (command_number (reading_of c.asks) ≡ r.held.last.0 + 1) × ((by_call.book r c).held.last.0 ≡ r.held.last.0 + 1)
unfolding step_on answer book_in record_of
call_next r c t =
    let a = reading_of c.asks in
    let none = (fit_for (length c.out) r a (eqb-true (returned r c).refusal 0 t)).2 in
    let next = next_done (book_in r) a none in
    (next.0, rw t next.1)

-- calls keep to what `LawsRuns` asks of a kind
pub by_call_keeps : Keeps by_call (λ (r : BookRecord). r.held.last.0)
by_call_keeps = record {
  same_book = λ r c t. (refused r c t).0;
  no_line = λ r c t. rw (refused r c t).2 refl;
  next = call_next;
}
  where
    refused : (r : BookRecord) (c : Call) → by_call.acts r c ≡ false
        → ((returned r c).book ≡ r) × ((returned r c).out ≡ c.out) × ((returned r c).length ≡ 0)
    refused r c t = refused_step r (reading_of c.asks) c.out t

-- each command number acts at most once
pub calls_once : (r : BookRecord) (calls : List Call) → distinct (acting_numbers by_call r calls) ≡ true
calls_once = each_once by_call_keeps

-- the day with its refused commands struck out ends with the same record
pub calls_end : (r : BookRecord) (calls : List Call) → end_of by_call r (struck_out by_call r calls) ≡ end_of by_call r calls
calls_end = struck_out_end by_call_keeps

-- .. and the same event lines
pub calls_tell : (r : BookRecord) (calls : List Call) → event_lines_of by_call r (struck_out by_call r calls) ≡ event_lines_of by_call r calls
calls_tell = struck_out_lines by_call_keeps

-- .. and nothing of it is refused
pub calls_act : (r : BookRecord) (calls : List Call) → none_refused by_call r (struck_out by_call r calls) ≡ true
calls_act = struck_out_acts by_call_keeps

-- ── The repeat at three in the morning ──

-- the last number never falls
pub answer_rises : (b : Book) (line : List ℕ) → b.held.last.0 ≤ (answer_to b line).book.held.last.0
answer_rises b line =
    ⊎_elim
    (λ (t : acts b line ≡ true). let next = (next_acts b line t).1 in omega (arith, next))
    (λ (t : acts b line ≡ false). rw (refused_book b line t) (omega arith))
    (holds_or_not (acts b line))

after_rises : (b : Book) (lines : List (List ℕ)) → b.held.last.0 ≤ (book_after b lines).held.last.0
unfolding book_after
after_rises b [] = omega arith
after_rises b (l ∷ ls) =
    let first = answer_rises b l in
    let rest = after_rises (answer_to b l).book ls in
    omega (arith, first, rest)

after_append : (b : Book) (earlier later : List (List ℕ)) → book_after b (earlier ++ later) ≡ book_after (book_after b earlier) later
unfolding book_after
after_append b [] later = refl
after_append b (l ∷ ls) later = after_append (answer_to b l).book ls later

-- a line whose number is not above the last is refused with 4
old_refused : (b : Book) (again : List ℕ) (d : Command) → command_in again ≡ Some d → d.number.0 ≤ b.held.last.0
    → answer_to b again ≡ record { refusal = 4; book = b; events = [] }
unfolding answer_to answer refusals line_refusals header_refusals first_of
old_refused b again d e l = rw (e, le-leb d.number.0 b.held.last.0 l) refl

-- after a line has acted, whatever came since, a line with its number is refused with 4, whatever its time and its body
pub repeat_refused : (b : Book) (earlier between : List (List ℕ)) (line again : List ℕ) (c d : Command)
    → acts (book_after b earlier) line ≡ true → command_in line ≡ Some c → command_in again ≡ Some d → d.number ≡ c.number
    → answer_to (book_after b (earlier ++ (line ∷ between))) again
    ≡ record { refusal = 4; book = book_after b (earlier ++ (line ∷ between)); events = [] }
unfolding book_after
repeat_refused b earlier between line again c d t first second same =
    let held = book_after b earlier in
    let next = next_acts held line t in
    let number : c.number.0 ≡ held.held.last.0 + 1 = subst (λ (a : Reading). command_number a ≡ held.held.last.0 + 1) first next.0 in
    let alike : d.number.0 ≡ c.number.0 = ap (λ (n : Number). n.0) same in
    let since = after_rises (answer_to held line).book between in
    let old : d.number.0 ≤ (book_after b (earlier ++ (line ∷ between))).held.last.0 =
    rw (after_append b earlier (line ∷ between)) (omega (arith, next.1, number, alike, since)) in
    old_refused (book_after b (earlier ++ (line ∷ between))) again d second old
