-- Beyond the demands: Post Only executes nothing; a closed book stays as it is, and settles every order; the numbers that act in a day
-- are 1, 2, 3 .. to the last; and the accepted lines of a day, sent again after it, get only refusal 4. Assumes nothing.
use Prim.Native.Nat.{ℕ, suc, ◌+◌, ◌≤◌}
use mathlib.Core.Bool.{true, false, true≢false}
use mathlib.Core.List.{List, [], ◌∷◌, ◌++◌, append_assoc, append-nil}
use mathlib.Core.Logic.{⊎_elim}
use mathlib.Core.Path.{◌≡◌, refl, sym, ap, ◌∙◌, subst}
use lib.ListN.{length}
use native.Mathlib.Numerals.{add-one}
use native.Mathlib.Omega.{arith}
use borrow.Author.Tests.{eqb-true}
use Rattle.basics.specs.Lists.{All, none, also, OneOf, sum_of}
use Rattle.basics.proofs.LawsChoice.{holds_or_not}
use Rattle.basics.proofs.LawsLists.{all_alike, all_both, one_of_all}
use Rattle.kinds.specs.declared.HalfCents.{HalfCents}
use Rattle.kinds.specs.declared.Number.{Number}
use Rattle.rules.specs.declared.Body.TheVariants as body
use Rattle.rules.specs.declared.Command.{Command}
use Rattle.rules.specs.declared.Event.{Event}
use Rattle.rules.specs.declared.Event.TheVariants.{Executed, Rested, Cancelled, Moved}
use Rattle.rules.specs.EventReading.{EventReading}
use Rattle.rules.specs.declared.NoEvent.TheVariants as no_event
use Rattle.rules.specs.declared.Order.{Order}
use Rattle.rules.specs.CommandLines.{Reading}
use Rattle.rules.specs.declared.Resting.{Resting}
use Rattle.rules.specs.Book.{Book, fresh, sound, record_of}
use Rattle.rules.specs.CommandLines.{command_in}
use Rattle.rules.specs.Day.{cut, unended_line, lines_in, printed, book_after, printed_of}
use Rattle.rules.specs.EventLines.{event_line, event_lines, refusal_line}
use Rattle.rules.specs.EventReading.{event_in}
use Rattle.rules.specs.Holdings.{Holding, holdings, nothing, executions, after}
use Rattle.rules.specs.Instructions.{post_only, has}
use Rattle.rules.specs.Step.{answer_to}
use Rattle.rules.specs.Working.{Met, met_by, execution_price, walked, takings, remainder, ending}
use Rattle.rules.proofs.LawsCommands.{close_does}
use Rattle.rules.proofs.LawsEventReading.{event_in_is}
use Rattle.rules.proofs.LawsEvents.{executed_length, rested_length, cancelled_length, moved_length}
use Rattle.soundness.proofs.LawsKept.{after_sound, fresh_sound}
use Rattle.soundness.proofs.LawsSound.{sound_is}
use Rattle.demands.specs.Beyond.{one_to, repeated, NoExecution}
use Rattle.demands.specs.Once.{Answering, command_number, end_of, acting_numbers, struck_out, acts, by_line, Call, by_call}
use Rattle.demands.specs.Run.{Enters}
use Rattle.demands.specs.Told.{read_as, events_on, events_in, executed_in, cancelled_in, rests_on, resting_of}
use Rattle.demands.proofs.LawsEventLines.{event_line_read}
use Rattle.demands.proofs.LawsExecutes.{acts_accepted, acts_lines}
use Rattle.demands.proofs.LawsFairly.{every_last}
use Rattle.demands.proofs.LawsLinesTell.{every_refill}
use Rattle.demands.proofs.LawsOnce.{refused_book, next_acts, by_line_keeps, end_is_lem, by_call_keeps, repeat_refused}
use Rattle.demands.proofs.LawsRun.{accepted_does, run_conserved}
use Rattle.demands.proofs.LawsRuns.{Keeps}
use Rattle.demands.proofs.LawsWalked.{taken}
use Rattle.std.specs.Prelude.{Some, None, Ok, Err}

-- ── Post Only ──

-- where nobody gives, there is no execution
nothing_executes : (n : Number) (price : Resting → HalfCents) (s : List Holding) → executions n price s (nothing s) ≡ []
unfolding executions nothing
nothing_executes n price [] = refl
nothing_executes n price (h ∷ s) = nothing_executes n price s

-- to a Post Only order nobody gives
post_only_executions : (n : Number) (o : Order) (met : Met) → has o.word post_only ≡ true
    → executions n (execution_price o met) (holdings met.opposite) (takings o met) ≡ []
unfolding walked
post_only_executions n o met p =
    let hs = holdings met.opposite in
    let none_executes = nothing_executes n (execution_price o met) hs in
    taken (λ (ts : List ℕ). executions n (execution_price o met) hs ts ≡ []) o met none_executes (rw p none_executes)

-- so an accepted Post Only order has its last line alone, and on a book that is not sound those of refills
post_only_events : (b : Book) (line : List ℕ) (c : Command) (o : Order) → acts b line ≡ true → command_in line ≡ Some c
    → c.body ≡ body.Order o → has o.word post_only ≡ true → All NoExecution (answer_to b line).events
post_only_events b line c o t e f p =
    let met = met_by o b in
    rw (acts_lines b line c o t e f, post_only_executions c.number o met p)
    (all_both (every_last c.number (λ price k. tt) (λ k reason. tt) (remainder o met) (ending o met))
    (every_refill {P = NoExecution} (λ m price k. tt) (after met.opposite (takings o met))))

-- the line of an event that executes nothing, whatever its fields, is read as none that does: the line of an execution is longer
read_executes_nothing : (e : Event) → NoExecution e → All NoExecution (read_as (event_in (event_line e)))
read_executes_nothing e n = by_reading (event_in (event_line e)) refl
  where
    shorter : (e : Event) → NoExecution e → length (event_line e) ≤ 27
    shorter (Executed incoming resting price given) n = absurd n
    shorter (Rested m price given) n = omega (arith, rested_length m price given)
    shorter (Cancelled m given reason) n = omega (arith, cancelled_length m given reason)
    shorter (Moved m price given) n = omega (arith, moved_length m price given)

    none_longer : (d : Event) → event_line e ≡ event_line d → NoExecution d
    none_longer (Executed incoming resting price given) same =
        let long : length (event_line e) ≡ 35 = ap length same ∙ executed_length incoming resting price given in
        let z : ⊥ = omega (arith, long, shorter e n) in
        z
    none_longer (Rested m price given) same = tt
    none_longer (Cancelled m given reason) same = tt
    none_longer (Moved m price given) same = tt

    by_reading : (r : EventReading) → event_in (event_line e) ≡ r → All NoExecution (read_as r)
    by_reading (Ok d) is = also (none_longer d (event_in_is (event_line e) d is).line_is_lem) none
    by_reading (Err no_event.UnknownKind) is = none
    by_reading (Err no_event.Short) is = none
    by_reading (Err no_event.TrailingBytes) is = none
    by_reading (Err no_event.BadDigitOrEnding) is = none

lines_execute_nothing : {es : List Event} → All NoExecution es → All NoExecution (events_in (event_lines es))
unfolding event_lines cut unended_line lines_in events_on
lines_execute_nothing none = none
lines_execute_nothing (also {x = e} {s = es} n a) =
    rw (event_line_read e (event_lines es)) (all_both (read_executes_nothing e n) (lines_execute_nothing a))

-- so what is printed of it tells no execution
pub post_only_executes_nothing : (b : Book) (line : List ℕ) (c : Command) (o : Order) → acts b line ≡ true → command_in line ≡ Some c
    → c.body ≡ body.Order o → has o.word post_only ≡ true → All NoExecution (events_in (printed (answer_to b line)))
unfolding printed
post_only_executes_nothing b line c o t e f p = rw t (lines_execute_nothing (post_only_events b line c o t e f p))

-- ── The close ──

-- an accepted close closes
pub close_closes : (b : Book) (line : List ℕ) (c : Command) → acts b line ≡ true → command_in line ≡ Some c → c.body ≡ body.Close
    → (answer_to b line).book.held.closed ≡ true
close_closes b line c t e f = rw ((accepted_does b line c e t).0, f, (close_does c.number c.time b).0) refl

-- a line that acts is a command
acts_reads : {P : Type 0} (b : Book) (line : List ℕ) → acts b line ≡ true → ((c : Command) → command_in line ≡ Some c → P) → P
acts_reads {P = P} b line t f = by_reading (command_in line) refl
  where
    by_reading : (r : Reading) → command_in line ≡ r → P
    by_reading None e =
        let next = subst (λ (r : Reading). command_number r ≡ b.held.last.0 + 1) e (next_acts b line t).0 in
        let z : ⊥ = omega (arith, next) in absurd z
    by_reading (Some c) e = f c e

-- a closed book refuses every line
closed_refuses : (b : Book) (line : List ℕ) → b.held.closed ≡ true → acts b line ≡ false
closed_refuses b line closed =
    ⊎_elim
    (λ (t : acts b line ≡ true). acts_reads b line t (λ c e. absurd (true≢false (sym closed ∙ (acts_accepted b line c t e).is_open))))
    (λ (t : acts b line ≡ false). t)
    (holds_or_not (acts b line))

-- .. so it stays as it is
pub closed_stays : (b : Book) (lines : List (List ℕ)) → b.held.closed ≡ true → book_after b lines ≡ b
unfolding book_after
closed_stays b [] closed = refl
closed_stays b (l ∷ ls) closed = rw (refused_book b l (closed_refuses b l closed)) (closed_stays b ls closed)

-- a closed sound book holds no shares
closed_holds_none : (n : Number) (b : Book) → sound b ≡ true → b.held.closed ≡ true → resting_of n b ≡ 0
unfolding sum_of
closed_holds_none n b s closed =
    let empty = rw closed at (sound_is b s).closed_empty in
    none_rests b.buys b.sells (eqb-true (length (b.buys ++ b.sells)) 0 empty)
  where
    none_rests : (buys sells : List Resting) → length (buys ++ sells) ≡ 0 → rests_on n buys + rests_on n sells ≡ 0
    none_rests [] [] e = refl
    none_rests [] (h ∷ sells) e = let z : ⊥ = omega (arith, e) in absurd z
    none_rests (h ∷ buys) sells e = let z : ⊥ = omega (arith, e) in absurd z

-- after the close every accepted order is settled: its shares were executed or cancelled, all told by the lines
pub closed_settles : (lines : List (List ℕ)) (stood : Book) (line : List ℕ) (c : Command) (o : Order) → Enters by_line fresh lines stood line c o
    → (book_after fresh lines).held.closed ≡ true
    → o.shares.0
    ≡ executed_in c.number (events_in (printed_of fresh lines)) + cancelled_in c.number (events_in (printed_of fresh lines))
closed_settles lines stood line c o r closed =
    omega (
      arith,
      run_conserved lines stood line c o r,
      closed_holds_none c.number (book_after fresh lines) (after_sound fresh lines fresh_sound) closed,
    )

-- ── The numbers that act ──

-- after the numbers up to the last, those that act in a run go on to its last
acting_on : {B C : Type 0} {a : Answering B C} {last : B → ℕ} → Keeps a last → (b : B) (cs : List C)
    → one_to (last b) ++ acting_numbers a b cs ≡ one_to (last (end_of a b cs))
unfolding acting_numbers end_of one_to
acting_on {last = last} k b [] = append-nil (one_to (last b))
acting_on {a = a} {last = last} k b (c ∷ cs) =
    ⊎_elim
    (λ (t : a.acts b c ≡ true).
    let next = k.next b c t in
    let onward = rw (next.1, add-one (last b)) at (acting_on k (a.book b c) cs) in
    rw (t, next.0, add-one (last b)) (sym (append_assoc (one_to (last b)) (suc (last b) ∷ []) (acting_numbers a (a.book b c) cs)) ∙ onward))
    (λ (t : a.acts b c ≡ false). rw (t, k.same_book b c t) (acting_on k b cs))
    (holds_or_not (a.acts b c))

-- the numbers that act in a day of lines are 1, 2, 3 .. to the last
pub numbers_follow : (lines : List (List ℕ)) → acting_numbers by_line fresh lines ≡ one_to (book_after fresh lines).held.last.0
unfolding one_to
numbers_follow lines = acting_on by_line_keeps fresh lines ∙ ap (λ (b : Book). one_to b.held.last.0) (end_is_lem fresh lines)

-- .. and in a day of calls
pub numbers_follow_by_call : (calls : List Call) → acting_numbers by_call (record_of fresh) calls ≡ one_to (end_of by_call (record_of fresh) calls).held.last.0
unfolding one_to record_of
numbers_follow_by_call calls = acting_on by_call_keeps (record_of fresh) calls

-- ── Sent again ──

-- a line is refused with 4 by a book, which stays as it is
abbrev Seen : Book → List ℕ → Type 0
Seen b line = answer_to b line ≡ record { refusal = 4; book = b; events = [] }

-- after a run, each of its accepted lines is
struck_out_seen : (b : Book) (lines : List (List ℕ)) → All (Seen (book_after b lines)) (struck_out by_line b lines)
unfolding book_after struck_out
struck_out_seen b [] = none
struck_out_seen b (l ∷ ls) =
    let rest = struck_out_seen (answer_to b l).book ls in
    ⊎_elim
    (λ (t : acts b l ≡ true). rw t (acts_reads b l t (λ c e. also (repeat_refused b [] ls l l c c t e e refl) rest)))
    (λ (t : acts b l ≡ false). rw t rest)
    (holds_or_not (acts b l))

-- such lines change nothing, and each prints that refusal
seen_again : {b : Book} {again : List (List ℕ)} → All (Seen b) again
    → (book_after b again ≡ b) × (printed_of b again ≡ repeated (length again) (refusal_line 4))
unfolding book_after printed_of printed repeated
seen_again none = (refl, refl)
seen_again (also {x = l} {s = ls} e a) =
    let rest = seen_again a in
    (rw e rest.0, rw e (ap (λ (s : List ℕ). refusal_line 4 ++ s) rest.1))

-- the accepted lines of a day, sent again after it, in any order and number, get only refusal 4 and change nothing
pub sent_again_lem : (lines again : List (List ℕ)) → All (λ (l : List ℕ). OneOf l (struck_out by_line fresh lines)) again
    → (book_after (book_after fresh lines) again ≡ book_after fresh lines)
    × (printed_of (book_after fresh lines) again ≡ repeated (length again) (refusal_line 4))
sent_again_lem lines again a = seen_again (all_alike (λ l p. one_of_all (struck_out_seen fresh lines) p) a)
