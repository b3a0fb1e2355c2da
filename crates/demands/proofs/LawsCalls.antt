-- A run of calls, by lines or by methods, with any output lent: it ends, tells and acts as the run of the lines of those calls that had
-- room; and demand 3 holds of it, from any record. Assumes nothing.
use Prim.Native.Nat.{ℕ, ◌+◌, ◌≤◌, ◌<◌}
use mathlib.Core.Bool.{true, false, true≢false}
use mathlib.Core.List.{List, [], ◌∷◌, ◌++◌}
use mathlib.Core.Logic.{◌⊎◌, ⊎_elim}
use mathlib.Core.Path.{◌≡◌, refl, sym, ap, subst, ◌∙◌}
use lib.Dec.{eqb, leb}
use lib.ListN.{length, take, drop}
use lib.Seq.{take-append_seam}
use borrow.Author.Tests.{eqb-true, leb-true, leb-false, lt-ltb}
use Rattle.basics.specs.Bytes.{onto}
use Rattle.basics.proofs.LawsChoice.{holds_or_not}
use Rattle.kinds.specs.declared.Number.{Number}
use Rattle.rules.specs.declared.Command.{Command}
use Rattle.rules.specs.declared.Event.{Event}
use Rattle.rules.specs.declared.Order.{Order}
use Rattle.rules.specs.CommandLines.{Reading}
use Rattle.rules.specs.Book.{Book, BookRecord, fresh, book_in, record_of, sound, record_sound}
use Rattle.rules.specs.CommandLines.{Fits, line_of, command_in}
use Rattle.rules.specs.Commands.{does}
use Rattle.rules.specs.Day.{book_after, printed}
use Rattle.rules.specs.EventLines.{event_lines}
use Rattle.rules.specs.Instructions.{post_only, has}
use Rattle.rules.specs.Refusals.{least_room, first_of, line_refusals, refusals}
use Rattle.rules.specs.Step.{Returned, Answer, answer_to, step, step_on}
use Rattle.rules.proofs.LawsLines.{command_in_line_of}
use Rattle.rules.proofs.LawsRefusals.{fit_facts}
use Rattle.soundness.proofs.LawsKept.{answer_sound, fresh_sound, after_sound, book_record, record_sound_lem, step_sound}
use Rattle.soundness.proofs.LawsRecords.{record_whole, book_sound_lem}
use Rattle.demands.specs.ExactlyWhen.{Applies, NoLower}
use Rattle.demands.specs.Executes.{Executes}
use Rattle.demands.specs.Minimum.{NoMinimum}
use Rattle.demands.specs.Once.{EventLines, Refused, Asked, a_line, a_command, reading_of, line_asked, Call, returned, by_call, by_line, acts, end_of, event_lines_of, acting_numbers, lines_with_room}
use Rattle.demands.specs.Run.{Enters, now, later}
use Rattle.demands.specs.Told.{events_in, executed_in, cancelled_in, resting_of}
use Rattle.demands.proofs.LawsExactly.{refused_exactly, accepted_exactly}
use Rattle.demands.proofs.LawsOnce.{lines_or_refusal, by_call_keeps, repeat_refused}
use Rattle.demands.proofs.LawsRun.{call_answers, accepted_does, Entered, enters_sound, entered_executes}
use Rattle.demands.proofs.LawsSums.{run_balance, conserved_from}
use Rattle.demands.proofs.LawsTold.{lines_read}
use Rattle.std.specs.Prelude.{Some, None}

-- ── A call is the call of its line ──

-- what a call asks reads as its line does
pub asks_line : (a : Asked) → reading_of a ≡ command_in (line_asked a)
asks_line (a_line line) = refl
asks_line (a_command c fits) = sym (command_in_line_of c fits)

pub call_line : (r : BookRecord) (c : Call) → returned r c ≡ step r (line_asked c.asks) c.out
unfolding step
call_line r c = ap (λ (a : Reading). step_on r a c.out) (asks_line c.asks)

pub method_line : (r : BookRecord) (c : Command) (out : List ℕ) → Fits c → step_on r (Some c) out ≡ step r (line_of c) out
method_line r c out fits = call_line r (record { asks = a_command c fits; out = out })

-- so it ends with event lines or with one numbered refusal
pub call_ends : (r : BookRecord) (c : Call) → EventLines c.out (returned r c) ⊎ Refused r c.out (returned r c)
call_ends r c =
    subst (λ (x : Returned). EventLines c.out x ⊎ Refused r c.out x) (sym (call_line r c)) (lines_or_refusal r (line_asked c.asks) c.out)

-- a refusal is given it exactly if a row of the table applies to its line, and no lower one
pub call_refused_exactly : (r : BookRecord) (c : Call) (k : ℕ) → 1 ≤ k
    → ((returned r c).refusal ≡ k → Applies r (line_asked c.asks) c.out k × NoLower r (line_asked c.asks) c.out k)
    × (Applies r (line_asked c.asks) c.out k → NoLower r (line_asked c.asks) c.out k → (returned r c).refusal ≡ k)
call_refused_exactly r c k l = rw (call_line r c) (refused_exactly r (line_asked c.asks) c.out k l)

pub call_accepted_exactly : (r : BookRecord) (c : Call)
    → ((returned r c).refusal ≡ 0 → (k : ℕ) → Applies r (line_asked c.asks) c.out k → ⊥)
    × (((k : ℕ) → Applies r (line_asked c.asks) c.out k → ⊥) → (returned r c).refusal ≡ 0)
call_accepted_exactly r c = rw (call_line r c) (accepted_exactly r (line_asked c.asks) c.out)

-- it keeps a sound record sound
pub call_sound : (r : BookRecord) (c : Call) → record_sound r ≡ true → record_sound (returned r c).book ≡ true
call_sound r c s = rw (call_line r c) (step_sound r (line_asked c.asks) c.out s)

-- ── One call on the record of a sound book ──

-- with too little room it is refused, and so leaves the record and tells nothing
short_acts : (r : BookRecord) (c : Call) → length c.out < least_room → by_call.acts r c ≡ false
unfolding step_on refusals first_of
short_acts r c l = rw (lt-ltb (length c.out) least_room l) refl

-- with room it is a line
module _ (b : Book) (s : sound b ≡ true) (c : Call) (room : least_room ≤ length c.out) where
  abbrev line : List ℕ
  line = line_asked c.asks

  acts_line : by_call.acts (record_of b) c ≡ acts b line
  acts_line = ap (λ (x : Returned). eqb x.refusal 0) (call_line (record_of b) c) ∙ ap (λ (k : ℕ). eqb k 0) (call_answers b line c.out s room).0

  book_line : by_call.book (record_of b) c ≡ record_of (answer_to b line).book
  book_line = ap (λ (x : Returned). x.book) (call_line (record_of b) c) ∙ (call_answers b line c.out s room).1

  tells_line : by_call.tells (record_of b) c ≡ event_lines (answer_to b line).events
  unfolding onto
  tells_line =
      let does = call_answers b line c.out s room in
      let lines = event_lines (answer_to b line).events in
      ap (λ (x : Returned). take x.length x.out) (call_line (record_of b) c)
      ∙ rw (does.2, does.3) (take-append_seam lines (drop (length lines) c.out))

-- ── A run of calls ──

-- it ends, tells and acts as the run of the lines of those that had room
pub same_run : (b : Book) → sound b ≡ true → (calls : List Call)
    → (end_of by_call (record_of b) calls ≡ record_of (book_after b (lines_with_room calls)))
    × (event_lines_of by_call (record_of b) calls ≡ event_lines_of by_line b (lines_with_room calls))
    × (acting_numbers by_call (record_of b) calls ≡ acting_numbers by_line b (lines_with_room calls))
unfolding end_of event_lines_of acting_numbers lines_with_room book_after
same_run b s [] = (refl, refl, refl)
same_run b s (c ∷ cs) =
    let line = line_asked c.asks in
    ⊎_elim
    (λ (t : leb least_room (length c.out) ≡ true).
    let room = leb-true least_room (length c.out) t in
    let rest = same_run (answer_to b line).book (answer_sound b line s) cs in
    rw (t, acts_line b s c room, book_line b s c room, tells_line b s c room, asks_line c.asks, rest.0, rest.1, rest.2) (refl, refl, refl))
    (λ (t : leb least_room (length c.out) ≡ false).
    let refused = short_acts (record_of b) c (leb-false least_room (length c.out) t) in
    let rest = same_run b s cs in
    rw (t, by_call_keeps.no_line (record_of b) c refused, refused, by_call_keeps.same_book (record_of b) c refused) rest)
    (holds_or_not (leb least_room (length c.out)))

-- so does a run from any sound record
pub calls_are_lines : (r : BookRecord) → record_sound r ≡ true → (calls : List Call)
    → (end_of by_call r calls ≡ record_of (book_after (book_in r) (lines_with_room calls)))
    × (event_lines_of by_call r calls ≡ event_lines_of by_line (book_in r) (lines_with_room calls))
    × (acting_numbers by_call r calls ≡ acting_numbers by_line (book_in r) (lines_with_room calls))
calls_are_lines r s calls =
    subst
    (λ (x : BookRecord). (end_of by_call x calls ≡ record_of (book_after (book_in r) (lines_with_room calls)))
    × (event_lines_of by_call x calls ≡ event_lines_of by_line (book_in r) (lines_with_room calls))
    × (acting_numbers by_call x calls ≡ acting_numbers by_line (book_in r) (lines_with_room calls)))
    (record_whole r s) (same_run (book_in r) (book_sound_lem r s) calls)

-- a call that acts is on a sound record
acting_sound : (r : BookRecord) (c : Call) → by_call.acts r c ≡ true → record_sound r ≡ true
unfolding step_on refusals
acting_sound r c t =
    (fit_facts (length c.out) (record_sound r) (line_refusals (book_in r) (reading_of c.asks)) (eqb-true (returned r c).refusal 0 t)).1

-- so a day of calls has no unsound record
pub calls_sound : (calls : List Call) → record_sound (end_of by_call (record_of fresh) calls) ≡ true
calls_sound calls =
    rw (same_run fresh fresh_sound calls).0 (record_sound_lem (book_after fresh (lines_with_room calls)) (after_sound fresh (lines_with_room calls) fresh_sound))

-- a call that acts had room
acting_room : (r : BookRecord) (c : Call) → by_call.acts r c ≡ true → leb least_room (length c.out) ≡ true
acting_room r c t =
    ⊎_elim
    (λ (u : leb least_room (length c.out) ≡ true). u)
    (λ (u : leb least_room (length c.out) ≡ false). absurd (true≢false (sym t ∙ short_acts r c (leb-false least_room (length c.out) u))))
    (holds_or_not (leb least_room (length c.out)))

-- and does what 01 says of its command
pub call_does : (r : BookRecord) (k : Call) (c : Command) → reading_of k.asks ≡ Some c → by_call.acts r k ≡ true
    → ((returned r k).book ≡ record_of (does c.number c.time c.body (book_in r)).book)
    × (by_call.tells r k ≡ event_lines (does c.number c.time c.body (book_in r)).events)
call_does r k c is t =
    let s = acting_sound r k t in
    let room = leb-true least_room (length k.out) (acting_room r k t) in
    let line = line_asked k.asks in
    let whole = record_whole r s in
    let is_line : acts (book_in r) line ≡ true =
    sym (acts_line (book_in r) (book_sound_lem r s) k room) ∙ subst (λ (x : BookRecord). by_call.acts x k ≡ true) (sym whole) t in
    let done = accepted_does (book_in r) line c (sym (asks_line k.asks) ∙ is) is_line in (
      ap (λ (x : BookRecord). by_call.book x k) (sym whole) ∙ book_line (book_in r) (book_sound_lem r s) k room ∙ ap record_of done.0,
      ap (λ (x : BookRecord). by_call.tells x k) (sym whole) ∙ tells_line (book_in r) (book_sound_lem r s) k room ∙ ap event_lines done.1,
    )

-- the repeat at three in the morning, by calls: once a call has acted, one with its number and with room gets 4
lines_append : (earlier calls : List Call) → lines_with_room (earlier ++ calls) ≡ lines_with_room earlier ++ lines_with_room calls
unfolding lines_with_room
lines_append [] calls = refl
lines_append (c ∷ cs) calls =
    ⊎_elim
    (λ (t : leb least_room (length c.out) ≡ true). rw t (ap (λ (s : List (List ℕ)). line_asked c.asks ∷ s) (lines_append cs calls)))
    (λ (t : leb least_room (length c.out) ≡ false). rw t (lines_append cs calls))
    (holds_or_not (leb least_room (length c.out)))

pub repeat_refused_by_call : (earlier between : List Call) (call again : Call) (c d : Command)
    → by_call.acts (end_of by_call (record_of fresh) earlier) call ≡ true → reading_of call.asks ≡ Some c
    → reading_of again.asks ≡ Some d → d.number ≡ c.number → least_room ≤ length again.out
    → (returned (end_of by_call (record_of fresh) (earlier ++ (call ∷ between))) again).refusal ≡ 4
unfolding lines_with_room
repeat_refused_by_call earlier between call again c d t is also same room =
    let lines = lines_with_room earlier in
    let line = line_asked call.asks in
    let b = book_after fresh lines in
    let s = after_sound fresh lines fresh_sound in
    let had = acting_room (end_of by_call (record_of fresh) earlier) call t in
    let is_line : acts b line ≡ true =
    sym (acts_line b s call (leb-true least_room (length call.out) had))
    ∙ subst (λ (x : BookRecord). by_call.acts x call ≡ true) (same_run fresh fresh_sound earlier).0 t in
    let all : lines_with_room (earlier ++ (call ∷ between)) ≡ lines ++ (line ∷ lines_with_room between) =
    lines_append earlier (call ∷ between) ∙ ap (λ (x : List (List ℕ)). lines ++ x) (rw had refl) in
    let held = book_after fresh (lines ++ (line ∷ lines_with_room between)) in
    let ended : end_of by_call (record_of fresh) (earlier ++ (call ∷ between)) ≡ record_of held =
    (same_run fresh fresh_sound (earlier ++ (call ∷ between))).0 ∙ ap (λ (x : List (List ℕ)). record_of (book_after fresh x)) all in
    let refused = repeat_refused fresh lines (lines_with_room between) line (line_asked again.asks) c d is_line (sym (asks_line call.asks) ∙ is)
    (sym (asks_line again.asks) ∙ also) same in
    ap (λ (x : BookRecord). (returned x again).refusal) ended
    ∙ ap (λ (x : Returned). x.refusal) (call_line (record_of held) again)
    ∙ (call_answers held (line_asked again.asks) again.out (after_sound fresh (lines ++ (line ∷ lines_with_room between)) fresh_sound) room).0
    ∙ ap (λ (x : Answer). x.refusal) refused

-- ── An order that enters by a call ──

-- it enters by its line, in that run of lines, and tells what that line prints
record AsLine (b : Book) (calls : List Call) (stood : BookRecord) (call : Call) (c : Command) (o : Order) : Type 0 where
  enters : Enters by_line b (lines_with_room calls) (book_in stood) (line_asked call.asks) c o
  tells : by_call.tells stood call ≡ printed (answer_to (book_in stood) (line_asked call.asks))

as_line : {r : BookRecord} {calls : List Call} {stood : BookRecord} {call : Call} {c : Command} {o : Order} (b : Book) → sound b ≡ true
    → r ≡ record_of b → Enters by_call r calls stood call c o → AsLine b calls stood call c o
unfolding lines_with_room printed
as_line {r = r} b s e (now {x = x} {xs = xs} {c = c} {o = o} t is f) =
    let line = line_asked x.asks in
    let book : book_in r ≡ b = ap book_in e ∙ book_record b in
    ⊎_elim
    (λ (u : leb least_room (length x.out) ≡ true).
    let room = leb-true least_room (length x.out) u in
    let is_line : acts b line ≡ true = sym (acts_line b s x room) ∙ subst (λ (q : BookRecord). by_call.acts q x ≡ true) e t in
    record {
      enters = rw (book, u) (now is_line (sym (asks_line x.asks) ∙ is) f);
      tells = rw (book, is_line, e) (tells_line b s x room);
    })
    (λ (u : leb least_room (length x.out) ≡ false).
    absurd (true≢false (sym t ∙ short_acts r x (leb-false least_room (length x.out) u))))
    (holds_or_not (leb least_room (length x.out)))
as_line {r = r} b s e (later {x = x} more) =
    let line = line_asked x.asks in
    ⊎_elim
    (λ (u : leb least_room (length x.out) ≡ true).
    let room = leb-true least_room (length x.out) u in
    let rest = as_line (answer_to b line).book (answer_sound b line s) (ap (λ (q : BookRecord). by_call.book q x) e ∙ book_line b s x room) more in
    record { enters = rw u (later rest.enters); tells = rest.tells })
    (λ (u : leb least_room (length x.out) ≡ false).
    let refused = short_acts r x (leb-false least_room (length x.out) u) in
    let rest = as_line b s (by_call_keeps.same_book r x refused ∙ e) more in
    record { enters = rw u rest.enters; tells = rest.tells })
    (holds_or_not (leb least_room (length x.out)))

-- a record that is not sound stays as it is ..
unsound_stays : (r : BookRecord) (c : Call) → record_sound r ≡ false → by_call.book r c ≡ r
unsound_stays r c n =
    ⊎_elim
    (λ (t : by_call.acts r c ≡ true). absurd (true≢false (sym (acting_sound r c t) ∙ n)))
    (λ (t : by_call.acts r c ≡ false). by_call_keeps.same_book r c t)
    (holds_or_not (by_call.acts r c))

-- .. and no order enters it
none_enters : {r : BookRecord} {calls : List Call} {stood : BookRecord} {call : Call} {c : Command} {o : Order} → record_sound r ≡ false
    → Enters by_call r calls stood call c o → ⊥
none_enters {r = r} n (now {x = x} t is f) = true≢false (sym (acting_sound r x t) ∙ n)
none_enters {r = r} n (later {x = x} more) = none_enters (ap record_sound (unsound_stays r x n) ∙ n) more

-- so the record that an order enters is sound
enters_record_sound : {r : BookRecord} {calls : List Call} {stood : BookRecord} {call : Call} {c : Command} {o : Order}
    → Enters by_call r calls stood call c o → record_sound r ≡ true
enters_record_sound {r = r} e =
    ⊎_elim
    (λ (t : record_sound r ≡ true). t)
    (λ (t : record_sound r ≡ false). absurd (none_enters t e))
    (holds_or_not (record_sound r))

-- ── Demand 3 ──

-- From any record: an order that a call enters is entered by its line, and what holds of what that line prints holds of what the call wrote
pub call_enters : (P : List Event → Type 0) {r : BookRecord} {calls : List Call} {stood : BookRecord} {call : Call} {c : Command}
    {o : Order} → Enters by_call r calls stood call c o
    → (Entered (book_in stood) (line_asked call.asks) c o → P (events_in (printed (answer_to (book_in stood) (line_asked call.asks)))))
    → P (events_in (by_call.tells stood call))
call_enters P {r = r} e p =
    let s = enters_record_sound e in
    let entry = as_line (book_in r) (book_sound_lem r s) (sym (record_whole r s)) e in
    rw entry.tells (p (enters_sound (book_sound_lem r s) entry.enters))

-- where there is no minimum, it executes the greatest lawful total
pub calls_execute : (r : BookRecord) (calls : List Call) (stood : BookRecord) (call : Call) (c : Command) (o : Order)
    → Enters by_call r calls stood call c o → has o.word post_only ≡ false → NoMinimum o (book_in stood)
    → Executes (book_in stood) c o (events_in (by_call.tells stood call))
calls_execute r calls stood call c o e not_post_only no_minimum =
    call_enters (Executes (book_in stood) c o) e (λ entered. entered_executes entered not_post_only no_minimum)

-- .. and its shares are executed, cancelled or rest
pub calls_conserve : (r : BookRecord) (calls : List Call) (stood : BookRecord) (call : Call) (c : Command) (o : Order)
    → Enters by_call r calls stood call c o
    → o.shares.0
    ≡ executed_in c.number (events_in (event_lines_of by_call r calls)) + cancelled_in c.number (events_in (event_lines_of by_call r calls))
    + resting_of c.number (book_in (end_of by_call r calls))
calls_conserve r calls stood call c o e =
    let s = enters_record_sound e in
    let entry = as_line (book_in r) (book_sound_lem r s) (sym (record_whole r s)) e in
    let lines = lines_with_room calls in
    let run = calls_are_lines r s calls in
    rw (run.0, run.1, book_record (book_after (book_in r) lines), lines_read (book_in r) lines (book_sound_lem r s))
    (conserved_from (book_sound_lem r s) entry.enters)

-- a record's book has its last number
last_held : {n : ℕ} (r : BookRecord) → n ≤ r.held.last.0 → n ≤ (book_in r).held.last.0
unfolding book_in
last_held r l = l

-- and so are those of each order that rested already
pub calls_settle : (n : Number) (r : BookRecord) (calls : List Call) → record_sound r ≡ true → n.0 ≤ r.held.last.0
    → resting_of n (book_in r)
    ≡ executed_in n (events_in (event_lines_of by_call r calls)) + cancelled_in n (events_in (event_lines_of by_call r calls))
    + resting_of n (book_in (end_of by_call r calls))
calls_settle n r calls s old =
    let lines = lines_with_room calls in
    let run = calls_are_lines r s calls in
    rw (run.0, run.1, book_record (book_after (book_in r) lines), lines_read (book_in r) lines (book_sound_lem r s))
    (run_balance n (book_in r) lines (book_sound_lem r s) (last_held r old))
