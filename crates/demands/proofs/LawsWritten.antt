-- What each accepted command writes and leaves (01, How an order is worked): an order's lines one by one, a cancel, a close, and what every
-- command leaves of the number, the time, the away quote and the session. Assumes nothing.
use Prim.Native.Nat.{ℕ, ◌+◌, ◌≤◌, ◌<◌, min}
use mathlib.Core.Bool.{Bool, true, false, not, ◌||◌, true≢false}
use mathlib.Core.List.{List, [], ◌∷◌, ◌++◌, map, map-append}
use mathlib.Core.Logic.{◌≢◌, ⊎_elim}
use mathlib.Core.Path.{◌≡◌, refl, sym, ap, subst, ◌∙◌}
use lib.Dec.{eqb}
use native.Mathlib.Omega.{arith}
use borrow.Author.Tests.{eq-eqb, ne_eqb, eqb-true, eqb-false, not-false}
use Rattle.basics.specs.Lists.{any, total, gathered, All, none, also, OneOf, first, later, Each, empty, with}
use Rattle.basics.proofs.LawsChoice.{holds_or_not}
use Rattle.basics.proofs.LawsLists.{all_alike, one_of_all, each_there, in_front_lem, behind, gathered_append, gathered_all, gathered_has}
use Rattle.kinds.specs.Kinds.{shares, number}
use Rattle.kinds.specs.declared.HalfCents.{HalfCents}
use Rattle.kinds.specs.declared.Number.{Number}
use Rattle.kinds.specs.declared.Shares.{Shares}
use Rattle.rules.specs.declared.Away.{Away}
use Rattle.rules.specs.declared.Body.{Body}
use Rattle.rules.specs.declared.Body.TheVariants as body
use Rattle.rules.specs.declared.Command.{Command}
use Rattle.rules.specs.declared.Ending.{Ending}
use Rattle.rules.specs.declared.Ending.TheVariants.{Filled, Rests, Cancels}
use Rattle.rules.specs.declared.Event.{Event}
use Rattle.rules.specs.declared.Event.TheVariants.{Executed, Rested, Cancelled}
use Rattle.rules.specs.declared.Order.{Order}
use Rattle.rules.specs.declared.Reason.TheVariants.{ByCommand}
use Rattle.rules.specs.declared.Resting.{Resting}
use Rattle.rules.specs.Book.{Book, shares_left, sound}
use Rattle.rules.specs.CommandLines.{command_in}
use Rattle.rules.specs.Commands.{is_number, cancel_fate, cancel, quote, close_fate, close, carried_out, does}
use Rattle.rules.specs.Day.{printed}
use Rattle.rules.specs.Refusals.{first_of, is_resting, body_refusals}
use Rattle.rules.specs.declared.Fate.{Fate}
use Rattle.rules.specs.Settling.{shown_of, insert, kept_by, told_by, staying, told, own_side, opposite_side, settled, both_settled}
use Rattle.rules.specs.Step.{answer_to}
use Rattle.rules.specs.Holdings.{Holding, holdings, executions, after}
use Rattle.rules.specs.Working.{Met, buying, met_by, execution_price, takings, remainder, ending, last_line, floor_of, minimum_of, remainder_of, with_remainder, worked, refill_fate, accept}
use Rattle.rules.specs.Reasons.{number_of_reason}
use Rattle.rules.proofs.LawsCommands.{cancel_fate_lem, order_does, cancel_does, quote_does, close_does, does_tells, does_number_and_time}
use Rattle.rules.proofs.LawsFloors.{shown_at_most}
use Rattle.rules.proofs.LawsRefusals.{none_given}
use Rattle.rules.proofs.LawsTakings.{takings_at_most, takings_within}
use Rattle.rules.proofs.LawsWalkOrder.{holdings_there}
use Rattle.soundness.proofs.LawsInsert.{added_insert, added_new, added_old, added_other}
use Rattle.soundness.proofs.LawsSettled.{staying_are}
use Rattle.soundness.proofs.LawsSides.{sides_of}
use Rattle.soundness.proofs.LawsSound.{sound_is}
use Rattle.demands.specs.Beyond.{NoExecution}
use Rattle.demands.specs.Once.{acts}
use Rattle.demands.specs.Told.{executed_in, events_in}
use Rattle.demands.specs.Written.{Executions, of_nobody, of_none, of_one, LastLine, filled, rests, is_cancelled, OrderWrites, CancelWrites, close_line, IsOrder}
use Rattle.demands.proofs.LawsExecutes.{acts_accepted, acts_order, acts_lines, acts_new, order_side, all_meetable, work_lines, lines_tell}
use Rattle.demands.proofs.LawsFairly.{every_told}
use Rattle.demands.proofs.LawsGave.{refills_told}
use Rattle.demands.proofs.LawsHeld.{NoMore, Leaves, ending_leaves}
use Rattle.demands.proofs.LawsLinesTell.{once_each, NoneIs, once_first, once_rest, opposite_once}
use Rattle.demands.proofs.LawsOrigins.{another_number}
use Rattle.demands.proofs.LawsRows.{NoneHas, has_other, either_holds}
use Rattle.demands.proofs.LawsRun.{accepted_does}
use Rattle.demands.proofs.LawsPriceHere.{given_here}
use Rattle.demands.proofs.LawsTold.{line_told}
use Rattle.std.specs.Prelude.{Some}

-- ── An accepted command of a known body ──

-- what holds of what its body does holds after it
after_body : (P : Book → List Event → Type 0) (b : Book) (line : List ℕ) (c : Command) (x : Body) → acts b line ≡ true
    → command_in line ≡ Some c → c.body ≡ x
    → P (does c.number c.time x b).book (does c.number c.time x b).events → P (answer_to b line).book (answer_to b line).events
after_body P b line c x t e f p =
    let done = accepted_does b line c e t in
    rw (done.0, done.1, f) p

-- .. and of what is printed of it, read back
printed_body : (P : Book → List Event → Type 0) (b : Book) (line : List ℕ) (c : Command) (x : Body) → sound b ≡ true → acts b line ≡ true
    → command_in line ≡ Some c → c.body ≡ x → P (does c.number c.time x b).book (does c.number c.time x b).events
    → P (answer_to b line).book (events_in (printed (answer_to b line)))
printed_body P b line c x s t e f p = rw (line_told b line s) (after_body P b line c x t e f p)

-- ── An order ──

-- each taking that is not nothing has its line, in turn, at the price that its order has here
executions_are : (n : Number) (o : Order) (met : Met) → o.side ≤ 1 → {s : List Holding} {ts : List ℕ}
    → All (λ (h : Holding). 1 ≤ h.of.price.0) s → Each NoMore s ts
    → Executions n o met.own s (executions n (execution_price o met) s ts)
unfolding executions
executions_are n o met side none empty = of_nobody
executions_are n o met side (also {x = h} p a) (with {y = t} m e) =
    ⊎_elim
    (λ (z : eqb t 0 ≡ true). rw z (of_none (executions_are n o met side a e)))
    (λ (z : eqb t 0 ≡ false).
    rw z (of_one (shares t) (given_here o met side h.of p) (omega (arith, eqb-false t 0 z)) m (executions_are n o met side a e)))
    (holds_or_not (eqb t 0))

-- the last line says what becomes of the rest, on its own side, where no order had its number
last_line_is : (n : Number) (o : Order) (executed left : ℕ) (e : Ending) (side : List Resting) → Leaves left e → executed + left ≡ o.shares.0
    → NoneHas n side → LastLine n o executed (with_remainder n o left e side) (last_line n left e)
last_line_is n o executed left Filled side f all new = filled (omega (arith, all, f refl)) new
last_line_is n o executed left (Rests price) side f all new =
    let x = remainder_of n o left price in
    let whole : shares_left x ≡ left = omega (arith, shown_at_most (floor_of o.carried) left) in
    subst (λ (k : ℕ). LastLine n o executed (insert (buying o) x side) (Rested n price (shares k) ∷ [])) whole
    (rests x (added_new (added_insert (buying o) x side)) refl refl (ap (min (minimum_of o.carried)) (sym whole))
    (ap (shown_of (floor_of o.carried)) (sym whole)) (omega (arith, whole, all)))
last_line_is n o executed left (Cancels reason) side f all new = is_cancelled (shares left) (number_of_reason reason) all new

-- the other orders of its side stay, and none but itself is new
remainder_others : (n : Number) (o : Order) (left : ℕ) (e : Ending) (side : List Resting) (h : Resting)
    → OneOf h side → OneOf h (with_remainder n o left e side)
remainder_others n o left Filled side h p = p
remainder_others n o left (Rests price) side h p = added_old (added_insert (buying o) (remainder_of n o left price) side) p
remainder_others n o left (Cancels reason) side h p = p

remainder_none_new : (n : Number) (o : Order) (left : ℕ) (e : Ending) (side : List Resting) (h : Resting) → h.number ≢ n
    → OneOf h (with_remainder n o left e side) → OneOf h side
remainder_none_new n o left Filled side h d p = p
remainder_none_new n o left (Rests price) side h d p = added_other (added_insert (buying o) (remainder_of n o left price) side) d p
remainder_none_new n o left (Cancels reason) side h d p = p

-- what is taken and what is left is what was entered
entered_split : (o : Order) (met : Met) → total (takings o met) + remainder o met ≡ o.shares.0
unfolding remainder
entered_split o met = omega (arith, takings_at_most o met)

-- so of an order that is entered under a number that no order has
accept_writes : (b : Book) → sound b ≡ true → (n : Number) (time : ℕ) (o : Order) → o.side ≤ 1 → NoneHas n (own_side (buying o) b)
    → NoneIs n (opposite_side (buying o) b)
    → OrderWrites n o b (does n time (body.Order o) b).book (work_lines n o (met_by o b))
accept_writes b s n time o is_side new other =
    let met = met_by o b in
    let side = met.opposite in
    let ts = takings o met in
    let left = remainder o met in
    let end = ending o met in
    let sides = sides_of (buying o) b (sound_is b s) in
    let all : executed_in n (work_lines n o met) + left ≡ o.shares.0 = omega (arith, lines_tell n o met other, entered_split o met) in
    let last = last_line_is n o (executed_in n (work_lines n o met)) left end met.own (ending_leaves o met) all new in
    let others = remainder_others n o left end met.own in
    let none_other = remainder_none_new n o left end met.own in
    let priced : All (λ (h : Holding). 1 ≤ h.of.price.0) (holdings side) =
    all_alike (λ h p. (one_of_all (all_meetable o b s) p).priced) (holdings_there side) in
    record {
      executions = executions n (execution_price o met) (holdings side) ts;
      last = last_line n left end;
      refills = told refill_fate (after side ts);
      in_turn = refl;
      in_rank = executions_are n o met is_side priced (takings_within o met);
      at_most_one =
          rw (order_does n time b o).0
          (⊎_elim
          (λ (t : buying o ≡ true). rw t (rw t at last))
          (λ (t : buying o ≡ false). rw t (rw t at last))
          (holds_or_not (buying o)));
      as_due = refills_told n o met (opposite_once sides) sides.opposite_in_range;
      others =
          rw (order_does n time b o).0
          (⊎_elim
          (λ (t : buying o ≡ true). rw t (rw t at others))
          (λ (t : buying o ≡ false). rw t (rw t at others))
          (holds_or_not (buying o)));
      none_new =
          rw (order_does n time b o).0
          (⊎_elim
          (λ (t : buying o ≡ true). rw t (rw t at none_other))
          (λ (t : buying o ≡ false). rw t (rw t at none_other))
          (holds_or_not (buying o)));
    }

-- no order of a sound book has the number of the next command
none_new_lem : (b : Book) → sound b ≡ true → (n : Number) → b.held.last.0 < n.0 → (buy : Bool) → NoneHas n (own_side buy b)
none_new_lem b s n l buy =
    all_alike (λ h p is. another_number b (sound_is b s) n l buy p (ap (λ (m : Number). m.0) is)) (each_there (own_side buy b))

-- so of an accepted order
pub order_writes : (b : Book) (line : List ℕ) (c : Command) (o : Order) → sound b ≡ true → acts b line ≡ true → command_in line ≡ Some c
    → c.body ≡ body.Order o → OrderWrites c.number o b (answer_to b line).book (events_in (printed (answer_to b line)))
order_writes b line c o s t e f =
    let header = acts_accepted b line c t e in
    let next = header.next in
    let is_side = order_side o (acts_order b c o header f).in_range in
    let new = none_new_lem b s c.number (omega (arith, next)) (buying o) in
    rw (line_told b line s, acts_lines b line c o t e f, (accepted_does b line c e t).0, f)
    (accept_writes b s c.number c.time o is_side new (acts_new b line c o s t e))

-- ── A cancel ──

-- an order that is found by its number stands there
found : (n : Number) (s : List Resting) → any (is_number n) s ≡ true → (h : Resting) × (OneOf h s) × (h.number ≡ n)
unfolding any
found n [] a = absurd (true≢false (sym a))
found n (h ∷ s) a =
    ⊎_elim
    (λ (t : is_number n h ≡ true). (h, first, ap number (eqb-true h.number.0 n.0 t)))
    (λ (t : is_number n h ≡ false). let (x, p, e) = found n s (rw t at a) in (x, later p, e))
    (holds_or_not (is_number n h))

found_on_one : (n : Number) (s u : List Resting) → (any (is_number n) s || any (is_number n) u) ≡ true
    → (h : Resting) × (OneOf h (s ++ u)) × (h.number ≡ n)
found_on_one n s u a =
    ⊎_elim
    (λ t. let (x, p, e) = found n s t in (x, in_front_lem u p, e))
    (λ t. let (x, p, e) = found n u t in (x, behind s p, e))
    (either_holds (any (is_number n) s) (any (is_number n) u) a)

-- the lines of a number: none where no order has it, and one where one has it and no number stands twice
told_none : (n : Number) {s : List Resting} → NoneIs n s → told (cancel_fate n) s ≡ []
unfolding told gathered
told_none n none = refl
told_none n (also {x = h} other a) = rw (ne_eqb h.number.0 n.0 (λ e. other (sym e))) (told_none n a)

told_one : {h : Resting} {s : List Resting} → once_each s ≡ true → OneOf h s → told (cancel_fate h.number) s ≡ Cancelled h.number (shares (shares_left h)) (number_of_reason ByCommand) ∷ []
unfolding told gathered
told_one {h = h} d (first {s = s}) = rw (eq-eqb h.number.0 h.number.0 refl, told_none h.number (once_first h s d)) refl
told_one {h = h} d (later {y = y} {s = s} p) = rw (ne_eqb y.number.0 h.number.0 (one_of_all (once_first y s d) p)) (told_one (once_rest y s d) p)

-- so of the orders of both sides, one of which has the number
cancel_leaves : (of : Number) (s : List Resting) → once_each s ≡ true → (h : Resting) → OneOf h s → h.number ≡ of
    → CancelWrites of s (staying (cancel_fate of) s) (told (cancel_fate of) s)
unfolding staying
cancel_leaves of s d h p e = record {
  gone = h;
  stood = p;
  named = e;
  told = subst (λ (n : Number). told (cancel_fate n) s ≡ Cancelled n (shares (shares_left h)) (number_of_reason ByCommand) ∷ []) e (told_one d p);
  off =
      gathered_all (λ (x : Resting). kept_by (cancel_fate of x) x)
      (all_alike
      (λ x q. cancel_fate_lem (λ (f : Fate). NoneHas of (kept_by f x)) of x none
      (λ t. also (λ is. eqb-false x.number.0 of.0 t (ap (λ (n : Number). n.0) is)) none)) (each_there s));
  others = λ x other q. gathered_has (λ (y : Resting). kept_by (cancel_fate of y) y) q (rw (has_other of x other) first);
  none_new = λ x q. one_of_all (staying_are (cancel_fate of) s (λ y r t. r)) q;
}

-- an accepted cancel is of an order that rests
accepted_cancel : (b : Book) (of : Number) → first_of (body_refusals b (body.Cancel of)) ≡ 0 → is_resting of b ≡ true
unfolding body_refusals
accepted_cancel b of e = not-false (is_resting of b) (none_given 10 (not (is_resting of b)) [] (omega arith) e).0

-- so it takes that order off, tells it, and leaves every other
pub cancel_writes : (b : Book) (line : List ℕ) (c : Command) (of : Number) → sound b ≡ true → acts b line ≡ true → command_in line ≡ Some c
    → c.body ≡ body.Cancel of
    → CancelWrites of (b.buys ++ b.sells) ((answer_to b line).book.buys ++ (answer_to b line).book.sells) (events_in (printed (answer_to b line)))
unfolding staying told
cancel_writes b line c of s t e f =
    let by_body = subst (λ (x : Body). first_of (body_refusals b x) ≡ 0) f (acts_accepted b line c t e).by_body in
    let (h, p, is) = found_on_one of b.buys b.sells (accepted_cancel b of by_body) in
    let does = cancel_does c.number c.time b of in
    let left = gathered_append (λ (x : Resting). kept_by (cancel_fate of x) x) b.buys b.sells in
    let lines = gathered_append (λ (x : Resting). told_by (cancel_fate of x) x) b.buys b.sells in
    printed_body (λ (a : Book) (es : List Event). CancelWrites of (b.buys ++ b.sells) (a.buys ++ a.sells) es) b line c (body.Cancel of) s t e f
    (rw (does.0, does.1, ← left, ← lines) (cancel_leaves of (b.buys ++ b.sells) (sound_is b s).once h p is))

-- ── A close ──

-- where all are cancelled, each has its line
told_every : (s : List Resting) → told close_fate s ≡ map close_line s
unfolding told gathered
told_every [] = refl
told_every (h ∷ s) = ap (λ (es : List Event). close_line h ∷ es) (told_every s)

-- an accepted close tells all buys and then all sells, and leaves a closed book with no orders
pub close_writes : (b : Book) (line : List ℕ) (c : Command) → sound b ≡ true → acts b line ≡ true → command_in line ≡ Some c
    → c.body ≡ body.Close
    → (events_in (printed (answer_to b line)) ≡ map close_line (b.buys ++ b.sells))
    × ((answer_to b line).book.buys ≡ []) × ((answer_to b line).book.sells ≡ []) × ((answer_to b line).book.held.closed ≡ true)
close_writes b line c s t e f =
    let done = close_does c.number c.time b in
    printed_body
    (λ (a : Book) (es : List Event). (es ≡ map close_line (b.buys ++ b.sells)) × (a.buys ≡ []) × (a.sells ≡ []) × (a.held.closed ≡ true))
    b line c body.Close s t e f
    (rw (done.0, done.1, told_every b.buys, told_every b.sells) (sym (map-append close_line b.buys b.sells), refl, refl, refl))

-- ── What every command leaves ──

-- its number and its time
pub number_and_time_left : (b : Book) (line : List ℕ) (c : Command) → acts b line ≡ true → command_in line ≡ Some c
    → ((answer_to b line).book.held.last ≡ c.number) × ((answer_to b line).book.held.time ≡ c.time)
number_and_time_left b line c t e =
    after_body (λ (a : Book) (es : List Event). (a.held.last ≡ c.number) × (a.held.time ≡ c.time)) b line c c.body t e refl
    (does_number_and_time c.number c.time b c.body)

-- a quote is held, and every other command leaves the away quote
pub quote_held : (b : Book) (line : List ℕ) (c : Command) (away : Away) → acts b line ≡ true → command_in line ≡ Some c
    → c.body ≡ body.Quote away → (answer_to b line).book.held.away ≡ away
quote_held b line c away t e f =
    after_body (λ (a : Book) (es : List Event). a.held.away ≡ away) b line c (body.Quote away) t e f (rw (quote_does c.number c.time b away).0 refl)

does_away : (n : Number) (time : ℕ) (x : Body) (b : Book) → ((away : Away) → x ≢ body.Quote away) → (does n time x b).book.held.away ≡ b.held.away
unfolding does carried_out accept worked cancel close both_settled settled
does_away n time (body.Order o) b other = refl
does_away n time (body.Cancel of) b other = refl
does_away n time (body.Quote away) b other = absurd (other away refl)
does_away n time body.Close b other = refl

pub away_kept : (b : Book) (line : List ℕ) (c : Command) → acts b line ≡ true → command_in line ≡ Some c
    → ((away : Away) → c.body ≢ body.Quote away) → (answer_to b line).book.held.away ≡ b.held.away
away_kept b line c t e other =
    after_body (λ (a : Book) (es : List Event). a.held.away ≡ b.held.away) b line c c.body t e refl (does_away c.number c.time c.body b other)

-- an accepted command came to an open book, which only a close closes
does_closed : (n : Number) (time : ℕ) (x : Body) (b : Book) → x ≢ body.Close → (does n time x b).book.held.closed ≡ b.held.closed
unfolding does carried_out accept worked cancel quote both_settled settled
does_closed n time (body.Order o) b other = refl
does_closed n time (body.Cancel of) b other = refl
does_closed n time (body.Quote away) b other = refl
does_closed n time body.Close b other = absurd (other refl)

pub open_unless_closed : (b : Book) (line : List ℕ) (c : Command) → acts b line ≡ true → command_in line ≡ Some c → c.body ≢ body.Close
    → (answer_to b line).book.held.closed ≡ false
open_unless_closed b line c t e other =
    after_body (λ (a : Book) (es : List Event). a.held.closed ≡ false) b line c c.body t e refl
    (does_closed c.number c.time c.body b other ∙ (acts_accepted b line c t e).is_open)

-- ── Only orders execute ──

-- a command that gives an execution is an order: cancels and moves are none
does_executes : (n : Number) (time : ℕ) (b : Book) (incoming resting : Number) (price : HalfCents) (given : Shares) (x : Body)
    → OneOf (Executed incoming resting price given) (does n time x b).events → IsOrder x
does_executes n time b incoming resting price given =
    does_tells n time b (λ (x : Body) (es : List Event). OneOf (Executed incoming resting price given) es → IsOrder x)
    (λ o p. record { order = o; is = refl })
    (λ x p. absurd (one_of_all {P = NoExecution} (every_told (λ m k reason. tt) (λ m price k. tt) x b) p))

-- and so of what is printed
pub only_orders_execute : (b : Book) (line : List ℕ) (c : Command) (incoming resting : Number) (price : HalfCents) (shares : Shares)
    → sound b ≡ true → acts b line ≡ true → command_in line ≡ Some c
    → OneOf (Executed incoming resting price shares) (events_in (printed (answer_to b line))) → IsOrder c.body
only_orders_execute b line c incoming resting price shares s t e =
    printed_body (λ (a : Book) (es : List Event). OneOf (Executed incoming resting price shares) es → IsOrder c.body) b line c c.body s t e refl
    (does_executes c.number c.time b incoming resting price shares c.body)
