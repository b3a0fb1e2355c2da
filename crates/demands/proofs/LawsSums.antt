-- Demand 3, the sums: over any run from a fresh book, for each accepted order, shares entered equal shares executed plus cancelled,
-- both summed from the event lines, plus those still resting. Assumes nothing.
use Prim.Native.Nat.{ℕ, ◌+◌, ◌≤◌, ◌<◌}
use mathlib.Core.Bool.{Bool, true, false, not}
use mathlib.Core.List.{List, [], ◌∷◌, ◌++◌}
use mathlib.Core.Logic.{◌≢◌, ⊎_elim}
use mathlib.Core.Path.{◌≡◌, refl, ◌∙◌, subst}
use native.Mathlib.Omega.{arith}
use Rattle.basics.specs.Lists.{total, sum_of, All, none, also}
use Rattle.basics.proofs.LawsChoice.{holds_or_not}
use Rattle.basics.proofs.LawsLists.{sum_of_append}
use Rattle.kinds.specs.declared.Number.{Number}
use Rattle.rules.specs.declared.Body.{Body}
use Rattle.rules.specs.declared.Body.TheVariants as body
use Rattle.rules.specs.declared.Command.{Command}
use Rattle.rules.specs.declared.Event.{Event}
use Rattle.rules.specs.declared.Order.{Order}
use Rattle.rules.specs.CommandLines.{Reading}
use Rattle.rules.specs.declared.Resting.{Resting}
use Rattle.rules.specs.Book.{Book, fresh, shares_left, sound}
use Rattle.rules.specs.CommandLines.{command_in}
use Rattle.rules.specs.Commands.{with_away, shut, cancel, quote, close, begun, carried_out, does}
use Rattle.rules.specs.Day.{book_after}
use Rattle.rules.specs.declared.Fate.{Fate}
use Rattle.rules.specs.Settling.{told, Done, on_held, first_move, settled, both_settled}
use Rattle.rules.specs.Step.{done_by, answer, answer_to}
use Rattle.rules.specs.Holdings.{holdings, executions, after}
use Rattle.rules.specs.Working.{Met, buying, met_by, execution_price, takings, remainder, ending, last_line, with_remainder, worked, refill_fate, accept}
use Rattle.rules.proofs.LawsCommands.{fate_by, IfSet, SameOrder, set_same}
use Rattle.rules.proofs.LawsFloors.{refill_same}
use Rattle.rules.proofs.LawsTakings.{takings_at_most, takings_within}
use Rattle.soundness.proofs.LawsKept.{answer_sound, fresh_sound}
use Rattle.soundness.proofs.LawsSides.{InRange, sides_of}
use Rattle.soundness.proofs.LawsSound.{sound_is}
use Rattle.demands.specs.Once.{command_number, acts, by_line}
use Rattle.demands.specs.Run.{events_of, Enters, now, later}
use Rattle.demands.specs.Told.{executed_by, cancelled_by, counted_if, executed_in, cancelled_in, rests_on, resting_of}
use Rattle.demands.proofs.LawsHeld.{counted_same, counted_other, counted_split, executions_sum, executions_cancel_none, told_sum, told_execute_none, ending_sum, ending_leaves}
use Rattle.demands.proofs.LawsOnce.{refused_book, refused_events, next_acts, answer_rises}
use Rattle.std.specs.Prelude.{Some, None}

-- ── One command ──

-- the shares of order n that events execute or cancel
abbrev gone_in : Number → List Event → ℕ
gone_in n es = executed_in n es + cancelled_in n es

gone_append : (n : Number) (es fs : List Event) → gone_in n (es ++ fs) ≡ gone_in n es + gone_in n fs
gone_append n es fs = omega (arith, sum_of_append (executed_by n) es fs, sum_of_append (cancelled_by n) es fs)

-- an order's shares are what it takes and what is left of it
split_entered : (n m : Number) (o : Order) (met : Met)
    → counted_if n m o.shares.0 ≡ counted_if n m (total (takings o met)) + counted_if n m (remainder o met)
unfolding remainder
split_entered n m o met = counted_split n m (total (takings o met)) o.shares.0 (takings_at_most o met)

-- an order worked against the opposite side, with its own side
work_sum : (n m : Number) (o : Order) (met : Met)
    → let left = remainder o met in
    rests_on n met.own + rests_on n met.opposite + counted_if n m o.shares.0
    ≡ gone_in n (executions m (execution_price o met) (holdings met.opposite) (takings o met) ++ last_line m left (ending o met))
    + (rests_on n (with_remainder m o left (ending o met) met.own) + rests_on n (after met.opposite (takings o met)))
work_sum n m o met =
    let ts = takings o met in
    let left = remainder o met in
    let end = ending o met in
    omega (
      arith,
      gone_append n (executions m (execution_price o met) (holdings met.opposite) ts) (last_line m left end),
      executions_sum n m (execution_price o met) met.opposite ts (takings_within o met),
      executions_cancel_none n m (execution_price o met) (holdings met.opposite) ts,
      ending_sum n m o left end met.own (ending_leaves o met),
      split_entered n m o met,
    )

worked_sum : (n m : Number) (time : ℕ) (o : Order) (b : Book)
    → resting_of n b + counted_if n m o.shares.0
    ≡ gone_in n (worked m o (begun m time b)).events + resting_of n (worked m o (begun m time b)).book
unfolding worked
worked_sum n m time o b =
    let sum = work_sum n m o (met_by o b) in
    ⊎_elim
    (λ (t : buying o ≡ true). rw t (rw t at sum))
    (λ (t : buying o ≡ false). rw t (let flipped = rw t at sum in omega (arith, flipped)))
    (holds_or_not (buying o))

-- what settles a side, after all that a command has done, loses no share: what is gone and what rests add up as before
settled_balance : (n : Number) (fate : Resting → Fate) → ((h : Resting) → IfSet (SameOrder h) (fate h)) → (buy : Bool) (d : Done)
    → gone_in n (settled fate buy d).events + resting_of n (settled fate buy d).book ≡ gone_in n d.events + resting_of n d.book
unfolding settled
settled_balance n fate same true d =
    let s = d.book.buys in
    let sum = told_sum n d.book.held.last (first_move + d.moves) true fate same s in
    omega (arith, gone_append n d.events (told fate s), sum, told_execute_none n fate s)
settled_balance n fate same false d =
    let s = d.book.sells in
    let sum = told_sum n d.book.held.last (first_move + d.moves) false fate same s in
    omega (arith, gone_append n d.events (told fate s), sum, told_execute_none n fate s)

-- .. so the refills of an order lose none
accept_sum : (n m : Number) (time : ℕ) (o : Order) (b : Book)
    → resting_of n b + counted_if n m o.shares.0
    ≡ gone_in n (does m time (body.Order o) b).events + resting_of n (does m time (body.Order o) b).book
unfolding does carried_out accept
accept_sum n m time o b =
    omega (arith, worked_sum n m time o b, settled_balance n refill_fate refill_same (not (buying o)) (worked m o (begun m time b)))

-- .. and so of both sides, by the fates of a command
both_balance : (n : Number) (c : Body) (d : Done)
    → gone_in n (both_settled (fate_by c) d).events + resting_of n (both_settled (fate_by c) d).book ≡ gone_in n d.events + resting_of n d.book
unfolding both_settled
both_balance n c d =
    omega (
      arith,
      settled_balance n (fate_by c true) (set_same c true) true d,
      settled_balance n (fate_by c false) (set_same c false) false (settled (fate_by c true) true d),
    )

-- the shares that a command of number m enters under n
abbrev pub entered_by : Number → Number → Body → ℕ
entered_by n m (body.Order o) = counted_if n m o.shares.0
entered_by n m (body.Cancel of) = 0
entered_by n m (body.Quote away) = 0
entered_by n m body.Close = 0

abbrev pub entered_under : Number → Command → ℕ
entered_under n c = entered_by n c.number c.body

does_sum : (n m : Number) (time : ℕ) (c : Body) (b : Book)
    → resting_of n b + entered_by n m c ≡ gone_in n (does m time c b).events + resting_of n (does m time c b).book
unfolding does carried_out cancel quote close sum_of
does_sum n m time (body.Order o) b = accept_sum n m time o b
does_sum n m time (body.Cancel of) b = omega (arith, both_balance n (body.Cancel of) (begun m time b))
does_sum n m time (body.Quote away) b = omega (arith, both_balance n (body.Quote away) (on_held (with_away away) (begun m time b)))
does_sum n m time body.Close b = omega (arith, both_balance n body.Close (on_held shut (begun m time b)))

-- ── One line ──

answer_done : (b : Book) (line : List ℕ) → acts b line ≡ true → (c : Command) → command_in line ≡ Some c
    → ((answer_to b line).events ≡ (does c.number c.time c.body b).events) × ((answer_to b line).book ≡ (does c.number c.time c.body b).book)
unfolding answer_to answer done_by
answer_done b line t c e = (rw t (rw e refl), rw t (rw e refl))

-- what rested of n, and what entered under n, is executed, cancelled or rests
pub balance : (b : Book) (line : List ℕ) (n : Number) → sound b ≡ true → acts b line ≡ true → (c : Command) → command_in line ≡ Some c
    → resting_of n b + entered_under n c
    ≡ executed_in n (answer_to b line).events + cancelled_in n (answer_to b line).events + resting_of n (answer_to b line).book
balance b line n s t c e =
    let done = answer_done b line t c e in
    rw (done.0, done.1) (does_sum n c.number c.time c.body b)

-- ── A run of lines ──

-- a line that acts is a command with the number after the last
next_number : (b : Book) (line : List ℕ) → acts b line ≡ true → (c : Command) → command_in line ≡ Some c → c.number.0 ≡ b.held.last.0 + 1
next_number b line t c e = subst (λ (a : Reading). command_number a ≡ b.held.last.0 + 1) e (next_acts b line t).0

-- under any other number it enters nothing
acts_balance : (b : Book) (line : List ℕ) (n : Number) → sound b ≡ true → acts b line ≡ true → n.0 ≢ b.held.last.0 + 1
    → resting_of n b ≡ gone_in n (answer_to b line).events + resting_of n (answer_to b line).book
acts_balance b line n s t other = by_reading (command_in line) refl
  where
    entered_none : (c : Command) (x : Body) → c.number.0 ≡ b.held.last.0 + 1 → entered_by n c.number x ≡ 0
    entered_none c (body.Order o) e = counted_other n c.number o.shares.0 (λ (z : n.0 ≡ c.number.0). other (z ∙ e))
    entered_none c (body.Cancel of) e = refl
    entered_none c (body.Quote away) e = refl
    entered_none c body.Close e = refl

    by_reading : (a : Reading) → command_in line ≡ a → resting_of n b ≡ gone_in n (answer_to b line).events + resting_of n (answer_to b line).book
    by_reading None e =
        let z : 0 ≡ b.held.last.0 + 1 = subst (λ (a : Reading). command_number a ≡ b.held.last.0 + 1) e (next_acts b line t).0 in
        let no : ⊥ = omega (arith, z) in
        absurd no
    by_reading (Some c) e =
        omega (arith, balance b line n s t c e, entered_none c c.body (next_number b line t c e))

-- nothing more enters under a number that is not above the last
pub run_balance : (n : Number) (b : Book) (lines : List (List ℕ)) → sound b ≡ true → n.0 ≤ b.held.last.0
    → resting_of n b ≡ gone_in n (events_of b lines) + resting_of n (book_after b lines)
unfolding events_of book_after sum_of
run_balance n b [] s l = omega arith
run_balance n b (line ∷ lines) s l =
    ⊎_elim
    (λ (t : acts b line ≡ true).
    let book = (answer_to b line).book in
    let last = (next_acts b line t).1 in
    let other : n.0 ≢ b.held.last.0 + 1 = λ (z : n.0 ≡ b.held.last.0 + 1). omega (arith, z) in
    omega (
      arith,
      gone_append n (answer_to b line).events (events_of book lines),
      acts_balance b line n s t other,
      run_balance n book lines (answer_sound b line s) (omega (arith, last)),
    ))
    (λ (t : acts b line ≡ false).
    let book = (answer_to b line).book in
    let rest : resting_of n b ≡ gone_in n (events_of book lines) + resting_of n (book_after book lines) = rw (refused_book b line t) (run_balance n b lines s l) in
    rw (refused_events b line t) rest)
    (holds_or_not (acts b line))

-- an order that enters has a number above the last
enters_above : {b : Book} {lines : List (List ℕ)} {stood : Book} {entry : List ℕ} {c : Command} {o : Order} → Enters by_line b lines stood entry c o → b.held.last.0 < c.number.0
enters_above (now {b = b} {x = line} {c = c} t e f) = omega (arith, next_number b line t c e)
enters_above (later {b = b} {x = line} r) = omega (arith, answer_rises b line, enters_above r)

-- nothing rests under a number above the last
above_none : (n : Number) {last : Number} {s : List Resting} → last.0 < n.0 → All (InRange last) s → rests_on n s ≡ 0
unfolding sum_of
above_none n l none = refl
above_none n l (also {x = h} r a) =
    let other : n.0 ≢ h.number.0 = λ (z : n.0 ≡ h.number.0). omega (arith, z, r.up_to_last) in
    omega (arith, counted_other n h.number (shares_left h) other, above_none n l a)

above_rests_none : (n : Number) (b : Book) → sound b ≡ true → b.held.last.0 < n.0 → resting_of n b ≡ 0
above_rests_none n b s l =
    let sides = sides_of true b (sound_is b s) in
    omega (arith, above_none n l sides.own_in_range, above_none n l sides.opposite_in_range)

entered_order : (n : Number) (c : Command) (o : Order) → n.0 ≡ c.number.0 → c.body ≡ body.Order o → entered_under n c ≡ o.shares.0
entered_order n c o e f = rw f (counted_same n c.number o.shares.0 e)

pub conserved_from : {b : Book} {lines : List (List ℕ)} {stood : Book} {entry : List ℕ} {c : Command} {o : Order} → sound b ≡ true → Enters by_line b lines stood entry c o
    → o.shares.0 ≡ gone_in c.number (events_of b lines) + resting_of c.number (book_after b lines)
unfolding events_of book_after
conserved_from s (now {b = b} {x = line} {xs = lines} {c = c} {o = o} t e f) =
    let book = (answer_to b line).book in
    let next = next_number b line t c e in
    let last = (next_acts b line t).1 in
    omega (
      arith,
      gone_append c.number (answer_to b line).events (events_of book lines),
      balance b line c.number s t c e,
      entered_order c.number c o refl f,
      above_rests_none c.number b s (omega (arith, next)),
      run_balance c.number book lines (answer_sound b line s) (omega (arith, next, last)),
    )
conserved_from s (later {b = b} {x = line} {xs = lines} {stood = stood} {c = c} {o = o} r) =
    let book = (answer_to b line).book in
    let ih = conserved_from (answer_sound b line s) r in
    ⊎_elim
    (λ (t : acts b line ≡ true).
    let above = enters_above r in
    let last = (next_acts b line t).1 in
    let other : c.number.0 ≢ b.held.last.0 + 1 = λ (z : c.number.0 ≡ b.held.last.0 + 1). omega (arith, z, above, last) in
    omega (
      arith,
      gone_append c.number (answer_to b line).events (events_of book lines),
      acts_balance b line c.number s t other,
      above_rests_none c.number b s (omega (arith, above, last)),
      ih,
    ))
    (λ (t : acts b line ≡ false). rw (refused_events b line t) ih)
    (holds_or_not (acts b line))

-- over any run from a fresh book, for each accepted order: shares entered = executed + cancelled + resting
pub conserved : (lines : List (List ℕ)) (stood : Book) (entry : List ℕ) (c : Command) (o : Order) → Enters by_line fresh lines stood entry c o
    → o.shares.0
    ≡ executed_in c.number (events_of fresh lines) + cancelled_in c.number (events_of fresh lines) + resting_of c.number (book_after fresh lines)
conserved lines stood entry c o r = conserved_from fresh_sound r
