-- What the program prints, read back line by line, tells the very events of the book, since every field of an event fits its
-- width; and the lines of refusals tell none. Assumes nothing.
use Prim.Native.Nat.{ℕ, ◌+◌, ◌^◌, ◌≤◌, ◌<◌}
use mathlib.Core.Bool.{Bool, true, false, ◌&&◌}
use mathlib.Core.List.{List, [], ◌∷◌, ◌++◌, append-nil}
use mathlib.Core.Logic.{⊎_elim}
use mathlib.Core.Path.{◌≡◌, refl, sym, ap, ◌∙◌}
use lib.Dec.{eqb, leb}
use native.Mathlib.Omega.{arith}
use borrow.Author.Tests.{eqb-true}
use Rattle.std.specs.Prelude.{if◌then◌else◌, Some, None}
use Rattle.basics.specs.Lists.{All, none, also, Each, empty, with}
use Rattle.basics.proofs.LawsChoice.{holds_or_not, by_choice, and_left, and_right}
use Rattle.basics.proofs.LawsLists.{all_alike, all_both, one_of_all, gathered_all}
use Rattle.kinds.specs.declared.Cents.{Cents}
use Rattle.kinds.specs.declared.HalfCents.{HalfCents}
use Rattle.kinds.specs.declared.Number.{Number}
use Rattle.kinds.specs.Kinds.{in_half_cents, resting_price_in_range, shares_in_range}
use Rattle.kinds.proofs.LawsRanges.{price_highest, resting_highest, shares_most}
use Rattle.rules.specs.declared.Away.{Away}
use Rattle.rules.specs.declared.Body.{Body}
use Rattle.rules.specs.declared.Body.TheVariants as body
use Rattle.rules.specs.declared.Carried.{Carried}
use Rattle.rules.specs.declared.Carried.TheVariants.{Nothing, MaxFloor, Minimum}
use Rattle.rules.specs.declared.Ending.{Ending}
use Rattle.rules.specs.declared.Ending.TheVariants.{Filled, Rests, Cancels}
use Rattle.rules.specs.declared.Event.{Event}
use Rattle.rules.specs.declared.Order.{Order}
use Rattle.rules.specs.CommandLines.{Reading}
use Rattle.rules.specs.declared.Reason.{Reason}
use Rattle.rules.specs.declared.Reason.TheVariants.{ByCommand, IocRemainder, FokKilled, CancelledBack, NoPriceInRange, PostOnlyMeets, AtClose, WouldStillMeet}
use Rattle.rules.specs.declared.Resting.{Resting}
use Rattle.rules.specs.Book.{Book, shares_left, away_in_range, sound}
use Rattle.rules.specs.CommandLines.{Fitting, empty, fits, header_form, order_form_of, carried_numbers, command_in}
use Rattle.rules.specs.Commands.{does}
use Rattle.rules.specs.Day.{cut, unended_line, lines_in, printed, printed_of}
use Rattle.rules.specs.EventLines.{FitsEvent, event_lines, executed_kind, rested_kind, cancelled_kind, moved_kind}
use Rattle.rules.specs.Instructions.{ioc, fok, market, has}
use Rattle.rules.specs.Refusals.{first_of, order_price_in_range, carried_in_range, order_in_range, body_refusals}
use Rattle.rules.specs.declared.Fate.{Fate}
use Rattle.rules.specs.declared.Fate.TheVariants.{Stays, IsCancelled, IsSet}
use Rattle.rules.specs.Settling.{told_by, told, opposite_side}
use Rattle.rules.specs.Step.{done_by, answer, answer_to}
use Rattle.rules.specs.Holdings.{Holding, size, executions, after}
use Rattle.rules.specs.Working.{Met, buying, met_by, limit_of, locking_price, is_locked, execution_price, takings, remainder, ending_with, ending, last_line, refill_fate}
use Rattle.rules.specs.Reasons.{number_of_reason}
use Rattle.rules.proofs.LawsCommands.{fate_by, cancel_fate_lem, quote_fate_lem, order_does, does_tells}
use Rattle.rules.proofs.LawsFloors.{shown_at_most}
use Rattle.rules.proofs.LawsLines.{command_in_is}
use Rattle.rules.proofs.LawsTakings.{takings_within}
use Rattle.rules.proofs.LawsWalkOrder.{holdings_there, after_are}
use Rattle.soundness.proofs.LawsAccepted.{accepted_order, accepted_quote}
use Rattle.soundness.proofs.LawsEndings.{chosen, sought_is}
use Rattle.soundness.proofs.LawsKept.{locking_ranged, answer_sound}
use Rattle.soundness.proofs.LawsSides.{InRange, sides_of}
use Rattle.soundness.proofs.LawsSound.{sound_is}
use Rattle.demands.specs.Once.{acts, command_number, event_lines_of, by_line}
use Rattle.demands.specs.Run.{events_of}
use Rattle.demands.specs.Told.{events_on, events_in}
use Rattle.demands.proofs.LawsEventLines.{events_read, refusal_read}
use Rattle.demands.proofs.LawsExecutes.{acts_accepted}
use Rattle.demands.proofs.LawsHeld.{NoMore}
use Rattle.demands.proofs.LawsOnce.{refused_events, next_acts}

-- ── Resting orders ──

-- the fields of a resting order fit in four bytes, and so do half a cent more than its price and both parts of it together
record Small (h : Resting) : Type 0 where
  number : h.number.0 < 2 ^ 32
  price : h.price.0 + 1 < 2 ^ 32
  left : shares_left h < 2 ^ 32

-- a price in range does
price_small : (p : HalfCents) → resting_price_in_range p ≡ true → p.0 + 1 < 2 ^ 32
price_small p e = omega (arith, resting_highest p e)

-- so every resting order of a sound book is small, if its last number has four bytes
all_small : {last : Number} → last.0 < 2 ^ 32 → {s : List Resting} → All (InRange last) s → All Small s
all_small l a = all_alike (λ h r. record { number = omega (arith, l, r.up_to_last); price = price_small h.price r.priced; left = omega (arith, r.at_most) }) a

-- ── Executions ──

-- each execution is of a resting order, at its price or half a cent from it, and no holding gives more than it has
execution_near : (o : Order) (met : Met) (h : Resting) → (execution_price o met h).0 ≤ h.price.0 + 1
execution_near o met h =
    by_choice (λ (p : HalfCents). p.0 ≤ h.price.0 + 1) (is_locked met.own h)
    (λ t. by_choice (λ (p : HalfCents). p.0 ≤ h.price.0 + 1) (buying o) (λ b. omega arith) (λ b. omega arith)) (λ t. omega arith)

executions_fit : (n : Number) (o : Order) (met : Met) → n.0 < 2 ^ 32 → {hs : List Holding} {ts : List ℕ}
    → All (λ (h : Holding). Small h.of) hs → Each NoMore hs ts → All FitsEvent (executions n (execution_price o met) hs ts)
unfolding executions
executions_fit n o met l none empty = none
executions_fit n o met l (also {x = h} r a) (with {y = t} m e) =
    ⊎_elim
    (λ (z : eqb t 0 ≡ true). rw z (executions_fit n o met l a e))
    (λ (z : eqb t 0 ≡ false).
    let price = execution_price o met h.of in
    let near : price.0 < 2 ^ 32 = omega (arith, execution_near o met h.of, r.price) in
    let given : t < 2 ^ 32 = omega (arith, m, part_of h, r.left) in
    let resting = fits 4 h.of.number.0 r.number (fits 4 price.0 near (fits 4 t given empty)) in
    rw z (also (fits 1 executed_kind (omega arith) (fits 4 n.0 l resting)) (executions_fit n o met l a e)))
    (holds_or_not (eqb t 0))
  where
    part_of : (h : Holding) → size h ≤ shares_left h.of
    part_of h = by_choice (λ (k : ℕ). k ≤ shares_left h.of) h.is_reserve (λ t. omega arith) (λ t. omega arith)

-- ── Cancels and moves ──

-- a reason fits in one byte
reason_small : (reason : Reason) → number_of_reason reason < 2 ^ 8
reason_small ByCommand = omega arith
reason_small IocRemainder = omega arith
reason_small FokKilled = omega arith
reason_small CancelledBack = omega arith
reason_small NoPriceInRange = omega arith
reason_small PostOnlyMeets = omega arith
reason_small AtClose = omega arith
reason_small WouldStillMeet = omega arith

-- and so do the fields of whoever is set anew in four
abbrev SmallFate : Fate → Type 0
SmallFate Stays = Unit {0}
SmallFate (IsCancelled reason) = reason < 2 ^ 8
SmallFate (IsSet new) = Small new

told_fits : (fate : Resting → Fate) → ((h : Resting) → Small h → SmallFate (fate h)) → {s : List Resting} → All Small s → All FitsEvent (told fate s)
unfolding told
told_fits fate small a = gathered_all (λ (h : Resting). told_by (fate h) h) (all_alike (λ h r. by_fate (fate h) h r (small h r)) a)
  where
    by_fate : (f : Fate) (h : Resting) → Small h → SmallFate f → All FitsEvent (told_by f h)
    by_fate Stays h r i = none
    by_fate (IsCancelled reason) h r i =
        also (fits 1 cancelled_kind (omega arith) (fits 4 h.number.0 r.number (fits 4 (shares_left h) r.left (fits 1 reason i empty)))) none
    by_fate (IsSet new) h r i =
        let fields = fits 4 new.number.0 i.number (fits 4 new.price.0 (omega (arith, i.price))
        (fits 4 new.shares.0 (omega (arith, i.left)) empty)) in
        also (fits 1 moved_kind (omega arith) fields) none

-- the Locking Price of an away quote in range does too
locking_small : (buy : Bool) (away : Away) → (away_in_range away.bid && away_in_range away.offer) ≡ true
    → (locking_price buy away).0 + 1 < 2 ^ 32
locking_small buy away a = away_small (if buy then away.offer else away.bid) (locking_ranged buy away a)
  where
    away_small : (p : Cents) → away_in_range p ≡ true → (in_half_cents p).0 + 1 < 2 ^ 32
    away_small p a =
        ⊎_elim
        (λ (t : eqb p.0 0 ≡ true). omega (arith, eqb-true p.0 0 t))
        (λ (t : eqb p.0 0 ≡ false). omega (arith, price_highest p (rw t at a)))
        (holds_or_not (eqb p.0 0))

-- so are the fates that an accepted command gives
fates_small : (b : Book) (c : Body) → first_of (body_refusals b c) ≡ 0 → (buy : Bool) (h : Resting) → Small h → SmallFate (fate_by c buy h)
fates_small b (body.Order o) accepted buy h r = tt
fates_small b (body.Cancel of) accepted buy h r = cancel_fate_lem SmallFate of h (reason_small ByCommand) (λ t. tt)
fates_small b (body.Quote away) accepted buy h r =
    quote_fate_lem SmallFate away buy h (λ t. tt) (λ t back. reason_small CancelledBack)
    (λ t back. record { number = r.number; price = locking_small buy away (accepted_quote b away accepted); left = r.left })
fates_small b body.Close accepted buy h r = reason_small AtClose

-- and so is that of a refill
refill_small : (h : Resting) → Small h → SmallFate (refill_fate h)
refill_small h r =
    by_choice (SmallFate) (eqb h.shares.0 0)
    (λ t. record { number = r.number; price = r.price; left = omega (arith, r.left, shown_at_most h.floor.0 (shares_left h)) }) (λ t. tt)

-- ── The ending of an order ──

-- the price at which it rests fits in four bytes
pub data FitsEnding : Ending → Type 0 where
  filled : FitsEnding Filled
  rests : (p : HalfCents) → p.0 < 2 ^ 32 → FitsEnding (Rests p)
  cancelled : (reason : Reason) → FitsEnding (Cancels reason)

-- so the price at which an order rests is its limit or one in range
pub ending_fits : (o : Order) (met : Met) → (limit_of o).0 < 2 ^ 32 → FitsEnding (ending o met)
unfolding ending ending_with
ending_fits o met l =
    chosen FitsEnding (eqb (remainder o met) 0) filled
    (chosen FitsEnding (has o.word fok) (cancelled FokKilled)
    (chosen FitsEnding (has o.word ioc) (cancelled IocRemainder)
    (sought_is FitsEnding (λ p e. rests p (omega (arith, price_small p e))) (cancelled CancelledBack)
    (cancelled NoPriceInRange) (cancelled PostOnlyMeets) (cancelled WouldStillMeet)
    o met.away met.own (after met.opposite (takings o met)) (rests (limit_of o) l))))

-- the last line of an order, of what is left of it
pub last_line_fits : (n : Number) (left : ℕ) → n.0 < 2 ^ 32 → left < 2 ^ 32 → {e : Ending} → FitsEnding e → All FitsEvent (last_line n left e)
last_line_fits n left l m filled = none
last_line_fits n left l m (rests p k) = also (fits 1 rested_kind (omega arith) (fits 4 n.0 l (fits 4 p.0 k (fits 4 left m empty)))) none
last_line_fits n left l m (cancelled reason) =
    also (fits 1 cancelled_kind (omega arith) (fits 4 n.0 l (fits 4 left m (fits 1 (number_of_reason reason) (reason_small reason) empty)))) none

-- the price and the shares of an order that was read have four bytes
pub order_small : (side word price size : ℕ) (x : Carried) → Fitting (order_form_of x) (side ∷ word ∷ price ∷ size ∷ carried_numbers x)
    → (price < 2 ^ 32) × (size < 2 ^ 32)
order_small side word price size Nothing (fits w a i (fits x b j (fits y c p (fits z d q empty)))) = (p, q)
order_small side word price size (MaxFloor floor) (fits w a i (fits x b j (fits y c p (fits z d q rest)))) = (p, q)
order_small side word price size (Minimum least) (fits w a i (fits x b j (fits y c p (fits z d q rest)))) = (p, q)

-- ── An accepted command ──

-- the limit of an accepted order, in half cents, and its shares have four bytes; a market order has the limit 0
module _ (o : Order) (r : order_in_range o ≡ true) where
  fields : (leb o.side 1 && shares_in_range o.shares && order_price_in_range o) ≡ true
  fields = and_left (leb o.side 1 && shares_in_range o.shares && order_price_in_range o) (carried_in_range o.shares o.carried) r

  limit_small : (limit_of o).0 < 2 ^ 32
  limit_small =
      let priced = and_right (leb o.side 1 && shares_in_range o.shares) (order_price_in_range o) fields in
      ⊎_elim
      (λ (t : has o.word market ≡ true). omega (arith, eqb-true o.price.0 0 (rw t at priced)))
      (λ (t : has o.word market ≡ false). omega (arith, price_highest o.price (rw t at priced)))
      (holds_or_not (has o.word market))

  size_small : o.shares.0 < 2 ^ 32
  size_small =
      let sized = and_left (leb o.side 1 && shares_in_range o.shares) (order_price_in_range o) fields in
      omega (arith, shares_most o.shares (and_right (leb o.side 1) (shares_in_range o.shares) sized))

module _ (b : Book) (s : sound b ≡ true) (l : b.held.last.0 < 2 ^ 32) (n : Number) (m : n.0 < 2 ^ 32) (time : ℕ) where
  -- the resting orders of both sides are small
  opposite_small : (buy : Bool) → All Small (opposite_side buy b)
  opposite_small buy = all_small l (sides_of buy b (sound_is b s)).opposite_in_range

  -- no more is left of an order than it has
  order_fits : (o : Order) → first_of (body_refusals b (body.Order o)) ≡ 0 → All FitsEvent (does n time (body.Order o) b).events
  unfolding remainder
  order_fits o accepted =
      let met = met_by o b in
      let small = opposite_small (buying o) in
      let in_range = (accepted_order b o accepted).in_range in
      let reduced : All Small (after met.opposite (takings o met)) =
      after_are o met
      (λ h t r p g kept. let k = one_of_all small p in record { number = k.number; price = k.price; left = omega (arith, k.left) }) in
      rw (order_does n time b o).1
      (all_both
      (all_both (executions_fit n o met m (all_alike (λ h p. one_of_all small p) (holdings_there met.opposite)) (takings_within o met))
      (last_line_fits n (remainder o met) m (omega (arith, size_small o in_range)) (ending_fits o met (limit_small o in_range))))
      (told_fits refill_fate refill_small reduced))

  -- whatever an accepted command does, its events fit
  does_fits : (c : Body) → first_of (body_refusals b c) ≡ 0 → All FitsEvent (does n time c b).events
  does_fits =
      does_tells n time b (λ (c : Body) (es : List Event). first_of (body_refusals b c) ≡ 0 → All FitsEvent es) order_fits
      (λ c accepted. all_both
      (told_fits (fate_by c true) (fates_small b c accepted true) (opposite_small false))
      (told_fits (fate_by c false) (fates_small b c accepted false) (opposite_small true)))

-- ── One line ──

-- the second field of a header has four bytes
pub header_number : {kind n time : ℕ} → Fitting header_form (kind ∷ n ∷ time ∷ []) → n < 2 ^ 32
header_number (fits w kind i (fits x n l (fits y time k empty))) = l

-- so the number of a command that was read does
number_fits : (line : List ℕ) → command_number (command_in line) < 2 ^ 32
number_fits line = by_reading (command_in line) refl
  where
    by_reading : (r : Reading) → command_in line ≡ r → command_number r < 2 ^ 32
    by_reading None e = omega arith
    by_reading (Some c) e = header_number (command_in_is line c e).fits_are.header

module _ (b : Book) (line : List ℕ) (s : sound b ≡ true) where
  -- and where a line acts, the last number does, for it is one less
  last_fits : acts b line ≡ true → b.held.last.0 < 2 ^ 32
  last_fits t = let next = next_acts b line t in omega (arith, next.0, number_fits line)

  -- a line that acts gives events that fit
  pub acting_fits : acts b line ≡ true → All FitsEvent (answer_to b line).events
  unfolding answer_to answer done_by
  acting_fits t = rw t (done_fits (command_in line) refl)
    where
      done_fits : (r : Reading) → command_in line ≡ r → All FitsEvent (done_by r b).events
      done_fits None e = none
      done_fits (Some c) e =
          let header = (command_in_is line c e).fits_are.header in
          does_fits b s (last_fits t) c.number (header_number header) c.time c.body (acts_accepted b line c t e).by_body

  -- its event lines tell its events, and then what follows is read
  events_told : (rest : List ℕ) → events_in (event_lines (answer_to b line).events ++ rest) ≡ (answer_to b line).events ++ events_in rest
  unfolding event_lines
  events_told rest =
      ⊎_elim
      (λ (t : acts b line ≡ true). events_read rest (acting_fits t))
      (λ (t : acts b line ≡ false). rw (refused_events b line t) refl)
      (holds_or_not (acts b line))

  -- what is printed of a line tells its events, and then what follows is read
  line_read : (rest : List ℕ) → events_in (printed (answer_to b line) ++ rest) ≡ (answer_to b line).events ++ events_in rest
  unfolding printed
  line_read rest =
      ⊎_elim
      (λ (t : acts b line ≡ true). rw t (events_read rest (acting_fits t)))
      (λ (t : acts b line ≡ false). rw (t, refused_events b line t) (refusal_read (answer_to b line).refusal rest))
      (holds_or_not (acts b line))

-- what is printed of a line tells its events
pub line_told : (b : Book) (line : List ℕ) → sound b ≡ true → events_in (printed (answer_to b line)) ≡ (answer_to b line).events
unfolding cut unended_line lines_in events_on
line_told b line s =
    sym (ap events_in (append-nil (printed (answer_to b line)))) ∙ line_read b line s [] ∙ append-nil (answer_to b line).events

-- ── A run of lines ──

-- what is printed of a run tells its events
pub run_told : (b : Book) (lines : List (List ℕ)) → sound b ≡ true → events_in (printed_of b lines) ≡ events_of b lines
unfolding printed_of events_of cut unended_line lines_in events_on
run_told b [] s = refl
run_told b (line ∷ lines) s =
    let book = (answer_to b line).book in
    line_read b line s (printed_of book lines)
    ∙ ap (λ (es : List Event). (answer_to b line).events ++ es) (run_told book lines (answer_sound b line s))

-- and so do its event lines alone
pub lines_read : (b : Book) (lines : List (List ℕ)) → sound b ≡ true → events_in (event_lines_of by_line b lines) ≡ events_of b lines
unfolding event_lines_of events_of cut unended_line lines_in events_on
lines_read b [] s = refl
lines_read b (line ∷ lines) s =
    let book = (answer_to b line).book in
    let rest = lines_read book lines (answer_sound b line s) in
    events_told b line s (event_lines_of by_line book lines)
    ∙ ap (λ (es : List Event). (answer_to b line).events ++ es) rest
