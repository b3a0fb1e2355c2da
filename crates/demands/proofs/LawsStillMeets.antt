-- Reason 8 (02, W7; `specs/Minimum`): an order is cancelled for it only if, at its price from step 4, it would still equal or pass an
-- opposite order; and one that is not Post Only rests only where it does so of none, or at a locked price. Where there is no minimum, no
-- order is cancelled for it: its walk left none that it may touch. Assumes nothing.
use Prim.Native.Nat.{ℕ, ◌+◌, ◌-◌, ◌≤◌, ◌<◌}
use mathlib.Core.Bool.{Bool, true, false, not, true≢false}
use mathlib.Core.List.{List}
use mathlib.Core.Logic.{◌≢◌, ◌⊎◌, inl, inr, ⊎_elim}
use mathlib.Core.Path.{◌≡◌, refl, sym, ap, subst, ◌∙◌}
use lib.Dec.{eqb}
use native.Mathlib.Omega.{arith}
use borrow.Author.Tests.{eqb-true, eq-eqb, ne_eqb, eqb-false, ltb-true, leb-true, le-leb, not-true, not-false}
use Rattle.basics.specs.Lists.{any, total, All, none, also, OneOf, first}
use Rattle.basics.proofs.LawsChoice.{holds_or_not, by_choice, and_left, and_right}
use Rattle.basics.proofs.LawsLists.{all_both, one_of_all, in_front_lem, behind}
use Rattle.kinds.specs.Kinds.{shares, half_cents}
use Rattle.kinds.specs.declared.HalfCents.{HalfCents}
use Rattle.kinds.specs.declared.Number.{Number}
use Rattle.kinds.specs.declared.Shares.{Shares}
use Rattle.rules.specs.declared.Body.TheVariants as body
use Rattle.rules.specs.declared.Command.{Command}
use Rattle.rules.specs.declared.Ending.{Ending}
use Rattle.rules.specs.declared.Ending.TheVariants.{Filled, Rests, Cancels}
use Rattle.rules.specs.declared.Event.{Event}
use Rattle.rules.specs.declared.Event.TheVariants.{Executed, Rested, Cancelled, Moved}
use Rattle.rules.specs.declared.Order.{Order}
use Rattle.rules.specs.declared.Reason.TheVariants as reason
use Rattle.rules.specs.declared.Resting.{Resting}
use Rattle.rules.specs.Book.{Book, stamp, sound}
use Rattle.rules.specs.CommandLines.{command_in}
use Rattle.rules.specs.Day.{printed}
use Rattle.rules.specs.Holdings.{holdings, executions, after}
use Rattle.rules.specs.Instructions.{fok, ioc, post_only, has}
use Rattle.rules.specs.Settling.{stamped_as, settled_side, first_move, told}
use Rattle.rules.specs.Step.{answer_to}
use Rattle.rules.specs.Working.{Met, buying, met_by, refill_fate, execution_price, half_a_cent_the_incoming_way, is_locked, is_displayed_at, may_touch, least_of, walked, takings, remainder, reaches, beyond}
use Rattle.rules.specs.Working.{seeks, meets_or_passes, still_meets, unless_it_meets, ending_with, ending, last_line}
use Rattle.rules.specs.Reasons.{number_of_reason}
use Rattle.rules.proofs.LawsRank.{reaches_is}
use Rattle.rules.proofs.LawsWalkOrder.{RefillSays, refill_says, refill_due, refill_not_due}
use Rattle.soundness.proofs.LawsEndings.{chosen}
use Rattle.soundness.proofs.LawsOrder.{neither_limited}
use Rattle.soundness.proofs.LawsSeeks.{seeks_beyond}
use Rattle.soundness.proofs.LawsSettled.{set_place, settled_are, settled_stays, settled_sets}
use Rattle.demands.specs.ExactlyWhen.{own}
use Rattle.demands.specs.Minimum.{NoMinimum, EqualsOrPasses, a_buy, a_sell, AtALock, StillMeets, SaysOfReason8}
use Rattle.demands.specs.Once.{acts}
use Rattle.demands.specs.ShareOut.{opposite}
use Rattle.demands.specs.Told.{events_in, executed_in}
use Rattle.demands.proofs.LawsExecutes.{works, work_lines, lines_tell, acts_accepted, acts_order, acts_lines, acts_new, order_side}
use Rattle.demands.proofs.LawsFairly.{every_execution}
use Rattle.demands.proofs.LawsLinesTell.{every_refill}
use Rattle.demands.proofs.LawsLocks.{any_found, none_passes, any_there, BelowSix, seeks_below_six}
use Rattle.demands.proofs.LawsPriceHere.{sells, sells_other}
use Rattle.demands.proofs.LawsRefilled.{opposite_left}
use Rattle.demands.proofs.LawsShareOut.{walked_leaves}
use Rattle.demands.proofs.LawsTold.{line_told}
use Rattle.demands.proofs.LawsWalked.{takes_all}
use Rattle.std.specs.Prelude.{Some}

-- ── The tests of the rules, in words ──

abbrev reached : Order → HalfCents → Resting → Bool
reached o price h = reaches (buying o) price h.price

reached_is : (o : Order) (price : HalfCents) (h : Resting) → o.side ≤ 1 → reached o price h ≡ true → EqualsOrPasses o price h
reached_is o price h is_side t =
    ⊎_elim
    (λ (buy : buying o ≡ true). a_buy (eqb-true o.side 0 buy) (leb-true h.price.0 price.0 (rw buy at t)))
    (λ (buy : buying o ≡ false). a_sell (sells o is_side buy) (leb-true price.0 h.price.0 (rw buy at t)))
    (holds_or_not (buying o))

is_reached_lem : (o : Order) (price : HalfCents) (h : Resting) → EqualsOrPasses o price h → reached o price h ≡ true
is_reached_lem o price h (a_buy side l) = rw (eq-eqb o.side 0 side) (le-leb h.price.0 price.0 l)
is_reached_lem o price h (a_sell side l) = rw (sells_other o.side side) (le-leb price.0 h.price.0 l)

locked_at : (price : HalfCents) (own : List Resting) → any (is_displayed_at price) own ≡ true → AtALock own price
locked_at price own t =
    let f = any_found (is_displayed_at price) own t in
    let h = f.whom in
    record {
      by = h;
      there = f.there;
      shown = and_left h.displayed (eqb h.price.0 price.0) f.passes;
      at_the_price = eqb-true h.price.0 price.0 (and_right h.displayed (eqb h.price.0 price.0) f.passes);
    }

at_locked : (price : HalfCents) (own : List Resting) → AtALock own price → any (is_displayed_at price) own ≡ true
at_locked price own l =
    any_there (is_displayed_at price) l.there (rw (l.shown, eq-eqb l.by.price.0 price.0 l.at_the_price) refl)

-- ── A refill changes no price ──

-- one of a side has the price of an order
record AtItsPrice (s : List Resting) (h : Resting) : Type 0 where
  whom : Resting
  there : OneOf whom s
  same : whom.price ≡ h.price

module _ (n : Number) (k : ℕ) (buy : Bool) (left : List Resting) where
  abbrev afterwards : List Resting
  afterwards = settled_side n k buy refill_fate left

  refilled_from : All (AtItsPrice left) afterwards
  refilled_from =
      settled_are refill_fate n k buy left (λ h p e. record { whom = h; there = p; same = refl })
      (λ h new p e.
      subst (λ (x : Resting). AtItsPrice left (stamped_as (stamp n (set_place refill_fate k p)) x))
      (subst (RefillSays h) e (refill_says h)).1 (record { whom = h; there = p; same = refl }))

  refilled_to_lem : {h : Resting} → OneOf h left → AtItsPrice afterwards h
  refilled_to_lem {h = h} p =
      ⊎_elim
      (λ (t : eqb h.shares.0 0 ≡ true).
      record { whom = _; there = settled_sets refill_fate n k buy p _ (refill_due h (eqb-true h.shares.0 0 t)); same = refl })
      (λ (t : eqb h.shares.0 0 ≡ false).
      record { whom = h; there = settled_stays refill_fate n k buy p (refill_not_due h (eqb-false h.shares.0 0 t)); same = refl })
      (holds_or_not (eqb h.shares.0 0))

-- ── What an ending says ──

abbrev EndsAsItStillMeets : Order → Book → Book → Ending → Type 0
EndsAsItStillMeets o b left Filled = Unit {0}
EndsAsItStillMeets o b left (Rests price) =
    has o.word post_only ≡ false
    → AtALock (own o b) price ⊎ ((h : Resting) → OneOf h (opposite o left) → EqualsOrPasses o price h → ⊥)
EndsAsItStillMeets o b left (Cancels reason) = number_of_reason reason ≡ 8 → StillMeets o b left

-- with the side that the walk leaves, and the book after it, whose prices are the same
module _ (o : Order) (b afterwards : Book) (is_side : o.side ≤ 1) (left : List Resting)
    (from : All (AtItsPrice left) (opposite o afterwards))
    (to : (h : Resting) → OneOf h left → AtItsPrice (opposite o afterwards) h) where
  abbrev mine : List Resting
  mine = (met_by o b).own

  still_meets_lem : (price : HalfCents) → has o.word post_only ≡ false → has o.word fok ≡ false → has o.word ioc ≡ false → seeks o b.held.away ≡ Rests price
      → still_meets o mine left price ≡ true → StillMeets o b afterwards
  still_meets_lem price other kill cancel sought t =
      let reaching = any (reached o price) left in
      let locks = any (is_displayed_at price) mine in
      let f = any_found (reached o price) left (and_left reaching (not locks) t) in
      let x = to f.whom f.there in
      let free = not-true locks (and_right reaching (not locks) t) in
      record {
        not_post_only = other;
        not_fok = kill;
        not_ioc = cancel;
        price = price;
        sought = sought;
        whom = x.whom;
        there = x.there;
        meets = reached_is o price x.whom is_side (rw x.same f.passes);
        unlocked = λ l. true≢false (sym (at_locked price mine l) ∙ free);
      }

  meets_none : (price : HalfCents) → still_meets o mine left price ≡ false
      → AtALock (own o b) price ⊎ ((h : Resting) → OneOf h (opposite o afterwards) → EqualsOrPasses o price h → ⊥)
  meets_none price t =
      ⊎_elim
      (λ (r : any (reached o price) left ≡ true). inl (locked_at price mine (not-false (any (is_displayed_at price) mine) (rw r at t))))
      (λ (r : any (reached o price) left ≡ false).
      inr (λ h p meets.
      let x = one_of_all from p in
      none_passes (reached o price) r x.there (rw x.same (is_reached_lem o price h meets))))
      (holds_or_not (any (reached o price) left))

  sought_ends : has o.word fok ≡ false → has o.word ioc ≡ false → (e : Ending) → seeks o b.held.away ≡ e → EndsAsItStillMeets o b afterwards (unless_it_meets o mine left e)
  sought_ends kill cancel Filled is = tt
  sought_ends kill cancel (Rests price) is =
      by_choice (EndsAsItStillMeets o b afterwards) (has o.word post_only)
      (λ post.
      by_choice (EndsAsItStillMeets o b afterwards) (any (meets_or_passes (buying o) price) left)
      (λ t (r : number_of_reason reason.PostOnlyMeets ≡ 8). let z : ⊥ = omega (arith, r) in absurd z)
      (λ t other. absurd (true≢false (sym post ∙ other))))
      (λ other.
      by_choice (EndsAsItStillMeets o b afterwards) (still_meets o mine left price)
      (λ t r. still_meets_lem price other kill cancel is t)
      (λ t also-other. meets_none price t))
  sought_ends kill cancel (Cancels reason) is = λ r. let z : ⊥ = omega (arith, r, subst BelowSix is (seeks_below_six o b.held.away)) in absurd z

  ends_as_it_still_meets : (remains : ℕ) → EndsAsItStillMeets o b afterwards (ending_with remains o b.held.away mine left)
  unfolding ending_with
  ends_as_it_still_meets remains =
      chosen (EndsAsItStillMeets o b afterwards) (eqb remains 0) tt
      (by_choice (EndsAsItStillMeets o b afterwards) (has o.word fok) (λ t r. absurd_of (omega (arith, r)))
      (λ kill.
      by_choice (EndsAsItStillMeets o b afterwards) (has o.word ioc) (λ t r. absurd_of (omega (arith, r)))
      (λ cancel. sought_ends kill cancel (seeks o b.held.away) refl)))
    where
      absurd_of : ⊥ → StillMeets o b afterwards
      absurd_of z = absurd z

last_says : (o : Order) (b left : Book) (n : Number) (remains : ℕ) (e : Ending) → EndsAsItStillMeets o b left e
    → All (SaysOfReason8 o b left) (last_line n remains e)
last_says o b left n remains Filled says = none
last_says o b left n remains (Rests price) says = also {x = Rested n price (shares remains)} says none
last_says o b left n remains (Cancels reason) says = also {x = Cancelled n (shares remains) (number_of_reason reason)} says none

-- ── An accepted order ──

-- what holds of its executions, of its last line and of each refill holds of all its lines
order_lines : (P : Event → Type 0) (b : Book) (line : List ℕ) (c : Command) (o : Order) → sound b ≡ true → acts b line ≡ true
    → command_in line ≡ Some c → c.body ≡ body.Order o
    → ((h : Resting) (k : ℕ) → P (Executed c.number h.number (execution_price o (met_by o b) h) (shares k)))
    → All P (last_line c.number (remainder o (met_by o b)) (ending o (met_by o b)))
    → ((m : Number) (price : HalfCents) (k : Shares) → P (Moved m price k)) → All P (events_in (printed (answer_to b line)))
order_lines P b line c o s t e f executed last refilled =
    let met = met_by o b in
    let ts = takings o met in
    subst (All P) (sym (line_told b line s ∙ acts_lines b line c o t e f))
    (all_both (every_execution {P = P} c.number (execution_price o met) executed (holdings met.opposite) ts)
    (all_both last (every_refill {P = P} refilled (after met.opposite ts))))

-- what its lines say of reason 8
pub reason_8 : (b : Book) (line : List ℕ) (c : Command) (o : Order) → sound b ≡ true → acts b line ≡ true → command_in line ≡ Some c
    → c.body ≡ body.Order o → All (SaysOfReason8 o b (answer_to b line).book) (events_in (printed (answer_to b line)))
unfolding ending
reason_8 b line c o s t e f =
    let n = c.number in
    let met = met_by o b in
    let book = (answer_to b line).book in
    let left = after met.opposite (takings o met) in
    let buy = not (buying o) in
    let is_side = order_side o (acts_order b c o (acts_accepted b line c t e) f).in_range in
    let stands = sym (opposite_left b line c o t e f) in
    let from : All (AtItsPrice left) (opposite o book) = subst (All (AtItsPrice left)) stands (refilled_from n first_move buy left) in
    let to : (h : Resting) → OneOf h left → AtItsPrice (opposite o book) h =
    λ h p. subst (λ (x : List Resting). AtItsPrice x h) stands (refilled_to_lem n first_move buy left p) in
    let says = ends_as_it_still_meets o b book is_side left from to (remainder o met) in
    order_lines (SaysOfReason8 o b book) b line c o s t e f (λ h k. tt) (last_says o b book n (remainder o met) (ending o met) says)
    (λ m price k. tt)

-- and it is given: with shares left of a Day order, whatever the last line counts is cancelled for it
pub reason_8_given : (b : Book) (line : List ℕ) (c : Command) (o : Order) → sound b ≡ true → acts b line ≡ true → command_in line ≡ Some c
    → c.body ≡ body.Order o
    → let es = events_in (printed (answer_to b line)) in
    executed_in c.number es < o.shares.0 → StillMeets o b (answer_to b line).book
    → OneOf (Cancelled c.number (shares (o.shares.0 - executed_in c.number es)) 8) es
unfolding ending ending_with remainder
reason_8_given b line c o s t e f some m =
    let n = c.number in
    let met = met_by o b in
    let ts = takings o met in
    let left = after met.opposite ts in
    let tells : events_in (printed (answer_to b line)) ≡ work_lines n o met = line_told b line s ∙ acts_lines b line c o t e f in
    let told_is : executed_in n (events_in (printed (answer_to b line))) ≡ total ts =
    ap (executed_in n) tells ∙ lines_tell n o met (acts_new b line c o s t e) in
    let from = subst (All (AtItsPrice left)) (sym (opposite_left b line c o t e f)) (refilled_from n first_move (not (buying o)) left) in
    let x = one_of_all from m.there in
    let reaching : any (reached o m.price) left ≡ true =
    any_there (reached o m.price) x.there (rw x.same (is_reached_lem o m.price m.whom m.meets)) in
    let free : any (is_displayed_at m.price) met.own ≡ false =
    ⊎_elim
    (λ (y : any (is_displayed_at m.price) met.own ≡ true). absurd (m.unlocked (locked_at m.price met.own y)))
    (λ (y : any (is_displayed_at m.price) met.own ≡ false). y)
    (holds_or_not (any (is_displayed_at m.price) met.own)) in
    let is_left : eqb (o.shares.0 - total ts) 0 ≡ false = ne_eqb (o.shares.0 - total ts) 0 (λ z. omega (arith, z, some, told_is)) in
    let ends : ending o met ≡ Cancels reason.WouldStillMeet = rw (is_left, m.not_fok, m.not_ioc, m.sought, m.not_post_only, reaching, free) refl in
    let line_is_lem = Cancelled n (shares (o.shares.0 - total ts)) 8 in
    let last : OneOf line_is_lem (last_line n (remainder o met) (ending o met)) =
    subst (λ (y : Ending). OneOf line_is_lem (last_line n (remainder o met) y)) (sym ends) first in
    let there : OneOf line_is_lem (work_lines n o met) =
    behind (executions n (execution_price o met) (holdings met.opposite) ts) (in_front_lem (told refill_fate left) last) in
    rw told_is (subst (OneOf line_is_lem) (sym tells) there)

-- ── Where there is no minimum ──

-- what it says of an order that it ends by reason 8
record StillBy (o : Order) (m : Met) : Type 0 where
  is_left : total (takings o m) < o.shares.0
  no_kill : has o.word fok ≡ false
  no_cancel : has o.word ioc ≡ false
  is_other : has o.word post_only ≡ false
  price : HalfCents
  sought : seeks o m.away ≡ Rests price
  still : still_meets o m.own (after m.opposite (takings o m)) price ≡ true

abbrev reason_of : Ending → ℕ
reason_of Filled = 0
reason_of (Rests price) = 0
reason_of (Cancels reason) = number_of_reason reason

other_reason : {P : Type 0} (e : Ending) → reason_of e ≢ 8 → reason_of e ≡ 8 → P
other_reason e n is = absurd (n is)

module _ (o : Order) (m : Met) where
  abbrev leaves : List Resting
  leaves = after m.opposite (takings o m)

  still_at : total (takings o m) < o.shares.0 → has o.word fok ≡ false → has o.word ioc ≡ false → (e : Ending)
      → seeks o m.away ≡ e → reason_of (unless_it_meets o m.own leaves e) ≡ 8 → StillBy o m
  still_at l k i Filled sought q = other_reason Filled (λ (e : 0 ≡ 8). omega (arith, e)) q
  still_at l k i (Cancels reason) sought q =
      let below : number_of_reason reason < 6 = subst BelowSix sought (seeks_below_six o m.away) in
      other_reason (Cancels reason) (λ (e : number_of_reason reason ≡ 8). omega (arith, e, below)) q
  still_at l k i (Rests price) sought q =
      ⊎_elim
      (λ (post : has o.word post_only ≡ true).
      ⊎_elim
      (λ (t : any (meets_or_passes (buying o) price) leaves ≡ true).
      other_reason (Cancels reason.PostOnlyMeets) (λ (e : 6 ≡ 8). omega (arith, e)) (rw (post, t) at q))
      (λ (t : any (meets_or_passes (buying o) price) leaves ≡ false).
      other_reason (Rests price) (λ (e : 0 ≡ 8). omega (arith, e)) (rw (post, t) at q))
      (holds_or_not (any (meets_or_passes (buying o) price) leaves)))
      (λ (other : has o.word post_only ≡ false).
      ⊎_elim
      (λ (t : still_meets o m.own leaves price ≡ true).
      record { is_left = l; no_kill = k; no_cancel = i; is_other = other; price = price; sought = sought; still = t })
      (λ (t : still_meets o m.own leaves price ≡ false).
      other_reason (Rests price) (λ (e : 0 ≡ 8). omega (arith, e)) (rw (other, t) at q))
      (holds_or_not (still_meets o m.own leaves price)))
      (holds_or_not (has o.word post_only))

  still_by : reason_of (ending o m) ≡ 8 → StillBy o m
  unfolding ending ending_with remainder
  still_by is =
      let left = o.shares.0 - total (takings o m) in
      ⊎_elim
      (λ (z : eqb left 0 ≡ true). other_reason Filled (λ (e : 0 ≡ 8). omega (arith, e)) (rw z at is))
      (λ (z : eqb left 0 ≡ false).
      ⊎_elim
      (λ (k : has o.word fok ≡ true). other_reason (Cancels reason.FokKilled) (λ (e : 3 ≡ 8). omega (arith, e)) (rw (z, k) at is))
      (λ (k : has o.word fok ≡ false).
      ⊎_elim
      (λ (i : has o.word ioc ≡ true). other_reason (Cancels reason.IocRemainder) (λ (e : 2 ≡ 8). omega (arith, e)) (rw (z, k, i) at is))
      (λ (i : has o.word ioc ≡ false). still_at (omega (arith, eqb-false left 0 z)) k i (seeks o m.away) refl (rw (z, k, i) at is))
      (holds_or_not (has o.word ioc)))
      (holds_or_not (has o.word fok)))
      (holds_or_not (eqb left 0))

-- a price that equals or passes an order's, but not the one half a cent further, is its price
half_short : (buy : Bool) (p q : HalfCents) → reaches buy p q ≡ true → beyond buy p (half_a_cent_the_incoming_way buy q) ≡ true → q.0 ≡ p.0
half_short true p q r b =
    let l : q.0 ≤ p.0 = leb-true q.0 p.0 r in
    let k : p.0 < q.0 + 1 = ltb-true p.0 (q.0 + 1) b in
    omega (arith, l, k)
half_short false p q r b =
    let l : p.0 ≤ q.0 = leb-true p.0 q.0 r in
    let k : q.0 - 1 < p.0 = ltb-true (q.0 - 1) p.0 b in
    omega (arith, l, k)

-- so what is beyond such a price is an order at a locked price
beyond_locked : (o : Order) (m : Met) (p : HalfCents) (h : Resting) → reached o p h ≡ true
    → beyond (buying o) p (execution_price o m h) ≡ true → any (is_displayed_at p) m.own ≡ true
beyond_locked o m p h r b =
    ⊎_elim
    (λ (t : is_locked m.own h ≡ true).
    let same : h.price.0 ≡ p.0 = half_short (buying o) p h.price r (rw t at b) in
    let locks = and_right (not h.displayed) (any (is_displayed_at h.price) m.own) t in
    subst (λ (q : HalfCents). any (is_displayed_at q) m.own ≡ true) (ap half_cents same) locks)
    (λ (t : is_locked m.own h ≡ false).
    let further : beyond (buying o) p h.price ≡ true = rw t at b in
    let short : reached o p h ≡ false = reaches_is (buying o) p h.price ∙ ap not further in
    absurd (true≢false (sym r ∙ short)))
    (holds_or_not (is_locked m.own h))

-- a line has another reason, or none
abbrev NotEight : Event → Type 0
NotEight (Executed incoming resting price shares) = Unit {0}
NotEight (Rested n price shares) = Unit {0}
NotEight (Cancelled n shares reason) = reason ≢ 8
NotEight (Moved n price shares) = Unit {0}

-- no order is cancelled for it
pub no_reason_8 : (b : Book) (line : List ℕ) (c : Command) (o : Order) → sound b ≡ true → acts b line ≡ true → command_in line ≡ Some c
    → c.body ≡ body.Order o → NoMinimum o b → (n : Number) (left : Shares)
    → OneOf (Cancelled n left 8) (events_in (printed (answer_to b line))) → ⊥
no_reason_8 b line c o s t e f no_minimum n left p =
    let last = last_not (remainder o (met_by o b)) (ending o (met_by o b)) refl in
    one_of_all (order_lines NotEight b line c o s t e f (λ h k. tt) last (λ m price k. tt)) p refl
  where
    never_still : StillBy o (met_by o b) → ⊥
    never_still by =
        let met = met_by o b in
        let order = acts_order b c o (acts_accepted b line c t e) f in
        let w = works b line c o s t e f by.is_other in
        let least : least_of o ≡ 0 = rw by.no_kill no_minimum.incoming in
        let all = takes_all o met (omega (arith, least)) in
        let mine = met.own in
        let leaves = after met.opposite (takings o met) in
        let short : total (walked o met) < o.shares.0 = omega (arith, ap total all, by.is_left) in
        let untouched : All (λ (h : Resting). may_touch o met.away (execution_price o met h) ≡ false) leaves =
        rw all (walked_leaves o met w.is_side w.not_post_only w.ranked w.meetable no_minimum.resting short) in
        let reaching = any (reached o by.price) leaves in
        let locks = any (is_displayed_at by.price) mine in
        let x = any_found (reached o by.price) leaves (and_left reaching (not locks) by.still) in
        let limited = neither_limited o.word order.is_lawful by.no_cancel by.no_kill in
        let barred = one_of_all untouched x.there in
        let further = seeks_beyond o met.away (execution_price o met x.whom) by.price limited barred by.sought in
        let locked = beyond_locked o met by.price x.whom x.passes further in
        true≢false (sym locked ∙ not-true locks (and_right reaching (not locks) by.still))

    last_not : (left : ℕ) (e : Ending) → ending o (met_by o b) ≡ e → All NotEight (last_line c.number left e)
    last_not left Filled is = none
    last_not left (Rests price) is = also {x = Rested c.number price (shares left)} tt none
    last_not left (Cancels reason) is =
        also {x = Cancelled c.number (shares left) (number_of_reason reason)}
        (λ eight. never_still (still_by o (met_by o b) (ap reason_of is ∙ eight))) none
