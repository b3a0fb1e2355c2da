-- W6's sentences (02): no execution at a locked price against the hidden order, whole cents exactly where no lock stands, never through the
-- away quote, when Post Only is cancelled, and who stands opposite whom. Assumes nothing.
use Prim.Native.Nat.{ℕ, ◌+◌, ◌-◌, ◌%◌, ◌≤◌, ◌<◌}
use mathlib.Core.Bool.{Bool, true, false, not, ◌&&◌, ◌||◌, true≢false}
use mathlib.Core.List.{List, [], ◌∷◌, ◌++◌, append-nil}
use mathlib.Core.Logic.{◌≢◌, ⊎_elim}
use mathlib.Core.Path.{◌≡◌, refl, sym, ap, subst, ◌∙◌}
use lib.Dec.{eqb}
use native.Mathlib.Omega.{arith}
use borrow.Author.Tests.{eqb-true, eq-eqb, ne_eqb, ltb-true, lt-ltb, leb-true, le-leb}
use Rattle.basics.specs.Lists.{any, total, gathered, All, none, also, OneOf, first, later}
use Rattle.basics.proofs.LawsChoice.{holds_or_not, by_choice, and_left, and_right}
use Rattle.basics.proofs.LawsLists.{all_alike, all_both, one_of_all, each_there}
use Rattle.kinds.specs.declared.HalfCents.{HalfCents}
use Rattle.kinds.specs.declared.Number.{Number}
use Rattle.kinds.specs.Kinds.{shares, in_half_cents, resting_price_in_range}
use Rattle.kinds.proofs.LawsRanges.{resting_lowest, resting_highest, resting_whole}
use Rattle.rules.specs.declared.Away.{Away}
use Rattle.rules.specs.declared.Body.TheVariants as body
use Rattle.rules.specs.declared.Command.{Command}
use Rattle.rules.specs.declared.Ending.{Ending}
use Rattle.rules.specs.declared.Ending.TheVariants.{Filled, Rests, Cancels}
use Rattle.rules.specs.declared.Event.TheVariants.{Rested, Cancelled}
use Rattle.rules.specs.declared.Order.{Order}
use Rattle.rules.specs.declared.Reason.TheVariants.{WouldStillMeet}
use Rattle.rules.specs.declared.Resting.{Resting}
use Rattle.rules.specs.Book.{Book, BookRecord, in_rank_order, apart, sound, book_in, record_sound}
use Rattle.rules.specs.CommandLines.{command_in}
use Rattle.rules.specs.Day.{printed}
use Rattle.rules.specs.Holdings.{Holding, holdings, nothing, executions, after}
use Rattle.rules.specs.Instructions.{fok, ioc, has, iso, market, post_only, displayed, cancel_back}
use Rattle.rules.specs.Settling.{own_side, told}
use Rattle.rules.specs.Step.{answer_to}
use Rattle.rules.specs.Working.{Met, buying, met_by, refill_fate, execution_price, takings, remainder, ending, ending_with, last_line, adjusted, seeks, meets_or_passes, still_meets, unless_it_meets}
use Rattle.rules.specs.Working.{limit_of, locking_price, absent, beyond, one_cent_less_aggressive}
use Rattle.rules.specs.Reasons.{number_of_reason}
use Rattle.rules.proofs.LawsTakings.{nothing_total}
use Rattle.rules.proofs.LawsWalkOrder.{refill_not_due}
use Rattle.soundness.proofs.LawsApart.{clear, apart_all, apart_best}
use Rattle.soundness.proofs.LawsLeaves.{after_nothing}
use Rattle.soundness.proofs.LawsEndings.{chosen}
use Rattle.soundness.proofs.LawsRecords.{book_sound_lem}
use Rattle.soundness.proofs.LawsSides.{InRange, sides_of, all_holding}
use Rattle.soundness.proofs.LawsSound.{sound_is}
use Rattle.demands.specs.ExactlyWhen.{own}
use Rattle.demands.specs.Locks.{ExecutesWith, MeetsOrPasses, buy_meets, buy_passes, sell_meets, sell_passes, PostOnlyMeets, SaysOfPostOnly, StandApart, RestsAtWholeCents}
use Rattle.demands.specs.Once.{acts}
use Rattle.demands.specs.ShareOut.{opposite, Locked, PriceHere, its_own, half_under, half_over, Fair}
use Rattle.demands.specs.Told.{events_in}
use Rattle.demands.proofs.LawsExecutes.{acts_accepted, acts_order, acts_lines, order_side, order_shares}
use Rattle.demands.proofs.LawsFairly.{every_execution, Fairly, FairlyExecuted, order_fairly, post_only_takes_nothing}
use Rattle.demands.proofs.LawsLinesTell.{every_refill}
use Rattle.demands.proofs.LawsOrigins.{one_number, opposite_own}
use Rattle.demands.proofs.LawsPriceHere.{sells, sells_other}
use Rattle.demands.proofs.LawsTold.{line_told}
use Rattle.std.specs.Prelude.{Some}

-- ── The price of an execution ──

-- "a hidden order barred here isn't one that could give": no price of an order limited at the locked one is fair
pub barred : {o : Order} {away : Away} {own : List Resting} {h : Resting} {price : HalfCents} → Locked own h → has o.word market ≡ false
    → (in_half_cents o.price).0 ≡ h.price.0 → PriceHere o own h price → Fair o away price → ⊥
barred l limited at (its_own free) fair = free l
barred l limited at (half_under k side is) fair = omega (arith, at, is, fair.sells_within_limit limited side)
barred l limited at (half_over k side is) fair = omega (arith, at, is, fair.buys_within_limit limited side)

module _ {b : Book} {line : List ℕ} {o : Order} {h : Resting} {price : HalfCents} (e : ExecutesWith b line o h price) where
  fairly : Fairly o (met_by o b) e.command.number e.command.number h.number price
  fairly =
      let all = order_fairly b line e.command o e.is_sound e.is_accepted e.reads e.enters in
      one_of_all (subst (All (FairlyExecuted o (met_by o b) e.command.number)) (sym (line_told b line e.is_sound)) all) e.prints

  -- the opposite order of that number is the one
  here : PriceHere o (own o b) h price
  here =
      let other = not (buying o) in
      let on : (x : Resting) → OneOf x (opposite o b) → OneOf x (own_side other b) = λ x p. subst (OneOf x) (opposite_own (buying o) b) p in
      let same : fairly.whom ≡ h =
      (one_number b (sound_is b e.is_sound) other other (on fairly.whom fairly.there) (on h e.there)
      (ap (λ (n : Number). n.0) (sym fairly.is_resting))).1 in
      subst (λ (x : Resting). PriceHere o (own o b) x price) same fairly.at_its_price

  -- a resting price is a whole number of cents
  whole : h.price.0 % 2 ≡ 0
  whole = resting_whole h.price (one_of_all (sides_of (buying o) b (sound_is b e.is_sound)).opposite_in_range e.there).priced

  -- under a lock it is half a cent over that price, or under it
  pub half_a_cent : Locked (own o b) h → (o.side ≡ 0 → price.0 ≡ h.price.0 + 1) × (o.side ≡ 1 → price.0 + 1 ≡ h.price.0)
  half_a_cent l = by_price here
    where
      by_price : {p : HalfCents} → PriceHere o (own o b) h p → (o.side ≡ 0 → p.0 ≡ h.price.0 + 1) × (o.side ≡ 1 → p.0 + 1 ≡ h.price.0)
      by_price (its_own free) = absurd (free l)
      by_price (half_under k side is) = (λ (z : o.side ≡ 0). let no : ⊥ = omega (arith, side, z) in absurd no, λ z. is)
      by_price (half_over k side is) = (λ z. is, λ (z : o.side ≡ 1). let no : ⊥ = omega (arith, side, z) in absurd no)

  -- "While that lock stands, the hidden order doesn't execute at that price."
  pub not_at_a_locked_price : Locked (own o b) h → price.0 ≢ h.price.0
  not_at_a_locked_price l = by_price here
    where
      by_price : {p : HalfCents} → PriceHere o (own o b) h p → p.0 ≢ h.price.0
      by_price (its_own free) = absurd (free l)
      by_price (half_under k side is) = λ same. omega (arith, is, same)
      by_price (half_over k side is) = λ same. omega (arith, is, same)

  pub whole_without_a_lock : (price.0 % 2 ≡ 0 → Locked (own o b) h → ⊥) × ((Locked (own o b) h → ⊥) → price.0 % 2 ≡ 0)
  whole_without_a_lock = (whole_free here, free_whole here)
    where
      whole_free : {p : HalfCents} → PriceHere o (own o b) h p → p.0 % 2 ≡ 0 → Locked (own o b) h → ⊥
      whole_free (its_own free) even l = free l
      whole_free (half_under k side is) even l = omega (arith, is, even, whole)
      whole_free (half_over k side is) even l = omega (arith, is, even, whole)

      free_whole : {p : HalfCents} → PriceHere o (own o b) h p → (Locked (own o b) h → ⊥) → p.0 % 2 ≡ 0
      free_whole (its_own free) f = whole
      free_whole (half_under k side is) f = absurd (f k)
      free_whole (half_over k side is) f = absurd (f k)

  -- "Incoming orders on the displayed order's side, limited at the locked price, rest or cancel."
  pub not_limited_at_the_lock : Locked (own o b) h → has o.word market ≡ false → (in_half_cents o.price).0 ≢ h.price.0
  not_limited_at_the_lock l limited at = barred l limited at here fairly.is_fair

  -- "The away test uses the true execution price."
  pub not_through_the_away_quote : has o.word iso ≡ false
      → (o.side ≡ 0 → b.held.away.offer.0 ≢ 0 → price.0 ≤ (in_half_cents b.held.away.offer).0)
      × (o.side ≡ 1 → b.held.away.bid.0 ≢ 0 → (in_half_cents b.held.away.bid).0 ≤ price.0)
  not_through_the_away_quote plain = (fairly.is_fair.buys_within_offer plain, fairly.is_fair.sells_within_bid plain)

-- ── Post Only ──

-- the test of the rules, in words
met_is : (o : Order) (price : HalfCents) (h : Resting) → o.side ≤ 1 → meets_or_passes (buying o) price h ≡ true → MeetsOrPasses o price h
met_is o price h is_side t =
    ⊎_elim
    (λ (d : h.displayed ≡ true).
    ⊎_elim
    (λ (buy : buying o ≡ true). buy_meets (eqb-true o.side 0 buy) d (leb-true h.price.0 price.0 (rw (d, buy) at t)))
    (λ (buy : buying o ≡ false). sell_meets (sells o is_side buy) d (leb-true price.0 h.price.0 (rw (d, buy) at t)))
    (holds_or_not (buying o)))
    (λ (d : h.displayed ≡ false).
    ⊎_elim
    (λ (buy : buying o ≡ true). buy_passes (eqb-true o.side 0 buy) d (ltb-true h.price.0 price.0 (rw (d, buy) at t)))
    (λ (buy : buying o ≡ false). sell_passes (sells o is_side buy) d (ltb-true price.0 h.price.0 (rw (d, buy) at t)))
    (holds_or_not (buying o)))
    (holds_or_not h.displayed)

is_met : (o : Order) (price : HalfCents) (h : Resting) → MeetsOrPasses o price h → meets_or_passes (buying o) price h ≡ true
is_met o price h (buy_meets side d l) = rw (d, eq-eqb o.side 0 side) (le-leb h.price.0 price.0 l)
is_met o price h (buy_passes side d l) = rw (d, eq-eqb o.side 0 side) (lt-ltb h.price.0 price.0 l)
is_met o price h (sell_meets side d l) = rw (d, sells_other o.side side) (le-leb price.0 h.price.0 l)
is_met o price h (sell_passes side d l) = rw (d, sells_other o.side side) (lt-ltb price.0 h.price.0 l)

-- one of a list that passes a test, and a test that none passes
pub record Found (test : Resting → Bool) (s : List Resting) : Type 0 where
  pub whom : Resting
  pub there : OneOf whom s
  pub passes : test whom ≡ true

pub any_found : (test : Resting → Bool) (s : List Resting) → any test s ≡ true → Found test s
unfolding any
any_found test [] e = absurd (true≢false (sym e))
any_found test (h ∷ s) e =
    ⊎_elim
    (λ (t : test h ≡ true). record { whom = h; there = first; passes = t })
    (λ (t : test h ≡ false). let f = any_found test s (rw t at e) in record { whom = f.whom; there = later f.there; passes = f.passes })
    (holds_or_not (test h))

pub none_passes : (test : Resting → Bool) {h : Resting} {s : List Resting} → any test s ≡ false → OneOf h s → test h ≡ true → ⊥
unfolding any
none_passes test e first t = true≢false (rw t at e)
none_passes test {s = y ∷ s} e (later p) t =
    ⊎_elim
    (λ (u : test y ≡ true). true≢false (rw u at e))
    (λ (u : test y ≡ false). none_passes test (rw u at e) p t)
    (holds_or_not (test y))

-- what an ending says of Post Only
abbrev EndsAsItMeets : Order → Book → Ending → Type 0
EndsAsItMeets o b Filled = Unit {0}
EndsAsItMeets o b (Rests price) = has o.word post_only ≡ true → any (meets_or_passes (buying o) price) (met_by o b).opposite ≡ false
EndsAsItMeets o b (Cancels reason) = number_of_reason reason ≡ 6 → PostOnlyMeets o b

-- what a remainder seeks is cancelled with reason 4 or 5 only
abbrev pub BelowSix : Ending → Type 0
BelowSix Filled = Unit {0}
BelowSix (Rests price) = Unit {0}
BelowSix (Cancels reason) = number_of_reason reason < 6

adjusted_below_six : (o : Order) (price : HalfCents) → BelowSix (adjusted o price)
adjusted_below_six o price =
    chosen BelowSix (has o.word cancel_back) (omega arith) (chosen BelowSix (resting_price_in_range price) tt (omega arith))

pub seeks_below_six : (o : Order) (away : Away) → BelowSix (seeks o away)
unfolding seeks
seeks_below_six o away =
    let locking = locking_price (buying o) away in
    let would_cross = beyond (buying o) locking (limit_of o) in
    let would_lock = eqb (limit_of o).0 locking.0 in
    chosen BelowSix (has o.word iso || absent locking) tt
    (chosen BelowSix (has o.word displayed && (would_lock || would_cross))
    (adjusted_below_six o (one_cent_less_aggressive (buying o) locking))
    (chosen BelowSix (not (has o.word displayed) && would_cross) (adjusted_below_six o locking) tt))

-- where Post Only leaves the side that it meets as it stood
module _ (o : Order) (b : Book) (is_side : o.side ≤ 1) (left : List Resting)
    (stays : has o.word post_only ≡ true → left ≡ (met_by o b).opposite) where
  sought_ends : (e : Ending) → seeks o b.held.away ≡ e → EndsAsItMeets o b (unless_it_meets o (met_by o b).own left e)
  sought_ends Filled is = tt
  sought_ends (Rests price) is =
      by_choice (EndsAsItMeets o b) (has o.word post_only)
      (λ post. rw (stays post)
      (by_choice (EndsAsItMeets o b) (any (meets_or_passes (buying o) price) (met_by o b).opposite)
      (λ t r.
      let f = any_found (meets_or_passes (buying o) price) (met_by o b).opposite t in
      record {
        is_post_only = post;
        price = price;
        sought = is;
        whom = f.whom;
        there = f.there;
        meets = met_is o price f.whom is_side f.passes;
      })
      (λ t also-post. t)))
      (λ other.
      by_choice (EndsAsItMeets o b) (still_meets o (met_by o b).own left price)
      (λ t (r : number_of_reason WouldStillMeet ≡ 6). let z : ⊥ = omega (arith, r) in absurd z)
      (λ t post. absurd (true≢false (sym post ∙ other))))
  sought_ends (Cancels reason) is = λ r. let z : ⊥ = omega (arith, r, subst BelowSix is (seeks_below_six o b.held.away)) in absurd z

  ends_as_it_meets : (remains : ℕ) → EndsAsItMeets o b (ending_with remains o b.held.away (met_by o b).own left)
  unfolding ending_with
  ends_as_it_meets remains =
      chosen (EndsAsItMeets o b) (eqb remains 0) tt
      (chosen (EndsAsItMeets o b) (has o.word fok) (λ r. absurd_of (omega (arith, r)))
      (chosen (EndsAsItMeets o b) (has o.word ioc) (λ r. absurd_of (omega (arith, r))) (sought_ends (seeks o b.held.away) refl)))
    where
      absurd_of : ⊥ → PostOnlyMeets o b
      absurd_of z = absurd z

module _ (o : Order) (b : Book) where
  last_says : (n : Number) (left : ℕ) (e : Ending) → EndsAsItMeets o b e → All (SaysOfPostOnly o b) (last_line n left e)
  last_says n left Filled ends = none
  last_says n left (Rests price) ends =
      also {x = Rested n price (shares left)} (λ post h p m. none_passes (meets_or_passes (buying o) price) (ends post) p (is_met o price h m)) none
  last_says n left (Cancels reason) ends = also {x = Cancelled n (shares left) (number_of_reason reason)} ends none

-- Post Only leaves the side that it meets as it stood
pub post_only_leaves : (o : Order) (b : Book) → sound b ≡ true → has o.word post_only ≡ true
    → after (met_by o b).opposite (takings o (met_by o b)) ≡ (met_by o b).opposite
post_only_leaves o b s post =
    rw (post_only_takes_nothing o (met_by o b) post)
    (after_nothing (all_holding b.held.last (sides_of (buying o) b (sound_is b s)).opposite_in_range))

-- "So Post Only is now cancelled with reason 6 only if it meets a displayed order or would pass a hidden one."
pub post_only_as_it_meets : (b : Book) (line : List ℕ) (c : Command) (o : Order) → sound b ≡ true → acts b line ≡ true
    → command_in line ≡ Some c → c.body ≡ body.Order o → All (SaysOfPostOnly o b) (events_in (printed (answer_to b line)))
unfolding ending
post_only_as_it_meets b line c o s t e f =
    let n = c.number in
    let met = met_by o b in
    let side = order_side o (acts_order b c o (acts_accepted b line c t e) f).in_range in
    let executed = every_execution {P = SaysOfPostOnly o b} n (execution_price o met) (λ h k. tt) (holdings met.opposite) (takings o met) in
    let left = after met.opposite (takings o met) in
    let ends = ends_as_it_meets o b side left (post_only_leaves o b s) (remainder o met) in
    let last = last_says o b n (remainder o met) (ending o met) ends in
    let refills = every_refill {P = SaysOfPostOnly o b} (λ m price k. tt) left in
    subst (All (SaysOfPostOnly o b)) (sym (line_told b line s ∙ acts_lines b line c o t e f)) (all_both executed (all_both last refills))

-- one of a list that passes a test
pub any_there : (test : Resting → Bool) {h : Resting} {s : List Resting} → OneOf h s → test h ≡ true → any test s ≡ true
any_there test {s = s} p t =
    ⊎_elim (λ (e : any test s ≡ true). e) (λ (e : any test s ≡ false). absurd (none_passes test e p t)) (holds_or_not (any test s))

-- where nothing is taken nothing is executed, and nothing refilled
none_executed : (n : Number) (price : Resting → HalfCents) (hs : List Holding) → executions n price hs (nothing hs) ≡ []
unfolding executions nothing
none_executed n price [] = refl
none_executed n price (h ∷ hs) = none_executed n price hs

none_refilled : {s : List Resting} → All (λ (h : Resting). 1 ≤ h.shares.0) s → told refill_fate s ≡ []
unfolding told gathered
none_refilled none = refl
none_refilled (also {x = h} l a) = rw (refill_not_due h (λ z. omega (arith, l, z)), none_refilled a) refl

-- a Post Only order writes one line, of all its shares
module _ (b : Book) (line : List ℕ) (c : Command) (o : Order) (s : sound b ≡ true) (t : acts b line ≡ true) (e : command_in line ≡ Some c)
    (f : c.body ≡ body.Order o) (post : has o.word post_only ≡ true) (kill : has o.word fok ≡ false) (cancel : has o.word ioc ≡ false) where
  abbrev met : Met
  met = met_by o b

  writes_one : events_in (printed (answer_to b line))
      ≡ last_line c.number o.shares.0 (unless_it_meets o met.own met.opposite (seeks o met.away))
  unfolding ending ending_with remainder
  writes_one =
      let idle = post_only_takes_nothing o met post in
      let range = (sides_of (buying o) b (sound_is b s)).opposite_in_range in
      let same : after met.opposite (nothing (holdings met.opposite)) ≡ met.opposite =
      after_nothing (all_holding b.held.last range) in
      let all : o.shares.0 - total (nothing (holdings met.opposite)) ≡ o.shares.0 = omega (arith, nothing_total (holdings met.opposite)) in
      let some : eqb o.shares.0 0 ≡ false =
      ne_eqb o.shares.0 0 (λ z. omega (arith, z, order_shares o (acts_order b c o (acts_accepted b line c t e) f).in_range)) in
      let last = last_line c.number o.shares.0 (unless_it_meets o met.own met.opposite (seeks o met.away)) in
      let refills = none_refilled (all_alike (λ h r. r.holding) range) in
      line_told b line s ∙ acts_lines b line c o t e f
      ∙ rw (idle, none_executed c.number (execution_price o met) (holdings met.opposite), all, some, kill, cancel, same, refills) (append-nil last)

  -- it is cancelled, reason 6, if it meets or passes one ..
  pub post_only_cancelled : PostOnlyMeets o b → events_in (printed (answer_to b line)) ≡ Cancelled c.number o.shares 6 ∷ []
  post_only_cancelled m =
      let meets = any_there (meets_or_passes (buying o) m.price) m.there (is_met o m.price m.whom m.meets) in
      writes_one ∙ rw (m.sought, post, meets) refl

  -- .. and rests at its price from step 4 if it does so of none
  pub post_only_rests : (price : HalfCents) → seeks o b.held.away ≡ Rests price
      → ((h : Resting) → OneOf h (opposite o b) → MeetsOrPasses o price h → ⊥)
      → events_in (printed (answer_to b line)) ≡ Rested c.number price o.shares ∷ []
  post_only_rests price sought unmet =
      let side = order_side o (acts_order b c o (acts_accepted b line c t e) f).in_range in
      let no_one : any (meets_or_passes (buying o) price) met.opposite ≡ false =
      ⊎_elim
      (λ (u : any (meets_or_passes (buying o) price) met.opposite ≡ true).
      let found = any_found (meets_or_passes (buying o) price) met.opposite u in
      absurd (unmet found.whom found.there (met_is o price found.whom side found.passes)))
      (λ (u : any (meets_or_passes (buying o) price) met.opposite ≡ false). u)
      (holds_or_not (any (meets_or_passes (buying o) price) met.opposite)) in
      writes_one ∙ rw (sought, post, no_one) refl

-- ── Who stands opposite whom ──

apart_is_lem : (buy sell : Resting) → clear true buy.displayed buy.price sell ≡ true → StandApart buy sell
apart_is_lem buy sell c = record {
  nothing_crosses =
      ⊎_elim
      (λ (t : (buy.displayed && sell.displayed) ≡ true). omega (arith, ltb-true buy.price.0 sell.price.0 (rw t at c)))
      (λ (t : (buy.displayed && sell.displayed) ≡ false). leb-true buy.price.0 sell.price.0 (rw t at c))
      (holds_or_not (buy.displayed && sell.displayed));
  displayed_never_meet = λ d f. ltb-true buy.price.0 sell.price.0 (rw (d, f) at c);
}

is_apart_lem : (buy sell : Resting) → StandApart buy sell → clear true buy.displayed buy.price sell ≡ true
is_apart_lem buy sell a =
    ⊎_elim
    (λ (t : (buy.displayed && sell.displayed) ≡ true).
    rw t (lt-ltb buy.price.0 sell.price.0
    (a.displayed_never_meet (and_left buy.displayed sell.displayed t) (and_right buy.displayed sell.displayed t))))
    (λ (t : (buy.displayed && sell.displayed) ≡ false). rw t (le-leb buy.price.0 sell.price.0 a.nothing_crosses))
    (holds_or_not (buy.displayed && sell.displayed))

-- the best two tell of all
pub apart_exactly : (buys sells : List Resting) → in_rank_order true buys ≡ true → in_rank_order false sells ≡ true
    → (apart buys sells ≡ true → (buy sell : Resting) → OneOf buy buys → OneOf sell sells → StandApart buy sell)
    × (((buy sell : Resting) → OneOf buy buys → OneOf sell sells → StandApart buy sell) → apart buys sells ≡ true)
apart_exactly buys sells p q = (
  λ a buy sell u v. apart_is_lem buy sell (one_of_all (one_of_all (apart_all buys sells p q a) u) v),
  λ all.
      apart_best buys sells
      (all_alike (λ buy u. all_alike (λ sell v. is_apart_lem buy sell (all buy sell u v)) (each_there sells)) (each_there buys)),
)

pub stand_apart : (b : Book) → sound b ≡ true → (buy sell : Resting) → OneOf buy b.buys → OneOf sell b.sells → StandApart buy sell
stand_apart b s buy sell p q = apart_is_lem buy sell (one_of_all (one_of_all (sides_of true b (sound_is b s)).is_apart p) q)

-- ── The price of a resting order ──

pub resting_prices : (b : Book) → sound b ≡ true → All RestsAtWholeCents (b.buys ++ b.sells)
resting_prices b s =
    let sides = sides_of true b (sound_is b s) in
    all_both (all_alike each sides.own_in_range) (all_alike each sides.opposite_in_range)
  where
    each : (h : Resting) → InRange b.held.last h → RestsAtWholeCents h
    each h r = record {
      lowest = resting_lowest h.price r.priced;
      highest = resting_highest h.price r.priced;
      whole_cents = resting_whole h.price r.priced;
    }

pub record_prices : (r : BookRecord) → record_sound r ≡ true → All RestsAtWholeCents ((book_in r).buys ++ (book_in r).sells)
record_prices r s = resting_prices (book_in r) (book_sound_lem r s)
