-- What an order's walk takes and what becomes of the order together are 01's match. Assumes nothing.
use Prim.Native.Nat.{ℕ, zero, suc, ◌-◌, ◌≤◌, ◌<◌}
use mathlib.Core.Bool.{Bool, true, false, not, ◌&&◌, ◌||◌}
use mathlib.Core.List.{List, [], ◌∷◌, ◌++◌}
use mathlib.Core.Logic.{⊎_elim}
use mathlib.Core.Path.{◌≡◌, sym, ap, subst, ◌∙◌}
use lib.Dec.{eqb}
use lib.ListN.{length, drop}
use native.Mathlib.Omega.{arith}
use Rattle.std.specs.Prelude.{if◌then◌else◌}
use Rattle.basics.proofs.LawsChoice.{holds_or_not}
use Rattle.kinds.specs.declared.HalfCents.{HalfCents}
use Rattle.kinds.specs.declared.Number.{Number}
use Rattle.kinds.specs.Kinds.{resting_price_in_range}
use Rattle.kinds.proofs.LawsRanges.{resting_highest}
use Rattle.rules.specs.declared.Away.{Away}
use Rattle.rules.specs.declared.Ending.{Ending}
use Rattle.rules.specs.declared.Ending.TheVariants.{Filled, Rests, Cancels}
use Rattle.rules.specs.declared.Order.{Order}
use Rattle.rules.specs.declared.Reason.TheVariants.{IocRemainder, FokKilled, CancelledBack, NoPriceInRange, PostOnlyMeets, WouldStillMeet}
use Rattle.rules.specs.declared.Resting.{Resting}
use Rattle.basics.specs.Lists.{All, none, also}
use Rattle.basics.proofs.LawsLists.{all_alike}
use Rattle.rules.specs.Book.{places_a_side, stamp, in_rank_order}
use Rattle.soundness.proofs.LawsThinned.{thinned_after, thinned_all, thinned_ranked}
use Rattle.side.specs.Looking.{Older}
use Rattle.orders.specs.declared.takings.Taking.{Taking}
use Rattle.orders.specs.Fills.{after_takings}
use Rattle.orders.specs.Refills.{MayRefill}
use Rattle.orders.specs.Walk.{is_below}
use Rattle.orders.specs.Walking.{Workable, rests_unless_best_meets, unless_best_meets, ending_by_best}
use Rattle.orders.proofs.fills.LawsTakenOff.{all_keep, after_unreached}
use Rattle.rules.specs.Instructions.{ioc, fok, displayed, cancel_back, post_only, iso, has}
use Rattle.rules.specs.Working.{buying, limit_of, locking_price, Met, execution_price, absent, beyond, one_cent_less_aggressive, reaches, meets_or_passes, adjusted, seeks, takings, remainder, ending, last_line, with_remainder, refill_fate}
use Rattle.rules.specs.Holdings.{holdings, executions, after}
use Rattle.rules.specs.Settling.{first_move, told, settled_side}
use Rattle.side.specs.Looking.{price_bound}
use Rattle.orders.specs.Matching.{is_full, match_of, rests_below}

-- ── Where an order would rest ──

below_either : (t : Bool) (a b : Ending) → rests_below a → rests_below b → rests_below (if t then a else b)
below_either true a b p q = p
below_either false a b p q = q

adjusted_below : (o : Order) (price : HalfCents) → rests_below (adjusted o price)
adjusted_below o price =
    below_either (has o.word cancel_back) (Cancels CancelledBack) (if resting_price_in_range price then Rests price else Cancels NoPriceInRange) tt
    (⊎_elim
    (λ (t : resting_price_in_range price ≡ true). rw t (omega (arith, resting_highest price t)))
    (λ (t : resting_price_in_range price ≡ false). rw t tt)
    (holds_or_not (resting_price_in_range price)))

module _ (o : Order) (away : Away) (limited : (limit_of o).0 < price_bound) where
  seeks_below : rests_below (seeks o away)
  unfolding seeks
  seeks_below =
      let locking = locking_price (buying o) away in
      let crosses = beyond (buying o) locking (limit_of o) in
      let locks = eqb (limit_of o).0 locking.0 in
      let farther = one_cent_less_aggressive (buying o) locking in
      let else_limit = if not (has o.word displayed) && crosses then adjusted o locking else Rests (limit_of o) in
      below_either (has o.word iso || absent locking) (Rests (limit_of o)) (if has o.word displayed && (locks || crosses) then adjusted o farther else else_limit) limited
      (below_either (has o.word displayed && (locks || crosses)) (adjusted o farther) else_limit (adjusted_below o farther)
      (below_either (not (has o.word displayed) && crosses) (adjusted o locking) (Rests (limit_of o)) (adjusted_below o locking) limited))

  unless_below : (locked : HalfCents) (left : List Resting) (end : Ending) → rests_below end → rests_below (unless_best_meets o locked left end)
  unfolding rests_unless_best_meets
  unless_below locked left Filled b = tt
  unless_below locked [] (Rests price) b = b
  unless_below locked (best ∷ s) (Rests price) b =
      let post = if meets_or_passes (buying o) price best then Cancels PostOnlyMeets else Rests price in
      let still = reaches (buying o) price best.price && not (eqb price.0 locked.0) in
      let other = if still then Cancels WouldStillMeet else Rests price in
      below_either (has o.word post_only) post other
      (below_either (meets_or_passes (buying o) price best) (Cancels PostOnlyMeets) (Rests price) tt b)
      (below_either still (Cancels WouldStillMeet) (Rests price) tt b)
  unless_below locked left (Cancels reason) b = tt

  -- an order rests at its limit, or at a price in range
  pub ending_below : (left : ℕ) (locked : HalfCents) (opposite : List Resting) → rests_below (ending_by_best left o away locked opposite)
  unfolding ending_by_best
  ending_below left locked opposite =
      let rests = unless_best_meets o locked opposite (seeks o away) in
      let else_ioc = if has o.word ioc then Cancels IocRemainder else rests in
      below_either (eqb left 0) Filled (if has o.word fok then Cancels FokKilled else else_ioc) tt
      (below_either (has o.word fok) (Cancels FokKilled) else_ioc tt
      (below_either (has o.word ioc) (Cancels IocRemainder) rests tt (unless_below locked opposite (seeks o away) seeks_below)))

-- ── The refills that are due then ──

dropped : {P : Resting → Type 0} (k : ℕ) {s : List Resting} → All P s → All P (drop k s)
dropped zero a = a
dropped (suc k) none = none
dropped (suc k) (also p a) = dropped k a

-- a side that a walk took of, as far as rank `at`
pub may_refill : (buy : Bool) (n : Number) (at : ℕ) {ks : List Taking} → All (is_below at) ks → (s : List Resting) (ts : List ℕ)
    → after_takings ks s ≡ after s ts → in_rank_order buy s ≡ true → All Workable s → All (Older (stamp n first_move)) s
    → length (after s ts) ≤ places_a_side → MayRefill buy n (length (after s ts) - (length s - at)) (after s ts)
may_refill buy n at {ks = ks} below s ts is ranked workable older fits =
    let thinned = thinned_after ts (all_alike (λ h w. record { is_left = omega (arith, w.holds); least = w.remains }) workable) in
    let unreached : drop (length (after s ts) - (length s - at)) (after s ts) ≡ drop at s =
    ap (λ (u : List Resting). drop (length u - (length s - at)) u) (sym is) ∙ after_unreached at below s (all_alike (λ h w. w.remains) workable) (all_keep (all_alike (λ h w. w.holds) workable)) in
    record {
      fits = fits;
      within = omega arith;
      ranked = thinned_ranked buy thinned ranked;
      older = thinned_all (λ h shown reserve l m k o. record { priced = o.priced; stamped = o.stamped }) thinned older;
      shown = subst (All (λ (h : Resting). 1 ≤ h.shares.0)) (sym unreached) (dropped at (all_alike (λ h w. w.holds) workable));
      left = thinned_all (λ h shown reserve l m k w. record { is_left = k; countable = omega (arith, l, m, w.countable) }) thinned workable;
    }

-- ── The match ──

module _ (o : Order) (number : Number) (met : Met) where
  pub refused : is_full (ending o met) met.own ≡ true → match_of o number met ≡ record { refusal = 11; events = []; own = met.own; opposite = met.opposite }
  unfolding match_of
  refused f = rw f

  -- by what the walk leaves, and the ending that follows from it
  module _ (left : ℕ) (end : Ending) (leaves : left ≡ remainder o met) (ends : end ≡ ending o met) where
    pub ended_is : is_full end met.own ≡ false → match_of o number met ≡ record {
      refusal = 0;
      events = (executions number (execution_price o met) (holdings met.opposite) (takings o met) ++ last_line number left end)
          ++ told refill_fate (after met.opposite (takings o met));
      own = with_remainder number o left end met.own;
      opposite = settled_side number first_move (not (buying o)) refill_fate (after met.opposite (takings o met));
    }
    unfolding match_of
    ended_is f =
        let g : is_full (ending o met) met.own ≡ false = ap (λ (e : Ending). is_full e met.own) (sym ends) ∙ f in
        rw (g, ends, leaves)
