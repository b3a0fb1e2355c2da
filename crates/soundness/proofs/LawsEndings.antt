-- What becomes of a remainder that is not cancelled at once: it rests at its limit or at a price in range, or it is cancelled with
-- reason 4, 5, 6 or 8. A claim that holds of these holds of whatever it seeks. Assumes nothing.
use mathlib.Core.Bool.{Bool, true, false, not, ◌&&◌, ◌||◌}
use mathlib.Core.List.{List}
use mathlib.Core.Path.{◌≡◌, refl}
use lib.Dec.{eqb}
use Rattle.std.specs.Prelude.{if◌then◌else◌}
use Rattle.basics.specs.Lists.{any}
use Rattle.kinds.specs.declared.HalfCents.{HalfCents}
use Rattle.kinds.specs.Kinds.{resting_price_in_range}
use Rattle.rules.specs.declared.Away.{Away}
use Rattle.rules.specs.declared.Ending.{Ending}
use Rattle.rules.specs.declared.Ending.TheVariants.{Filled, Rests, Cancels}
use Rattle.rules.specs.declared.Order.{Order}
use Rattle.rules.specs.declared.Reason.TheVariants.{CancelledBack, NoPriceInRange, PostOnlyMeets, WouldStillMeet}
use Rattle.rules.specs.declared.Resting.{Resting}
use Rattle.rules.specs.Instructions.{displayed, cancel_back, post_only, iso, has}
use Rattle.rules.specs.Working.{buying, beyond, locking_price, absent, adjusted, one_cent_less_aggressive, seeks, limit_of, meets_or_passes, still_meets, unless_it_meets}

-- a claim on two endings holds of the one that a test chooses
pub chosen : (P : Ending → Type 0) (t : Bool) {e f : Ending} → P e → P f → P (if t then e else f)
chosen P true p q = p
chosen P false p q = q

module _ (P : Ending → Type 0) (in_range : (price : HalfCents) → resting_price_in_range price ≡ true → P (Rests price)) (back : P (Cancels CancelledBack))
    (out : P (Cancels NoPriceInRange)) (meets : P (Cancels PostOnlyMeets)) (still : P (Cancels WouldStillMeet)) where
  -- "An adjusted price outside 100 to 200,000: cancelled, reason 5."
  adjusted_is : (o : Order) (price : HalfCents) → P (adjusted o price)
  adjusted_is o price = chosen P (has o.word cancel_back) back (tested (resting_price_in_range price) refl)
    where
      tested : (t : Bool) → resting_price_in_range price ≡ t → P (if t then Rests price else Cancels NoPriceInRange)
      tested true e = in_range price e
      tested false e = out

  seeks_is : (o : Order) (away : Away) → P (Rests (limit_of o)) → P (seeks o away)
  unfolding seeks
  seeks_is o away limit =
      let locking = locking_price (buying o) away in
      let would_cross = beyond (buying o) locking (limit_of o) in
      let would_lock = eqb (limit_of o).0 locking.0 in
      chosen P (has o.word iso || absent locking) limit
      (chosen P (has o.word displayed && (would_lock || would_cross)) (adjusted_is o (one_cent_less_aggressive (buying o) locking))
      (chosen P (not (has o.word displayed) && would_cross) (adjusted_is o locking) limit))

  -- step 5 changes no price
  unless_is : (o : Order) (own left : List Resting) (e : Ending) → P e → P (unless_it_meets o own left e)
  unless_is o own left Filled p = p
  unless_is o own left (Rests price) p =
      chosen P (has o.word post_only) (chosen P (any (meets_or_passes (buying o) price) left) meets p) (chosen P (still_meets o own left price) still p)
  unless_is o own left (Cancels reason) p = p

  pub sought_is : (o : Order) (away : Away) (own left : List Resting) → P (Rests (limit_of o)) → P (unless_it_meets o own left (seeks o away))
  sought_is o away own left limit = unless_is o own left (seeks o away) (seeks_is o away limit)
