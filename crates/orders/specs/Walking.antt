-- The walk of an order (01, How an order is worked, 1 and 2), with Post Only, Fill-or-Kill and minimums (02, W7), as a list of takings.
use Rattle.std.specs.Prelude.{ℕ, ◌-◌, ◌≤◌, ◌<◌, Bool, true, false, not, ◌&&◌, ◌||◌, List, [], ◌∷◌, map, ◌≡◌, eqb, ltb, length, if◌then◌else◌}
use Rattle.basics.specs.Lists.{All, any}
use Rattle.kinds.specs.declared.HalfCents.{HalfCents}
use Rattle.kinds.specs.Kinds.{largest}
use Rattle.orders.specs.Bound.{bound_of, bound_under}
use Rattle.orders.specs.Fills.{MinimumRemains}
use Rattle.orders.specs.Locks.{locked_price, ToldByPrice}
use Rattle.orders.specs.Cursor.{parts, part_of, placed_from}
use Rattle.rules.specs.declared.Order.{Order}
use Rattle.rules.specs.declared.Reason.TheVariants.{IocRemainder, FokKilled, PostOnlyMeets, WouldStillMeet}
use Rattle.rules.specs.declared.Resting.{Resting}
use Rattle.side.specs.Looking.{price_bound}
use Rattle.side.specs.Shifts.{Countable}
use Rattle.rules.specs.declared.Away.{Away}
use Rattle.rules.specs.declared.Ending.{Ending}
use Rattle.rules.specs.declared.Ending.TheVariants.{Filled, Rests, Cancels}
use Rattle.rules.specs.Book.{in_rank_order}
use Rattle.rules.specs.Instructions.{ioc, fok, post_only, has}
use Rattle.rules.specs.Working.{buying, limit_of, locking_price, reaches, is_displayed_at, meets_or_passes, least_of, Met, takings, remainder, seeks}
use Rattle.orders.specs.declared.takings.Taking.{Taking}
use Rattle.orders.specs.declared.walk.Walked.{Walked}
use Rattle.orders.specs.Walk.{is_below, is_within, takings_from, takings_of, walked_of}

-- what working an order needs of the orders on the opposite side, and a sound book gives
pub record Workable (h : Resting) : Type 0 where
  pub holds : 1 ≤ h.shares.0
  pub priced : 1 ≤ h.price.0
  pub below : h.price.0 < largest
  pub countable : Countable h
  pub remains : MinimumRemains h
  -- no minimum beside a reserve
  pub alone : 0 < h.minimum.0 → h.reserve.0 ≡ 0

-- what an order meets, part by part
abbrev pub met_with : Away → List Resting → List Resting → Met
met_with away own opposite = record { away = away; own = own; opposite = opposite }

-- what its walk needs of both sides, and a sound book gives
pub record Walkable (o : Order) (met : Met) : Type 0 where
  pub limited : (limit_of o).0 < price_bound
  pub locking_priced : (locking_price (buying o) met.away).0 < largest - 1
  pub ranked : in_rank_order (not (buying o)) met.opposite ≡ true
  pub workable : All Workable met.opposite
  pub locked_below : (locked_price met.own).0 < largest
  pub told : All (ToldByPrice met.own) met.opposite
  -- an order that may rest has a limit
  pub priced : has o.word fok ≡ false → has o.word ioc ≡ false → 1 ≤ (limit_of o).0
  -- at a price that equals or passes an opposite order, the locked price alone tells whether a lock stands
  pub lock_told : (price : HalfCents) → 1 ≤ price.0 → All (λ (h : Resting). reaches (buying o) price h.price ≡ true
      → any (is_displayed_at price) met.own ≡ eqb price.0 (locked_price met.own).0) met.opposite

-- an order that takes nothing ends its walk at the start
abbrev pub untouched : Order → Walked
untouched o = record { left = o.shares; at = 0; skipped = 0 }

-- ── A walk up to a bound ──

abbrev pub bound_walk : Order → HalfCents → List Resting → Walked
bound_walk o bound s = walked_of (is_within (buying o) bound) o.shares.0 (parts s)

-- Post Only takes nothing, nor does an order whose walk gives less than the least that it must
abbrev pub is_idle : Order → HalfCents → List Resting → Bool
is_idle o bound s = has o.word post_only || ltb (o.shares.0 - (bound_walk o bound s).left.0) (least_of o)

unfoldable pub walk_for : Order → HalfCents → List Resting → Walked
walk_for o bound s = if is_idle o bound s then untouched o else bound_walk o bound s

unfoldable pub takings_for : Order → HalfCents → List Resting → List Taking
takings_for o bound s = if is_idle o bound s then [] else takings_of (is_within (buying o) bound) o.shares.0 (parts s)

-- ── The walk of an order on what it meets ──

abbrev pub walk_bound : Order → Met → HalfCents
walk_bound o met = bound_under (buying o) (locked_price met.own) (bound_of o met.away)

-- the takings of an order's walk: those of 01, of whoever gives
abbrev pub takings_by : Order → Met → List Taking
takings_by o met = takings_from (map part_of (placed_from 0 met.opposite)) (takings o met)

-- how a walk ended and its takings: these are the order's takings, the shares left its remainder, and no taking is from place `at` on
pub record Walks (o : Order) (met : Met) (w : Walked) (took : List Taking) : Type 0 where
  pub takes : took ≡ takings_by o met
  pub leaves : w.left.0 ≡ remainder o met
  pub reaches : w.at ≤ length met.opposite
  pub before : All (is_below w.at) took

-- ── What becomes of the order ──

-- `ending` of rules by the best of those that are left of the opposite side, and by the locked price: LawsLeft shows that they tell
unfoldable pub rests_unless_best_meets : Order → HalfCents → List Resting → HalfCents → Ending
rests_unless_best_meets o locked [] price = Rests price
rests_unless_best_meets o locked (best ∷ s) price =
    if has o.word post_only then (if meets_or_passes (buying o) price best then Cancels PostOnlyMeets else Rests price)
    else if reaches (buying o) price best.price && not (eqb price.0 locked.0) then Cancels WouldStillMeet
    else Rests price

abbrev pub unless_best_meets : Order → HalfCents → List Resting → Ending → Ending
unless_best_meets o locked left Filled = Filled
unless_best_meets o locked left (Rests price) = rests_unless_best_meets o locked left price
unless_best_meets o locked left (Cancels reason) = Cancels reason

unfoldable pub ending_by_best : ℕ → Order → Away → HalfCents → List Resting → Ending
ending_by_best left o away locked opposite =
    if eqb left 0 then Filled
    else if has o.word fok then Cancels FokKilled
    else if has o.word ioc then Cancels IocRemainder
    else unless_best_meets o locked opposite (seeks o away)
