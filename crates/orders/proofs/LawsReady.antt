-- A sound book is ready for an order of the next command, on either side of the market. Assumes nothing.
use Prim.Native.Nat.{◌≤◌, ◌<◌}
use mathlib.Core.Bool.{Bool, true, false, ◌&&◌}
use mathlib.Core.Logic.{⊎_elim}
use mathlib.Core.List.{List}
use mathlib.Core.Path.{◌≡◌}
use lib.Dec.{leb}
use native.Mathlib.Omega.{arith}
use borrow.Author.Tests.{eqb-true}
use Rattle.basics.specs.Lists.{All, none, also}
use Rattle.basics.proofs.LawsChoice.{holds_or_not, and_left, and_right, by_choice}
use Rattle.basics.proofs.LawsLists.{all_alike}
use Rattle.kinds.specs.declared.HalfCents.{HalfCents}
use Rattle.kinds.specs.declared.Number.{Number}
use Rattle.kinds.specs.Kinds.{largest, lowest_price, highest_price, shares_in_range}
use Rattle.kinds.proofs.LawsRanges.{price_lowest, price_highest, resting_lowest, resting_highest}
use Rattle.orders.specs.Locks.{locked_price}
use Rattle.orders.specs.Matching.{Ready}
use Rattle.orders.specs.Walking.{met_with, Walkable}
use Rattle.orders.proofs.pricing.LawsLocks.{told_by_price, lock_told_all}
use Rattle.rules.specs.declared.Order.{Order}
use Rattle.rules.specs.declared.Resting.{Resting}
use Rattle.rules.specs.Book.{Book, stamp, sound}
use Rattle.rules.specs.Instructions.{market, has, lawful}
use Rattle.rules.specs.Refusals.{order_price_in_range, carried_in_range, order_in_range}
use Rattle.rules.specs.Settling.{own_side, opposite_side, first_move}
use Rattle.rules.specs.Working.{buying, Met}
use Rattle.side.specs.Shifts.{Countable}
use Rattle.rules.proofs.LawsFloors.{least_within, least_alone}
use Rattle.settling.proofs.LawsOlder.{older_all, locking_at_most}
use Rattle.soundness.proofs.LawsOrder.{neither_limited}
use Rattle.soundness.proofs.LawsSides.{InRange, Sides, sides_of}
use Rattle.soundness.proofs.LawsSound.{Sound, sound_is}

-- the limit of an order in range; a market order has none, and price 0
limit_at_most : (o : Order) → order_in_range o ≡ true → o.price.0 ≤ highest_price
limit_at_most o r =
    let fields = and_left (leb o.side 1 && shares_in_range o.shares && order_price_in_range o) (carried_in_range o.shares o.carried) r in
    let priced = and_right (leb o.side 1 && shares_in_range o.shares) (order_price_in_range o) fields in
    ⊎_elim
    (λ (t : has o.word market ≡ true). let z : o.price.0 ≡ 0 = eqb-true o.price.0 0 (rw t at priced) in omega arith)
    (λ (t : has o.word market ≡ false). price_highest o.price (rw t at priced))
    (holds_or_not (has o.word market))

-- .. and one that has a limit has one of a dollar at least
limit_at_least : (o : Order) → order_in_range o ≡ true → has o.word market ≡ false → lowest_price ≤ o.price.0
limit_at_least o r limited =
    let fields = and_left (leb o.side 1 && shares_in_range o.shares && order_price_in_range o) (carried_in_range o.shares o.carried) r in
    let priced = and_right (leb o.side 1 && shares_in_range o.shares) (order_price_in_range o) fields in
    price_lowest o.price (rw limited at priced)

-- the best price of a side in range, if it locks, or 0
locked_below_lem : {last : Number} {s : List Resting} → All (InRange last) s → (locked_price s).0 < largest
unfolding locked_price
locked_below_lem none = omega arith
locked_below_lem (also {x = h} r a) =
    by_choice (λ (p : HalfCents). p.0 < largest) h.displayed (λ d. omega (arith, resting_highest h.price r.priced)) (λ d. omega arith)

-- what an order meets on a side of the market
abbrev pub met_on : Bool → Book → Met
met_on buy b = met_with b.held.away (own_side buy b) (opposite_side buy b)

walkable : (o : Order) (last : Number) (buy : Bool) (b : Book) → Sound b → Sides buy last (own_side buy b) (opposite_side buy b)
    → lawful o.word ≡ true → order_in_range o ≡ true → buying o ≡ buy → Walkable o (met_on buy b)
walkable o last buy b facts sides is_lawful in_range q = record {
  limited = omega (arith, limit_at_most o in_range);
  locking_priced = rw q (omega (arith, locking_at_most buy b.held.away facts.bid facts.offer));
  ranked = rw q sides.opposite_ranked;
  workable =
      all_alike
      (λ h r. record {
        holds = r.holding;
        priced = omega (arith, resting_lowest h.price r.priced);
        below = omega (arith, resting_highest h.price r.priced);
        countable = omega (arith, r.at_most);
        remains = least_within h r.least;
        alone = least_alone h r.least r.floored;
      })
      sides.opposite_in_range;
  locked_below = locked_below_lem sides.own_in_range;
  told =
      told_by_price buy (own_side buy b) (opposite_side buy b) sides.own_ranked sides.is_apart
      (all_alike (λ h r. omega (arith, resting_lowest h.price r.priced)) sides.opposite_in_range);
  priced = λ kill cancel. omega (arith, limit_at_least o in_range (neither_limited o.word is_lawful cancel kill));
  lock_told = λ price priced. rw q (lock_told_all buy (own_side buy b) (opposite_side buy b) sides.own_ranked sides.is_apart price priced);
}

-- a sound book is ready for an order of the next command
pub ready : (o : Order) (n : Number) (buy : Bool) (b : Book) → sound b ≡ true → b.held.last.0 < n.0 → lawful o.word ≡ true → order_in_range o ≡ true
    → buying o ≡ buy → Ready o n (met_on buy b)
ready o n buy b s above is_lawful in_range q =
    let facts = sound_is b s in
    let sides = sides_of buy b facts in
    record {
      walkable = walkable o b.held.last buy b facts sides is_lawful in_range q;
      own_ranked = rw q sides.own_ranked;
      older = older_all (stamp n 0) above sides.own_in_range;
      opposite_older = older_all (stamp n first_move) above sides.opposite_in_range;
    }

-- the shares of its orders are numbers that four bytes hold
pub all_countable : (buy : Bool) (b : Book) → sound b ≡ true → All Countable (own_side buy b)
all_countable buy b s = all_alike (λ h r. omega (arith, r.at_most)) (sides_of buy b (sound_is b s)).own_in_range
