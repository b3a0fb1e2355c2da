-- `orders::refills::refill`: what its loop keeps, and its measure. What is still to be done to the side, with what was done, is what the
-- refills do to it, and behind the orders that the walk reached nothing is due.
use Prim.Native.Nat.{◌+◌, ◌-◌}
use mathlib.Core.Path.{◌≡◌}
use lib.ListN.{length, take, drop}
use Rattle.basics.specs.Lists.{All}
use Rattle.rules.specs.Settling.{told}
use Rattle.rules.specs.Working.{refill_fate}
use Rattle.settling.proofs.LawsOneByOne.{Stay}
use Rattle.settling.proofs.LawsSettling.{IsSettling}
use Rattle.orders.specs.Refills.{Refillable}
use Rattle.orders.proofs.refills.refill.Given as goal

abbrev pub invariant-loop-at : goal.invariant-loop-at
invariant-loop-at l =
    IsSettling refill_fate l.initial.m l.initial.t l.initial.out l.t l.m l.out
    × Stay refill_fate (take l.at l.t) × Stay refill_fate (drop l.reached l.t) × All Refillable l.t
    × (length l.t ≡ length l.initial.t) × (length l.out ≡ length l.initial.out)

abbrev pub decreases-loop-at : goal.decreases-loop-at
decreases-loop-at l = length (told refill_fate l.t) + (l.reached - l.at)
