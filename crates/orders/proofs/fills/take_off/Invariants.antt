-- `orders::fills::take_off`: what its loop keeps, the takings passed are off the orders.
use mathlib.Core.Path.{◌≡◌}
use lib.ListN.{take}
use Rattle.orders.specs.Fills.{lessened}
use Rattle.orders.proofs.fills.take_off.Given as goal

abbrev pub invariant-loop-taking : goal.invariant-loop-taking
invariant-loop-taking l = l.t ≡ lessened 0 (take l.taking-index l.took) l.initial.t
