-- `orders::walk::walk`: what its loop keeps, and its measure.
use lib.ListN.{length}
use Rattle.orders.specs.Cursor.{ahead}
use Rattle.orders.specs.Walk.{is_within}
use Rattle.orders.proofs.walk.LawsWalk.{Underway}
use Rattle.orders.proofs.walk.walk.Given as goal

abbrev pub invariant-loop-left : goal.invariant-loop-left
invariant-loop-left l = Underway (is_within l.buying l.bound) l.initial.left.0 l.t l.took l.c l.left.0 l.skipped

abbrev pub decreases-loop-left : goal.decreases-loop-left
decreases-loop-left l = length (ahead l.t l.c)
