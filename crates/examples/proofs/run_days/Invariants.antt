-- `examples::run_days`: what its loop keeps, and its measure.
use Prim.Native.Nat.{◌-◌, ◌≤◌}
use lib.ListN.{length}
use Rattle.examples.proofs.run_days.Given as goal

abbrev pub invariant-loop-at : goal.invariant-loop-at
invariant-loop-at g l = l.at ≤ length l.days

abbrev pub decreases-loop-at : goal.decreases-loop-at
decreases-loop-at g l = length l.days - l.at
