-- `examples::day_after`: what its loop keeps, and its measure.
use Prim.Native.Nat.{◌-◌, ◌≤◌}
use lib.ListN.{length}
use Rattle.examples.proofs.day_after.Given as goal

abbrev pub invariant-loop-i : goal.invariant-loop-i
invariant-loop-i l = (l.from ≤ l.i) × (l.i ≤ length l.days)

abbrev pub decreases-loop-i : goal.decreases-loop-i
decreases-loop-i l = length l.days - l.i
