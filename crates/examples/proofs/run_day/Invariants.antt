-- `examples::run_day`: what its loop keeps.
use Prim.Native.Nat.{◌≤◌}
use lib.ListN.{length}
use Rattle.examples.proofs.run_day.Given as goal

abbrev pub invariant-loop : goal.invariant-loop
invariant-loop g l = (l.at ≤ length l.day) × (l.have ≤ length l.input)
