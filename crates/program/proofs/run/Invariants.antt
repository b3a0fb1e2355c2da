-- `program::run`: what its loop keeps.
use Prim.Native.Nat.{◌≤◌}
use lib.ListN.{length}
use Rattle.program.proofs.run.Given as goal

abbrev pub invariant-loop : goal.invariant-loop
invariant-loop g l = l.have ≤ length l.input
