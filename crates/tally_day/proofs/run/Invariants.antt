-- `tally_day::run`: what its loop keeps.
use Prim.Native.Nat.{◌≤◌}
use Rattle.command_lines.specs.Pieces.{part_kept}
use Rattle.tally_day.proofs.run.Given as goal

-- what waits in front is a part of a line
abbrev pub invariant-loop : goal.invariant-loop
invariant-loop g l = l.have ≤ part_kept
