-- `orders::reports::report`: what its loop keeps, the lines of the takings passed stand at the front of the output.
use Prim.Native.Nat.{◌*◌}
use mathlib.Core.List.{map}
use mathlib.Core.Path.{◌≡◌}
use lib.ListN.{length, take}
use Rattle.basics.specs.Bytes.{onto}
use Rattle.rules.specs.EventLines.{event_lines}
use Rattle.orders.specs.Locks.{executes_at}
use Rattle.orders.specs.Reports.{execution_of}
use Rattle.orders.proofs.reports.report.Given as goal

abbrev pub invariant-loop-taking : goal.invariant-loop-taking
invariant-loop-taking l =
    (l.len ≡ 35 * l.taking-index) × (length l.out ≡ length l.initial.out)
    × (l.out ≡ onto (event_lines (map (execution_of l.number (executes_at l.buying l.locked) l.t) (take l.taking-index l.took))) l.initial.out)
