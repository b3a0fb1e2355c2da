-- `orders::reports::report_cancelled`: what its loop keeps, the lines of the orders passed stand at the front of the output.
use Prim.Native.Nat.{◌*◌}
use mathlib.Core.List.{map}
use mathlib.Core.Path.{◌≡◌}
use lib.ListN.{length, take}
use Rattle.basics.specs.Bytes.{onto}
use Rattle.rules.specs.EventLines.{event_lines}
use Rattle.orders.specs.Reports.{cancelled_for}
use Rattle.orders.proofs.reports.report_cancelled.Given as goal

abbrev pub invariant-loop-rank : goal.invariant-loop-rank
invariant-loop-rank l =
    (l.len ≡ 21 * l.rank) × (length l.out ≡ length l.initial.out)
    × (l.out ≡ onto (event_lines (map (cancelled_for l.reason) (take l.rank l.t))) l.initial.out)
