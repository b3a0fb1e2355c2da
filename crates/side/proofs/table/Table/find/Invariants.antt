-- `side::table::Table::find`: what its loop keeps.
use Prim.Native.Nat.{◌+◌, ◌≤◌}
use mathlib.Core.Path.{◌≡◌}
use lib.ListN.{length, drop}
use Rattle.basics.specs.Lists.{first_where}
use Rattle.rules.specs.Commands.{is_number}
use Rattle.side.proofs.table.Table.find.Given as goal

abbrev pub invariant-loop-rank : goal.invariant-loop-rank
invariant-loop-rank l =
    (l.rank ≤ l.rank-end) × (l.rank-end ≡ length l.self)
    × (l.rank + first_where (is_number l.number) (drop l.rank l.self) ≡ first_where (is_number l.number) l.self)
