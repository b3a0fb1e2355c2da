-- `side::table::Table::close_up`: what its loop keeps.
use mathlib.Core.Path.{◌≡◌}
use Rattle.side.proofs.shifts.LawsClosing.{Closing}
use Rattle.side.proofs.table.Table.close_up.Given as goal

abbrev pub invariant-loop-i : goal.invariant-loop-i
invariant-loop-i l =
    let before = l.initial.self-inside in
    (l.self-inside.held ≡ before.held) × (l.self-inside.rows ≡ before.rows)
    × Closing before.held before.index l.self-inside.index before.rows l.to l.i
