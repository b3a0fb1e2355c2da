-- `side::table::Table::load`: what its loop keeps.
use Prim.Native.Nat.{◌≤◌}
use mathlib.Core.Path.{◌≡◌}
use lib.ListN.{length}
use Rattle.rules.specs.Book.{places_a_side}
use Rattle.side.specs.Table.{row_of}
use Rattle.side.proofs.tables.LawsCopied.{copied}
use Rattle.side.proofs.table.Table.load.Given as goal

abbrev pub invariant-loop-i : goal.invariant-loop-i
invariant-loop-i l =
    (l.i ≤ l.used) × (length l.self-inside.rows ≡ places_a_side) × (l.self-inside.rows ≡ copied row_of l.places l.initial.self-inside.rows l.i)
