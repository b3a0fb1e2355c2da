-- `side::table::Table::save`: what its loop keeps.
use Prim.Native.Nat.{◌≤◌}
use mathlib.Core.Path.{◌≡◌}
use lib.ListN.{length, replicate}
use Rattle.rules.specs.declared.Resting.{Resting}
use Rattle.rules.specs.Book.{places_a_side, unused}
use Rattle.side.proofs.tables.LawsCopied.{copied}
use Rattle.side.proofs.table.Table.save.Given as goal

abbrev pub invariant-loop-i : goal.invariant-loop-i
invariant-loop-i l =
    (l.i ≤ l.i-end) × (l.i-end ≡ length l.self) × (l.i-end ≤ places_a_side)
    × (l.places ≡ copied (λ (o : Resting). o) l.self (replicate places_a_side unused) l.i)
