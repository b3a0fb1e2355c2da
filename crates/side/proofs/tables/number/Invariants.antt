-- `side::tables::number`: what its loop keeps, and its measure.
use Prim.Native.Nat.{ℕ, ◌-◌, ◌≤◌, ◌<◌}
use mathlib.Core.Path.{◌≡◌}
use lib.ListN.{length, get_or}
use Rattle.rules.specs.Book.{places_a_side}
use Rattle.side.specs.Table.{index_size}
use Rattle.side.specs.Tables.{numbered_at}
use Rattle.side.proofs.tables.number.Given as goal

abbrev pub invariant-loop-i : goal.invariant-loop-i
invariant-loop-i l = (l.i ≤ places_a_side) × (length l.x ≡ index_size) × ((k : ℕ) → k < l.i → get_or l.x k 0 ≡ numbered_at l.n k)

abbrev pub decreases-loop-i : goal.decreases-loop-i
decreases-loop-i l = places_a_side - l.i
