-- `side::place_of`: what its loops keep, and their measures.
use Prim.Native.Nat.{◌+◌, ◌-◌, ◌≤◌, ◌<◌}
use Rattle.side.specs.Table.{places_a_part}
use Rattle.side.proofs.place_of.Given as goal

abbrev pub invariant-loop-i : goal.invariant-loop-i
invariant-loop-i l = (l.i ≤ places_a_part) × (l.found < places_a_part)

abbrev pub decreases-loop-i : goal.decreases-loop-i
decreases-loop-i l = places_a_part - l.i

abbrev pub invariant-loop-part : goal.invariant-loop-part
invariant-loop-part l = l.part ≤ l.n + places_a_part

abbrev pub decreases-loop-part : goal.decreases-loop-part
decreases-loop-part l = l.n + places_a_part - l.part
