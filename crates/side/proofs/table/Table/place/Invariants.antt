-- `side::table::Table::place`: what its loops keep, and their measures.
use Rattle.side.proofs.LawsHalves.{passed, Within}
use Rattle.side.proofs.table.Table.place.Given as goal

abbrev pub invariant-loop-range : goal.invariant-loop-range
invariant-loop-range l = Within l.n (passed l.self l.buying l.mine) l.low l.range

abbrev pub decreases-loop-range : goal.decreases-loop-range
decreases-loop-range l = l.range

abbrev pub invariant-loop-range-2 : goal.invariant-loop-range-2
invariant-loop-range-2 l = Within l.n (passed l.self l.buying l.mine) l.low l.range

abbrev pub decreases-loop-range-2 : goal.decreases-loop-range-2
decreases-loop-range-2 l = l.range
