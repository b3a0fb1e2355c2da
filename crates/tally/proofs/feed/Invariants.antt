-- `tally::feed`: what its loop keeps, and its measure.
use Prim.Native.Nat.{◌-◌}
use lib.ListN.{length}
use Rattle.tally.proofs.LawsFed.{Feeding}
use Rattle.tally.proofs.feed.Given as goal

abbrev pub invariant-loop-rest : goal.invariant-loop-rest
invariant-loop-rest l = Feeding l.number l.initial.tally l.input l.tally l.at

abbrev pub decreases-loop-rest : goal.decreases-loop-rest
decreases-loop-rest l = length l.input - l.at
