-- `day::replay::feed`: what its loop keeps, and its measure.
use Prim.Native.Nat.{◌-◌}
use lib.ListN.{length}
use Rattle.day.proofs.replay.LawsFeed.{Feeding}
use Rattle.day.proofs.replay.feed.Given as goal

abbrev pub invariant-loop-out : goal.invariant-loop-out
invariant-loop-out l = Feeding l.input l.initial.out l.initial.book l.book l.out l.at l.length

abbrev pub decreases-loop-out : goal.decreases-loop-out
decreases-loop-out l = length l.input - l.at
