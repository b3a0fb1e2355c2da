-- `quotes::moves::move_side`: what its loop keeps, and its measure.
use Prim.Native.Nat.{◌+◌, ◌-◌}
use mathlib.Core.Path.{◌≡◌}
use lib.ListN.{length, take}
use Rattle.basics.specs.Lists.{All}
use Rattle.rules.specs.Settling.{told}
use Rattle.side.specs.Shifts.{Countable}
use Rattle.settling.proofs.LawsOneByOne.{Stay}
use Rattle.settling.proofs.LawsSettling.{IsSettling}
use Rattle.quotes.proofs.moves.LawsMoved.{quoted}
use Rattle.quotes.proofs.moves.move_side.Given as goal

abbrev pub invariant-loop-o : goal.invariant-loop-o
invariant-loop-o l =
    let fate = quoted l.buying l.locking in
    IsSettling fate (record { number = l.fn.number; buying = l.buying; next = l.first; length = 0 }) l.initial.t l.initial.out l.t l.m l.out
    × Stay fate (take l.at l.t) × All Countable l.t × (length l.out ≡ length l.initial.out)

abbrev pub decreases-loop-o : goal.decreases-loop-o
decreases-loop-o l = length (told (quoted l.buying l.locking) l.t) + (length l.initial.t - l.at)
