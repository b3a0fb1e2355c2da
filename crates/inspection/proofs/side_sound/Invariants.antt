-- `inspection::side_sound`: what its loop keeps.
use Rattle.std.proofs.Common.{◌≡◌, drop}
use Rattle.rules.specs.Book.{numbers}
use Rattle.inspection.proofs.LawsInspected.{orders_sound}
use Rattle.inspection.proofs.side_sound.Given as goal

-- what is left of the orders decides
abbrev pub invariant-loop-i : goal.invariant-loop-i
invariant-loop-i l =
    orders_sound l.buying l.last (numbers l.others) (drop l.i l.orders) ≡ orders_sound l.buying l.last (numbers l.others) l.orders
