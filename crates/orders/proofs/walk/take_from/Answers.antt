-- `orders::walk::take_from` meets its contract. Assumes nothing.
use mathlib.Core.List.{append-nil}
use mathlib.Core.Path.{◌≡◌, ap}
use Rattle.kinds.specs.declared.Shares.{Shares}
use Rattle.orders.specs.Walk.{part_gives}
use Rattle.orders.proofs.walk.LawsTaken.{taking_none, taking_one}
use Rattle.orders.proofs.walk.take_from.Goals as goal
use Rattle.orders.proofs.walk.take_from.Goals.{then-gives-ne0, else-gives-ne0}

pub returns-clause-took_after : goal.returns-clause-took_after
returns-clause-took_after c =
    let a = c.args in
    let gives : c.given_by-gives.result.0 ≡ part_gives a.left.0 a.p = ap (λ (n : Shares). n.0) c.given_by-gives.ensures in
    elim c.if-gives-ne0.branch [
      | then-gives-ne0 w ↦ rw (w.took-is, ← gives, taking_one a.p c.given_by-gives.result.0 w.if-gives-ne0.true) w.push.ensures
      | else-gives-ne0 w ↦ rw (w.took-is, ← gives, w.if-gives-ne0.false, taking_none a.p, append-nil a.took.now)
    ]
