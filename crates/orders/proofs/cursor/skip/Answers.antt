-- `orders::cursor::skip` meets its contract. The loop's invariant: from the place reached, the same reserves wait as from the start. Assumes
-- nothing.
use mathlib.Core.Path.{◌≡◌, sym, ◌∙◌}
use lib.ListN.{get_or}
use native.Mathlib.Omega.{arith}
use Rattle.rules.specs.Book.{unused}
use Rattle.orders.proofs.cursor.LawsAhead.{waiting_skip}
use Rattle.orders.proofs.cursor.skip.Goals as goal

pub loop-rank-preserved : goal.loop-rank-preserved
loop-rank-preserved c =
    let a = c.args in
    let rank = c.loop-rank.rank in
    let none : (get_or a.t.now rank unused).reserve.0 ≡ 0 = rw (← c.at-o.ensures) (omega arith) in
    sym (waiting_skip a.t.now rank a.to (omega arith) (omega arith) none) ∙ c.loop-rank.invariant
