-- `side::rows::slot_at` meets its contract: the best order's row is named last. Assumes nothing.
use Prim.Native.Nat.{◌-◌, ◌<◌}
use mathlib.Core.Path.{◌≡◌, sym, ◌∙◌}
use lib.ListN.{get_or}
use native.Mathlib.Omega.{arith}
use Rattle.rules.specs.Book.{places_a_side}
use Rattle.side.proofs.rows.LawsIndex.{ranked_at, names_below}
use Rattle.side.proofs.rows.slot_at.Goals as goal

pub returns : goal.returns
returns c =
    let a = c.args in
    let e : c.from.result ≡ get_or a.x.now (a.n - 1 - a.i) 0 = c.from.ensures in
    let below : get_or a.x.now (a.n - 1 - a.i) 0 < places_a_side = names_below a.x.now c.requires.0 (a.n - 1 - a.i) (omega arith) in
    (e ∙ sym (ranked_at a.n a.x.now a.i c.requires.1), rw e below)
