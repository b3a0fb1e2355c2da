-- `side::table::Table::close_up` meets its contract. The loop's invariant is `Closing` of LawsClosing. Assumes nothing.
use mathlib.Core.Path.{◌≡◌, refl}
use lib.ListN.{get_or}
use native.Mathlib.Omega.{arith}
use Rattle.side.specs.Shifts.{keepers}
use Rattle.side.specs.Table.{order_of, free}
use Rattle.side.proofs.rows.LawsShown.{Shows, length_is}
use Rattle.side.proofs.shifts.LawsClosing.{closing_start, closing_on, closing_end}
use Rattle.side.proofs.table.Table.close_up.Goals as goal
use Rattle.side.proofs.table.Table.close_up.Goals.{After-loop-i}

pub loop-i-init : goal.loop-i-init
loop-i-init c =
    let t = c.self.inside in (
      refl,
      refl,
      closing_start t.held t.index t.rows c.args.reached c.self.invariant (omega (arith, c.requires.within, length_is t c.self.view_is))
          (rw (← c.self.view_is) at c.requires.others),
    )

pub loop-i-preserved : goal.loop-i-preserved
loop-i-preserved c =
    let l = c.loop-i in
    let i = l.invariant in
    let t = c.self.inside in
    let o = order_of (get_or l.self-inside.rows c.from.result free) in
    let is : o ≡ order_of (get_or t.rows (get_or l.self-inside.index l.i 0) free) = rw (i.1, c.from.ensures) in
    (i.0, i.1, rw (c.from-to.ensures, c.has_shares.ensures) (closing_on c.self.invariant i.2 (omega arith) o is))

shown : (c : After-loop-i) → Shows (keepers c.args.self.now) c.loop-i.to c.loop-i.self-inside.index c.loop-i.self-inside.rows
shown c =
    let l = c.loop-i in
    let i = l.invariant in
    rw (i.1, ← c.self.view_is) (closing_end c.self.invariant i.2 (omega (arith, i.2.inside)))

pub invariant_of-self : goal.invariant_of-self
invariant_of-self c = (shown (goal.at.invariant_of-self c).After-loop-i).holds

pub returns : goal.returns
returns c = (shown (goal.at.returns c).After-loop-i).is
