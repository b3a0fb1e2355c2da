-- `orders::reports::report_cancelled` meets its contract. Assumes nothing.
use Prim.Native.Nat.{◌-◌}
use mathlib.Core.Path.{◌≡◌, refl, ◌∙◌}
use lib.ListN.{length, get_or, take, drop}
use native.Mathlib.Omega.{arith}
use borrow.Author.Rules.{rules}
use Rattle.basics.specs.Bytes.{onto}
use Rattle.basics.proofs.LawsLists.{all_at}
use Rattle.kinds.specs.Kinds.{shares}
use Rattle.rules.specs.Book.{unused, shares_left}
use Rattle.rules.specs.EventLines.{event_line, event_lines}
use Rattle.rules.proofs.LawsEvents.{cancelled_length}
use Rattle.orders.specs.Reports.{cancelled_for}
use Rattle.orders.proofs.reports.LawsReports.{lines_turn}
use Rattle.orders.proofs.reports.report_cancelled.Goals as goal

pub loop-rank-init : goal.loop-rank-init
unfolding onto event_lines
loop-rank-init c = (refl, refl, refl)

pub shares_left-left-requires : goal.shares_left-left-requires
shares_left-left-requires c = rw c.at-o.ensures (all_at unused c.loop-rank.rank c.requires.countable (omega arith))

pub loop-rank-preserved : goal.loop-rank-preserved
loop-rank-preserved c =
    let a = c.args in
    let l = c.loop-rank in
    let w = c.write_cancelled-len in
    let p : w.new.out ≡ onto (event_line (cancelled_for a.reason (get_or a.t.now l.rank unused))) (take (length l.out - l.len) (drop l.len l.out)) =
    w.ensures.out_after ∙ rw (c.shares_left-left.ensures, c.at-o.ensures) in (
      omega (arith, w.ensures.value),
      search rules,
      lines_turn (cancelled_for a.reason) 21 (λ h. cancelled_length h.number (shares (shares_left h)) a.reason)
          unused a.t.now l.rank (omega arith) l.len l.out a.out.now w.new.out l.invariant.0 l.invariant.2 p,
    )
