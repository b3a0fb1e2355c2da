-- `orders::reports::report` meets its contract. Assumes nothing.
use Prim.Native.Nat.{◌-◌}
use mathlib.Core.List.{List}
use mathlib.Core.Path.{◌≡◌, refl, ap, ◌∙◌}
use lib.ListN.{length, get_or, take, drop}
use native.Mathlib.Omega.{arith}
use borrow.Author.Rules.{rules}
use Rattle.basics.specs.Bytes.{onto}
use Rattle.basics.proofs.LawsLists.{all_at}
use Rattle.rules.specs.Book.{unused}
use Rattle.rules.specs.EventLines.{event_line, event_lines}
use Rattle.rules.proofs.LawsEvents.{executed_length}
use Rattle.orders.specs.declared.takings.Taking.{Taking}
use Rattle.orders.specs.Locks.{executes_at}
use Rattle.orders.specs.Reports.{execution_of}
use Rattle.orders.proofs.walk.LawsTaken.{no_taking}
use Rattle.orders.proofs.reports.LawsReports.{lines_turn}
use Rattle.orders.proofs.reports.report.Goals as goal

pub loop-taking-init : goal.loop-taking-init
unfolding onto event_lines
loop-taking-init c = (refl, refl, refl)

pub at-resting-requires : goal.at-resting-requires
at-resting-requires c =
    let items = c.as_slice-taking-items.ensures in
    rw items (all_at no_taking c.loop-taking.taking-index c.requires.below (omega (arith, ap length items)))

pub loop-taking-preserved : goal.loop-taking-preserved
loop-taking-preserved c =
    let a = c.args in
    let l = c.loop-taking in
    let w = c.write_executed-len in
    let s = a.t.now in
    let items = c.as_slice-taking-items.ensures in
    let k = get_or a.took.now l.taking-index no_taking in
    let is : get_or c.as_slice-taking-items.result.now l.taking-index no_taking ≡ k = ap (λ (ks : List Taking). get_or ks l.taking-index no_taking) items in
    let here = executes_at a.buying a.locked in
    let o : c.at-resting.result ≡ get_or s k.place unused = c.at-resting.ensures ∙ rw is in
    let q : c.execution_price-price.result ≡ here k.price = c.execution_price-price.ensures ∙ ap (λ (t : Taking). here t.price) is in
    let p : w.new.out ≡ onto (event_line (execution_of a.number here s k)) (take (length l.out - l.len) (drop l.len l.out)) =
    w.ensures.out_after ∙ rw (is, o, q) in (
      omega (arith, w.ensures.value),
      search rules,
      lines_turn (execution_of a.number here s) 35 (λ k. executed_length a.number (get_or s k.place unused).number (here k.price) k.shares)
          no_taking a.took.now l.taking-index (omega (arith, ap length items)) l.len l.out a.out.now w.new.out l.invariant.0 l.invariant.2 p,
    )
