-- `orders::fills::take_off` meets its contract: the takings are taken off the orders, then those leave that have nothing left. Assumes nothing.
use mathlib.Core.List.{List}
use mathlib.Core.Path.{◌≡◌, sym, ap, ◌∙◌}
use lib.ListN.{length, get_or, take}
use lib.Seq.{take_all}
use native.Mathlib.Omega.{arith}
use Rattle.basics.proofs.LawsLists.{all_alike, all_at}
use Rattle.orders.specs.declared.takings.Taking.{Taking}
use Rattle.orders.specs.Fills.{lessened}
use Rattle.orders.proofs.fills.LawsTakenOff.{length_lessened, lessened_none, lessened_next, keep_behind}
use Rattle.orders.proofs.walk.LawsTaken.{no_taking}
use Rattle.orders.proofs.fills.take_off.Goals as goal
use Rattle.orders.proofs.fills.take_off.Goals.{After-loop-taking}

pub loop-taking-init : goal.loop-taking-init
loop-taking-init c = sym (lessened_none 0 c.requires.remain)

pub reduce-requires : goal.reduce-requires
reduce-requires c =
    let a = c.args in
    let i = c.loop-taking.taking-index in
    let items = c.as_slice-taking-items.ensures in
    let fits : length c.loop-taking.t ≡ length a.t.now = ap length c.loop-taking.invariant ∙ length_lessened 0 (take i a.took.now) a.t.now in
    let here = all_at no_taking i c.requires.below (omega (arith, ap length items)) in
    rw items (omega (arith, here, fits))

pub loop-taking-preserved : goal.loop-taking-preserved
loop-taking-preserved c =
    let a = c.args in
    let i = c.loop-taking.taking-index in
    let items = c.as_slice-taking-items.ensures in
    let taking = get_or c.as_slice-taking-items.result.now i no_taking in
    let is : taking ≡ get_or a.took.now i no_taking = ap (λ (ks : List Taking). get_or ks i no_taking) items in
    c.reduce.ensures ∙ rw c.loop-taking.invariant (lessened_next a.took.now i taking a.t.now (omega (arith, ap length items)) is)

-- all the takings are off
all_off : (c : After-loop-taking) → c.loop-taking.t ≡ lessened 0 c.args.took.now c.args.t.now
all_off c =
    let a = c.args in
    let i = c.loop-taking.taking-index in
    c.loop-taking.invariant
    ∙ ap (λ (ks : List Taking). lessened 0 ks a.t.now) (take_all i a.took.now (omega (arith, ap length c.as_slice-taking-items.ensures)))

pub close_up-requires : goal.close_up-requires
close_up-requires c =
    let a = c.args in
    let p = c.requires in
    let off = all_off (goal.at.close_up-requires c).After-loop-taking in
    record {
      within = omega (arith, ap length off, length_lessened 0 a.took.now a.t.now);
      others = rw off (keep_behind 0 a.at a.took.now p.remain (all_alike (λ k l. omega (arith, l)) p.below) p.keep);
    }
