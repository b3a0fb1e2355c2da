-- `orders::refills::refill` meets its contract. Assumes nothing.
use Prim.Native.Nat.{ℕ, ◌+◌, ◌≤◌, ◌<◌}
use mathlib.Core.List.{List}
use mathlib.Core.Path.{◌≡◌, refl, sym, ap, subst, ◌∙◌}
use lib.ListN.{length, get_or, take}
use lib.Seq.{take-suc}
use native.Mathlib.Numerals.{add-one}
use native.Mathlib.Omega.{arith}
use Rattle.basics.specs.Lists.{All, none, also}
use Rattle.basics.proofs.LawsLists.{all_alike, all_at, all_both}
use Rattle.rules.specs.declared.Fate.{Fate}
use Rattle.rules.specs.declared.Fate.TheVariants.{Stays, IsSet}
use Rattle.rules.specs.declared.Resting.{Resting}
use Rattle.rules.specs.Book.{unused, stamp}
use Rattle.rules.specs.EventLines.{event_lines}
use Rattle.rules.specs.Settling.{first_move, refilled, stamped_as, told_by, told}
use Rattle.rules.specs.Working.{refill_fate}
use Rattle.side.specs.Looking.{Older}
use Rattle.settling.specs.declared.Settling.{Settling}
use Rattle.settling.specs.OneByOne.{set_below}
use Rattle.settling.proofs.LawsOneByOne.{Stay, SetStays}
use Rattle.settling.proofs.LawsSettling.{IsSettling, settling_start, room_now, ranked_others, older_others, next_fits, length_set, settle_leaves, settled_all}
use Rattle.orders.specs.Refills.{Refillable}
use Rattle.orders.proofs.refills.LawsRefills.{refill_due, refill_stays, refilled_stays, refilled_again, set_dropped, set_all, taken_fewer, all_parted}
use Rattle.orders.proofs.refills.refill.Goals as goal
use Rattle.orders.proofs.refills.refill.Goals.{In-loop-at, After-refill_order, After-settle-m}

-- what is known of an order that shows nothing and is set anew
record Due (m : Settling) (o made : Resting) : Type 0 where
  pub fate : IsSet made ≡ refill_fate o
  pub fillable : Refillable o
  pub stays : SetStays refill_fate (stamp m.number m.next) (refill_fate o)
  pub below : set_below (refill_fate o)

due : (m : Settling) (at : ℕ) (s : List Resting) → All (Older (stamp m.number m.next)) s → All Refillable s → at < length s
    → (o made : Resting) → o ≡ get_or s at unused → o.shares.0 ≡ 0 → made ≡ refilled o → Due m o made
due m at s older fillables l o made is gone set =
    let fillable : Refillable o = subst Refillable (sym is) (all_at unused at fillables l) in
    let old : Older (stamp m.number m.next) o = subst (Older (stamp m.number m.next)) (sym is) (all_at unused at older l) in
    record {
      fate = ap IsSet set ∙ sym (refill_due o gone);
      fillable = fillable;
      stays = rw (refill_due o gone) (refilled_stays o (stamp m.number m.next) fillable.is_left);
      below = rw (refill_due o gone) old.priced;
    }

-- there is an order at the rank
below : (c : In-loop-at) → c.loop-at.at < length c.loop-at.t
below c = omega (arith, c.loop-at-test.true, c.requires.may.within, c.loop-at.invariant.4)

is_due : (c : After-refill_order) → Due c.loop-at.m c.at-o.result c.refill_order.result
is_due c =
    let l = c.loop-at in
    let i = l.invariant in
    let at : l.at < length l.t = omega (arith, c.loop-at-test.true, c.requires.may.within, i.4) in
    due l.m l.at l.t i.0.older i.3 at c.at-o.result c.refill_order.result c.at-o.ensures c.if-is_shown.false c.refill_order.ensures

-- what is left once it is set anew
leaves : (c : After-settle-m) → (
    IsSettling refill_fate (record { number = c.args.number; buying = c.args.buying; next = first_move; length = 0 }) c.args.t.now c.args.out.now
    c.settle-m.new.t c.settle-m.result c.settle-m.new.out
    × Stay refill_fate (take c.loop-at.at c.settle-m.new.t) × (length (told refill_fate c.settle-m.new.t) < length (told refill_fate c.loop-at.t)))
leaves c =
    let l = c.loop-at in
    let i = l.invariant in
    let at : l.at < length l.t = omega (arith, c.loop-at-test.true, c.requires.may.within, i.4) in
    let d = due l.m l.at l.t i.0.older i.3 at c.at-o.result c.refill_order.result c.at-o.ensures c.if-is_shown.false c.refill_order.ensures in
    let e = c.settle-m.ensures in
    let left =
    settle_leaves i.0 i.1 at c.at-o.result c.at-o.ensures (IsSet c.refill_order.result) d.fate d.stays d.below c.settle-m.result c.settle-m.new.t
    c.settle-m.new.out e.value e.side_after e.out_after in
    (left.0, left.1, omega (arith, left.2))

pub loop-at-init : goal.loop-at-init
loop-at-init c =
    let a = c.args in
    let p = c.requires.may in
    let first : Settling = record { number = a.number; buying = a.buying; next = first_move; length = 0 } in
    (settling_start refill_fate first a.t.now a.out.now refl p.ranked p.older, none, all_alike (λ h l. refill_stays h l) p.shown, p.left, refl, refl)

-- one that shows something is passed
pub loop-at-preserved-then-is_shown : goal.loop-at-preserved-then-is_shown
loop-at-preserved-then-is_shown c =
    let l = c.loop-at in
    let i = l.invariant in
    let at = below (goal.at.loop-at-preserved-then-is_shown c).In-loop-at in
    let passed = also (refill_stays c.at-o.result (omega (arith, c.if-is_shown.true))) none in
    (i.0, rw (add-one l.at, take-suc l.t l.at unused at, ← c.at-o.ensures) (all_both i.1 passed), i.2, i.3, i.4, i.5)

pub settle-m-requires : goal.settle-m-requires
settle-m-requires c =
    let l = c.loop-at in
    let i = l.invariant in
    let o = c.at-o.result in
    let at = below (goal.at.settle-m-requires c).In-loop-at in
    let d = is_due (goal.at.settle-m-requires c).After-refill_order in
    let room = room_now i.0 at o c.at-o.ensures i.1 d.stays in
    record {
      there = at;
      ranked = ranked_others i.0 at o c.at-o.ensures;
      older = older_others i.0 at o c.at-o.ensures;
      places = omega (arith, next_fits i.0, c.requires.may.fits);
      room = subst (λ (f : Fate). l.m.length + length (event_lines (told_by f o)) ≤ length l.out) (sym d.fate) (omega (arith, room, c.requires.room, i.5));
      countable = d.fillable.countable;
      priced = subst set_below (sym d.fate) d.below;
    }

pub loop-at-smaller : goal.loop-at-smaller
loop-at-smaller c = omega (arith, (leaves (goal.at.loop-at-smaller c).After-settle-m).2)

pub loop-at-preserved : goal.loop-at-preserved
loop-at-preserved c =
    let l = c.loop-at in
    let i = l.invariant in
    let m = l.m in
    let o = c.at-o.result in
    let made = c.refill_order.result in
    let at = below (goal.at.loop-at-preserved c).In-loop-at in
    let d = is_due (goal.at.loop-at-preserved c).After-refill_order in
    let left = leaves (goal.at.loop-at-preserved c).After-settle-m in
    let anew = stamp m.number m.next in
    let stay : refill_fate (stamped_as anew made) ≡ Stays = rw c.refill_order.ensures (refilled_stays o anew d.fillable.is_left) in
    let again : Refillable (stamped_as anew made) = rw c.refill_order.ensures (refilled_again o anew d.fillable) in
    let is = c.settle-m.ensures.side_after in (
      left.0,
      left.1,
      rw is (set_dropped m.buying (stamped_as anew made) stay l.at c.args.reached l.t at c.loop-at-test.true i.2),
      rw is (set_all m.buying (stamped_as anew made) again l.at l.t i.3),
      ap length is ∙ length_set m.number m.next m.buying made l.at l.t at ∙ i.4,
      omega (arith, i.5),
    )

pub returns : goal.returns
returns c =
    let l = c.loop-at in
    let i = l.invariant in
    let told = settled_all i.0 (all_parted c.args.reached l.t (taken_fewer c.args.reached l.at l.t c.loop-at-test.false i.1) i.2) in
    record { value = ap (λ (m : Settling). m.length) told.0; settles = told.1; out_after = told.2 }
