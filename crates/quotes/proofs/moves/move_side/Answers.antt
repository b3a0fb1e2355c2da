-- `quotes::moves::move_side` meets its contract. The loop's invariant: what is still to be done to the side, with what was done, is what the
-- quote does to it (`IsSettling` of `LawsSettling`). Assumes nothing.
use Prim.Native.Nat.{◌≤◌, ◌<◌}
use mathlib.Core.Bool.{true, false}
use mathlib.Core.Path.{◌≡◌, refl, sym, ap, subst, ◌∙◌}
use lib.ListN.{length, get_or, take}
use lib.Seq.{take-suc}
use native.Mathlib.Numerals.{add-one}
use native.Mathlib.Omega.{arith}
use Rattle.basics.specs.Lists.{All, none, also}
use Rattle.basics.proofs.LawsLists.{all_at, all_both}
use Rattle.kinds.specs.declared.HalfCents.{HalfCents}
use Rattle.rules.specs.declared.Fate.{Fate}
use Rattle.rules.specs.declared.Resting.{Resting}
use Rattle.rules.specs.Book.{unused, stamp}
use Rattle.rules.specs.EventLines.{event_lines}
use Rattle.rules.specs.Settling.{stamped_as, told_by, told}
use Rattle.rules.specs.Working.{locking_price}
use Rattle.rules.proofs.LawsCommands.{IfSet}
use Rattle.side.specs.Shifts.{Countable}
use Rattle.settling.specs.OneByOne.{set_below}
use Rattle.settling.specs.declared.Settling.{Settling}
use Rattle.settling.proofs.LawsOneByOne.{Stay}
use Rattle.settling.proofs.LawsSettling.{IsSettling, IsSettled, settling_start, room_now, ranked_others, older_others, next_fits, settle_leaves, settled_at_all, settled_all}
use Rattle.quotes.specs.Moves.{goes_on}
use Rattle.quotes.proofs.moves.LawsMoved.{quoted, displayed_stays, set_stays, set_countable, quoted_below, goes, stops, goes_below, goes_fate, stops_all, told_once}
use Rattle.quotes.proofs.moves.move_side.Goals as goal
use Rattle.quotes.proofs.moves.move_side.Goals.{In-Some, After-fate_beyond, After-settle-m, In_default}

-- the order that the loop is given stands at the rank
module _ (c : In-Some) where
  given : (goes_on c.args.buying c.locking_price-locking.result c.loop-o.at c.loop-o.t ≡ true) × (c.in-Some.o ≡ get_or c.loop-o.t c.loop-o.at unused)
  given = goes c.args.buying c.locking_price-locking.result c.loop-o.at c.loop-o.t c.in-Some.o (sym c.beyond_at.ensures ∙ c.in-Some.is)

  below : c.loop-o.at < length c.loop-o.t
  below = goes_below c.args.buying c.locking_price-locking.result c.loop-o.at c.loop-o.t given.0

  counted : Countable c.in-Some.o
  counted = subst Countable (sym given.1) (all_at unused c.loop-o.at c.loop-o.invariant.2 below)

  priced : set_below (quoted c.args.buying c.locking_price-locking.result c.in-Some.o)
  priced =
      let q : c.locking_price-locking.result ≡ locking_price c.args.buying c.args.away = c.locking_price-locking.ensures in
      quoted_below c.args.buying c.locking_price-locking.result (omega (arith, c.requires.priced, ap (λ (p : HalfCents). p.0) q)) c.in-Some.o

-- the fate of one that is not displayed is that of a moved quote
fate_is : (c : After-fate_beyond) → (goes_on c.args.buying c.locking_price-locking.result c.loop-o.at c.loop-o.t ≡ true)
    × (c.in-Some.o ≡ get_or c.loop-o.t c.loop-o.at unused) → c.fate_beyond.result ≡ quoted c.args.buying c.locking_price-locking.result c.in-Some.o
fate_is c there =
    let gives = goes_fate c.args.buying c.locking_price-locking.result c.loop-o.at c.loop-o.t there.0 c.in-Some.o there.1 c.if-o.false in
    c.fate_beyond.ensures ∙ sym gives

-- what it leaves
abbrev Left : After-settle-m → Type 0
Left c =
    let a = c.args in
    let new = c.settle-m.new in
    let fate = quoted a.buying c.locking_price-locking.result in
    IsSettling fate (record { number = a.number; buying = a.buying; next = a.first; length = 0 }) a.t.now a.out.now new.t c.settle-m.result new.out
    × Stay fate (take c.loop-o.at new.t) × (length (told fate new.t) < length (told fate c.loop-o.t)) × All Countable new.t

leaves : (c : After-settle-m) → c.loop-o.at < length c.loop-o.t → c.in-Some.o ≡ get_or c.loop-o.t c.loop-o.at unused → Countable c.in-Some.o
    → set_below (quoted c.args.buying c.locking_price-locking.result c.in-Some.o)
    → c.fate_beyond.result ≡ quoted c.args.buying c.locking_price-locking.result c.in-Some.o → Left c
leaves c below is counted priced fate =
    let a = c.args in
    let l = c.loop-o in
    let o = c.in-Some.o in
    let locking = c.locking_price-locking.result in
    let f = c.fate_beyond.result in
    let w = c.settle-m in
    let left =
    settle_leaves l.invariant.0 l.invariant.1 below o is f fate (set_stays a.buying locking o _) priced
    w.result w.new.t w.new.out w.ensures.value w.ensures.side_after w.ensures.out_after in
    let once = ap (λ (g : Fate). length (told_by g o)) c.fate_beyond.ensures ∙ told_once locking o in
    let next = stamp l.m.number l.m.next in
    let anew = subst (IfSet (λ (new : Resting). Countable (stamped_as next new))) (sym fate) (set_countable a.buying locking o next counted) in
    (left.0, left.1, omega (arith, left.2, once), rw w.ensures.side_after (settled_at_all l.m.number l.m.next l.m.buying f anew l.at l.invariant.2))

pub loop-o-init : goal.loop-o-init
loop-o-init c =
    let fate = quoted c.args.buying c.locking_price-locking.result in
    (settling_start fate _ c.args.t.now c.args.out.now refl c.requires.ranked c.requires.older, none, c.requires.countable, refl)

-- ── A displayed order is passed over ──

pub loop-o-preserved-then-o : goal.loop-o-preserved-then-o
loop-o-preserved-then-o c =
    let there = (goal.at.loop-o-preserved-then-o c).In-Some in
    let l = c.loop-o in
    let stays = also (displayed_stays c.args.buying c.locking_price-locking.result c.in-Some.o c.if-o.true) none in (
      l.invariant.0,
      rw (add-one l.at, take-suc l.t l.at unused (below there), ← (given there).1) (all_both l.invariant.1 stays),
      l.invariant.2,
      l.invariant.3,
    )

-- ── One that is not meets its fate ──

pub settle-m-requires : goal.settle-m-requires
settle-m-requires c =
    let at = goal.at.settle-m-requires c in
    let there = at.In-Some in
    let a = c.args in
    let l = c.loop-o in
    let i = l.invariant.0 in
    let o = c.in-Some.o in
    let locking = c.locking_price-locking.result in
    let q : locking ≡ locking_price a.buying a.away = c.locking_price-locking.ensures in
    let fits = room_now i (below there) o (given there).1 l.invariant.1 (set_stays a.buying locking o _) in
    let room = subst (λ (p : HalfCents). length (event_lines (told (quoted a.buying p) a.t.now)) ≤ length a.out.now) (sym q) c.requires.room in
    rw (fate_is at.After-fate_beyond (given there)) (record {
      there = below there;
      ranked = ranked_others i (below there) o (given there).1;
      older = older_others i (below there) o (given there).1;
      places = omega (arith, next_fits i, c.requires.places);
      room = omega (arith, fits, room, l.invariant.3);
      countable = counted there;
      priced = priced there;
    })

pub loop-o-smaller : goal.loop-o-smaller
loop-o-smaller c =
    let at = goal.at.loop-o-smaller c in
    let there = at.In-Some in
    omega (arith, (leaves at.After-settle-m (below there) (given there).1 (counted there) (priced there) (fate_is at.After-fate_beyond (given there))).2)

pub loop-o-preserved : goal.loop-o-preserved
loop-o-preserved c =
    let at = goal.at.loop-o-preserved c in
    let there = at.In-Some in
    let d = leaves at.After-settle-m (below there) (given there).1 (counted there) (priced there) (fate_is at.After-fate_beyond (given there)) in
    (d.0, d.1, d.3, omega (arith, c.settle-m.auto.out, c.loop-o.invariant.3))

-- ── The end ──

pub returns : goal.returns
returns c =
    let l = c.loop-o in
    let a = c.args in
    let locking = c.locking_price-locking.result in
    let ends : goes_on a.buying locking l.at l.t ≡ false = stops a.buying locking l.at l.t (sym c.beyond_at.ensures ∙ c.in_default.is) in
    let q : locking ≡ locking_price a.buying a.away = c.locking_price-locking.ensures in
    let first : Settling = record { number = a.number; buying = a.buying; next = a.first; length = 0 } in
    let ranked = rw l.invariant.0.buying at l.invariant.0.ranked in
    let done = subst (λ (p : HalfCents). IsSettled (quoted a.buying p) first a.t.now a.out.now l.t l.m l.out) q
    (settled_all l.invariant.0 (stops_all a.buying locking l.at l.t ends ranked l.invariant.1)) in
    record { value = done.0; side_after = done.1; out_after = done.2 }
