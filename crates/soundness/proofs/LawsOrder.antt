-- An accepted order keeps the two sides sound: what it takes is gone from the opposite side, whose orders are refilled, and what rests of it
-- is a resting order in range on its own. Assumes nothing.
use Prim.Native.Nat.{ℕ, ◌+◌, ◌-◌, ◌^◌, ◌≤◌, min}
use mathlib.Core.Bool.{Bool, true, false, not, ◌&&◌, ◌||◌, beq, or-true, true≢false}
use mathlib.Core.Path.{◌≡◌, refl, sym, ap, ◌∙◌}
use lib.Dec.{eqb, leb, ltb}
use lib.ListN.{length}
use native.Mathlib.Omega.{arith}
use borrow.Author.Tests.{eqb-false, eq-eqb, leb-false, leb-true, le-leb}
use Rattle.basics.specs.Lists.{total}
use Rattle.basics.proofs.LawsChoice.{by_choice, and_left, and_right}
use Rattle.kinds.specs.declared.HalfCents.{HalfCents}
use Rattle.kinds.specs.declared.Number.{Number}
use Rattle.kinds.specs.declared.Shares.{Shares}
use Rattle.kinds.specs.Kinds.{shares, in_half_cents, resting_price_in_range, shares_in_range}
use Rattle.kinds.proofs.LawsRanges.{shares_most, shares_ranged, price_rests}
use Rattle.rules.specs.declared.Carried.{Carried}
use Rattle.rules.specs.declared.Carried.TheVariants.{Nothing, MaxFloor, Minimum}
use Rattle.rules.specs.declared.Ending.{Ending}
use Rattle.rules.specs.declared.Ending.TheVariants.{Filled, Rests, Cancels}
use Rattle.rules.specs.declared.Order.{Order}
use Rattle.rules.specs.Book.{places_a_side, stamp, shares_left}
use Rattle.rules.specs.Holdings.{after}
use Rattle.rules.specs.Instructions.{ioc, fok, day, displayed, non_displayed, price_adjust, cancel_back, post_only, iso, market, reserve, has, one_of, needs, lawful}
use Rattle.rules.specs.Refusals.{is_rest, carries_floor, carries_minimum, order_price_in_range, carried_in_range, order_in_range}
use Rattle.rules.specs.Settling.{shown_of, settled_side}
use Rattle.rules.specs.Working.{buying, takings, remainder, seeks, unless_it_meets, ending, floor_of, minimum_of, remainder_of, with_remainder, refill_fate, Met}
use Rattle.rules.proofs.LawsFloors.{shown_at_most, shown_some, shown_floored, refilled_floored, refill_same, same_least}
use Rattle.soundness.proofs.LawsEndings.{sought_is}
use Rattle.soundness.proofs.LawsApart.{apart_flip}
use Rattle.soundness.proofs.LawsRests.{RestsBy, rests_by, rests_clear}
use Rattle.soundness.proofs.LawsSettled.{LeftSound, SoundFates, sides_settled}
use Rattle.soundness.proofs.LawsSides.{shown_in, InRange, SidesBy, Sides, all_holding, later_stamp, sides_flip, sides_back, sides_thinned, sides_later, sides_added}
use Rattle.soundness.proofs.LawsThinned.{thinned_after}

-- ── The price at which a remainder rests is in range ──

-- an ending that rests at no price out of range
rests_in_range : Ending → Bool
rests_in_range Filled = true
rests_in_range (Rests price) = resting_price_in_range price
rests_in_range (Cancels reason) = true

-- ── A market order never rests ──

-- "Market needs IOC or FOK."
neither_market : (m i f : Bool) → needs m (i || f) ≡ true → i ≡ false → f ≡ false → m ≡ false
neither_market false i f n p q = refl
neither_market true i f n p q = absurd (true≢false (sym n ∙ rw (p, q)))

-- the last two clauses of `lawful`: "Bit 10 .. needs Day and Displayed" (02, W4)
last_needs : (word : ℕ) → lawful word ≡ true
    → (needs (has word market) (has word ioc || has word fok) ≡ true) × (needs (has word reserve) (has word day && has word displayed) ≡ true)
unfolding lawful
last_needs word e =
    let others =
    ltb word (2 ^ 11)
    && one_of word (ioc + fok + day)
    && one_of word (displayed + non_displayed)
    && one_of word (price_adjust + cancel_back)
    && needs (has word post_only) (has word day && has word displayed && not (has word iso))
    && needs (has word iso) (not (has word fok) && not (has word market)) in
    let for_market = needs (has word market) (has word ioc || has word fok) in
    let for_reserve = needs (has word reserve) (has word day && has word displayed) in
    (and_right others for_market (and_left (others && for_market) for_reserve e), and_right (others && for_market) for_reserve e)

pub neither_limited : (word : ℕ) → lawful word ≡ true → has word ioc ≡ false → has word fok ≡ false → has word market ≡ false
neither_limited word e = neither_market (has word market) (has word ioc) (has word fok) (last_needs word e).0

reserve_displayed : (word : ℕ) → lawful word ≡ true → has word reserve ≡ true → has word displayed ≡ true
reserve_displayed word e t = let both = (last_needs word e).1 in and_right (has word day) (has word displayed) (rw t at both)

-- ── The Max Floor of an order ──

-- where an order has one, it is in range, and the order is displayed
floor_ranged : (size : Shares) (c : Carried) → shares_in_range size ≡ true → carried_in_range size c ≡ true → eqb (floor_of c) 0 ≡ false
    → shares_in_range (shares (floor_of c)) ≡ true
floor_ranged size Nothing s r f = absurd (true≢false f)
floor_ranged size (Minimum least) s r f = absurd (true≢false f)
floor_ranged size (MaxFloor floor) s r f =
    let least = leb-true 1 floor.0 (and_left (leb 1 floor.0) (leb floor.0 size.0) r) in
    let most = leb-true floor.0 size.0 (and_right (leb 1 floor.0) (leb floor.0 size.0) r) in
    shares_ranged floor least (omega (arith, most, shares_most size s))

floor_carried : (t : Bool) (c : Carried) → beq t (carries_floor c) ≡ true → eqb (floor_of c) 0 ≡ false → t ≡ true
floor_carried t Nothing e f = absurd (true≢false f)
floor_carried t (Minimum least) e f = absurd (true≢false f)
floor_carried true (MaxFloor floor) e f = refl
floor_carried false (MaxFloor floor) e f = absurd (true≢false (sym e))

-- ── The minimum of an order ──

-- cut to what is left of it, of an order that is not displayed where it has one
minimum_ranged : (is_displayed : Bool) (c : Carried) (left shown : ℕ) → needs (carries_minimum c) (not is_displayed) ≡ true → shown ≤ left
    → (eqb (min (minimum_of c) left) 0 || (not is_displayed && leb (min (minimum_of c) left) (shown + (left - shown)))) ≡ true
minimum_ranged d Nothing left shown hides l = rw (eq-eqb (min 0 left) 0 (omega arith)) refl
minimum_ranged d (MaxFloor floor) left shown hides l = rw (eq-eqb (min 0 left) 0 (omega arith)) refl
minimum_ranged d (Minimum least) left shown hides l =
    rw (hides, le-leb (min least.0 left) (shown + (left - shown)) (omega (arith, l))) (or-true (eqb (min least.0 left) 0))

-- ── The refills ──

refill_sound : (last : Number) (buy : Bool) → SoundFates shares_left last buy refill_fate
refill_sound last buy opposite h r apart =
    by_choice (LeftSound buy opposite h) (eqb h.shares.0 0)
    (λ t. record {
      priced = r.priced;
      is_apart = apart;
      shows = shown_some h.floor.0 (shares_left h) r.holding;
      floored = refilled_floored h r.floored;
      least =
          same_least h r.least h.price h.stamp (shown_of h.floor.0 (shares_left h))
          (shares_left h - shown_of h.floor.0 (shares_left h)) (omega (arith, shown_at_most h.floor.0 (shares_left h)));
    })
    (λ t. let n = eqb-false h.shares.0 0 t in omega (arith, n))

-- ── An accepted order ──

module _ (n : Number) (o : Order) (m : Met) {last : Number} (sides : Sides (buying o) last m.own m.opposite) (next : n.0 ≡ last.0 + 1)
    (is_lawful : lawful o.word ≡ true) (carries : beq (has o.word reserve) (carries_floor o.carried) ≡ true)
    (hides : needs (carries_minimum o.carried) (not (has o.word displayed)) ≡ true) (in_range : order_in_range o ≡ true)
    (room : (is_rest (ending o m) && leb places_a_side (length m.own)) ≡ false) where
  -- the opposite side without what is taken
  taken : SidesBy shown_in shares_left (buying o) last m.own (after m.opposite (takings o m))
  taken = sides_thinned sides (thinned_after (takings o m) (all_holding last sides.opposite_in_range))

  remainder_in_range : (price : HalfCents) → RestsBy o m price → has o.word market ≡ false
      → InRange n (remainder_of n o (remainder o m) price)
  unfolding remainder rests_in_range
  remainder_in_range price by limited =
      let sized = leb o.side 1 && shares_in_range o.shares in
      let carried = and_right (sized && order_price_in_range o) (carried_in_range o.shares o.carried) in_range in
      let fields = and_left (sized && order_price_in_range o) (carried_in_range o.shares o.carried) in_range in
      let size = and_right (leb o.side 1) (shares_in_range o.shares) (and_left sized (order_price_in_range o) fields) in
      let most = shares_most o.shares size in
      let limit : order_price_in_range o ≡ true = and_right sized (order_price_in_range o) fields in
      let priced : resting_price_in_range (in_half_cents o.price) ≡ true = price_rests o.price (rw limited at limit) in
      let found : rests_in_range (unless_it_meets o m.own (after m.opposite (takings o m)) (seeks o m.away)) ≡ true =
      sought_is (λ (e : Ending). rests_in_range e ≡ true) (λ p e. e) refl refl refl refl o m.away m.own
      (after m.opposite (takings o m)) priced in
      let left = o.shares.0 - total (takings o m) in
      let some : 1 ≤ left = omega (arith, by.left) in
      let floor = floor_of o.carried in
      record {
        from_one = omega (arith, next);
        up_to_last = omega arith;
        priced = sym (ap rests_in_range by.seeking) ∙ found;
        holding = shown_some floor left some;
        at_most = omega (arith, most, shown_at_most floor left);
        stamped_from = omega arith;
        stamped_up_to = omega arith;
        floored =
            shown_floored (remainder_of n o left price) left refl refl
            (λ f. rw (reserve_displayed o.word is_lawful (floor_carried (has o.word reserve) o.carried carries f)) (floor_ranged o.shares o.carried size carried f));
        least = minimum_ranged (has o.word displayed) o.carried left (shown_of floor left) hides (shown_at_most floor left);
      }

  -- its own side with what rests of it
  worked_sides : (e : Ending) → ending o m ≡ e
      → SidesBy shown_in shares_left (buying o) n (with_remainder n o (remainder o m) e m.own) (after m.opposite (takings o m))
  worked_sides Filled q = sides_later taken (omega (arith, next))
  worked_sides (Cancels reason) q = sides_later taken (omega (arith, next))
  worked_sides (Rests price) q =
      let by = rests_by o m price q in
      let limited = neither_limited o.word is_lawful by.no_cancel_lem by.no_kill_lem in
      let places : leb places_a_side (length m.own) ≡ false = rw q at room in
      sides_added taken (remainder_of n o (remainder o m) price)
      (omega (arith, next)) (remainder_in_range price by limited) (leb-false places_a_side (length m.own) places)
      (rests_clear o m.own (after m.opposite (takings o m)) price (has o.word displayed)
      (apart_flip (buying o) m.own (after m.opposite (takings o m)) taken.is_apart) (seeks o m.away) by.seeking)

  -- the opposite side refilled, with stamps that are later than all on it
  pub accept_sides : (k : ℕ) (e : Ending) → ending o m ≡ e
      → Sides (buying o) n (with_remainder n o (remainder o m) e m.own)
      (settled_side n k (not (buying o)) refill_fate (after m.opposite (takings o m)))
  accept_sides k e q =
      sides_back (buying o)
      (sides_settled n k refill_fate refill_same (refill_sound n (not (buying o))) (later_stamp (stamp n k) (omega (arith, next)) taken.opposite_in_range)
      (sides_flip (buying o) (worked_sides e q)))
