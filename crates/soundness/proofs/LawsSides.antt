-- The resting orders of a sound book, seen from the side of an order: its own side and the opposite one. What is thinned, and what
-- gets one order more, stays sound, but that an order may show nothing until it is refilled (02, W4). Assumes nothing.
use Prim.Native.Nat.{ℕ, ◌+◌, ◌≤◌, ◌<◌, min}
use mathlib.Core.Bool.{Bool, true, false, not, ◌&&◌, ◌||◌}
use mathlib.Core.List.{List, [], ◌∷◌, ◌++◌}
use mathlib.Core.Path.{◌≡◌, refl}
use lib.Dec.{eqb, leb}
use lib.ListN.{length}
use native.Mathlib.Omega.{arith}
use borrow.Author.Tests.{le-leb, leb-true, ne_eqb}
use Rattle.basics.proofs.LawsLists.{all_alike, all_both, sum_of_append}
use Rattle.std.specs.Prelude.{if◌then◌else◌}
use Rattle.basics.specs.Lists.{every, any, distinct, sum_of, All, none, also}
use Rattle.basics.proofs.LawsChoice.{and_left, and_right}
use Rattle.kinds.specs.declared.Number.{Number}
use Rattle.kinds.specs.Kinds.{most_shares, shares, resting_price_in_range, shares_in_range}
use Rattle.kinds.proofs.LawsRanges.{shares_most, shares_ranged}
use Rattle.rules.specs.declared.Held.{Held}
use Rattle.rules.specs.declared.Resting.{Resting}
use Rattle.rules.specs.declared.Stamp.{Stamp}
use Rattle.rules.specs.Book.{shares_left, numbers, Book, places_a_side, opening, closing, earlier, in_rank_order, stamp_in_range, floor_in_range, minimum_in_range, resting_in_range, away_in_range}
use Rattle.rules.specs.Settling.{own_side, opposite_side, insert}
use Rattle.rules.proofs.LawsFloors.{lowered_floored, lowered_least, least_within}
use Rattle.soundness.proofs.LawsApart.{Clear, Apart, apart_all, apart_best, apart_flip}
use Rattle.soundness.proofs.LawsInsert.{Added, added_insert, added_before, added_behind, added_length, added_all, added_distinct, ranked_insert}
use Rattle.soundness.proofs.LawsNumbers.{one_if, fewer_distinct}
use Rattle.rules.proofs.LawsRank.{earlier_command}
use Rattle.soundness.proofs.LawsSound.{Sound}
use Rattle.soundness.proofs.LawsThinned.{with_parts, Thinned, Standing, thinned_length, thinned_all, thinned_ranked, thinned_times}

-- ── Fields in range ──

-- "fields in range; numbers from 1 to the last number", of an order that has a share, as it is counted
pub record Ranged (count : Resting → ℕ) (last : Number) (h : Resting) : Type 0 where
  pub from_one : 1 ≤ h.number.0
  pub up_to_last : h.number.0 ≤ last.0
  pub priced : resting_price_in_range h.price ≡ true
  pub holding : 1 ≤ count h
  pub at_most : shares_left h ≤ most_shares
  pub stamped_from : h.number.0 ≤ h.stamp.command.0
  pub stamped_up_to : h.stamp.command.0 ≤ last.0
  pub floored : floor_in_range h ≡ true
  pub least : minimum_in_range h ≡ true

-- an order of a sound book shows a share; between a walk and the refills it may have one in reserve alone
abbrev pub shown_in : Resting → ℕ
shown_in h = h.shares.0

abbrev pub InRange : Number → Resting → Type 0
InRange last h = Ranged shown_in last h

range_is : (last : Number) (h : Resting) → resting_in_range last h ≡ true → InRange last h
range_is last h e =
    let numbered = leb 1 h.number.0 && leb h.number.0 last.0 in
    let stamped = numbered && resting_price_in_range h.price && stamp_in_range last h in
    let shown = stamped && leb 1 h.shares.0 in
    let counted = shown && shares_in_range (shares (shares_left h)) in
    let by_floored = and_left (counted && floor_in_range h) (minimum_in_range h) e in
    let by_counted = and_left counted (floor_in_range h) by_floored in
    let by_shown = and_left shown (shares_in_range (shares (shares_left h))) by_counted in
    let by_stamped = and_left stamped (leb 1 h.shares.0) by_shown in
    let t = and_right (numbered && resting_price_in_range h.price) (stamp_in_range last h) by_stamped in
    let f = and_left (numbered && resting_price_in_range h.price) (stamp_in_range last h) by_stamped in
    let n = and_left numbered (resting_price_in_range h.price) f in
    record {
      from_one = leb-true 1 h.number.0 (and_left (leb 1 h.number.0) (leb h.number.0 last.0) n);
      up_to_last = leb-true h.number.0 last.0 (and_right (leb 1 h.number.0) (leb h.number.0 last.0) n);
      priced = and_right numbered (resting_price_in_range h.price) f;
      holding = leb-true 1 h.shares.0 (and_right stamped (leb 1 h.shares.0) by_shown);
      at_most = shares_most (shares (shares_left h)) (and_right shown (shares_in_range (shares (shares_left h))) by_counted);
      stamped_from = leb-true h.number.0 h.stamp.command.0 (and_left (leb h.number.0 h.stamp.command.0) (leb h.stamp.command.0 last.0) t);
      stamped_up_to = leb-true h.stamp.command.0 last.0 (and_right (leb h.number.0 h.stamp.command.0) (leb h.stamp.command.0 last.0) t);
      floored = and_right counted (floor_in_range h) by_floored;
      least = and_right (counted && floor_in_range h) (minimum_in_range h) e;
    }

is_range : (last : Number) (h : Resting) → InRange last h → resting_in_range last h ≡ true
is_range last h r =
    rw (
      le-leb 1 h.number.0 r.from_one,
      le-leb h.number.0 last.0 r.up_to_last,
      r.priced,
      le-leb h.number.0 h.stamp.command.0 r.stamped_from,
      le-leb h.stamp.command.0 last.0 r.stamped_up_to,
      le-leb 1 h.shares.0 r.holding,
      shares_ranged (shares (shares_left h)) (omega (arith, r.holding)) r.at_most,
      r.floored,
    )
    r.least

ranges_first : (last : Number) (s u : List Resting) → every (resting_in_range last) (s ++ u) ≡ true → All (InRange last) s
unfolding every
ranges_first last [] u e = none
ranges_first last (h ∷ s) u e =
    also (range_is last h (and_left (resting_in_range last h) (every (resting_in_range last) (s ++ u)) e)) (ranges_first last s u (and_right (resting_in_range last h) (every (resting_in_range last) (s ++ u)) e))

ranges_second : (last : Number) (s u : List Resting) → every (resting_in_range last) (s ++ u) ≡ true → All (InRange last) u
unfolding every
ranges_second last [] [] e = none
ranges_second last [] (h ∷ u) e =
    also (range_is last h (and_left (resting_in_range last h) (every (resting_in_range last) u) e)) (ranges_second last [] u (and_right (resting_in_range last h) (every (resting_in_range last) u) e))
ranges_second last (h ∷ s) u e = ranges_second last s u (and_right (resting_in_range last h) (every (resting_in_range last) (s ++ u)) e)

ranges_every : (last : Number) {s : List Resting} → All (InRange last) s → every (resting_in_range last) s ≡ true
unfolding every
ranges_every last none = refl
ranges_every last (also {x = h} r a) = rw (is_range last h r) (ranges_every last a)

-- ── The two sides ──

-- the buys and then the sells, of an order's own side and the opposite one
abbrev pub both_sides : Bool → List Resting → List Resting → List Resting
both_sides buy own opposite = if buy then own ++ opposite else opposite ++ own

pub sides_sum : (count : Resting → ℕ) (buy : Bool) (own opposite : List Resting)
    → sum_of count (both_sides buy own opposite) ≡ sum_of count own + sum_of count opposite
sides_sum count true own opposite = sum_of_append count own opposite
sides_sum count false own opposite = omega (arith, sum_of_append count opposite own)

-- both sides, each order of which has a share, as it is counted on its side
pub record SidesBy (mine theirs : Resting → ℕ) (buy : Bool) (last : Number) (own opposite : List Resting) : Type 0 where
  pub own_fits : length own ≤ places_a_side
  pub opposite_fits : length opposite ≤ places_a_side
  pub own_ranked : in_rank_order buy own ≡ true
  pub opposite_ranked : in_rank_order (not buy) opposite ≡ true
  pub own_in_range : All (Ranged mine last) own
  pub opposite_in_range : All (Ranged theirs last) opposite
  pub once : distinct (numbers (both_sides buy own opposite)) ≡ true
  pub is_apart : Apart buy own opposite

abbrev pub Sides : Bool → Number → List Resting → List Resting → Type 0
Sides buy last own opposite = SidesBy shown_in shown_in buy last own opposite

-- the same from the other side
pub sides_flip : (buy : Bool) {mine theirs : Resting → ℕ} {last : Number} {own opposite : List Resting} → SidesBy mine theirs buy last own opposite
    → SidesBy theirs mine (not buy) last opposite own
sides_flip buy {own = own} {opposite = opposite} s = record {
  own_fits = s.opposite_fits;
  opposite_fits = s.own_fits;
  own_ranked = s.opposite_ranked;
  opposite_ranked = ranked buy s.own_ranked;
  own_in_range = s.opposite_in_range;
  opposite_in_range = s.own_in_range;
  once = together buy s.once;
  is_apart = apart_flip buy own opposite s.is_apart;
}
  where
    ranked : (buy : Bool) → in_rank_order buy own ≡ true → in_rank_order (not (not buy)) own ≡ true
    ranked true r = r
    ranked false r = r

    together : (buy : Bool) → distinct (numbers (both_sides buy own opposite)) ≡ true → distinct (numbers (both_sides (not buy) opposite own)) ≡ true
    together true d = d
    together false d = d

pub sides_back : (buy : Bool) {mine theirs : Resting → ℕ} {last : Number} {own opposite : List Resting} → SidesBy theirs mine (not buy) last opposite own
    → SidesBy mine theirs buy last own opposite
sides_back true s = sides_flip false s
sides_back false s = sides_flip true s

-- no orders at all
pub sides_none : (last : Number) → Sides true last [] []
unfolding in_rank_order distinct
sides_none last = record {
  own_fits = omega arith;
  opposite_fits = omega arith;
  own_ranked = refl;
  opposite_ranked = refl;
  own_in_range = none;
  opposite_in_range = none;
  once = refl;
  is_apart = none;
}

sides_of_buys : (b : Book) → Sound b → Sides true b.held.last b.buys b.sells
sides_of_buys b s = record {
  own_fits = s.buys_fit;
  opposite_fits = s.sells_fit;
  own_ranked = s.buys_ranked;
  opposite_ranked = s.sells_ranked;
  own_in_range = ranges_first b.held.last b.buys b.sells s.in_range;
  opposite_in_range = ranges_second b.held.last b.buys b.sells s.in_range;
  once = s.once;
  is_apart = apart_all b.buys b.sells s.buys_ranked s.sells_ranked s.is_apart;
}

pub sides_of : (buy : Bool) (b : Book) → Sound b → Sides buy b.held.last (own_side buy b) (opposite_side buy b)
sides_of true b s = sides_of_buys b s
sides_of false b s = sides_flip true (sides_of_buys b s)

-- a book of such sides, in the session, is sound, if it has no order where it is closed
module _ (h : Held) (opened : leb opening h.time ≡ true) (in_time : leb h.time closing ≡ true)
    (bid : away_in_range h.away.bid ≡ true) (offer : away_in_range h.away.offer ≡ true) where
  pub buys_sound : {buys sells : List Resting} → (not h.closed || eqb (length (buys ++ sells)) 0) ≡ true → Sides true h.last buys sells
      → Sound (record { held = h; buys = buys; sells = sells })
  buys_sound {buys = buys} {sells = sells} closed_empty s = record {
    buys_fit = s.own_fits;
    sells_fit = s.opposite_fits;
    buys_ranked = s.own_ranked;
    sells_ranked = s.opposite_ranked;
    in_range = ranges_every h.last (all_both s.own_in_range s.opposite_in_range);
    once = s.once;
    is_apart = apart_best buys sells s.is_apart;
    opened = opened;
    in_time = in_time;
    bid = bid;
    offer = offer;
    closed_empty = closed_empty;
  }

  pub sides_sound : h.closed ≡ false → (buy : Bool) {own opposite : List Resting} → Sides buy h.last own opposite
      → Sound (record { held = h; buys = if buy then own else opposite; sells = if buy then opposite else own })
  sides_sound is_open true s = buys_sound (rw is_open refl) s
  sides_sound is_open false s = buys_sound (rw is_open refl) (sides_flip false s)

-- ── What keeps them ──

pub all_holding : (last : Number) {s : List Resting} → All (InRange last) s → Standing s
all_holding last a = all_alike (λ h r. record { is_left = omega (arith, r.holding); least = least_within h r.least }) a

-- lower shares stay in range, but for what is shown
fewer : {count : Resting → ℕ} {last : Number} (h : Resting) (shown reserve : ℕ) → shown ≤ h.shares.0 → reserve ≤ h.reserve.0 → 1 ≤ shown + reserve
    → Ranged count last h → Ranged shares_left last (with_parts shown reserve h)
fewer h shown reserve l m some r = record {
  from_one = r.from_one;
  up_to_last = r.up_to_last;
  priced = r.priced;
  holding = some;
  at_most = omega (arith, r.at_most);
  stamped_from = r.stamped_from;
  stamped_up_to = r.stamped_up_to;
  floored = lowered_floored h r.floored h.price h.stamp shown reserve (min h.minimum.0 (shown + reserve)) l m;
  least = lowered_least h r.least h.price h.stamp shown reserve;
}

added_sides : (buy : Bool) {x : Resting} {own own' : List Resting} (opposite : List Resting) → Added x own own' → Added x (both_sides buy own opposite) (both_sides buy own' opposite)
added_sides true opposite a = added_before opposite a
added_sides false opposite a = added_behind opposite a

all_sides : (buy : Bool) {P : Resting → Type 0} {own opposite : List Resting} → All P own → All P opposite → All P (both_sides buy own opposite)
all_sides true a b = all_both a b
all_sides false a b = all_both b a

-- a number above the last is new
new_number : (n : ℕ) {last : Number} {s : List Resting} → last.0 < n → All (λ (h : Resting). h.number.0 ≤ last.0) s → any (eqb n) (numbers s) ≡ false
unfolding any
new_number n l none = refl
new_number n l (also {x = h} r a) = rw (ne_eqb n h.number.0 (λ (e : n ≡ h.number.0). omega (arith, r))) (new_number n l a)

later_range : {count : Resting → ℕ} {last next : Number} → last.0 ≤ next.0 → (h : Resting) → Ranged count last h → Ranged count next h
later_range l h r = record {
  from_one = r.from_one;
  up_to_last = omega (arith, r.up_to_last);
  priced = r.priced;
  holding = r.holding;
  at_most = r.at_most;
  stamped_from = r.stamped_from;
  stamped_up_to = omega (arith, r.stamped_up_to);
  floored = r.floored;
  least = r.least;
}

-- a stamp of a command above the last is later than all
pub later_stamp : {count : Resting → ℕ} {last : Number} {s : List Resting} (t : Stamp) → last.0 < t.command.0 → All (Ranged count last) s
    → All (λ (h : Resting). earlier h.stamp t ≡ true) s
later_stamp t l a = all_alike (λ h r. earlier_command h.stamp t (omega (arith, r.stamped_up_to))) a

module _ {mine theirs : Resting → ℕ} {buy : Bool} {last : Number} {own opposite : List Resting} (sides : SidesBy mine theirs buy last own opposite) where
  pub sides_thinned : {opposite' : List Resting} → Thinned opposite opposite' → SidesBy mine shares_left buy last own opposite'
  sides_thinned {opposite' = opposite'} t = record {
    own_fits = sides.own_fits;
    opposite_fits = omega (arith, thinned_length t, sides.opposite_fits);
    own_ranked = sides.own_ranked;
    opposite_ranked = thinned_ranked (not buy) t sides.opposite_ranked;
    own_in_range = sides.own_in_range;
    opposite_in_range = thinned_all fewer t sides.opposite_in_range;
    once =
        fewer_distinct (both_sides buy own opposite) (both_sides buy own opposite')
        (λ n. omega (arith, sides_sum (one_if n) buy own opposite, sides_sum (one_if n) buy own opposite', thinned_times n t)) sides.once;
    is_apart = all_alike (λ o p. thinned_all (λ h shown reserve l m some q. q) t p) sides.is_apart;
  }

  pub sides_later : {next : Number} → last.0 ≤ next.0 → SidesBy mine theirs buy next own opposite
  sides_later l = record {
    own_fits = sides.own_fits;
    opposite_fits = sides.opposite_fits;
    own_ranked = sides.own_ranked;
    opposite_ranked = sides.opposite_ranked;
    own_in_range = all_alike (later_range l) sides.own_in_range;
    opposite_in_range = all_alike (later_range l) sides.opposite_in_range;
    once = sides.once;
    is_apart = sides.is_apart;
  }

  -- a new order rests: the next number, on a side that has room, apart from the opposite side
  pub sides_added : (x : Resting) → last.0 < x.number.0 → Ranged mine x.number x → length own < places_a_side → Clear buy x.displayed x.price opposite
      → SidesBy mine theirs buy x.number (insert buy x own) opposite
  sides_added x above range room apart =
      let added = added_insert buy x own in
      let l : last.0 ≤ x.number.0 = omega arith in
      let numbered = all_sides buy (all_alike (λ h r. r.up_to_last) sides.own_in_range) (all_alike (λ h r. r.up_to_last) sides.opposite_in_range) in
      record {
        own_fits = omega (arith, added_length added);
        opposite_fits = sides.opposite_fits;
        own_ranked = ranked_insert buy x own (later_stamp x.stamp (omega (arith, range.stamped_from)) sides.own_in_range) sides.own_ranked;
        opposite_ranked = sides.opposite_ranked;
        own_in_range = added_all range added (all_alike (later_range l) sides.own_in_range);
        opposite_in_range = all_alike (later_range l) sides.opposite_in_range;
        once = added_distinct (added_sides buy opposite added) (new_number x.number.0 above numbered) sides.once;
        is_apart = added_all apart added sides.is_apart;
      }
