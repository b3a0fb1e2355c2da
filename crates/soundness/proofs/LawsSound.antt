-- What `sound` tests, as one fact for each of its clauses. Assumes nothing.
use Prim.Native.Nat.{◌≤◌}
use mathlib.Core.Bool.{Bool, true, false, not, ◌&&◌, ◌||◌}
use mathlib.Core.List.{◌++◌}
use mathlib.Core.Path.{◌≡◌}
use lib.Dec.{eqb, leb}
use lib.ListN.{length}
use borrow.Author.Tests.{le-leb, leb-true}
use Rattle.basics.specs.Lists.{every, distinct}
use Rattle.basics.proofs.LawsChoice.{and_left, and_right}
use Rattle.rules.specs.Book.{numbers, Book, places_a_side, opening, closing, in_rank_order, resting_in_range, away_in_range, apart, sound}

pub record Sound (b : Book) : Type 0 where
  pub buys_fit : length b.buys ≤ places_a_side
  pub sells_fit : length b.sells ≤ places_a_side
  pub buys_ranked : in_rank_order true b.buys ≡ true
  pub sells_ranked : in_rank_order false b.sells ≡ true
  pub in_range : every (resting_in_range b.held.last) (b.buys ++ b.sells) ≡ true
  pub once : distinct (numbers (b.buys ++ b.sells)) ≡ true
  pub is_apart : apart b.buys b.sells ≡ true
  pub opened : leb opening b.held.time ≡ true
  pub in_time : leb b.held.time closing ≡ true
  pub bid : away_in_range b.held.away.bid ≡ true
  pub offer : away_in_range b.held.away.offer ≡ true
  pub closed_empty : (not b.held.closed || eqb (length (b.buys ++ b.sells)) 0) ≡ true

-- twelve tests that hold together hold one by one
twelve : (t1 t2 t3 t4 t5 t6 t7 t8 t9 t10 t11 t12 : Bool) → (t1 && t2 && t3 && t4 && t5 && t6 && t7 && t8 && t9 && t10 && t11 && t12) ≡ true
    → (t1 ≡ true) × (t2 ≡ true) × (t3 ≡ true) × (t4 ≡ true) × (t5 ≡ true) × (t6 ≡ true) × (t7 ≡ true) × (t8 ≡ true) × (t9 ≡ true) × (t10 ≡ true) × (t11 ≡ true) × (t12 ≡ true)
twelve t1 t2 t3 t4 t5 t6 t7 t8 t9 t10 t11 t12 s12 =
    let s11 = and_left (t1 && t2 && t3 && t4 && t5 && t6 && t7 && t8 && t9 && t10 && t11) t12 s12 in
    let s10 = and_left (t1 && t2 && t3 && t4 && t5 && t6 && t7 && t8 && t9 && t10) t11 s11 in
    let s9 = and_left (t1 && t2 && t3 && t4 && t5 && t6 && t7 && t8 && t9) t10 s10 in
    let s8 = and_left (t1 && t2 && t3 && t4 && t5 && t6 && t7 && t8) t9 s9 in
    let s7 = and_left (t1 && t2 && t3 && t4 && t5 && t6 && t7) t8 s8 in
    let s6 = and_left (t1 && t2 && t3 && t4 && t5 && t6) t7 s7 in
    let s5 = and_left (t1 && t2 && t3 && t4 && t5) t6 s6 in
    let s4 = and_left (t1 && t2 && t3 && t4) t5 s5 in
    let s3 = and_left (t1 && t2 && t3) t4 s4 in
    let s2 = and_left (t1 && t2) t3 s3 in
    let s1 = and_left (t1) t2 s2 in
    (s1, and_right (t1) t2 s2, and_right (t1 && t2) t3 s3, and_right (t1 && t2 && t3) t4 s4, and_right (t1 && t2 && t3 && t4) t5 s5, and_right (t1 && t2 && t3 && t4 && t5) t6 s6, and_right (t1 && t2 && t3 && t4 && t5 && t6) t7 s7, and_right (t1 && t2 && t3 && t4 && t5 && t6 && t7) t8 s8, and_right (t1 && t2 && t3 && t4 && t5 && t6 && t7 && t8) t9 s9, and_right (t1 && t2 && t3 && t4 && t5 && t6 && t7 && t8 && t9) t10 s10, and_right (t1 && t2 && t3 && t4 && t5 && t6 && t7 && t8 && t9 && t10) t11 s11, and_right (t1 && t2 && t3 && t4 && t5 && t6 && t7 && t8 && t9 && t10 && t11) t12 s12)

pub sound_is : (b : Book) → sound b ≡ true → Sound b
unfolding sound
sound_is b s =
    let p = twelve (leb (length b.buys) places_a_side) (leb (length b.sells) places_a_side) (in_rank_order true b.buys) (in_rank_order false b.sells) (every (resting_in_range b.held.last) (b.buys ++ b.sells)) (distinct (numbers (b.buys ++ b.sells))) (apart b.buys b.sells) (leb opening b.held.time) (leb b.held.time closing) (away_in_range b.held.away.bid) (away_in_range b.held.away.offer) (not b.held.closed || eqb (length (b.buys ++ b.sells)) 0) s in
    record {
      buys_fit = leb-true (length b.buys) places_a_side p.0;
      sells_fit = leb-true (length b.sells) places_a_side p.1;
      buys_ranked = p.2;
      sells_ranked = p.3;
      in_range = p.4;
      once = p.5;
      is_apart = p.6;
      opened = p.7;
      in_time = p.8;
      bid = p.9;
      offer = p.10;
      closed_empty = p.11;
    }

pub is_sound_lem : (b : Book) → Sound b → sound b ≡ true
unfolding sound
is_sound_lem b s =
    rw (le-leb (length b.buys) places_a_side s.buys_fit, le-leb (length b.sells) places_a_side s.sells_fit, s.buys_ranked, s.sells_ranked, s.in_range, s.once, s.is_apart, s.opened, s.in_time, s.bid, s.offer)
    s.closed_empty
