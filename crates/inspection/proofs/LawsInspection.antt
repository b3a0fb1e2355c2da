-- What is inspected place by place is what the clauses of `sound` say, and with what a book holds besides it is `record_sound`. Assumes nothing.
use Prim.Native.Nat.{ℕ, zero, suc, ◌+◌, ◌-◌, ◌≤◌}
use mathlib.Core.Bool.{Bool, true, false, not, ◌&&◌, ◌||◌, and-true, false-and, and-false, and_assoc, or_assoc}
use mathlib.Core.List.{List, [], ◌∷◌, ◌++◌, map-append}
use mathlib.Core.Logic.{⊎_elim}
use mathlib.Core.Path.{◌≡◌, refl, sym, ap, ◌∙◌}
use lib.Dec.{eqb, leb, ltb}
use lib.ListN.{length, take, drop, length-append}
use lib.Seq.{length-take-le}
use native.Mathlib.Omega.{arith}
use borrow.Author.Tests.{ltb-true, ltb-false, le-leb, lt-leb, ne_eqb}
use Rattle.basics.specs.Lists.{every, any, distinct}
use Rattle.basics.proofs.LawsChoice.{holds_or_not, or_neither}
use Rattle.kinds.specs.declared.Number.{Number}
use Rattle.rules.specs.declared.Resting.{Resting}
use Rattle.rules.specs.Book.{numbers, places_a_side, opening, closing, resting_in_range, is_unused, away_in_range, in_rank_order, BookRecord, orders_in, apart, book_in, sound, record_sound}
use Rattle.inspection.specs.Inspection.{none_of, ranks_before_next, place_sound, side_sound, held_sound}

-- ── Tests over two lists ──

module _ {A : Type 0} (test : A → Bool) where
  every_append : (s r : List A) → every test (s ++ r) ≡ (every test s && every test r)
  unfolding every
  every_append [] r = refl
  every_append (x ∷ s) r = rw (every_append s r) (sym (and_assoc (test x) (every test s) (every test r)))

  any_append : (s r : List A) → any test (s ++ r) ≡ (any test s || any test r)
  unfolding any
  any_append [] r = refl
  any_append (x ∷ s) r = rw (any_append s r) (sym (or_assoc (test x) (any test s) (any test r)))

distinct_append : (s r : List ℕ) → distinct (s ++ r) ≡ (distinct s && every (none_of r) s && distinct r)
unfolding distinct every
distinct_append [] r = refl
distinct_append (k ∷ s) r =
    rw (any_append (eqb k) s r, distinct_append s r) (apart_each (any (eqb k) s) (any (eqb k) r) (distinct s) (every (none_of r) s) (distinct r))
  where
    apart_each : (p q a b c : Bool) → (not (p || q) && (a && b && c)) ≡ (not p && a && (not q && b) && c)
    apart_each true q a b c = refl
    apart_each false true true b c = refl
    apart_each false true false b c = refl
    apart_each false false a b c = refl

no_orders : (n m : ℕ) → eqb (n + m) 0 ≡ (eqb n 0 && eqb m 0)
no_orders zero m = let e : zero + m ≡ m = omega arith in rw e
no_orders (suc n) m =
    let some : suc n + m ≡ 0 → ⊥ = λ (z : suc n + m ≡ 0). omega arith in
    let own : suc n ≡ 0 → ⊥ = λ (z : suc n ≡ 0). omega arith in
    rw (ne_eqb (suc n + m) 0 some, ne_eqb (suc n) 0 own)

-- ── A side, clause by clause ──

module _ (buy : Bool) (last : Number) (others : List ℕ) where
  -- with no place used, every place is unused
  pub none_used : (s : List Resting) → side_sound buy last others 0 s ≡ every is_unused s
  unfolding side_sound place_sound every
  none_used [] = refl
  none_used (o ∷ s) = rw (none_used s)

  rank_first : (o : Resting) (s : List Resting) → in_rank_order buy (o ∷ s) ≡ (ranks_before_next buy o s && in_rank_order buy s)
  unfolding in_rank_order
  rank_first o [] = refl
  rank_first o (next ∷ s) = refl

  -- what is said of the places one by one is what is said of them by the clauses of `sound`
  side_is_lem : (n : ℕ) (s : List Resting)
      → side_sound buy last others n s
      ≡ (in_rank_order buy (take n s)
      && every (resting_in_range last) (take n s)
      && every is_unused (drop n s)
      && distinct (numbers (take n s))
      && every (none_of others) (numbers (take n s)))
  unfolding side_sound place_sound every in_rank_order distinct
  side_is_lem zero s = none_used s ∙ simp and-true
  side_is_lem (suc n) [] = refl
  side_is_lem (suc n) (o ∷ s) =
      let e : suc n - 1 ≡ n = omega arith in
      rw (e, side_is_lem n s, rank_first o (take n s))
      (each
      (resting_in_range last o)
      (ranks_before_next buy o (take n s))
      (none_of (numbers (take n s)) o.number.0)
      (none_of others o.number.0)
      (in_rank_order buy (take n s))
      (every (resting_in_range last) (take n s))
      (every is_unused (drop n s))
      (distinct (numbers (take n s)))
      (every (none_of others) (numbers (take n s))))
    where
      each : (a b c d r e u q x : Bool) → (a && b && c && d && (r && e && u && q && x)) ≡ (b && r && (a && e) && u && (c && q) && (d && x))
      each false b c d r e u q x = simp (false-and, and-false)
      each true false c d r e u q x = refl
      each true true false d r e u q x = simp (false-and, and-false)
      each true true true false r e u q x = simp (false-and, and-false)
      each true true true true r e u q x = refl

no_others : (s : List ℕ) → every (none_of []) s ≡ true
unfolding every any
no_others [] = refl
no_others (k ∷ s) = no_others s

-- ── The clauses, regrouped ──

-- u and v: unused places, r and s: rank, e and f: range, d and g: numbers on one side, x: numbers on both, p: best prices,
-- o and c: time, b and w: away prices, z: a closed book. Where one fails, both sides fail
regroup : (u v r e d x s f g p o c b w z : Bool)
    → (u && v && (r && s && (e && f) && (d && x && g) && p && o && c && b && w && z))
    ≡ (r && e && u && d && x && (s && f && v && g && true) && p && (o && c && b && w && z))
regroup false v r e d x s f g p o c b w z = simp (false-and, and-false)
regroup true false r e d x s f g p o c b w z = simp (false-and, and-false)
regroup true true false e d x s f g p o c b w z = refl
regroup true true true false d x s f g p o c b w z = simp (false-and, and-false)
regroup true true true true false x s f g p o c b w z = simp (false-and, and-false)
regroup true true true true true false s f g p o c b w z = simp (false-and, and-false)
regroup true true true true true true false f g p o c b w z = refl
regroup true true true true true true true false g p o c b w z = refl
regroup true true true true true true true true false p o c b w z = refl
regroup true true true true true true true true true false o c b w z = refl
regroup true true true true true true true true true true o c b w z = refl

-- ── The record ──

pub both_fit : (n m : ℕ) → (ltb places_a_side n || ltb places_a_side m) ≡ false → (n ≤ places_a_side) × (m ≤ places_a_side)
both_fit n m fit =
    (ltb-false places_a_side n (or_neither (ltb places_a_side n) (ltb places_a_side m) fit).0, ltb-false places_a_side m (or_neither (ltb places_a_side n) (ltb places_a_side m) fit).1)

module _ (r : BookRecord) where
  -- a count is above the limit
  pub over_full : (ltb places_a_side r.buys.used || ltb places_a_side r.sells.used) ≡ true → record_sound r ≡ false
  unfolding record_sound
  over_full over =
      ⊎_elim
      (λ (p : ltb places_a_side r.buys.used ≡ true). rw (lt-leb r.buys.used places_a_side (ltb-true places_a_side r.buys.used p)))
      (λ (p : ltb places_a_side r.buys.used ≡ false).
      let q : ltb places_a_side r.sells.used ≡ true = sym (ap (λ (b : Bool). b || ltb places_a_side r.sells.used) p) ∙ over in
      rw (lt-leb r.sells.used places_a_side (ltb-true places_a_side r.sells.used q), and-false))
      (holds_or_not (ltb places_a_side r.buys.used))

  module _ (whole_buys : length r.buys.places ≡ places_a_side) (whole_sells : length r.sells.places ≡ places_a_side)
      (fit : (ltb places_a_side r.buys.used || ltb places_a_side r.sells.used) ≡ false) where
    -- what is left once the counts are at most the limit
    pub inspected : record_sound r
        ≡ (side_sound true r.held.last (numbers (orders_in r.sells)) r.buys.used r.buys.places
        && side_sound false r.held.last [] r.sells.used r.sells.places
        && apart (orders_in r.buys) (orders_in r.sells)
        && held_sound r.held r.buys.used r.sells.used)
    unfolding record_sound book_in sound
    inspected =
        let fits = both_fit r.buys.used r.sells.used fit in
        let last = r.held.last in
        let n = r.buys.used in
        let m = r.sells.used in
        let buys = orders_in r.buys in
        let sells = orders_in r.sells in
        let n_fits : n ≤ length r.buys.places = omega (arith, fits.0) in
        let m_fits : m ≤ length r.sells.places = omega (arith, fits.1) in
        rw (
          side_is_lem true last (numbers sells) n r.buys.places,
          side_is_lem false last [] m r.sells.places,
          no_others (numbers sells),
          every_append (resting_in_range last) buys sells,
          map-append (λ (o : Resting). o.number.0) buys sells,
          distinct_append (numbers buys) (numbers sells),
          length-append buys sells,
          length-take-le n r.buys.places n_fits,
          length-take-le m r.sells.places m_fits,
          whole_buys,
          whole_sells,
          le-leb n places_a_side fits.0,
          le-leb m places_a_side fits.1,
          no_orders n m,
        )
        (regroup
        (every is_unused (drop n r.buys.places))
        (every is_unused (drop m r.sells.places))
        (in_rank_order true buys)
        (every (resting_in_range last) buys)
        (distinct (numbers buys))
        (every (none_of (numbers sells)) (numbers buys))
        (in_rank_order false sells)
        (every (resting_in_range last) sells)
        (distinct (numbers sells))
        (apart buys sells)
        (leb opening r.held.time)
        (leb r.held.time closing)
        (away_in_range r.held.away.bid)
        (away_in_range r.held.away.offer)
        (not r.held.closed || (eqb n 0 && eqb m 0)))
