-- One bound for the walk: a price is within it exactly where the order may touch it, and one of a resting order exactly where it may touch
-- the price at which that executes. Assumes nothing.
use Prim.Native.Nat.{ℕ, ◌+◌, ◌-◌, ◌≤◌, ◌<◌}
use mathlib.Core.Bool.{Bool, true, false, not, ◌&&◌, ◌||◌, and-true, and-false}
use mathlib.Core.Logic.{⊎_elim}
use mathlib.Core.Path.{◌≡◌, refl, sym, ap, ◌∙◌}
use lib.Dec.{eqb, ltb}
use native.Mathlib.Omega.{arith}
use borrow.Author.Tests.{lt-ltb, le-ltb, ltb-true, ltb-false, eqb-true, eqb-false}
use Rattle.basics.proofs.LawsChoice.{holds_or_not, lt_or_le, by_choice}
use Rattle.kinds.specs.declared.HalfCents.{HalfCents}
use Rattle.kinds.specs.Kinds.{largest}
use Rattle.rules.specs.declared.Away.{Away}
use Rattle.rules.specs.declared.Order.{Order}
use Rattle.rules.specs.Instructions.{has, iso, market}
use Rattle.rules.specs.Working.{buying, beyond, limit_of, locking_price, absent, may_touch, half_a_cent_the_incoming_way}
use Rattle.orders.specs.Bound.{farthest, bound_of, bound_under}
use Rattle.orders.specs.Locks.{executes_at}

pub not_not : (t : Bool) → not (not t) ≡ t
not_not true = refl
not_not false = refl

-- ── Two bounds and a price, on numbers ──

-- the nearer of two bounds is the one to go by
nearer : (f l p : ℕ) → f ≤ l → not (ltb f p) ≡ (not (ltb f p) && not (ltb l p))
nearer f l p h =
    ⊎_elim
    (λ (k : f < p). rw (lt-ltb f p k))
    (λ (k : p ≤ f). rw (le-ltb f p k, le-ltb l p (omega arith)))
    (lt_or_le f p)

other : (f l p : ℕ) → l ≤ f → not (ltb l p) ≡ (not (ltb f p) && not (ltb l p))
other f l p h =
    ⊎_elim
    (λ (k : l < p). rw (lt-ltb l p k) (sym (and-false (not (ltb f p)))))
    (λ (k : p ≤ l). rw (le-ltb l p k, le-ltb f p (omega arith)))
    (lt_or_le l p)

nearer_sell : (f l p : ℕ) → l ≤ f → not (ltb p f) ≡ (not (ltb p f) && not (ltb p l))
nearer_sell f l p h =
    ⊎_elim
    (λ (k : p < f). rw (lt-ltb p f k))
    (λ (k : f ≤ p). rw (le-ltb p f k, le-ltb p l (omega arith)))
    (lt_or_le p f)

other_sell : (f l p : ℕ) → f ≤ l → not (ltb p l) ≡ (not (ltb p f) && not (ltb p l))
other_sell f l p h =
    ⊎_elim
    (λ (k : p < l). rw (lt-ltb p l k) (sym (and-false (not (ltb p f)))))
    (λ (k : l ≤ p). rw (le-ltb p l k, le-ltb p f (omega arith)))
    (lt_or_le p l)

-- ── On prices, by the side ──

within_first : (buy : Bool) (f l p : HalfCents) → not (beyond buy l f) ≡ true → not (beyond buy f p) ≡ (not (beyond buy f p) && not (beyond buy l p))
within_first true f l p h = nearer f.0 l.0 p.0 (ltb-false l.0 f.0 (sym (not_not _) ∙ ap not h))
within_first false f l p h = nearer_sell f.0 l.0 p.0 (ltb-false f.0 l.0 (sym (not_not _) ∙ ap not h))

within_second : (buy : Bool) (f l p : HalfCents) → not (beyond buy l f) ≡ false → not (beyond buy l p) ≡ (not (beyond buy f p) && not (beyond buy l p))
within_second true f l p h = let k : l.0 < f.0 = ltb-true l.0 f.0 (sym (not_not _) ∙ ap not h) in other f.0 l.0 p.0 (omega arith)
within_second false f l p h = let k : f.0 < l.0 = ltb-true f.0 l.0 (sym (not_not _) ∙ ap not h) in other_sell f.0 l.0 p.0 (omega arith)

-- a market order has no limit, and no price of four bytes is beyond the farthest
within_limit_lem : (o : Order) (price : HalfCents) → price.0 ≤ largest → not (beyond (buying o) (farthest o) price) ≡ (has o.word market || not (beyond (buying o) (limit_of o) price))
unfolding farthest
within_limit_lem o price l =
    ⊎_elim
    (λ (m : has o.word market ≡ true).
    ⊎_elim
    (λ (b : buying o ≡ true). rw (m, b, le-ltb largest price.0 l))
    (λ (b : buying o ≡ false). rw (m, b, le-ltb price.0 0 (omega arith)))
    (holds_or_not (buying o)))
    (λ (m : has o.word market ≡ false). rw m)
    (holds_or_not (has o.word market))

-- ── The bound ──

within_bound : (o : Order) (away : Away) (price : HalfCents) → price.0 ≤ largest → not (beyond (buying o) (bound_of o away) price) ≡ may_touch o away price
unfolding bound_of
within_bound o away price l =
    let locking = locking_price (buying o) away in
    ⊎_elim
    (λ (t : (has o.word iso || absent locking) ≡ true).
    rw t (within_limit_lem o price l ∙ sym (and-true (has o.word market || not (beyond (buying o) (limit_of o) price)))))
    (λ (t : (has o.word iso || absent locking) ≡ false).
    ⊎_elim
    (λ (u : not (beyond (buying o) locking (farthest o)) ≡ true).
    rw (t, u) (within_first (buying o) (farthest o) locking price u ∙ ap (λ (x : Bool). x && not (beyond (buying o) locking price)) (within_limit_lem o price l)))
    (λ (u : not (beyond (buying o) locking (farthest o)) ≡ false).
    rw (t, u) (within_second (buying o) (farthest o) locking price u ∙ ap (λ (x : Bool). x && not (beyond (buying o) locking price)) (within_limit_lem o price l)))
    (holds_or_not (not (beyond (buying o) locking (farthest o)))))
    (holds_or_not (has o.word iso || absent locking))

-- ── The bound for the prices at which orders rest ──

-- two comparisons that come out alike
alike : (a b c d : ℕ) → (a < b → c < d) → (b ≤ a → d ≤ c) → ltb a b ≡ ltb c d
alike a b c d f g =
    ⊎_elim
    (λ (l : a < b). lt-ltb a b l ∙ sym (lt-ltb c d (f l)))
    (λ (l : b ≤ a). le-ltb a b l ∙ sym (le-ltb c d (g l)))
    (lt_or_le a b)

module _ (locked bound p : HalfCents) (priced : 1 ≤ p.0) where
  -- by whether the bound is the locked price, and whether the order rests at it
  under : (buy : Bool) → beyond buy (bound_under buy locked bound) p ≡ beyond buy bound (executes_at buy locked p)
  under buy =
      ⊎_elim
      (λ (b : eqb bound.0 locked.0 ≡ true).
      let same : bound.0 ≡ locked.0 = eqb-true bound.0 locked.0 b in
      ⊎_elim
      (λ (q : eqb p.0 locked.0 ≡ true).
      let at : p.0 ≡ locked.0 = eqb-true p.0 locked.0 q in
      rw (b, q) (both buy same at))
      (λ (q : eqb p.0 locked.0 ≡ false).
      let off : p.0 ≡ locked.0 → ⊥ = eqb-false p.0 locked.0 q in
      rw (b, q) (bound_only buy same off))
      (holds_or_not (eqb p.0 locked.0)))
      (λ (b : eqb bound.0 locked.0 ≡ false).
      let other : bound.0 ≡ locked.0 → ⊥ = eqb-false bound.0 locked.0 b in
      ⊎_elim
      (λ (q : eqb p.0 locked.0 ≡ true).
      let at : p.0 ≡ locked.0 = eqb-true p.0 locked.0 q in
      rw (b, q) (order_only buy other at))
      (λ (q : eqb p.0 locked.0 ≡ false). rw (b, q))
      (holds_or_not (eqb p.0 locked.0)))
      (holds_or_not (eqb bound.0 locked.0))
    where
      both : (buy : Bool) → bound.0 ≡ locked.0 → p.0 ≡ locked.0
          → beyond buy (half_a_cent_the_incoming_way (not buy) bound) p ≡ beyond buy bound (half_a_cent_the_incoming_way buy p)
      both true same at = alike (bound.0 - 1) p.0 bound.0 (p.0 + 1) (λ l. omega (arith, same, at)) (λ l. omega (arith, same, at, priced))
      both false same at = alike p.0 (bound.0 + 1) (p.0 - 1) bound.0 (λ l. omega (arith, same, at, priced)) (λ l. omega (arith, same, at, l))

      bound_only : (buy : Bool) → bound.0 ≡ locked.0 → (p.0 ≡ locked.0 → ⊥)
          → beyond buy (half_a_cent_the_incoming_way (not buy) bound) p ≡ beyond buy bound p
      bound_only true same off = alike (bound.0 - 1) p.0 bound.0 p.0 (λ l. omega (arith, same, off, l, priced)) (λ l. omega (arith, l))
      bound_only false same off = alike p.0 (bound.0 + 1) p.0 bound.0 (λ l. omega (arith, same, off, l)) (λ l. omega (arith, l))

      order_only : (buy : Bool) → (bound.0 ≡ locked.0 → ⊥) → p.0 ≡ locked.0 → beyond buy bound p ≡ beyond buy bound (half_a_cent_the_incoming_way buy p)
      order_only true other at = alike bound.0 p.0 bound.0 (p.0 + 1) (λ l. omega (arith, l)) (λ l. omega (arith, l, other, at))
      order_only false other at = alike p.0 bound.0 (p.0 - 1) bound.0 (λ l. omega (arith, l)) (λ l. omega (arith, l, other, at, priced))

pub within_under : (o : Order) (away : Away) (locked price : HalfCents) → 1 ≤ price.0 → price.0 < largest
    → not (beyond (buying o) (bound_under (buying o) locked (bound_of o away)) price) ≡ may_touch o away (executes_at (buying o) locked price)
within_under o away locked price priced below =
    ap not (under locked (bound_of o away) price priced (buying o)) ∙ within_bound o away (executes_at (buying o) locked price) fits
  where
    half_fits : (buy : Bool) → (half_a_cent_the_incoming_way buy price).0 ≤ largest
    half_fits true = omega (arith, below)
    half_fits false = omega (arith, below)

    fits : (executes_at (buying o) locked price).0 ≤ largest
    fits =
        by_choice (λ (p : HalfCents). p.0 ≤ largest) (eqb price.0 locked.0) (λ t. half_fits (buying o)) (λ t. omega (arith, below))
