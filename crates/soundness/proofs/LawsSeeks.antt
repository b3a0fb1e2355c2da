-- The price that a remainder seeks is never beyond the bound of its walk: an order that the walk may not touch is beyond that
-- price. Assumes nothing.
use Prim.Native.Nat.{◌+◌, ◌-◌, ◌≤◌, ◌<◌}
use mathlib.Core.Bool.{Bool, true, false, not, ◌&&◌, ◌||◌, true≢false}
use mathlib.Core.Logic.{◌⊎◌, inl, inr, ⊎_elim}
use mathlib.Core.Path.{◌≡◌, refl, sym, ap, ◌∙◌}
use lib.Dec.{eqb}
use native.Mathlib.Omega.{arith}
use borrow.Author.Tests.{lt-ltb, ltb-true, ltb-false, eqb-true}
use Rattle.basics.proofs.LawsChoice.{holds_or_not, or_neither}
use Rattle.kinds.specs.declared.HalfCents.{HalfCents}
use Rattle.kinds.specs.Kinds.{resting_price_in_range}
use Rattle.rules.specs.declared.Away.{Away}
use Rattle.rules.specs.declared.Ending.{Ending}
use Rattle.rules.specs.declared.Ending.TheVariants.{Filled, Rests, Cancels}
use Rattle.rules.specs.declared.Order.{Order}
use Rattle.rules.specs.declared.Reason.{Reason}
use Rattle.rules.specs.declared.Reason.TheVariants.{CancelledBack, NoPriceInRange}
use Rattle.rules.specs.Instructions.{displayed, cancel_back, iso, market, has}
use Rattle.rules.specs.Refusals.{is_rest}
use Rattle.rules.specs.Working.{buying, beyond, limit_of, locking_price, absent, may_touch, adjusted, one_cent_less_aggressive, seeks}

-- ── Endings ──

-- where an ending rests
price_in : Ending → HalfCents → HalfCents
price_in Filled other = other
price_in (Rests p) other = p
price_in (Cancels reason) other = other

pub rests_at : (p q : HalfCents) → Rests p ≡ Rests q → p ≡ q
unfolding price_in
rests_at p q e = ap (λ (x : Ending). price_in x p) e

not_cancelled : (reason : Reason) (p : HalfCents) → Cancels reason ≡ Rests p → ⊥
not_cancelled reason p e = true≢false (sym (ap is_rest e))

-- an adjusted order rests at the price that it is adjusted to, or not at all
adjusted_rests : (o : Order) (price p : HalfCents) → adjusted o price ≡ Rests p → price ≡ p
adjusted_rests o price p e =
    ⊎_elim
    (λ (b : has o.word cancel_back ≡ true). absurd (not_cancelled CancelledBack p (rw b at e)))
    (λ (b : has o.word cancel_back ≡ false).
    ⊎_elim
    (λ (r : resting_price_in_range price ≡ true). rests_at price p (rw (b, r) at e))
    (λ (r : resting_price_in_range price ≡ false). absurd (not_cancelled NoPriceInRange p (rw (b, r) at e)))
    (holds_or_not (resting_price_in_range price)))
    (holds_or_not (has o.word cancel_back))

-- ── Prices, one beyond the other ──

pub beyond_further : (buy : Bool) (a b c : HalfCents) → beyond buy a b ≡ true → beyond buy b c ≡ true → beyond buy a c ≡ true
beyond_further true a b c p q =
    let l : a.0 < b.0 = ltb-true a.0 b.0 p in
    let m : b.0 < c.0 = ltb-true b.0 c.0 q in
    lt-ltb a.0 c.0 (omega arith)
beyond_further false a b c p q =
    let l : b.0 < a.0 = ltb-true b.0 a.0 p in
    let m : c.0 < b.0 = ltb-true c.0 b.0 q in
    lt-ltb c.0 a.0 (omega arith)

-- beyond a price that is at or beyond a bound, so beyond the bound
pub beyond_within : (buy : Bool) (bound limit price : HalfCents) → (eqb limit.0 bound.0 || beyond buy bound limit) ≡ true → beyond buy limit price ≡ true → beyond buy bound price ≡ true
beyond_within buy bound limit price l b =
    ⊎_elim
    (λ (e : eqb limit.0 bound.0 ≡ true). let same : limit.0 ≡ bound.0 = eqb-true limit.0 bound.0 e in at_bound buy same b)
    (λ (e : eqb limit.0 bound.0 ≡ false). beyond_further buy bound limit price (rw e at l) b)
    (holds_or_not (eqb limit.0 bound.0))
  where
    at_bound : (buy : Bool) → limit.0 ≡ bound.0 → beyond buy limit price ≡ true → beyond buy bound price ≡ true
    at_bound true e b = rw (← e) b
    at_bound false e b = rw (← e) b

-- a limit that is not beyond a bound: whatever is beyond the bound is beyond the limit
beyond_short : (buy : Bool) (bound limit price : HalfCents) → beyond buy bound limit ≡ false → beyond buy bound price ≡ true → beyond buy limit price ≡ true
beyond_short true bound limit price l b =
    let m : limit.0 ≤ bound.0 = ltb-false bound.0 limit.0 l in
    let k : bound.0 < price.0 = ltb-true bound.0 price.0 b in
    lt-ltb limit.0 price.0 (omega arith)
beyond_short false bound limit price l b =
    let m : bound.0 ≤ limit.0 = ltb-false limit.0 bound.0 l in
    let k : price.0 < bound.0 = ltb-true price.0 bound.0 b in
    lt-ltb price.0 limit.0 (omega arith)

-- a cent less aggressive is further from what is beyond
beyond_less : (buy : Bool) (bound price : HalfCents) → beyond buy bound price ≡ true → beyond buy (one_cent_less_aggressive buy bound) price ≡ true
beyond_less true bound price b = let k : bound.0 < price.0 = ltb-true bound.0 price.0 b in lt-ltb (bound.0 - 2) price.0 (omega arith)
beyond_less false bound price b = let k : price.0 < bound.0 = ltb-true price.0 bound.0 b in lt-ltb price.0 (bound.0 + 2) (omega arith)

-- ── What the walk may not touch ──

-- an order with a limit may not touch what is beyond its limit, or, unless it is ISO, beyond an away price that is there
may_not_lem : (limited away-bound free : Bool) → (not limited && (free || not away-bound)) ≡ false → (limited ≡ true) ⊎ ((free ≡ false) × (away-bound ≡ true))
may_not_lem true away-bound free e = inl refl
may_not_lem false true true e = absurd (true≢false e)
may_not_lem false true false e = inr (refl, refl)
may_not_lem false false true e = absurd (true≢false e)
may_not_lem false false false e = absurd (true≢false e)

pub or_right : (a : Bool) {b : Bool} → b ≡ true → (a || b) ≡ true
or_right true e = refl
or_right false e = e

or_or : (a b c : Bool) → (a || b || c) ≡ ((a || b) || c)
or_or true b c = refl
or_or false b c = refl

module _ (o : Order) (away : Away) (price p : HalfCents) (limited : has o.word market ≡ false) (untouched : may_touch o away price ≡ false) (rests : seeks o away ≡ Rests p) where
  free : Bool
  free = has o.word iso || absent (locking_price (buying o) away)

  either : (beyond (buying o) (limit_of o) price ≡ true) ⊎ ((free ≡ false) × (beyond (buying o) (locking_price (buying o) away) price ≡ true))
  unfolding free
  either =
      may_not_lem (beyond (buying o) (limit_of o) price) (beyond (buying o) (locking_price (buying o) away) price) (has o.word iso || absent (locking_price (buying o) away))
      (ap (λ (b : Bool). not (beyond (buying o) (limit_of o) price) && b) (sym (or_or (has o.word iso) (absent (locking_price (buying o) away)) (not (beyond (buying o) (locking_price (buying o) away) price)))) ∙ (rw limited at untouched))

  at : (q : HalfCents) → q ≡ p → beyond (buying o) q price ≡ true → beyond (buying o) p price ≡ true
  at q e b = rw (← e) b

  would_meet : Bool
  would_meet = eqb (limit_of o).0 (locking_price (buying o) away).0 || beyond (buying o) (locking_price (buying o) away) (limit_of o)

  -- of an order that would lock or cross: whatever it may not touch is beyond the Locking Price
  beyond_locking : would_meet ≡ true → beyond (buying o) (locking_price (buying o) away) price ≡ true
  unfolding would_meet
  beyond_locking m =
      ⊎_elim
      (λ (b : beyond (buying o) (limit_of o) price ≡ true). beyond_within (buying o) (locking_price (buying o) away) (limit_of o) price m b)
      (λ (b : (free ≡ false) × (beyond (buying o) (locking_price (buying o) away) price ≡ true)). b.1)
      either

  -- of an order that would not cross: whatever it may not touch is beyond its limit
  beyond_limit : beyond (buying o) (locking_price (buying o) away) (limit_of o) ≡ false → beyond (buying o) (limit_of o) price ≡ true
  beyond_limit c =
      ⊎_elim
      (λ (b : beyond (buying o) (limit_of o) price ≡ true). b)
      (λ (b : (free ≡ false) × (beyond (buying o) (locking_price (buying o) away) price ≡ true)). beyond_short (buying o) (locking_price (buying o) away) (limit_of o) price c b.1)
      either

  pub seeks_beyond : beyond (buying o) p price ≡ true
  unfolding seeks free would_meet
  seeks_beyond =
      ⊎_elim
      (λ (f : (has o.word iso || absent (locking_price (buying o) away)) ≡ true).
      at (limit_of o) (rests_at (limit_of o) p (rw f at rests))
      (⊎_elim
      (λ (b : beyond (buying o) (limit_of o) price ≡ true). b)
      (λ (b : (free ≡ false) × (beyond (buying o) (locking_price (buying o) away) price ≡ true)). absurd (true≢false (sym f ∙ b.0)))
      either))
      (λ (f : (has o.word iso || absent (locking_price (buying o) away)) ≡ false).
      ⊎_elim
      (λ (d : has o.word displayed ≡ true).
      ⊎_elim
      (λ (m : would_meet ≡ true).
      at (one_cent_less_aggressive (buying o) (locking_price (buying o) away)) (adjusted_rests o (one_cent_less_aggressive (buying o) (locking_price (buying o) away)) p (rw (f, d, m) at rests))
      (beyond_less (buying o) (locking_price (buying o) away) price (beyond_locking m)))
      (λ (m : would_meet ≡ false).
      at (limit_of o) (rests_at (limit_of o) p (rw (f, d, m) at rests)) (beyond_limit (or_neither (eqb (limit_of o).0 (locking_price (buying o) away).0) (beyond (buying o) (locking_price (buying o) away) (limit_of o)) m).1))
      (holds_or_not would_meet))
      (λ (d : has o.word displayed ≡ false).
      ⊎_elim
      (λ (c : beyond (buying o) (locking_price (buying o) away) (limit_of o) ≡ true).
      at (locking_price (buying o) away) (adjusted_rests o (locking_price (buying o) away) p (rw (f, d, c) at rests)) (beyond_locking (or_right (eqb (limit_of o).0 (locking_price (buying o) away).0) c)))
      (λ (c : beyond (buying o) (locking_price (buying o) away) (limit_of o) ≡ false).
      at (limit_of o) (rests_at (limit_of o) p (rw (f, d, c) at rests)) (beyond_limit c))
      (holds_or_not (beyond (buying o) (locking_price (buying o) away) (limit_of o))))
      (holds_or_not (has o.word displayed)))
      (holds_or_not (has o.word iso || absent (locking_price (buying o) away)))
