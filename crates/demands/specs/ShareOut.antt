-- Demand 3, in the customer's words: "Call a share-out lawful if it gives each opposite resting order no more than it holds, at that
-- order's price, within the incoming limit if there is one, and, unless the order is an ISO, neither buys above the best away offer
-- nor sells below the best away bid then held, and totals no more than the order." With W4 "lawful share-outs .. count both holdings, each
-- as an order of its own". No word here is of the walk, but for the order in which the holdings stand.
use Rattle.std.specs.Prelude.{ℕ, ◌+◌, ◌≤◌, ◌<◌, true, false, List, ◌∷◌, ◌≢◌, ◌≡◌, eqb, if◌then◌else◌}
use Rattle.basics.specs.Lists.{sum_of, Each, OneOf}
use Rattle.kinds.specs.declared.HalfCents.{HalfCents}
use Rattle.kinds.specs.Kinds.{in_half_cents}
use Rattle.rules.specs.declared.Away.{Away}
use Rattle.rules.specs.declared.Order.{Order}
use Rattle.rules.specs.declared.Resting.{Resting}
use Rattle.rules.specs.Book.{Book}
use Rattle.rules.specs.Holdings.{Holding, holdings, size}
use Rattle.rules.specs.Instructions.{iso, market, has}

-- "each opposite resting order": a buy (side 0) meets the sells, and a sell the buys
abbrev pub opposite : Order → Book → List Resting
opposite o b = if eqb o.side 0 then b.sells else b.buys

-- its holdings, as they stand in a walk: the shown part of each order at its rank, its reserve behind all others at that price (02, W4)
abbrev pub against : Order → Book → List Holding
against o b = holdings (opposite o b)

-- what a holding gives, and at which price
pub record Given : Type 0 where
  pub shares : ℕ
  pub price : HalfCents

-- x and y stand at one place of their lists
pub data Beside {A B : Type 0} (x : A) (y : B) : List A → List B → Type 0 where
  here : {s : List A} {u : List B} → Beside x y (x ∷ s) (y ∷ u)
  later : {v : A} {w : B} {s : List A} {u : List B} → Beside x y s u → Beside x y (v ∷ s) (w ∷ u)

-- a price at which a resting order could lawfully give: "within the incoming limit if there is one, and, unless the order is an
-- ISO, neither buys above the best away offer nor sells below the best away bid": side 0 buys, side 1 sells; an away price of 0
-- is none
pub record Fair (o : Order) (away : Away) (price : HalfCents) : Type 0 where
  pub buys_within_limit : has o.word market ≡ false → o.side ≡ 0 → price.0 ≤ (in_half_cents o.price).0
  pub sells_within_limit : has o.word market ≡ false → o.side ≡ 1 → (in_half_cents o.price).0 ≤ price.0
  pub buys_within_offer : has o.word iso ≡ false → o.side ≡ 0 → away.offer.0 ≢ 0 → price.0 ≤ (in_half_cents away.offer).0
  pub sells_within_bid : has o.word iso ≡ false → o.side ≡ 1 → away.bid.0 ≢ 0 → (in_half_cents away.bid).0 ≤ price.0

-- a lock (02, W6): a displayed order of the incoming order's own side stands at the price of an opposite non-displayed one
pub record Locked (own : List Resting) (h : Resting) : Type 0 where
  pub hidden : h.displayed ≡ false
  pub by : Resting
  pub there : OneOf by own
  pub shown : by.displayed ≡ true
  pub at_its_price : by.price.0 ≡ h.price.0

-- "Demand 3's "that order's price" becomes the price given here": its own, but "While that lock stands, .. An incoming market sell, or one
-- priced below the displayed sell, executes against it half a cent under that price; a buy, the mirror." So "a hidden order barred here
-- isn't one that could give": this price is beyond the limit of an order limited at the locked one.
pub data PriceHere (o : Order) (own : List Resting) (h : Resting) : HalfCents → Type 0 where
  its_own : (Locked own h → ⊥) → PriceHere o own h h.price
  half_under : {price : HalfCents} → Locked own h → o.side ≡ 1 → price.0 + 1 ≡ h.price.0 → PriceHere o own h price
  half_over : {price : HalfCents} → Locked own h → o.side ≡ 0 → price.0 ≡ h.price.0 + 1 → PriceHere o own h price

-- "no more than it holds, at that order's price", beside the orders of the incoming order's own side: who gives nothing is under no further
-- clause
pub record LawfulGiving (o : Order) (away : Away) (own : List Resting) (h : Holding) (g : Given) : Type 0 where
  pub no_more : g.shares ≤ size h
  pub at_its_price : 0 < g.shares → PriceHere o own h.of g.price
  pub fair : 0 < g.shares → Fair o away g.price

abbrev pub given : List Given → ℕ
given gs = sum_of (λ (g : Given). g.shares) gs

pub record Lawful (o : Order) (away : Away) (own : List Resting) (against : List Holding) (gs : List Given) : Type 0 where
  pub each : Each (LawfulGiving o away own) against gs
  pub in_all : given gs ≤ o.shares.0

-- a lawful share-out totals the order's size
pub record Fills (o : Order) (away : Away) (own : List Resting) (against : List Holding) : Type 0 where
  pub share_out : List Given
  pub is_lawful : Lawful o away own against share_out
  pub totals : given share_out ≡ o.shares.0
