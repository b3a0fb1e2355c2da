-- What a side holds for a walk (01, How an order is worked, 1; 02, W4): its holdings in the order in which a walk reaches them, what each
-- gives, and what is left of the orders then.
use Rattle.std.specs.Prelude.{ℕ, ◌+◌, ◌-◌, min, Bool, true, false, not, ◌&&◌, List, [], ◌∷◌, ◌≡◌, eqb, ltb, if◌then◌else◌}
use Rattle.std.specs.Bool.{beq}
use Rattle.basics.specs.Lists.{All}
use Rattle.kinds.specs.declared.HalfCents.{HalfCents}
use Rattle.kinds.specs.declared.Number.{Number}
use Rattle.kinds.specs.Kinds.{shares}
use Rattle.rules.specs.declared.Event.{Event}
use Rattle.rules.specs.declared.Event.TheVariants.{Executed}
use Rattle.rules.specs.declared.Resting.{Resting}
use Rattle.rules.specs.Book.{better, first_at_one_price, shares_left}
use Rattle.rules.specs.Settling.{amended}

-- ── Holdings ──

-- "During one walk the order counts as two holdings": its shown part, or its reserve, which is empty where it has none
pub record Holding : Type 0 where
  pub of : Resting
  pub is_reserve : Bool

abbrev pub shown_part : Resting → Holding
shown_part h = record { of = h; is_reserve = false }

abbrev pub reserve_part : Resting → Holding
reserve_part h = record { of = h; is_reserve = true }

abbrev pub size : Holding → ℕ
size h = if h.is_reserve then h.of.reserve.0 else h.of.shares.0

-- "the reserve behind every other order at that price, reserves among themselves in the rank of their shown parts": the reserve of an
-- order among the holdings of those that rank behind it
unfoldable pub behind_its_price : Holding → List Holding → List Holding
behind_its_price r [] = r ∷ []
behind_its_price r (h ∷ s) =
    if eqb h.of.price.0 r.of.price.0 && not h.is_reserve then h ∷ behind_its_price r s
    else r ∷ (h ∷ s)

-- "the shown part at its rank": the holdings of a side in rank order
unfoldable pub holdings : List Resting → List Holding
holdings [] = []
holdings (h ∷ s) = shown_part h ∷ behind_its_price (reserve_part h) (holdings s)

-- the rank of a holding in the walk: better price first; at one price shown parts before reserves, and each among themselves in the rank of
-- their orders
abbrev pub walks_before : Bool → Holding → Holding → Bool
walks_before buy x y =
    if not (eqb x.of.price.0 y.of.price.0) then better buy x.of.price y.of.price
    else if not (beq x.is_reserve y.is_reserve) then y.is_reserve
    else first_at_one_price x.of y.of

-- the walk reaches a holding before some others
abbrev pub BeforeAll : Bool → Holding → List Holding → Type 0
BeforeAll buy h hs = All (λ (x : Holding). walks_before buy h x ≡ true) hs

pub data InWalkOrder (buy : Bool) : List Holding → Type 0 where
  nobody : InWalkOrder buy []
  somebody : {h : Holding} {hs : List Holding} → BeforeAll buy h hs → InWalkOrder buy hs → InWalkOrder buy (h ∷ hs)

-- the orders of the shown parts, or of the reserves, among holdings
unfoldable pub orders_of : Bool → List Holding → List Resting
orders_of reserves [] = []
orders_of reserves (h ∷ s) = if beq h.is_reserve reserves then h.of ∷ orders_of reserves s else orders_of reserves s

-- ── The walk ──

-- nothing from anyone
unfoldable pub nothing : {H : Type 0} → List H → List ℕ
nothing [] = []
nothing (h ∷ s) = 0 ∷ nothing s

-- "walk the opposite side in rank order. The walk ends at the first order it may not touch": what each holding gives, place
-- by place, with 0 where it gives nothing. It is said of any kind of holding, of any test of which may be touched, and of
-- any rule `gives` for how much one gives of what is left.
unfoldable pub walk : {H : Type 0} → (H → Bool) → (ℕ → H → ℕ) → ℕ → List H → List ℕ
walk may gives left [] = []
walk may gives left (h ∷ s) =
    if may h then gives left h ∷ walk may gives (left - gives left h) s
    else nothing (h ∷ s)

-- "When a walk reaches it with less left than the smaller of its minimum and its holding, it is skipped and the walk goes on." (02, W7)
abbrev pub is_skipped : ℕ → Holding → Bool
is_skipped left h = ltb left (min h.of.minimum.0 (size h))

-- "for the smaller of the two sizes", unless it is skipped
abbrev pub smaller : ℕ → Holding → ℕ
smaller left h = if is_skipped left h then 0 else min left (size h)

-- ── After the walk ──

-- a line for each holding that gives, never one for two, at the price that its order has for this walk
unfoldable pub executions : Number → (Resting → HalfCents) → List Holding → List ℕ → List Event
executions n price [] ts = []
executions n price (h ∷ s) [] = []
executions n price (h ∷ s) (t ∷ ts) =
    if eqb t 0 then executions n price s ts
    else Executed n h.of.number (price h.of) (shares t) ∷ executions n price s ts

-- what was taken of the shown parts, or of the reserves, order by order
unfoldable pub taken_of : Bool → List Holding → List ℕ → List ℕ
taken_of reserves [] ts = []
taken_of reserves (h ∷ s) [] = []
taken_of reserves (h ∷ s) (t ∷ ts) =
    if beq h.is_reserve reserves then t ∷ taken_of reserves s ts else taken_of reserves s ts

-- a resting order with fewer shares, so many of its shown part and so many of its reserve; "When fewer shares remain than the minimum, the
-- minimum becomes what remains" (02, W7)
abbrev pub reduced_by : ℕ → ℕ → Resting → Resting
reduced_by t r h =
    let shown = h.shares.0 - t in
    let reserve = h.reserve.0 - r in
    amended h.price h.stamp shown reserve (min h.minimum.0 (shown + reserve)) h

-- the resting orders with the shares that each keeps; whoever keeps none leaves the book
unfoldable pub keeping : List Resting → List ℕ → List ℕ → List Resting
keeping [] ts rs = []
keeping (h ∷ s) [] rs = h ∷ s
keeping (h ∷ s) (t ∷ ts) [] = h ∷ s
keeping (h ∷ s) (t ∷ ts) (r ∷ rs) =
    if eqb (shares_left (reduced_by t r h)) 0 then keeping s ts rs
    else reduced_by t r h ∷ keeping s ts rs

unfoldable pub after : List Resting → List ℕ → List Resting
after s ts = keeping s (taken_of false (holdings s) ts) (taken_of true (holdings s) ts)
