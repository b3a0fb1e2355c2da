-- A cursor over the parts of a side's orders, as a walk reaches them (02, W4): "the shown part at its rank, the reserve behind every other
-- order at that price, reserves among themselves in the rank of their shown parts". A reserve that is empty is no part. `LawsParts` shows
-- that these are 01's and 02's holdings.
use Rattle.std.specs.Prelude.{ℕ, ◌+◌, ◌≤◌, ◌<◌, max, not, ◌&&◌, List, [], ◌∷◌, ◌++◌, ◌≡◌, eqb, length, get_or, take, drop, if◌then◌else◌, Option, None, Some}
use Rattle.kinds.specs.declared.HalfCents.{HalfCents}
use Rattle.kinds.specs.Kinds.{half_cents, shares}
use Rattle.rules.specs.declared.Resting.{Resting}
use Rattle.rules.specs.Book.{unused}
use Rattle.rules.specs.Holdings.{Holding, shown_part, reserve_part, size}
use Rattle.orders.specs.declared.cursor.Part.{Part}
use Rattle.orders.specs.declared.cursor.Cursor.{Cursor}

-- ── The parts ──

abbrev pub shown_at : ℕ → Resting → Part
shown_at i o = record { place = i; price = o.price; shares = o.shares; minimum = o.minimum }

abbrev pub reserve_at : ℕ → Resting → Part
reserve_at i o = record { place = i; price = o.price; shares = o.reserve; minimum = o.minimum }

-- the reserves of the orders from rank i on, in rank order
unfoldable pub reserves : ℕ → List Resting → List Part
reserves i [] = []
reserves i (o ∷ s) = if eqb o.reserve.0 0 then reserves (i + 1) s else reserve_at i o ∷ reserves (i + 1) s

-- the parts from rank i on, behind an order at the price `level`; the reserves in `waiting` stand behind every other order at that price
unfoldable pub parts_from : ℕ → HalfCents → List Part → List Resting → List Part
parts_from i level waiting [] = waiting
parts_from i level waiting (o ∷ s) =
    if eqb o.price.0 level.0 then shown_at i o ∷ parts_from (i + 1) o.price (waiting ++ reserves i (o ∷ [])) s
    else waiting ++ (shown_at i o ∷ parts_from (i + 1) o.price (reserves i (o ∷ [])) s)

abbrev pub parts : List Resting → List Part
parts s = parts_from 0 (half_cents 0) [] s

-- ── The same with empty reserves, as holdings at their places ──

pub record Placed : Type 0 where
  pub place : ℕ
  pub holding : Holding

abbrev pub placed_at : ℕ → Holding → Placed
placed_at i h = record { place = i; holding = h }

abbrev pub part_of : Placed → Part
part_of p = record {
  place = p.place;
  price = p.holding.of.price;
  shares = shares (size p.holding);
  minimum = p.holding.of.minimum;
}

-- `behind_its_price` and `holdings` of rules, with places
unfoldable pub behind_placed : Placed → List Placed → List Placed
behind_placed r [] = r ∷ []
behind_placed r (p ∷ s) =
    if eqb p.holding.of.price.0 r.holding.of.price.0 && not p.holding.is_reserve then p ∷ behind_placed r s
    else r ∷ (p ∷ s)

unfoldable pub placed_from : ℕ → List Resting → List Placed
placed_from i [] = []
placed_from i (h ∷ s) = placed_at i (shown_part h) ∷ behind_placed (placed_at i (reserve_part h)) (placed_from (i + 1) s)

-- ── A cursor over them ──

-- the reserves that wait at a cursor, and the parts ahead of it
abbrev pub waiting : List Resting → ℕ → ℕ → List Part
waiting s waits at = reserves waits (drop waits (take at s))

unfoldable pub ahead : List Resting → Cursor → List Part
ahead s c = parts_from c.at c.level (waiting s c.waits c.at) (drop c.at s)

abbrev pub start : Cursor
start = record { at = 0; waits = 0; level = half_cents 0 }

-- a cursor within a side: the order that it names as waiting has a reserve
pub record IsAt (s : List Resting) (c : Cursor) : Type 0 where
  pub within : c.at ≤ length s
  pub behind : c.waits ≤ c.at
  pub waits : c.waits < c.at → 0 < (get_or s c.waits unused).reserve.0

-- no order between `from` and r has a reserve
pub record Skips (s : List Resting) (from to r : ℕ) : Type 0 where
  pub after : from ≤ r
  pub before : r ≤ to
  pub same : waiting s r to ≡ waiting s from to
  pub found : r < to → 0 < (get_or s r unused).reserve.0

-- no other order at the price of the reserves that wait is ahead
abbrev pub LevelEnds : List Resting → Cursor → Type 0
LevelEnds s c =
    (w : List Part) → parts_from c.at c.level w (drop c.at s) ≡ w ++ parts_from c.at c.level [] (drop c.at s)

-- the first order whose reserve waits, once the one at `at` has been reached
abbrev pub first_waiting : ℕ → ℕ → ℕ → ℕ
first_waiting at waits reserve = if eqb waits at && eqb reserve 0 then at + 1 else waits

-- p is the first of the parts ahead of a cursor, and the next cursor has the others ahead
pub record Gives (s : List Resting) (c : Cursor) (p : Part) (next : Cursor) : Type 0 where
  pub list : ahead s c ≡ p ∷ ahead s next
  pub place : p.place < length s
  pub at : next.at ≡ max c.at (p.place + 1)
  pub stands : IsAt s next

-- what is found ahead of a cursor: that, or nothing
abbrev pub Follows : List Resting → Cursor → Option (Part × Cursor) → Type 0
Follows s c (Some found) = Gives s c found.0 found.1
Follows s c None = ahead s c ≡ []
