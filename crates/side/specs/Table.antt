-- A side of the book in rows and an index: what a row has of its order, and which rows hold the side, in which order.
use Rattle.std.specs.Prelude.{ℕ, zero, suc, ◌+◌, ◌-◌, ◌*◌, ◌%◌, ◌≤◌, Bool, true, false, not, List, [], ◌∷◌, map, ◌≡◌, length, get_or, if◌then◌else◌}
use Rattle.std.specs.Int.{from_bool}
use Rattle.basics.specs.Lists.{times, insert_at, remove_at}
use Rattle.rules.specs.declared.Resting.{Resting}
use Rattle.rules.specs.Book.{places_a_side, unused}
use Rattle.side.specs.declared.rows.Row.{Row}

-- ── A row ──

-- Price and display in one number, for each side of the market: of two orders the better has the lower one, and two at one price and display
-- have the same. A price that no book would hold is cut to what four bytes have room for.
abbrev pub level_of : Bool → Resting → ℕ
level_of buy o =
    let twice = o.price.0 % 2147483648 * 2 in
    if buy then 4294967295 - (twice + from_bool o.displayed) else twice + from_bool (not o.displayed)

-- an order as a row, and the order in a row
abbrev pub row_of : Resting → Row
row_of o = record { order = o; buy_level = level_of true o; sell_level = level_of false o }

abbrev pub order_of : Row → Resting
order_of r = r.order

-- the level in a row
abbrev pub level_in : Bool → Row → ℕ
level_in buy r = if buy then r.buy_level else r.sell_level

-- a row that no order was put in yet
abbrev pub free : Row
free = record { order = unused; buy_level = 0; sell_level = 0 }

-- ── A side ──

-- The index has a byte for each place, and then the hints, of which nothing is said.
abbrev pub hints : ℕ
hints = 4096

abbrev pub index_size : ℕ
index_size = places_a_side + hints

-- where the hint of an order's number stands
abbrev pub hint_of : ℕ → ℕ
hint_of n = places_a_side + n % hints

-- a loop over an index passes parts of so many places
abbrev pub places_a_part : ℕ
places_a_part = 64

-- the first n bytes of an index name the rows in use, the best order's last: the rows of the side in rank order
unfoldable pub ranked : ℕ → List ℕ → List ℕ
ranked zero x = []
ranked (suc n) x = get_or x n 0 ∷ ranked n x

-- the byte at place `from` of an index comes to stand at place `to`, and those between move one place towards `from`
abbrev pub rotated : ℕ → ℕ → List ℕ → List ℕ
rotated from to x = insert_at to (get_or x from 0) (remove_at from x)

-- the rows that some bytes name
abbrev pub rows_at : List Row → List ℕ → List Row
rows_at t js = map (λ (j : ℕ). get_or t j free) js

-- the side: its n orders in rank order
abbrev pub side : ℕ → List ℕ → List Row → List Resting
side n x t = map order_of (rows_at t (ranked n x))

-- the bytes of the places name rows of the table, and none twice: so a row that is not in use is free
pub record Names (x : List ℕ) : Type 0 where
  pub long : length x ≡ index_size
  pub in_table : (j : ℕ) → places_a_side ≤ j → times j (ranked places_a_side x) ≡ 0
  pub once : (j : ℕ) → times j (ranked places_a_side x) ≤ 1

-- an index and a table hold a side of n orders, each in a row of its own, with its levels
pub record Holds (n : ℕ) (x : List ℕ) (t : List Row) : Type 0 where
  pub fits : n ≤ places_a_side
  pub all : length t ≡ places_a_side
  pub names : Names x
  pub rows : rows_at t (ranked n x) ≡ map row_of (side n x t)
