-- What `sound` says of one place of a side, of a side, and of what a book holds besides: as a record is inspected. LawsInspection shows
-- that together they are `record_sound`.
use Rattle.std.specs.Prelude.{ℕ, zero, suc, ◌-◌, Bool, true, not, ◌&&◌, ◌||◌, List, [], ◌∷◌, eqb, leb, take}
use Rattle.basics.specs.Lists.{any}
use Rattle.kinds.specs.declared.Number.{Number}
use Rattle.rules.specs.declared.Held.{Held}
use Rattle.rules.specs.declared.Resting.{Resting}
use Rattle.rules.specs.Book.{numbers, opening, closing, away_in_range, is_unused, ranks_before, resting_in_range}

-- ── One place ──

-- the number is none of these
abbrev pub none_of : List ℕ → ℕ → Bool
none_of s k = not (any (eqb k) s)

-- an order ranks before the next of those behind it, if there is one
abbrev pub ranks_before_next : Bool → Resting → List Resting → Bool
ranks_before_next buy o [] = true
ranks_before_next buy o (next ∷ behind) = ranks_before buy o next

-- what is said of an order: `behind` are those behind it on its side, and `others` the numbers of the other side
abbrev pub order_sound : Bool → Number → List ℕ → Resting → List Resting → Bool
order_sound buy last others o behind =
    resting_in_range last o
    && ranks_before_next buy o behind
    && none_of (numbers behind) o.number.0
    && none_of others o.number.0

-- what is said of a place that holds `o`, with the places `rest` behind it: of all these the first n are used
unfoldable pub place_sound : Bool → Number → List ℕ → ℕ → Resting → List Resting → Bool
place_sound buy last others zero o rest = is_unused o
place_sound buy last others (suc n) o rest = order_sound buy last others o (take n rest)

-- ── One side ──

-- each of some places is sound, of which the first n are used
unfoldable pub side_sound : Bool → Number → List ℕ → ℕ → List Resting → Bool
side_sound buy last others n [] = true
side_sound buy last others n (o ∷ rest) = place_sound buy last others n o rest && side_sound buy last others (n - 1) rest

-- ── The book besides its orders, of which there are so many ──

abbrev pub held_sound : Held → ℕ → ℕ → Bool
held_sound h buys sells =
    leb opening h.time
    && leb h.time closing
    && away_in_range h.away.bid
    && away_in_range h.away.offer
    && (not h.closed || (eqb buys 0 && eqb sells 0))
