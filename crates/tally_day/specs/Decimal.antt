-- An order number as a clerk writes it: one to ten decimal digits, the most significant first, at most the largest number that four
-- bytes hold.
use Rattle.std.specs.Prelude.{ℕ, ◌+◌, ◌-◌, ◌*◌, Bool, true, ◌&&◌, ◌||◌, List, [], ◌∷◌, leb, ltb, eqb, length, if◌then◌else◌, Option, Some, None}
use Rattle.kinds.specs.Kinds.{largest}

abbrev pub is_decimal : ℕ → Bool
is_decimal c = leb 48 c && leb c 57

unfoldable pub all_decimal : List ℕ → Bool
all_decimal [] = true
all_decimal (c ∷ s) = is_decimal c && all_decimal s

-- the number that digits write after those that wrote acc
unfoldable pub decimal_after : ℕ → List ℕ → ℕ
decimal_after acc [] = acc
decimal_after acc (c ∷ s) = decimal_after (acc * 10 + (c - 48)) s

unfoldable pub decimal_in : List ℕ → Option ℕ
decimal_in s =
    if eqb (length s) 0 || ltb 10 (length s) then None
    else if all_decimal s && leb (decimal_after 0 s) largest then Some (decimal_after 0 s)
    else None
