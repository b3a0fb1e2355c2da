-- The tests of a line's size and ending (02, W1), of the four kinds at once: "short .., trailing bytes, bad digit or ending"; and its fields.
use Rattle.std.specs.Prelude.{ℕ, ◌-◌, List, eqb, ltb, length, get_or, if◌then◌else◌, Option, Some, None, Result, Ok, Err}
use Rattle.rules.specs.declared.NoEvent.{NoEvent}
use Rattle.rules.specs.declared.NoEvent.TheVariants.{Short, TrailingBytes, BadDigitOrEnding}
use Rattle.rules.specs.CommandLines.{made, numbers_from, line_feed}
use Rattle.rules.specs.EventLines.{rested_fields}
use Rattle.kinds.specs.declared.Number.{Number}
use Rattle.kinds.specs.declared.HalfCents.{HalfCents}
use Rattle.kinds.specs.declared.Shares.{Shares}
use Rattle.kinds.specs.Kinds.{number, half_cents, shares}

-- that a line has its size and its line feed, or why it is no event line
unfoldable pub ended : ℕ → List ℕ → Result (Unit {0}) NoEvent
ended size line =
    if ltb (length line) size then Err Short
    else if ltb size (length line) then Err TrailingBytes
    else if eqb (get_or line (size - 1) 0) line_feed then Ok tt
    else Err BadDigitOrEnding

-- a field that has to be digits
abbrev pub digits_or_bad : Option ℕ → Result ℕ NoEvent
digits_or_bad (Some n) = Ok n
digits_or_bad None = Err BadDigitOrEnding

-- the fields of an order at a price
abbrev pub at_price : List ℕ → Result (Number × HalfCents × Shares) NoEvent
at_price line =
    made (Err BadDigitOrEnding) rested_fields (λ n price count. Ok (number n, half_cents price, shares count)) (numbers_from 2 rested_fields line)
