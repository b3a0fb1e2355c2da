-- What the program's own lines tell, read back from their bytes: the events of an output, and from them what each order executed,
-- gave and had cancelled. Demand 3 is said of these: what an order did is what its lines tell, not what the book's inside did.
use Rattle.std.specs.Prelude.{ℕ, ◌+◌, Bool, false, ◌&&◌, List, [], ◌∷◌, ◌++◌, eqb, if◌then◌else◌, Ok, Err}
use Rattle.basics.specs.Lists.{any, sum_of}
use Rattle.kinds.specs.Kinds.{shares}
use Rattle.kinds.specs.declared.Number.{Number}
use Rattle.rules.specs.declared.Event.{Event}
use Rattle.rules.specs.declared.Event.TheVariants.{Executed, Rested, Cancelled, Moved}
use Rattle.rules.specs.EventReading.{EventReading}
use Rattle.rules.specs.declared.NoEvent.TheVariants.{UnknownKind, Short, TrailingBytes, BadDigitOrEnding}
use Rattle.rules.specs.declared.Reason.TheVariants.{FokKilled}
use Rattle.rules.specs.declared.Resting.{Resting}
use Rattle.rules.specs.Book.{Book, shares_left}
use Rattle.rules.specs.Day.{lines_in}
use Rattle.rules.specs.EventReading.{event_in}
use Rattle.rules.specs.Reasons.{number_of_reason}

-- ── Reading event lines ──

-- the event that a line was read as (02, W1); none where it is no event line, as that of a refusal
abbrev pub read_as : EventReading → List Event
read_as (Ok e) = e ∷ []
read_as (Err UnknownKind) = []
read_as (Err Short) = []
read_as (Err TrailingBytes) = []
read_as (Err BadDigitOrEnding) = []

unfoldable pub events_on : List (List ℕ) → List Event
events_on [] = []
events_on (l ∷ ls) = read_as (event_in l) ++ events_on ls

-- the events that an output tells, line by line
abbrev pub events_in : List ℕ → List Event
events_in bytes = events_on (lines_in bytes)

-- ── Shares, summed from events ──

-- Neither a move nor a refill changes what an order has in all (02, W2, W4), so a line `14` counts for nothing in any of these sums.

-- k where the two numbers are one, else nothing
abbrev pub counted_if : Number → Number → ℕ → ℕ
counted_if n m k = if eqb n.0 m.0 then k else 0

-- the shares of order n that an event executes, in either of the two roles that an order plays, incoming and resting
abbrev pub executed_by : Number → Event → ℕ
executed_by n (Executed incoming resting price shares) = counted_if n incoming shares.0 + counted_if n resting shares.0
executed_by n (Rested m price shares) = 0
executed_by n (Cancelled m shares reason) = 0
executed_by n (Moved m price shares) = 0

-- those that it gives as the resting one
abbrev pub given_by : Number → Event → ℕ
given_by n (Executed incoming resting price shares) = counted_if n resting shares.0
given_by n (Rested m price shares) = 0
given_by n (Cancelled m shares reason) = 0
given_by n (Moved m price shares) = 0

abbrev pub cancelled_by : Number → Event → ℕ
cancelled_by n (Executed incoming resting price shares) = 0
cancelled_by n (Rested m price shares) = 0
cancelled_by n (Cancelled m shares reason) = counted_if n m shares.0
cancelled_by n (Moved m price shares) = 0

abbrev pub executed_in : Number → List Event → ℕ
executed_in n es = sum_of (executed_by n) es

abbrev pub given_in : Number → List Event → ℕ
given_in n es = sum_of (given_by n) es

abbrev pub cancelled_in : Number → List Event → ℕ
cancelled_in n es = sum_of (cancelled_by n) es

-- the line that kills a Fill-or-Kill has reason 3; that it cancels "the whole order" is `killed_whole` of `Executes`
abbrev pub kills : Number → Event → Bool
kills n (Executed incoming resting price shares) = false
kills n (Rested m price shares) = false
kills n (Cancelled m shares reason) = eqb n.0 m.0 && eqb reason (number_of_reason FokKilled)
kills n (Moved m price shares) = false

abbrev pub is_killed : Number → List Event → Bool
is_killed n es = any (kills n) es

-- ── Shares still resting, shown and in reserve (02, W4) ──

abbrev pub rests_on : Number → List Resting → ℕ
rests_on n s = sum_of (λ (h : Resting). counted_if n h.number (shares_left h)) s

abbrev pub resting_of : Number → Book → ℕ
resting_of n b = rests_on n b.buys + rests_on n b.sells
