-- The tally (02, W1): "a tally that takes a day's lines and gives, for one order number, shares executed and cancelled. The tally passes
-- over `1f` lines, stops with the reader's refusal at any other bad line .. A sum that would pass 4,294,967,295 is refused by name."
use Rattle.std.specs.Prelude.{ℕ, ◌+◌, ◌-◌, ◌||◌, List, [], eqb, ltb, length, if◌then◌else◌, Some, None, Result, Ok, Err}
use Rattle.std.specs.Option.{is_some}
use Rattle.kinds.specs.declared.Number.{Number}
use Rattle.kinds.specs.Kinds.{shares, largest}
use Rattle.rules.specs.declared.Event.{Event}
use Rattle.rules.specs.declared.Event.TheVariants.{Executed, Rested, Cancelled, Moved}
use Rattle.rules.specs.EventReading.{EventReading}
use Rattle.digits.specs.Digits.{number_at}
use Rattle.rules.specs.Day.{cut, lines_in}
use Rattle.rules.specs.EventLines.{refusal_kind}
use Rattle.rules.specs.EventReading.{event_in, is_kind}
use Rattle.demands.specs.Told.{cancelled_by}
use Rattle.command_lines.specs.Pieces.{part_kept, after_lines, after_pieces}
use Rattle.tally.specs.declared.TalliedPiece.{TalliedPiece}
use Rattle.tally.specs.declared.Stop.{Stop}
use Rattle.tally.specs.declared.Stop.TheVariants as stop
use Rattle.tally.specs.declared.Tally.{Tally}

-- nothing was counted yet
abbrev pub none_counted : Tally
none_counted = record { lines = 0; executed = shares 0; cancelled = shares 0; stop = None }

-- ── One event ──

-- the shares of an order that an event executes, in whichever role; a line that names one number twice counts once. A move changes no
-- order's shares (02, W2).
abbrev pub executed_shares : Number → Event → ℕ
executed_shares n (Executed incoming resting price shares) = if eqb n.0 incoming.0 || eqb n.0 resting.0 then shares.0 else 0
executed_shares n (Rested m price shares) = 0
executed_shares n (Cancelled m shares reason) = 0
executed_shares n (Moved m price shares) = 0

-- ── One line ──

-- one line more; the largest number of eight bytes stays
abbrev pub one_more : ℕ → ℕ
one_more k = if ltb k 18446744073709551615 then k + 1 else k

abbrev pub stopped_by : Stop → Tally → Tally
stopped_by why t = record { lines = t.lines; executed = t.executed; cancelled = t.cancelled; stop = Some why }

-- where a line stops a tally, it says why
abbrev pub or_stopped : Tally → Result Tally Stop → Tally
or_stopped t (Ok counted) = counted
or_stopped t (Err why) = stopped_by why t

abbrev pub passed_over : Tally → Tally
passed_over t = record { lines = one_more t.lines; executed = t.executed; cancelled = t.cancelled; stop = t.stop }

-- the two sums with what an event adds, each within the limit
unfoldable pub added : ℕ → ℕ → Tally → Tally
added executed cancelled t =
    if ltb largest (t.executed.0 + executed) then stopped_by stop.ExecutedPasses t
    else if ltb largest (t.cancelled.0 + cancelled) then stopped_by stop.CancelledPasses t
    else record {
      lines = one_more t.lines;
      executed = shares (t.executed.0 + executed);
      cancelled = shares (t.cancelled.0 + cancelled);
      stop = t.stop;
    }

-- what was read of a line, counted: what it cancels as demand 3 does; a line that is no event line stops it, with the reader's word
abbrev pub counted : Number → EventReading → Tally → Tally
counted n (Ok e) t = added (executed_shares n e) (cancelled_by n e) t
counted n (Err why) t = stopped_by (stop.BadLine why) t

-- a line that begins with `1f` is passed over, whatever follows
unfoldable pub going_on : Number → Tally → List ℕ → Tally
going_on n t line = if is_kind refusal_kind (number_at 1 0 line) then passed_over t else counted n (event_in line) t

-- a tally that has stopped stays
unfoldable pub turn : Number → Tally → List ℕ → Tally
turn n t line = if is_some t.stop then t else going_on n t line

-- ── A day ──

-- the tally of an output, line by line
unfoldable pub tally_of : Number → List ℕ → Tally
tally_of n output = after_lines (turn n) none_counted (lines_in output)

-- what the whole lines of a piece lead a tally on to, and how many bytes they are
unfoldable pub fed_on : Number → Tally → List ℕ → TalliedPiece
fed_on n t input = record { tally = after_lines (turn n) t (cut input).whole; at = length input - length (cut input).part }

-- the tally of an output in pieces
unfoldable pub tally_of_pieces : Number → List (List ℕ) → Tally
tally_of_pieces n pieces = after_pieces (turn n) part_kept none_counted [] pieces
