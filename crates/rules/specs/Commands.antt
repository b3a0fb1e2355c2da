-- What every accepted command does (01, How an order is worked, with cancel, quote and close): a chain of steps on what is done so far.
use Rattle.std.specs.Prelude.{ℕ, Bool, true, not, ◌&&◌, [], eqb, if◌then◌else◌}
use Rattle.kinds.specs.declared.Number.{Number}
use Rattle.rules.specs.declared.Away.{Away}
use Rattle.rules.specs.declared.Body.{Body}
use Rattle.rules.specs.declared.Body.TheVariants as body
use Rattle.rules.specs.declared.Held.{Held}
use Rattle.rules.specs.declared.Reason.TheVariants.{ByCommand, CancelledBack, AtClose}
use Rattle.rules.specs.declared.Resting.{Resting}
use Rattle.rules.specs.Book.{Book}
use Rattle.rules.specs.declared.Fate.{Fate}
use Rattle.rules.specs.declared.Fate.TheVariants.{Stays, IsCancelled, IsSet}
use Rattle.rules.specs.Reasons.{number_of_reason}
use Rattle.rules.specs.Settling.{set_at, Done, on_held, both_settled}
use Rattle.rules.specs.Working.{locking_price, absent, beyond, accept}

-- ── What a command changes of what a book holds besides its orders ──

-- every accepted command leaves its number and its time
abbrev pub with_accepted : Number → ℕ → Held → Held
with_accepted n time h = record { last = n; time = time; away = h.away; closed = h.closed }

-- what a quote and what a close change of it
abbrev pub with_away : Away → Held → Held
with_away away h = record { last = h.last; time = h.time; away = away; closed = h.closed }

abbrev pub shut : Held → Held
shut h = record { last = h.last; time = h.time; away = h.away; closed = true }

-- ── Cancel, quote and close ──

abbrev pub is_number : Number → Resting → Bool
is_number n h = eqb h.number.0 n.0

-- a cancel takes the order of that number off the book, reason 1
abbrev pub cancel_fate : Number → Resting → Fate
cancel_fate of h = if is_number of h then IsCancelled (number_of_reason ByCommand) else Stays

unfoldable pub cancel : Number → Done → Done
cancel of d = both_settled (λ (buy : Bool). cancel_fate of) d

-- A quote moves resting orders (02, W2, for 01's "Quote writes nothing, and moves no resting order"): "a non-displayed order that
-- would now cross the away quote is set at the Locking Price with a new time stamp." An absent away price is not crossed; a displayed
-- order stays, so "A later quote may be locked or crossed" by it. "ISO remainders are treated alike."
abbrev pub would_now_cross : Bool → Away → Resting → Bool
would_now_cross buy away h =
    let locking = locking_price buy away in
    not h.displayed && not (absent locking) && beyond buy locking h.price

-- "Such orders keep their order. One with Cancel Back is cancelled, reason 4."
abbrev pub quote_fate : Away → Bool → Resting → Fate
quote_fate away buy h =
    if not (would_now_cross buy away h) then Stays
    else if h.back then IsCancelled (number_of_reason CancelledBack)
    else IsSet (set_at (locking_price buy away) h)

unfoldable pub quote : Away → Done → Done
quote away d = both_settled (quote_fate away) (on_held (with_away away) d)

-- "Close cancels all buys in rank order, then all sells, and closes."
abbrev pub close_fate : Resting → Fate
close_fate h = IsCancelled (number_of_reason AtClose)

unfoldable pub close : Done → Done
close d = both_settled (λ (buy : Bool). close_fate) (on_held shut d)

-- ── Every accepted command ──

-- it leaves its number and its time, and has done nothing else yet
abbrev pub begun : Number → ℕ → Book → Done
begun n time b = record {
  book = record { held = with_accepted n time b.held; buys = b.buys; sells = b.sells };
  events = [];
  moves = 0;
}

-- what it does by its body
unfoldable pub carried_out : Number → Body → Done → Done
carried_out n (body.Order o) d = accept n o d
carried_out n (body.Cancel of) d = cancel of d
carried_out n (body.Quote away) d = quote away d
carried_out n body.Close d = close d

unfoldable pub does : Number → ℕ → Body → Book → Done
does n time by b = carried_out n by (begun n time b)
