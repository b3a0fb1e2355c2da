-- What an order does to its own side and to the opposite one (01, How an order is worked), with the refusal for a full side.
use Rattle.std.specs.Prelude.{ℕ, ◌<◌, Bool, true, not, ◌&&◌, List, [], ◌++◌, ◌≡◌, leb, length, if◌then◌else◌, Result}
use Rattle.basics.specs.Bytes.{onto}
use Rattle.basics.specs.Lists.{All}
use Rattle.kinds.specs.declared.Number.{Number}
use Rattle.rules.specs.declared.Ending.{Ending}
use Rattle.rules.specs.declared.Ending.TheVariants.{Filled, Rests, Cancels}
use Rattle.rules.specs.declared.Event.{Event}
use Rattle.rules.specs.declared.Order.{Order}
use Rattle.rules.specs.declared.Refusal.{Refusal}
use Rattle.rules.specs.declared.Resting.{Resting}
use Rattle.rules.specs.Book.{places_a_side, stamp, in_rank_order}
use Rattle.rules.specs.EventLines.{event_lines}
use Rattle.rules.specs.Refusals.{is_rest}
use Rattle.rules.specs.Refusing.{or_refused}
use Rattle.rules.specs.Holdings.{holdings, executions, after}
use Rattle.rules.specs.Settling.{first_move, told, settled_side}
use Rattle.rules.specs.Working.{buying, Met, execution_price, takings, remainder, ending, last_line, with_remainder, refill_fate}
use Rattle.side.specs.Looking.{price_bound, Older}
use Rattle.orders.specs.Walking.{Walkable}

pub record Match : Type 0 where
  pub refusal : ℕ
  pub events : List Event
  pub own : List Resting
  pub opposite : List Resting

-- "the rules would rest a remainder and that side holds 64", with W5 256
abbrev pub is_full : Ending → List Resting → Bool
is_full end own = is_rest end && leb places_a_side (length own)

-- the sides and the events of `Working.accept`, or refusal 11 with the same sides
unfoldable pub match_of : Order → Number → Met → Match
match_of o number met =
    if is_full (ending o met) met.own then record { refusal = 11; events = []; own = met.own; opposite = met.opposite }
    else record {
      refusal = 0;
      events =
          (executions number (execution_price o met) (holdings met.opposite) (takings o met)
          ++ last_line number (remainder o met) (ending o met))
          ++ told refill_fate (after met.opposite (takings o met));
      own = with_remainder number o (remainder o met) (ending o met) met.own;
      opposite = settled_side number first_move (not (buying o)) refill_fate (after met.opposite (takings o met));
    }

-- what a match returns and leaves of two sides and an output that are lent: `own` and `opposite` are what then rests, and `out'` is what is
-- then in the output, where `out` was
abbrev pub Matches : Result ℕ Refusal → List Resting → List Resting → List ℕ → List ℕ → Match → Type 0
Matches r own opposite out' out m =
    (r ≡ or_refused (length (event_lines m.events)) m.refusal)
    × (own ≡ m.own)
    × (opposite ≡ m.opposite)
    × (out' ≡ onto (event_lines m.events) out)

-- a price at which an order would rest is below the bound of levels
abbrev pub rests_below : Ending → Type 0
rests_below Filled = Unit {0}
rests_below (Rests price) = price.0 < price_bound
rests_below (Cancels reason) = Unit {0}

-- what rests by command n takes its place on a side in rank order, behind whoever stands there at its price
pub record MayRest (buy : Bool) (n : Number) (end : Ending) (own : List Resting) : Type 0 where
  pub priced : rests_below end
  pub ranked : in_rank_order buy own ≡ true
  pub older : All (Older (stamp n 0)) own

-- what a match by command n asks of both sides, and a sound book gives
pub record Ready (o : Order) (n : Number) (met : Met) : Type 0 where
  pub walkable : Walkable o met
  pub own_ranked : in_rank_order (buying o) met.own ≡ true
  pub older : All (Older (stamp n 0)) met.own
  pub opposite_older : All (Older (stamp n first_move)) met.opposite
