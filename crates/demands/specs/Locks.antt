-- W6's sentences, said of one accepted order on the book that stood, and of that book: at which price it executes against which resting
-- order, when Post Only is cancelled, and who stands opposite whom. `LawsLocks` has the proofs.
use Rattle.std.specs.Prelude.{ℕ, ◌%◌, ◌≤◌, ◌<◌, true, false, List, ◌≡◌, Some, None}
use Rattle.basics.specs.Lists.{OneOf}
use Rattle.kinds.specs.declared.HalfCents.{HalfCents}
use Rattle.kinds.specs.declared.Shares.{Shares}
use Rattle.rules.specs.declared.Body.TheVariants as body
use Rattle.rules.specs.declared.Command.{Command}
use Rattle.rules.specs.declared.Ending.TheVariants.{Rests}
use Rattle.rules.specs.declared.Event.{Event}
use Rattle.rules.specs.declared.Event.TheVariants.{Executed, Rested, Cancelled, Moved}
use Rattle.rules.specs.declared.Order.{Order}
use Rattle.rules.specs.declared.Resting.{Resting}
use Rattle.rules.specs.Book.{Book, sound}
use Rattle.rules.specs.CommandLines.{command_in}
use Rattle.rules.specs.Day.{printed}
use Rattle.rules.specs.Instructions.{has, post_only}
use Rattle.rules.specs.Step.{answer_to}
use Rattle.rules.specs.Working.{seeks}
use Rattle.demands.specs.Once.{acts}
use Rattle.demands.specs.ShareOut.{opposite}
use Rattle.demands.specs.Told.{events_in}

-- a line enters an order on a sound book, is accepted, and prints an execution with an opposite order at a price
pub record ExecutesWith (b : Book) (line : List ℕ) (o : Order) (h : Resting) (price : HalfCents) : Type 0 where
  pub command : Command
  pub shares : Shares
  pub is_sound : sound b ≡ true
  pub is_accepted : acts b line ≡ true
  pub reads : command_in line ≡ Some command
  pub enters : command.body ≡ body.Order o
  pub there : OneOf h (opposite o b)
  pub prints : OneOf (Executed command.number h.number price shares) (events_in (printed (answer_to b line)))

-- "meets a displayed order or would pass a hidden one": equals or passes, or strictly passes; a buy upwards, a sell downwards
pub data MeetsOrPasses (o : Order) (price : HalfCents) (h : Resting) : Type 0 where
  buy_meets : o.side ≡ 0 → h.displayed ≡ true → h.price.0 ≤ price.0 → MeetsOrPasses o price h
  buy_passes : o.side ≡ 0 → h.displayed ≡ false → h.price.0 < price.0 → MeetsOrPasses o price h
  sell_meets : o.side ≡ 1 → h.displayed ≡ true → price.0 ≤ h.price.0 → MeetsOrPasses o price h
  sell_passes : o.side ≡ 1 → h.displayed ≡ false → price.0 < h.price.0 → MeetsOrPasses o price h

-- an order is Post Only, and at its "price from step 4" it meets or passes one of the opposite side
pub record PostOnlyMeets (o : Order) (b : Book) : Type 0 where
  pub is_post_only : has o.word post_only ≡ true
  pub price : HalfCents
  pub sought : seeks o b.held.away ≡ Rests price
  pub whom : Resting
  pub there : OneOf whom (opposite o b)
  pub meets : MeetsOrPasses o price whom

-- what an order's line says of Post Only: reason 6 is given only if it meets or passes one, and it rests only where it does so of none
abbrev pub SaysOfPostOnly : Order → Book → Event → Type 0
SaysOfPostOnly o b (Executed incoming resting price shares) = Unit {0}
SaysOfPostOnly o b (Rested n price shares) =
    has o.word post_only ≡ true → (h : Resting) → OneOf h (opposite o b) → MeetsOrPasses o price h → ⊥
SaysOfPostOnly o b (Cancelled n shares reason) = reason ≡ 6 → PostOnlyMeets o b
SaysOfPostOnly o b (Moved n price shares) = Unit {0}

-- "displayed never meets displayed, nothing crosses"
pub record StandApart (buy sell : Resting) : Type 0 where
  pub nothing_crosses : buy.price.0 ≤ sell.price.0
  pub displayed_never_meet : buy.displayed ≡ true → sell.displayed ≡ true → buy.price.0 < sell.price.0

-- the price of a resting order, in half cents: 100 to 200,000 cents, and no half of one
pub record RestsAtWholeCents (h : Resting) : Type 0 where
  pub lowest : 200 ≤ h.price.0
  pub highest : h.price.0 ≤ 400000
  pub whole_cents : h.price.0 % 2 ≡ 0
