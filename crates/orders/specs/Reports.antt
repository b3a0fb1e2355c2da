-- The events of the takings of a walk, and of orders that are cancelled for one reason.
use Rattle.std.specs.Prelude.{ℕ, List, get_or}
use Rattle.kinds.specs.Kinds.{shares}
use Rattle.kinds.specs.declared.HalfCents.{HalfCents}
use Rattle.kinds.specs.declared.Number.{Number}
use Rattle.rules.specs.declared.Event.{Event}
use Rattle.rules.specs.declared.Event.TheVariants.{Executed, Cancelled}
use Rattle.rules.specs.declared.Resting.{Resting}
use Rattle.rules.specs.Book.{unused, shares_left}
use Rattle.orders.specs.declared.takings.Taking.{Taking}

-- an execution against the order at the taking's rank, at what the taking's price becomes
abbrev pub execution_of : Number → (HalfCents → HalfCents) → List Resting → Taking → Event
execution_of n here s k = Executed n (get_or s k.place unused).number (here k.price) k.shares

abbrev pub cancelled_for : ℕ → Resting → Event
cancelled_for reason h = Cancelled h.number (shares (shares_left h)) reason
