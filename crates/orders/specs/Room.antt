-- The room for the takings of one walk: an order has two parts at most.
use Rattle.std.specs.Prelude.{ℕ, ◌*◌}
use Rattle.rules.specs.Book.{places_a_side}

abbrev pub most_takings : ℕ
most_takings = 2 * places_a_side
