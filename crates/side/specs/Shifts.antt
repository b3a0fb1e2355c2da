-- What a taking leaves of an order, and of a side; and the shares of an order in one number.
use Rattle.std.specs.Prelude.{ℕ, ◌-◌, ◌≤◌, Bool, not, ◌&&◌, List, [], ◌∷◌, eqb, if◌then◌else◌}
use Rattle.kinds.specs.Kinds.{largest}
use Rattle.rules.specs.declared.Resting.{Resting}
use Rattle.rules.specs.Book.{shares_left}
use Rattle.rules.specs.Holdings.{reduced_by}

-- an order with k shares fewer: of its shown part first, and then of its reserve
abbrev pub less_by : ℕ → Resting → Resting
less_by k h = reduced_by k (k - h.shares.0) h

-- the shares of an order, shown and in reserve, are a number that four bytes hold
abbrev pub Countable : Resting → Type 0
Countable h = shares_left h ≤ largest

-- an order has something left, shown or in reserve
abbrev pub keeps : Resting → Bool
keeps h = not (eqb h.shares.0 0 && eqb h.reserve.0 0)

-- whoever keeps none leaves the book
unfoldable pub keepers : List Resting → List Resting
keepers [] = []
keepers (h ∷ s) = if keeps h then h ∷ keepers s else keepers s
