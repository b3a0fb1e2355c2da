-- What is looked for on a side: the order of a number, the place of an order that is newer than all that stand there, and where a hint leads.
use Rattle.std.specs.Prelude.{ℕ, ◌<◌, true, List, ◌≡◌, ltb, length, get_or, Option, None, Some, if◌then◌else◌}
use Rattle.std.specs.Option.{ForSome}
use Rattle.basics.specs.Lists.{first_where, All}
use Rattle.kinds.specs.declared.Number.{Number}
use Rattle.rules.specs.declared.Resting.{Resting}
use Rattle.rules.specs.declared.Stamp.{Stamp}
use Rattle.rules.specs.Book.{earlier}
use Rattle.rules.specs.Commands.{is_number}

-- a price is below this, so that its level fits a word; it is far above any that a book would hold
abbrev pub price_bound : ℕ
price_bound = 2147483648

-- an order whose stamp is earlier than this one
pub record Older (next : Stamp) (h : Resting) : Type 0 where
  pub priced : h.price.0 < price_bound
  pub stamped : earlier h.stamp next ≡ true

-- an order is the newest of a side
pub record Newest (o : Resting) (s : List Resting) : Type 0 where
  pub priced : o.price.0 < price_bound
  pub others : All (Older o.stamp) s

-- the rank of the order of a number, if one has it
abbrev pub rank_of : Number → List Resting → Option ℕ
rank_of number s =
    let rank = first_where (is_number number) s in
    if ltb rank (length s) then Some rank else None

-- where a hint leads: nowhere, or to the order of the number
abbrev pub Hinted : Number → List Resting → Option ℕ → Type 0
Hinted number s r = ForSome r (λ i. rank_of number s ≡ Some i)

-- a place before n of an index at which a byte stands, if one was found
abbrev pub Named : ℕ → ℕ → List ℕ → Option ℕ → Type 0
Named slot n x r = ForSome r (λ i. (i < n) × (get_or x i 0 ≡ slot))
