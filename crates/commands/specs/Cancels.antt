-- Where the order of a number rests, and the line of one that a command cancels.
use Rattle.std.specs.Prelude.{ℕ, List, get_or, Option, Some, None}
use Rattle.kinds.specs.declared.Number.{Number}
use Rattle.rules.specs.declared.Event.{Event}
use Rattle.rules.specs.declared.Event.TheVariants.{Cancelled}
use Rattle.rules.specs.declared.Reason.TheVariants.{ByCommand}
use Rattle.rules.specs.declared.Resting.{Resting}
use Rattle.kinds.specs.Kinds.{shares}
use Rattle.rules.specs.Book.{unused, shares_left}
use Rattle.rules.specs.Reasons.{number_of_reason}
use Rattle.side.specs.Looking.{rank_of}
use Rattle.commands.specs.declared.cancels.Found.{Found}
use Rattle.commands.specs.declared.cancels.Found.TheVariants.{AmongBuys, AmongSells}

-- the order of a number: among the buys, or else among the sells, or nowhere
abbrev pub among_sells : Option ℕ → Option Found
among_sells (Some rank) = Some (AmongSells rank)
among_sells None = None

abbrev pub among_both : Option ℕ → Option ℕ → Option Found
among_both (Some rank) sold = Some (AmongBuys rank)
among_both None sold = among_sells sold

abbrev pub where_is : Number → List Resting → List Resting → Option Found
where_is of buys sells = among_both (rank_of of buys) (rank_of of sells)

-- the line of the order at a rank
abbrev pub off_line : ℕ → List Resting → Event
off_line at s = let h = get_or s at unused in Cancelled h.number (shares (shares_left h)) (number_of_reason ByCommand)
