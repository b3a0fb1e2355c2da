-- One bound for the walk (01, How an order is worked, 1): the limit and the away price in one price, and with it the lock of 02's W6.
-- LawsBound shows that a price is within it exactly where the order may touch it.
use Rattle.std.specs.Prelude.{Bool, not, ◌||◌, eqb, if◌then◌else◌}
use Rattle.kinds.specs.declared.HalfCents.{HalfCents}
use Rattle.kinds.specs.Kinds.{largest, half_cents}
use Rattle.rules.specs.declared.Away.{Away}
use Rattle.rules.specs.declared.Order.{Order}
use Rattle.rules.specs.Instructions.{iso, market, has}
use Rattle.rules.specs.Working.{buying, beyond, limit_of, locking_price, absent, half_a_cent_the_incoming_way}

-- the limit, or for a market order the farthest price that four bytes hold
unfoldable pub farthest : Order → HalfCents
farthest o =
    if not (has o.word market) then limit_of o
    else if buying o then half_cents largest
    else half_cents 0

-- the limit, or the away price where the limit is beyond it
unfoldable pub bound_of : Order → Away → HalfCents
bound_of o away =
    let locking = locking_price (buying o) away in
    if has o.word iso || absent locking then farthest o
    else if not (beyond (buying o) locking (farthest o)) then farthest o
    else locking

-- the same for the prices at which orders rest: one at the locked price would execute half a cent beyond it, so it is within the bound only
-- where the bound is farther than that price
abbrev pub bound_under : Bool → HalfCents → HalfCents → HalfCents
bound_under buy locked bound = if eqb bound.0 locked.0 then half_a_cent_the_incoming_way (not buy) bound else bound
