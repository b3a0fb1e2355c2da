-- A night worth looking at: it trades, it is refused, a line is sent again with a newer time, two Fill-or-Kills are killed, one of
-- them by the away price alone, an order with reserve gives of both its parts and is refilled, and the close cancels what is left. And
-- behind it a short one in which a lock stands (02, W6), and one in which orders ask for a least size (W7).
use Rattle.std.specs.Prelude.{ℕ, ◌+◌, Bool, true, false, List, [], ◌∷◌}
use Rattle.kinds.specs.Kinds.{cents, in_half_cents, half_above, shares, number}
use Rattle.rules.specs.declared.Body.{Body}
use Rattle.rules.specs.declared.Body.TheVariants as body
use Rattle.rules.specs.declared.Carried.{Carried}
use Rattle.rules.specs.declared.Carried.TheVariants.{Nothing, MaxFloor, Minimum}
use Rattle.rules.specs.declared.Command.{Command}
use Rattle.rules.specs.declared.Event.{Event}
use Rattle.rules.specs.declared.Event.TheVariants.{Executed, Rested, Cancelled, Moved}
use Rattle.rules.specs.declared.Order.{Order}
use Rattle.rules.specs.declared.Resting.{Resting}
use Rattle.rules.specs.Book.{opening, stamp}
use Rattle.rules.specs.CommandLines.{line_of}
use Rattle.rules.specs.Instructions.{ioc, fok, day, displayed, non_displayed, price_adjust, post_only, market, reserve}

-- ── The commands ──

-- command n, so many milliseconds after the opening
abbrev command : ℕ → ℕ → Body → Command
command n after b = record { number = number n; time = opening + after; body = b }

abbrev order_with : Carried → ℕ → ℕ → ℕ → ℕ → Order
order_with carried side word count price = record { side = side; word = word; price = cents price; shares = shares count; carried = carried }

abbrev order : ℕ → ℕ → ℕ → ℕ → Order
order = order_with Nothing

abbrev quote : ℕ → ℕ → Body
quote bid offer = body.Quote (record { bid = cents bid; offer = cents offer })

-- the orders that the promises are read at below
abbrev pub killed : Order
killed = order 0 (fok + displayed + price_adjust) 300 1005

abbrev pub greedy : Order
greedy = order 0 (ioc + displayed + price_adjust) 250 1005

abbrev pub resting : Order
resting = order 0 (day + displayed + price_adjust) 150 1002

-- 300 shares, of which 100 are shown
abbrev pub reserved : Order
reserved = order_with (MaxFloor (shares 100)) 1 (day + displayed + price_adjust + reserve) 300 1004

abbrev pub taking : Order
taking = order 0 (ioc + displayed + price_adjust) 150 1004

abbrev pub the_killed : Command
the_killed = command 5 40 (body.Order killed)

abbrev pub the_greedy : Command
the_greedy = command 6 50 (body.Order greedy)

abbrev pub the_resting : Command
the_resting = command 8 70 (body.Order resting)

abbrev pub the_reserved : Command
the_reserved = command 9 80 (body.Order reserved)

abbrev pub the_taking : Command
the_taking = command 10 90 (body.Order taking)

-- ── The lines, as they arrive ──

abbrev pub sells100 : List ℕ
sells100 = line_of (command 1 0 (body.Order (order 1 (day + displayed + price_adjust) 100 1002)))

abbrev pub sells200 : List ℕ
sells200 = line_of (command 2 10 (body.Order (order 1 (day + non_displayed + price_adjust) 200 1001)))

-- the repeat at three in the morning: the same command, with a newer time
abbrev pub sent_again : List ℕ
sent_again = line_of (command 2 15 (body.Order (order 1 (day + non_displayed + price_adjust) 200 1001)))

-- 400 shares where 300 rest
abbrev pub asks_too_much : List ℕ
asks_too_much = line_of (command 3 20 (body.Order (order 0 (fok + displayed + price_adjust) 400 1005)))

abbrev pub quotes : List ℕ
quotes = line_of (command 4 30 (quote 0 1001))

abbrev pub unquotes : List ℕ
unquotes = line_of (command 7 60 (quote 0 0))

-- no command at all: an empty line
abbrev pub noise : List ℕ
noise = 10 ∷ []

-- a number is left out
abbrev pub ahead : List ℕ
ahead = line_of (command 12 100 body.Close)

abbrev pub closes : List ℕ
closes = line_of (command 11 110 body.Close)

abbrev pub night : List (List ℕ)
night =
    sells100 ∷ sells200 ∷ sent_again ∷ asks_too_much ∷ quotes ∷ line_of the_killed ∷ line_of the_greedy ∷ unquotes ∷ line_of the_resting ∷
    line_of the_reserved ∷ line_of the_taking ∷ noise ∷ ahead ∷ closes ∷ []

-- the same without the three that are refused
abbrev pub night_struck_out : List (List ℕ)
night_struck_out =
    sells100 ∷ sells200 ∷ asks_too_much ∷ quotes ∷ line_of the_killed ∷ line_of the_greedy ∷ unquotes ∷ line_of the_resting ∷
    line_of the_reserved ∷ line_of the_taking ∷ closes ∷ []

-- ── What it tells ──

abbrev pub night_events : List Event
night_events =
    Rested (number 1) (in_half_cents (cents 1002)) (shares 100)
    ∷ Rested (number 2) (in_half_cents (cents 1001)) (shares 200)
    ∷ Cancelled (number 3) (shares 400) 3
    ∷ Cancelled (number 5) (shares 300) 3
    ∷ Executed (number 6) (number 2) (in_half_cents (cents 1001)) (shares 200)
    ∷ Cancelled (number 6) (shares 50) 2
    ∷ Executed (number 8) (number 1) (in_half_cents (cents 1002)) (shares 100)
    ∷ Rested (number 8) (in_half_cents (cents 1002)) (shares 50)
    ∷ Rested (number 9) (in_half_cents (cents 1004)) (shares 300)
    ∷ Executed (number 10) (number 9) (in_half_cents (cents 1004)) (shares 100)
    ∷ Executed (number 10) (number 9) (in_half_cents (cents 1004)) (shares 50)
    ∷ Moved (number 9) (in_half_cents (cents 1004)) (shares 100)
    ∷ Cancelled (number 8) (shares 50) 7
    ∷ Cancelled (number 9) (shares 150) 7
    ∷ []

-- ── What rests of it ──

-- the order with reserve, before anything is taken of it
abbrev pub reserved_rests : Resting
reserved_rests = record {
  number = number 9;
  price = in_half_cents (cents 1004);
  shares = shares 100;
  displayed = true;
  back = false;
  stamp = stamp (number 9) 0;
  reserve = shares 200;
  floor = shares 100;
  minimum = shares 0;
}

-- ── A locked night ──

-- a sell is hidden at 10.05, a Post Only buy is displayed there; a buy limited at that price is cancelled, and a market buy pays half a
-- cent more (02, W6)
abbrev pub sweeping : Order
sweeping = order 0 (ioc + displayed + price_adjust + market) 60 0

abbrev pub the_sweeping : Command
the_sweeping = command 4 30 (body.Order sweeping)

abbrev pub locked_night : List (List ℕ)
locked_night =
    line_of (command 1 0 (body.Order (order 1 (day + non_displayed + price_adjust) 100 1005)))
    ∷ line_of (command 2 10 (body.Order (order 0 (day + displayed + price_adjust + post_only) 50 1005)))
    ∷ line_of (command 3 20 (body.Order (order 0 (ioc + displayed + price_adjust) 80 1005)))
    ∷ line_of the_sweeping ∷ []

abbrev pub locked_events : List Event
locked_events =
    Rested (number 1) (in_half_cents (cents 1005)) (shares 100)
    ∷ Rested (number 2) (in_half_cents (cents 1005)) (shares 50)
    ∷ Cancelled (number 3) (shares 80) 2
    ∷ Executed (number 4) (number 1) (half_above (in_half_cents (cents 1005))) (shares 60)
    ∷ []

abbrev rests_at1005 : Bool → ℕ → ℕ → Resting
rests_at1005 shown n count = record {
  number = number n;
  price = in_half_cents (cents 1005);
  shares = shares count;
  displayed = shown;
  back = false;
  stamp = stamp (number n) 0;
  reserve = shares 0;
  floor = shares 0;
  minimum = shares 0;
}

abbrev pub locked_sell : Resting
locked_sell = rests_at1005 false 1 100

abbrev pub locking_buy : Resting
locking_buy = rests_at1005 true 2 50

-- ── A night of minimums ──

-- a sell hidden at 10.05 asks for at least 100 shares in an execution, and one is displayed behind it (02, W7)
abbrev pub large : Order
large = order_with (Minimum (shares 100)) 1 (day + non_displayed + price_adjust) 300 1005

-- a buy of 80 at 10.06 skips the first and takes 50 of the second; at its price it would still pass the first
abbrev pub small : Order
small = order 0 (day + displayed + price_adjust) 80 1006

-- a buy that wants no less than 400, where 300 rest
abbrev pub choosy : Order
choosy = order_with (Minimum (shares 400)) 0 (ioc + non_displayed + price_adjust) 500 1006

abbrev pub the_small : Command
the_small = command 3 20 (body.Order small)

abbrev pub the_choosy : Command
the_choosy = command 4 30 (body.Order choosy)

abbrev pub minimum_night : List (List ℕ)
minimum_night =
    line_of (command 1 0 (body.Order large))
    ∷ line_of (command 2 10 (body.Order (order 1 (day + displayed + price_adjust) 50 1006)))
    ∷ line_of the_small ∷ line_of the_choosy
    ∷ line_of (command 5 40 (body.Order (order 0 (ioc + displayed + price_adjust) 250 1006)))
    ∷ []

abbrev pub minimum_events : List Event
minimum_events =
    Rested (number 1) (in_half_cents (cents 1005)) (shares 300)
    ∷ Rested (number 2) (in_half_cents (cents 1006)) (shares 50)
    ∷ Executed (number 3) (number 2) (in_half_cents (cents 1006)) (shares 50)
    ∷ Cancelled (number 3) (shares 30) 8
    ∷ Cancelled (number 4) (shares 500) 2
    ∷ Executed (number 5) (number 1) (in_half_cents (cents 1005)) (shares 250)
    ∷ []

-- what is left of it then: fewer shares than its minimum was, and so its minimum too
abbrev pub large_rests : ℕ → ℕ → Resting
large_rests count least = record {
  number = number 1;
  price = in_half_cents (cents 1005);
  shares = shares count;
  displayed = false;
  back = false;
  stamp = stamp (number 1) 0;
  reserve = shares 0;
  floor = shares 0;
  minimum = shares least;
}
