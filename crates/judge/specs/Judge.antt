-- What a command's header is judged against: what the book holds besides its orders.
use Rattle.std.specs.Prelude.{[]}
use Rattle.rules.specs.declared.Held.{Held}
use Rattle.rules.specs.Book.{Book}

-- a book that holds just that; its sides are of no account to the header
abbrev pub book_holding : Held → Book
book_holding h = record { held = h; buys = []; sells = [] }
