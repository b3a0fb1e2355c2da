-- The book by value and the book record of 01 are one thing, field by field; so are a reply and what a step returns.
use Rattle.std.specs.Prelude.{ℕ, List, ◌≡◌, Result}
use Rattle.rules.specs.declared.Refusal.{Refusal}
use Rattle.rules.specs.Book.{BookRecord}
use Rattle.rules.specs.Refusing.{or_refused}
use Rattle.rules.specs.Step.{Returned}
use Rattle.side.specs.Sides.{places_on, side_with}
use Rattle.book.specs.declared.Book.{Book}
use Rattle.book.specs.declared.Reply.{Reply}

abbrev pub record_in : Book → BookRecord
record_in b = record {
  held = b.held;
  buys = places_on b.buys;
  sells = places_on b.sells;
}

abbrev pub book_with : BookRecord → Book
book_with r = record {
  held = r.held;
  buys = side_with r.buys;
  sells = side_with r.sells;
}

abbrev pub reply_of : Returned → Reply
reply_of r = record { answer = or_refused r.length r.refusal; book = book_with r.book }

-- what a step returns, as it is left in place: the book, the result and the output
abbrev pub Leaves : Book → Result ℕ Refusal → List ℕ → Returned → Type 0
Leaves book answer out r = (answer ≡ or_refused r.length r.refusal) × (book ≡ book_with r.book) × (out ≡ r.out)
