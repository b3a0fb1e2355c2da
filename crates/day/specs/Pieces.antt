-- A day as a step on pieces of its input, however it is cut (01, Examples from the desk: "Program, whole input then whole output").
-- Between two pieces the book stands, and the part of a line that the next piece goes on with. `LawsCutAnywhere` shows that the pieces
-- of an input give what `Day.output` says of it, wherever it is cut.
use Rattle.std.specs.Prelude.{ℕ, List, [], ◌∷◌, ◌++◌, take}
use Rattle.command_lines.specs.Pieces.{part_kept}
use Rattle.rules.specs.Book.{Book, fresh}
use Rattle.rules.specs.Day.{cut, book_after, printed_of}
use Rattle.rules.specs.EventLines.{refusal_line}

pub record Carried : Type 0 where
  pub book : Book
  pub part : List ℕ

-- a day begins with a fresh book, and no part of a line
abbrev pub day_begun : Carried
day_begun = record { book = fresh; part = [] }

-- the whole lines that a piece completes
abbrev pub completed : Carried → List ℕ → List (List ℕ)
completed s piece = (cut (s.part ++ piece)).whole

abbrev pub after_piece : Carried → List ℕ → Carried
after_piece s piece = record {
  book = book_after s.book (completed s piece);
  part = take part_kept (cut (s.part ++ piece)).part;
}

-- what is printed of a piece, and of a part of a line that the input ends with
abbrev pub printed_of_piece : Carried → List ℕ → List ℕ
printed_of_piece s piece = printed_of s.book (completed s piece)

unfoldable pub printed_at_end : List ℕ → List ℕ
printed_at_end [] = []
printed_at_end (c ∷ part) = refusal_line 3

-- what is printed of all pieces, one after the other
unfoldable pub printed_of_pieces : Carried → List (List ℕ) → List ℕ
printed_of_pieces s [] = printed_at_end s.part
printed_of_pieces s (piece ∷ pieces) = printed_of_piece s piece ++ printed_of_pieces (after_piece s piece) pieces
