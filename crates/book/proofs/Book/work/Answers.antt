-- `Book::work` meets its contract: a sound book is loaded, and what is left in place is saved. Assumes nothing.
use Rattle.rules.specs.Book.{Book, book_in}
use Rattle.book.specs.Record.{record_in}
use Rattle.book.proofs.LawsRecord.{book_sound}
use Rattle.book.proofs.LawsWork.{step_left}
use Rattle.book.proofs.Book.work.Goals as goal
use Rattle.book.proofs.Book.work.Goals.{After-load-2}
use mathlib.Core.Path.{◌≡◌, refl}

-- the book that is loaded
abbrev loaded : After-load-2 → Book
loaded c = record { held = c.args.self.now.held; buys = c.load.new.self; sells = c.load-2.new.self }

loaded_is : (c : After-load-2) → loaded c ≡ book_in (record_in c.args.self.now)
unfolding book_in
loaded_is c = rw (c.load.ensures, c.load-2.ensures)

pub invariant_of-book : goal.invariant_of-book
invariant_of-book c = rw (loaded_is (goal.at.invariant_of-book c).After-load-2) (book_sound (record_in c.args.self.now) c.requires.is_sound)

pub returns : goal.returns
returns c =
    let a = c.args in
    rw (
      step_left (record_in a.self.now) a.c a.out.now c.requires.is_sound c.requires.room,
      c.from.ensures,
      c.apply-answer.ensures.book_after,
      c.apply-answer.ensures.value,
      c.apply-answer.ensures.out_after,
      loaded_is (goal.at.returns c).After-load-2,
    )
    (refl, refl, refl)
