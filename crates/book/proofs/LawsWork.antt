-- What a command leaves of a book in place is what a step over its record returns. Assumes nothing.
use Prim.Native.Nat.{ℕ, ◌≤◌}
use mathlib.Core.Bool.{true, false}
use mathlib.Core.List.{List}
use mathlib.Core.Logic.{⊎_elim}
use mathlib.Core.Path.{◌≡◌, refl, ap, ◌∙◌}
use lib.Dec.{eqb}
use lib.ListN.{length}
use Rattle.basics.specs.Bytes.{onto}
use Rattle.std.specs.Prelude.{if◌then◌else◌, Some}
use Rattle.basics.proofs.LawsChoice.{holds_or_not}
use Rattle.rules.specs.declared.Command.{Command}
use Rattle.rules.specs.Book.{Book, BookRecord, book_in, record_of, record_sound}
use Rattle.rules.specs.EventLines.{event_lines}
use Rattle.rules.specs.Refusals.{least_room}
use Rattle.rules.specs.Step.{answer, step_on}
use Rattle.soundness.proofs.LawsRecords.{record_whole}
use Rattle.side.specs.Answers.{answer_of}
use Rattle.book.proofs.LawsStep.{step_answer}

-- a refusal leaves the book
as_it_came : (c : Command) (b : Book) → eqb (answer_of c b).refusal 0 ≡ false → (answer_of c b).book ≡ b
unfolding answer_of answer
as_it_came c b e = rw e

module _ (r : BookRecord) (c : Command) (out : List ℕ) (is_sound : record_sound r ≡ true) (room : least_room ≤ length out) where
  -- where it is refused, the book is the one that came
  record_is : record_of (answer_of c (book_in r)).book ≡ (if eqb (answer_of c (book_in r)).refusal 0 then record_of (answer_of c (book_in r)).book else r)
  unfolding answer_of
  record_is =
      ⊎_elim
      (λ (z : eqb (answer_of c (book_in r)).refusal 0 ≡ true). rw z refl)
      (λ (z : eqb (answer_of c (book_in r)).refusal 0 ≡ false). rw z (ap record_of (as_it_came c (book_in r) z) ∙ record_whole r is_sound))
      (holds_or_not (eqb (answer_of c (book_in r)).refusal 0))

  -- so a step returns the book that is left, whether it is refused or not
  pub step_left : step_on r (Some c) out ≡ record {
    refusal = (answer_of c (book_in r)).refusal;
    length = length (event_lines (answer_of c (book_in r)).events);
    book = record_of (answer_of c (book_in r)).book;
    out = onto (event_lines (answer_of c (book_in r)).events) out;
  }
  step_left = step_answer r out c is_sound room ∙ rw (← record_is)
