-- The ways of a line to a book of which one side is lent: the table does not fit, or what the whole book answers is taken apart; and
-- what `work` and `lend` leave, by those ways. Assumes nothing.
use Prim.Native.Nat.{ℕ}
use mathlib.Core.Bool.{Bool, true, false}
use mathlib.Core.List.{List}
use mathlib.Core.Logic.{◌≢◌, ⊎_elim}
use mathlib.Core.Path.{◌≡◌, refl, ap}
use lib.Dec.{eqb}
use lib.ListN.{length}
use borrow.Author.Tests.{eq-eqb, ne_eqb, eqb-true, eqb-false}
use Rattle.basics.specs.Lists.{first_where}
use Rattle.basics.proofs.LawsChoice.{holds_or_not}
use Rattle.std.specs.Prelude.{Result}
use Rattle.rules.specs.declared.Refusal.{Refusal}
use Rattle.rules.specs.declared.Resting.{Resting}
use Rattle.rules.specs.Book.{BookRecord, places_a_side, is_unused}
use Rattle.rules.specs.Refusals.{first_of, fit_refusals}
use Rattle.rules.specs.Refusing.{or_refused}
use Rattle.rules.specs.Step.{Returned, step}
use Rattle.book.specs.declared.Book as value
use Rattle.book.specs.declared.Reply.{Reply}
use Rattle.book.specs.Record.{record_in, book_with, reply_of, Leaves}
use Rattle.lent.specs.Lent.{Lent, LeftOf, places_lent, no_places, is_empty, is_counted, side_of, with_places, fits, lent_step}
use Rattle.lent.proofs.LawsSame.{lent_is_answer, uncounted_refused, without_side, apart_is_lem, together_is}

module _ (buys : Bool) (r : BookRecord) (table : List Resting) (line out : List ℕ) where
  lent_unfit : is_empty (side_of buys r) ≡ false
      → lent_step buys r table line out
      ≡ record { refusal = first_of (fit_refusals (length out) false); length = 0; book = r; table = table; out = out }
  unfolding lent_step fits
  lent_unfit e =
      ⊎_elim
      (λ (t : eqb (length table) places_a_side ≡ true). rw (e, t))
      (λ (t : eqb (length table) places_a_side ≡ false). rw (e, t))
      (holds_or_not (eqb (length table) places_a_side))

  lent_short : length table ≢ places_a_side
      → lent_step buys r table line out
      ≡ record { refusal = first_of (fit_refusals (length out) false); length = 0; book = r; table = table; out = out }
  unfolding lent_step fits
  lent_short n = rw (ne_eqb (length table) places_a_side n)

  lent_fit : length table ≡ places_a_side → is_empty (side_of buys r) ≡ true
      → let s = step (with_places buys (places_lent table) r) line out in
      lent_step buys r table line out ≡ without_side buys s
  unfolding lent_step fits
  lent_fit all empty = rw (empty, eq-eqb (length table) places_a_side all) (apart_is_lem buys r table line out empty)

-- ── The same as the code has it ──

-- what `refused` returns
abbrev pub refusal_of : ℕ → Result ℕ Refusal
refusal_of room = or_refused 0 (first_of (fit_refusals room false))

module _ (buys : Bool) (book : value.Book) (table : List Resting) (line out : List ℕ) where
  abbrev it : Lent
  it = lent_step buys (record_in book) table line out

  -- the table has not a record for each place, or that side of the book is not empty: all is left
  pub left_short : length table ≢ places_a_side → LeftOf it book (refusal_of (length out)) table out
  left_short n = rw (lent_short buys (record_in book) table line out n) (refl, refl, refl, refl)

  pub left_unfit : is_empty (side_of buys (record_in book)) ≡ false → LeftOf it book (refusal_of (length out)) table out
  left_unfit e = rw (lent_unfit buys (record_in book) table line out e) (refl, refl, refl, refl)

  -- the whole book's reply is taken apart
  pub left_fit : length table ≡ places_a_side → is_empty (side_of buys (record_in book)) ≡ true
      → let s = step (with_places buys (places_lent table) (record_in book)) line out in
      (reply : Reply) → reply ≡ reply_of s → (out' : List ℕ) → out' ≡ s.out
      → LeftOf it (book_with (with_places buys no_places (record_in reply.book))) reply.answer (side_of buys (record_in reply.book)).places out'
  left_fit all empty reply reply_is out' out_is =
      rw (lent_fit buys (record_in book) table line out all empty, reply_is, out_is) (refl, refl, refl, refl)

-- ── A side taken out, lent, and put in again: what is left is the book's own answer ──

module _ (buys : Bool) (book : value.Book) (line out : List ℕ) where
  abbrev own : Returned
  own = step (record_in book) line out

  -- the side's count is not that of its leading records
  pub lending_uncounted : is_counted (side_of buys (record_in book)) ≡ false → Leaves book (refusal_of (length out)) out own
  lending_uncounted uncounted =
      let side = side_of buys (record_in book) in
      rw (uncounted_refused buys (record_in book) line out (eqb-false side.used (first_where is_unused side.places) uncounted)) (refl, refl, refl)

  -- it is: what came of the lent side is put together again
  pub lending_counted : is_counted (side_of buys (record_in book)) ≡ true → length (side_of buys (record_in book)).places ≡ places_a_side
      → (rest' : value.Book) (answer : Result ℕ Refusal) (table' : List Resting) (out' : List ℕ)
      → LeftOf (lent_step buys (with_places buys no_places (record_in book)) (side_of buys (record_in book)).places line out) rest' answer table' out'
      → Leaves (book_with (with_places buys (places_lent table') (record_in rest'))) answer out' own
  lending_counted is_true all rest' answer table' out' left =
      let r = record_in book in
      let side = side_of buys r in
      let counted = eqb-true side.used (first_where is_unused side.places) is_true in
      let told = rw (lent_is_answer buys r line out counted all) at left in
      (told.0, rw (told.1, told.2) (ap book_with (together_is buys r line out counted)), told.3)
