-- What 01 says of the lent table, sentence by sentence, of the definition that the entry meets. Assumes nothing.
use Prim.Native.Nat.{ℕ, ◌≤◌}
use mathlib.Core.Bool.{Bool, true, false}
use mathlib.Core.List.{List}
use mathlib.Core.Logic.{◌≢◌, ⊎_elim}
use mathlib.Core.Path.{◌≡◌, refl}
use lib.ListN.{length}
use borrow.Author.Tests.{ne_eqb, eq-eqb, le-ltb}
use Rattle.basics.specs.Bytes.{onto}
use Rattle.basics.proofs.LawsChoice.{holds_or_not}
use Rattle.rules.specs.declared.Resting.{Resting}
use Rattle.rules.specs.Book.{BookRecord}
use Rattle.rules.specs.EventLines.{event_lines}
use Rattle.rules.specs.Refusals.{least_room, first_of}
use Rattle.rules.specs.Step.{answer, step, step_on}
use Rattle.lent.specs.Lent.{no_places, places_lent, side_of, with_places, fits, lent_step}

-- a refusal of the core writes no byte
refused_out : (r : BookRecord) (line out : List ℕ) → (step r line out).refusal ≢ 0 → (step r line out).out ≡ out
unfolding step step_on answer onto event_lines
refused_out r line out n = rw (ne_eqb (step r line out).refusal 0 n) refl

module _ (buys : Bool) (r : BookRecord) (table : List Resting) (line out : List ℕ) where
  -- "The table (64 records, else refusal 2) .. The book lent with it has all places of that side zero, else refusal 2" (256 records with W5)
  pub unfit_refused : fits buys r table ≡ false → least_room ≤ length out → (lent_step buys r table line out).refusal ≡ 2
  unfolding lent_step first_of
  unfit_refused f room = rw (f, le-ltb (length out) least_room room) refl

  -- "a refusal leaves it untouched": the table, the book and every byte
  pub refused_untouched : (lent_step buys r table line out).refusal ≢ 0
      → ((lent_step buys r table line out).table ≡ table) × ((lent_step buys r table line out).book ≡ r) × ((lent_step buys r table line out).out ≡ out)
  unfolding lent_step
  refused_untouched n =
      ⊎_elim
      (λ (f : fits buys r table ≡ true).
      let whole = with_places buys (places_lent table) r in
      let m : (step whole line out).refusal ≢ 0 = rw f at n in
      rw (f, ne_eqb (step whole line out).refusal 0 m) (refl, refl, refused_out whole line out m))
      (λ (f : fits buys r table ≡ false). rw f (refl, refl, refl))
      (holds_or_not (fits buys r table))

  -- "stands for that side and is left as the core would leave it": what the core gives on the book with the table put in
  pub fit_answers : fits buys r table ≡ true → (lent_step buys r table line out).refusal ≡ 0
      → ((lent_step buys r table line out).table ≡ (side_of buys (step (with_places buys (places_lent table) r) line out).book).places)
      × ((lent_step buys r table line out).length ≡ (step (with_places buys (places_lent table) r) line out).length)
      × ((lent_step buys r table line out).out ≡ (step (with_places buys (places_lent table) r) line out).out)
  unfolding lent_step
  fit_answers f z =
      let whole = with_places buys (places_lent table) r in
      let y : (step whole line out).refusal ≡ 0 = rw f at z in
      rw (f, eq-eqb (step whole line out).refusal 0 y) (refl, refl, refl)

-- "and comes back so": all places of that side zero
pub comes_back_empty : (buys : Bool) (r : BookRecord) (table : List Resting) (line out : List ℕ) → fits buys r table ≡ true
    → (lent_step buys r table line out).refusal ≡ 0 → side_of buys (lent_step buys r table line out).book ≡ no_places
unfolding lent_step
comes_back_empty true r table line out f z =
    let y : (step (with_places true (places_lent table) r) line out).refusal ≡ 0 = rw f at z in
    rw (f, eq-eqb (step (with_places true (places_lent table) r) line out).refusal 0 y) refl
comes_back_empty false r table line out f z =
    let y : (step (with_places false (places_lent table) r) line out).refusal ≡ 0 = rw f at z in
    rw (f, eq-eqb (step (with_places false (places_lent table) r) line out).refusal 0 y) refl
