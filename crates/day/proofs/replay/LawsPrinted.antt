-- What is printed of one line, by its reading and its answer: a refusal's line with the book as it was, or the lines of the events.
-- Assumes nothing.
use Prim.Native.Nat.{ℕ, ◌≤◌}
use mathlib.Core.Bool.{true}
use mathlib.Core.List.{List}
use mathlib.Core.Logic.{◌≢◌}
use mathlib.Core.Path.{◌≡◌, refl, sym, ap, ◌∙◌}
use lib.ListN.{length}
use native.Mathlib.Omega.{arith}
use borrow.Author.Tests.{ne_eqb}
use Rattle.std.specs.Prelude.{Some, None, Result, Ok, Err}
use Rattle.basics.specs.Bytes.{onto}
use Rattle.basics.proofs.LawsBytes.{onto_none}
use Rattle.rules.specs.declared.Command.{Command}
use Rattle.rules.specs.declared.Refusal.{Refusal}
use Rattle.rules.specs.declared.Refusal.TheVariants.{NoCommand}
use Rattle.rules.specs.CommandLines.{Reading}
use Rattle.rules.specs.Book.{Book}
use Rattle.rules.specs.Day.{printed}
use Rattle.rules.specs.EventLines.{event_lines, refusal_line}
use Rattle.rules.specs.Refusals.{least_room, first_of, line_refusals, refusals, last_refusal}
use Rattle.rules.specs.Refusing.{number_of, or_refused}
use Rattle.rules.specs.Step.{Answer, answer}
use Rattle.rules.proofs.LawsEvents.{refusal_length}
use Rattle.rules.proofs.LawsRefusals.{first_numbered, table_numbered}
use Rattle.rules.proofs.LawsRefusing.{passed_zero, refused_above, returned_number}
use Rattle.side.specs.Answers.{answer_of}
use Rattle.side.proofs.tables.LawsAnswers.{refused_with}
use Rattle.day.specs.Feed.{answer_for}

-- ── The answer to a reading ──

-- of a command: that of a sound book, with room for its lines
answer_command : (b : Book) (r : Reading) (c : Command) → r ≡ Some c → answer_for b r ≡ answer_of c b
unfolding answer_of refusals first_of
answer_command b r c is = rw is

answer_bad : (b : Book) (r : Reading) → r ≡ None → answer_for b r ≡ refused_with 3 b
unfolding answer refusals line_refusals first_of
answer_bad b r bad = rw bad

-- a refusal has no event and leaves the book
refused_as : (c : Command) (b : Book) → (answer_of c b).refusal ≢ 0 → answer_of c b ≡ refused_with (answer_of c b).refusal b
unfolding answer_of answer
refused_as c b e = rw (ne_eqb _ 0 e)

-- ── What is printed of it ──

-- an answer stands, and its lines are printed, in what a line leaves
abbrev Shown : ℕ → Book → List ℕ → List ℕ → Answer → Type 0
Shown n b' out' out a = (n ≡ length (printed a)) × (b' ≡ a.book) × (out' ≡ onto (printed a) out)

module _ (b : Book) (r : Reading) (out : List ℕ) where
  shown_refused : (k n : ℕ) (b' : Book) (out' : List ℕ) (a : Answer) → a ≡ refused_with k b → k ≢ 0 → n ≡ 5 → b' ≡ b
      → out' ≡ onto (refusal_line k) out → Shown n b' out' out a
  unfolding printed
  shown_refused k n b' out' a e some five same wrote = rw (e, ne_eqb k 0 some, refusal_length k) (five, same, wrote)

  -- refusal 3
  pub shown_bad : r ≡ None → (k n : ℕ) (out' : List ℕ) → k ≡ number_of NoCommand → n ≡ 5 → out' ≡ onto (refusal_line k) out
      → Shown n b out' out (answer_for b r)
  shown_bad bad k n out' three five wrote =
      shown_refused k n b out' _ (answer_bad b r bad ∙ ap (λ (x : ℕ). refused_with x b) (sym three)) (λ z. omega (arith, three, z)) five refl wrote

  -- a command, after it was applied
  module _ (c : Command) (is : r ≡ Some c) (applied : Result ℕ Refusal) (b' : Book) (out' : List ℕ)
      (value : applied ≡ or_refused (length (event_lines (answer_of c b).events)) (answer_of c b).refusal)
      (book_after : b' ≡ (answer_of c b).book) (out_after : out' ≡ onto (event_lines (answer_of c b).events) out) where
    it : Answer
    it = answer_of c b

    -- its refusal is one of the table
    in_table : it.refusal ≤ last_refusal
    unfolding it answer
    in_table = rw (← answer_command b r c is) (first_numbered last_refusal (refusals least_room true b r) (table_numbered least_room true b r))

    pub shown_done : (n : ℕ) → applied ≡ Ok n → Shown n b' out' out (answer_for b r)
    unfolding it printed
    shown_done n done =
        let answered = sym value ∙ done in
        let zero_lem : it.refusal ≡ 0 = passed_zero (length (event_lines it.events)) n it.refusal in_table answered in
        let passed = rw zero_lem at answered in
        let long : n ≡ length (event_lines it.events) = cc in
        rw (answer_command b r c is, zero_lem) (long, book_after, out_after)

    pub shown_refusal : (refusal : Refusal) → applied ≡ Err refusal → (k n : ℕ) (out'' : List ℕ) → k ≡ number_of refusal → n ≡ 5
        → out'' ≡ onto (refusal_line k) out' → Shown n b' out'' out (answer_for b r)
    unfolding it event_lines
    shown_refusal refusal refused k n out'' number five wrote =
        let answered = sym value ∙ refused in
        let k_is : k ≡ it.refusal = number ∙ returned_number (length (event_lines it.events)) it.refusal refusal answered in
        let above = refused_above (length (event_lines it.events)) it.refusal refusal answered in
        let some : k ≢ 0 = λ z. omega (arith, k_is, above, z) in
        let e : it ≡ refused_with k b = rw k_is (refused_as c b (λ z. some (k_is ∙ z))) in
        let same : out' ≡ out = out_after ∙ ap (λ (a : Answer). onto (event_lines a.events) out) e ∙ sym (onto_none out) in
        shown_refused k n b' out'' _ (answer_command b r c is ∙ e) some five (book_after ∙ ap (λ (a : Answer). a.book) e)
        (wrote ∙ ap (onto (refusal_line k)) same)
