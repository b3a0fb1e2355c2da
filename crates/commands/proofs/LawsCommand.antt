-- A command is judged by its header, and then by its body alone; and what its body leaves of the header and the two sides is what the command
-- leaves of the book. So is what it leaves of the sides at any time, with the header that an accepted command leaves or, where the body is
-- refused, as it was. Assumes nothing.
use Prim.Native.Nat.{ℕ, ◌≤◌, ◌<◌}
use mathlib.Core.Bool.{true}
use mathlib.Core.List.{List, [], ◌++◌}
use mathlib.Core.Path.{◌≡◌, refl, sym, ap, ◌∙◌}
use native.Mathlib.Omega.{arith}
use lib.Dec.{leb}
use lib.ListN.{length}
use borrow.Author.Tests.{ne_eqb, leb-false}
use Rattle.std.specs.Prelude.{Result, Ok, Err, Some}
use Rattle.basics.specs.Bytes.{onto}
use Rattle.basics.proofs.LawsBytes.{onto_none}
use Rattle.judge.specs.Judge.{book_holding}
use Rattle.kinds.specs.declared.Number.{Number}
use Rattle.rules.specs.declared.Body.{Body}
use Rattle.rules.specs.declared.Body.TheVariants as body
use Rattle.rules.specs.declared.Command.{Command}
use Rattle.rules.specs.declared.Held.{Held}
use Rattle.rules.specs.declared.Refusal.{Refusal}
use Rattle.rules.specs.declared.Resting.{Resting}
use Rattle.rules.specs.Book.{Book, sound}
use Rattle.rules.specs.Commands.{with_accepted, does}
use Rattle.rules.specs.EventLines.{event_lines}
use Rattle.rules.specs.Refusals.{first_of, last_refusal, header_refusals, body_refusals, line_refusals}
use Rattle.rules.specs.Refusing.{or_refused}
use Rattle.rules.specs.Step.{Answer, answer}
use Rattle.rules.proofs.LawsCommands.{order_does, cancel_does, quote_does, close_does}
use Rattle.rules.proofs.LawsRefusals.{none_given, first_given, first_passed, first_numbered, header_numbered}
use Rattle.rules.proofs.LawsRefusing.{refused_alike, passed_zero, refused_above}
use Rattle.side.specs.Answers.{Left, answer_of, body_answer}
use Rattle.side.proofs.tables.LawsAnswers.{refused_with, body_refused, body_done, not_refused, is_refused}
use Rattle.soundness.proofs.LawsKept.{answer_kept}
use Rattle.commands.specs.Sides.{held_after}

-- what a command leaves of a book and of the output
pub record Leaves (r : Result ℕ Refusal) (book : Book) (out' out : List ℕ) (a : Answer) : Type 0 where
  pub value : r ≡ or_refused (length (event_lines a.events)) a.refusal
  pub book_after : book ≡ a.book
  pub out_after : out' ≡ onto (event_lines a.events) out

-- every answer to a command leaves a sound book sound
pub command_sound : (c : Command) (b : Book) → sound b ≡ true → sound (answer_of c b).book ≡ true
unfolding answer_of
command_sound c b s = answer_kept b (Some c) (first_of (line_refusals b (Some c))) s (λ e. e)

-- ── The header ──

module _ (c : Command) (b : Book) where
  abbrev given : ℕ
  given = first_of (header_refusals (book_holding b.held) c)

  -- what the header gets
  abbrev pub IsJudged : Result (Unit {0}) Refusal → Type 0
  IsJudged r = r ≡ or_refused (tt {0}) given

  -- to the header no more of a book is of account
  same_header : header_refusals (book_holding b.held) c ≡ header_refusals b c
  unfolding header_refusals
  same_header = refl

  refused_is : 0 < given → answer_of c b ≡ refused_with given b
  unfolding answer_of line_refusals answer
  refused_is l =
      let f : first_of (header_refusals b c) ≡ given = sym (ap first_of same_header) in
      let g : first_of (header_refusals b c ++ body_refusals b c.body) ≡ given = first_given (header_refusals b c) (body_refusals b c.body) (omega (arith, f, l)) ∙ f in
      rw (g, ne_eqb given 0 (λ (z : given ≡ 0). omega arith))

  -- a header that is refused leaves the book and the output
  pub header_refused : (e : Refusal) (out : List ℕ) → IsJudged (Err e) → Leaves (Err e) b out out (answer_of c b)
  unfolding event_lines
  header_refused e out h =
      let is = refused_is (refused_above (tt {0}) given e (sym h)) in
      record {
        value = sym (refused_alike (tt {0}) (length (event_lines [])) given e (sym h)) ∙ sym (ap (λ (a : Answer). or_refused (length (event_lines a.events)) a.refusal) is);
        book_after = sym (ap (λ (a : Answer). a.book) is);
        out_after = onto_none out ∙ sym (ap (λ (a : Answer). onto (event_lines a.events) out) is);
      }

  module _ (passes : IsJudged (Ok (tt {0}))) where
    none : first_of (header_refusals b c) ≡ 0
    unfolding header_refusals
    none =
        let most : given ≤ last_refusal = first_numbered last_refusal (header_refusals b c) (header_numbered b c) in
        passed_zero (tt {0}) (tt {0}) given most (sym passes)

    -- the number of a command that passes is above the last
    pub header_next : b.held.last.0 < c.number.0
    unfolding header_refusals
    header_next = leb-false c.number.0 b.held.last.0 (none_given 4 (leb c.number.0 b.held.last.0) _ (omega arith) none).0

    by_body : answer_of c b ≡ body_answer c.number c.time c.body b
    unfolding answer_of line_refusals body_answer
    by_body = rw (first_passed last_refusal (header_refusals b c) (body_refusals b c.body) (header_numbered b c) none)

-- ── The body ──

module _ (c : Command) (b : Book) (passes : IsJudged c b (Ok (tt {0}))) where
  -- what the body leaves of the header, both sides and the output is what the command does
  pub left_by_body : (r : Result ℕ Refusal) (held : Held) (buys sells : List Resting) (out' out : List ℕ)
      → Left r buys sells out' out (body_answer c.number c.time c.body b) → held ≡ (body_answer c.number c.time c.body b).book.held
      → Leaves r (record { held = held; buys = buys; sells = sells }) out' out (answer_of c b)
  left_by_body r held buys sells out' out left header =
      rw (by_body c b passes) (record { value = left.0; book_after = rw (header, left.1, left.2) refl; out_after = left.3 })

-- ── The body, at any time ──

module _ (n : Number) (time : ℕ) (b : Book) where
  -- neither the sides nor the events depend on the time
  does_alike : (time' : ℕ) (by : Body)
      → let d = does n time by b in
      let d' = does n time' by b in
      (d.book.buys ≡ d'.book.buys) × (d.book.sells ≡ d'.book.sells) × (d.events ≡ d'.events)
  does_alike time' (body.Order o) =
      let p = order_does n time b o in
      let q = order_does n time' b o in
      (rw (p.0, q.0) refl, rw (p.0, q.0) refl, rw (p.1, q.1) refl)
  does_alike time' (body.Cancel of) =
      let p = cancel_does n time b of in
      let q = cancel_does n time' b of in
      (rw (p.0, q.0) refl, rw (p.0, q.0) refl, rw (p.1, q.1) refl)
  does_alike time' (body.Quote away) =
      let p = quote_does n time b away in
      let q = quote_does n time' b away in
      (rw (p.0, q.0) refl, rw (p.0, q.0) refl, rw (p.1, q.1) refl)
  does_alike time' body.Close =
      let p = close_does n time b in
      let q = close_does n time' b in
      (rw (p.0, q.0) refl, rw (p.0, q.0) refl, rw (p.1, q.1) refl)

  -- in the header an accepted command leaves its number, its time and what its body changes
  pub does_held : (by : Body) → (does n time by b).book.held ≡ held_after by (with_accepted n time b.held)
  does_held (body.Order o) = rw (order_does n time b o).0 refl
  does_held (body.Cancel of) = rw (cancel_does n time b of).0 refl
  does_held (body.Quote away) = rw (quote_does n time b away).0 refl
  does_held body.Close = rw (close_does n time b).0 refl

module _ (c : Command) (b : Book) (passes : IsJudged c b (Ok (tt {0}))) (time : ℕ) where
  -- an accepted command
  pub left_accepted : (len : ℕ) (buys sells : List Resting) (out' out : List ℕ) → Left (Ok len) buys sells out' out (body_answer c.number time c.body b)
      → Leaves (Ok len) (record { held = held_after c.body (with_accepted c.number c.time b.held); buys = buys; sells = sells }) out' out (answer_of c b)
  left_accepted len buys sells out' out left =
      let zero = not_refused c.number time c.body b _ len left.0 in
      let was = body_done c.number time c.body b zero in
      let is = body_done c.number c.time c.body b zero in
      let alike = does_alike c.number time b c.time c.body in
      let there = rw was at left in
      left_by_body c b passes (Ok len) _ buys sells out' out
      (rw is (there.0 ∙ rw alike.2 refl, there.1 ∙ alike.0, there.2 ∙ alike.1, there.3 ∙ rw alike.2 refl))
      (rw is (sym (does_held c.number c.time b c.body)))

  -- a refused one
  pub left_refused_by_body : (e : Refusal) (buys sells : List Resting) (out' out : List ℕ) → Left (Err e) buys sells out' out (body_answer c.number time c.body b)
      → Leaves (Err e) (record { held = b.held; buys = buys; sells = sells }) out' out (answer_of c b)
  left_refused_by_body e buys sells out' out left =
      let above = is_refused c.number time c.body b _ e left.0 in
      let was = body_refused c.number time c.body b _ above refl in
      let is = body_refused c.number c.time c.body b _ above refl in
      left_by_body c b passes (Err e) b.held buys sells out' out (rw is (rw was at left)) (sym (ap (λ (a : Answer). a.book.held) is))
