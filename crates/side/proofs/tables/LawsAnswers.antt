-- The two kinds of answer: a refusal leaves all as it was, and an accepted command does what 01 says. Assumes nothing.
use Prim.Native.Nat.{ℕ, ◌<◌}
use mathlib.Core.List.{List, []}
use mathlib.Core.Path.{◌≡◌, refl, sym, ap, ◌∙◌}
use lib.ListN.{length}
use native.Mathlib.Omega.{arith}
use borrow.Author.Tests.{ne_eqb}
use Rattle.std.specs.Prelude.{Result, Ok, Err, Some}
use Rattle.basics.specs.Bytes.{onto}
use Rattle.basics.proofs.LawsBytes.{onto_none}
use Rattle.kinds.specs.declared.Number.{Number}
use Rattle.rules.specs.declared.Body.{Body}
use Rattle.rules.specs.declared.Refusal.{Refusal}
use Rattle.rules.specs.declared.Refusal.TheVariants.{NoRoom, UnsoundBook, NoCommand, SeenAlready, TooFarAhead, Closed, Untimely, UnlawfulWord, OutOfRange, NotResting, FullSide}
use Rattle.rules.specs.declared.Resting.{Resting}
use Rattle.rules.specs.Book.{Book}
use Rattle.rules.specs.EventLines.{event_lines}
use Rattle.rules.specs.Refusals.{first_of, last_refusal, body_refusals}
use Rattle.rules.specs.Refusing.{number_of, refusal_numbered, or_refused}
use Rattle.rules.specs.Step.{Answer, answer, done_by}
use Rattle.rules.specs.Commands.{does}
use Rattle.rules.specs.Settling.{Done}
use Rattle.rules.proofs.LawsRefusals.{first_numbered, body_numbered}
use Rattle.rules.proofs.LawsRefusing.{passed_zero, refused_above}
use Rattle.side.specs.Answers.{body_answer, Left}

abbrev pub refused_with : ℕ → Book → Answer
refused_with k b = record { refusal = k; book = b; events = [] }

abbrev pub done_with : Done → Answer
done_with d = record { refusal = 0; book = d.book; events = d.events }

-- ── By the body ──

module _ (n : Number) (time : ℕ) (body : Body) (b : Book) where
  pub body_refused : (k : ℕ) → 0 < k → first_of (body_refusals b body) ≡ k → body_answer n time body b ≡ refused_with k b
  unfolding body_answer answer
  body_refused k l e = rw (e, ne_eqb k 0 (λ (z : k ≡ 0). omega arith))

  pub body_done : first_of (body_refusals b body) ≡ 0 → body_answer n time body b ≡ done_with (does n time body b)
  unfolding body_answer answer done_by
  body_done e = rw e

  -- the refusal of an answer is the first of its body's, whatever the time is
  refusal_is : (body_answer n time body b).refusal ≡ first_of (body_refusals b body)
  unfolding body_answer answer
  refusal_is = refl

  -- so what is returned tells whether the body is refused
  pub not_refused : {A : Type 0} (a len : A) → Ok len ≡ or_refused a (body_answer n time body b).refusal → first_of (body_refusals b body) ≡ 0
  not_refused a len e =
      let most = first_numbered last_refusal (body_refusals b body) (body_numbered b body) in
      passed_zero a len (first_of (body_refusals b body)) most (sym (rw refusal_is at e))

  pub is_refused : {A : Type 0} (a : A) (e : Refusal) → Err e ≡ or_refused a (body_answer n time body b).refusal → 0 < first_of (body_refusals b body)
  is_refused a e is = refused_above a (first_of (body_refusals b body)) e (sym (rw refusal_is at is))

  -- what the answer leaves of the header: an accepted command what it does to it, a refused one all
  pub header_done : {A : Type 0} (a len : A) → Ok len ≡ or_refused a (body_answer n time body b).refusal
      → (body_answer n time body b).book.held ≡ (does n time body b).book.held
  header_done a len e = ap (λ (x : Answer). x.book.held) (body_done (not_refused a len e))

  pub header_kept : {A : Type 0} (a : A) (e : Refusal) → Err e ≡ or_refused a (body_answer n time body b).refusal
      → (body_answer n time body b).book.held ≡ b.held
  header_kept a e is = ap (λ (x : Answer). x.book.held) (body_refused (first_of (body_refusals b body)) (is_refused a e is) refl)

-- ── What a command leaves ──

-- what is left of an answer is fixed by it: the result, both sides and the bytes
pub left_determined : (out : List ℕ) (a : Answer) {r r' : Result ℕ Refusal} {buys buys' sells sells' : List Resting} {o o' : List ℕ}
    → Left r buys sells o out a → Left r' buys' sells' o' out a → (r ≡ r') × (buys ≡ buys') × (sells ≡ sells') × (o ≡ o')
left_determined out a p q = (p.0 ∙ sym q.0, p.1 ∙ sym q.1, p.2 ∙ sym q.2, p.3 ∙ sym q.3)

-- the number of a refusal is its own
pub numbered_back : (refusal : Refusal) → refusal_numbered (number_of refusal) ≡ Some refusal
numbered_back NoRoom = refl
numbered_back UnsoundBook = refl
numbered_back NoCommand = refl
numbered_back SeenAlready = refl
numbered_back TooFarAhead = refl
numbered_back Closed = refl
numbered_back Untimely = refl
numbered_back UnlawfulWord = refl
numbered_back OutOfRange = refl
numbered_back NotResting = refl
numbered_back FullSide = refl

-- "A refusal returns its number and length 0; book and output bytes are untouched."
pub left_refused : (refusal : Refusal) (b : Book) (out : List ℕ) (a : Answer) → a ≡ refused_with (number_of refusal) b
    → Left (Err refusal) b.buys b.sells out out a
unfolding event_lines
left_refused refusal b out a e = rw (e, numbered_back refusal) (refl, refl, refl, onto_none out)

pub left_done : (d : Done) (len : ℕ) (buys sells : List Resting) (out' out : List ℕ) (a : Answer) → a ≡ done_with d
    → len ≡ length (event_lines d.events) → buys ≡ d.book.buys → sells ≡ d.book.sells → out' ≡ onto (event_lines d.events) out
    → Left (Ok len) buys sells out' out a
left_done d len buys sells out' out a e long bought sold written = rw (e, long) (refl, bought, sold, written)
