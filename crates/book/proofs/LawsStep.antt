-- A step over any record: refusals 1 and 2 come before the line, and where neither is given the answer is that of a sound book.
-- Assumes nothing.
use Prim.Native.Nat.{ℕ, ◌≤◌, ◌<◌}
use mathlib.Core.Bool.{true, false}
use mathlib.Core.List.{List}
use mathlib.Core.Path.{◌≡◌, sym, ap}
use lib.Dec.{eqb}
use lib.ListN.{length}
use native.Mathlib.Omega.{arith}
use borrow.Author.Tests.{ne_eqb, le-ltb, lt-ltb}
use Rattle.basics.specs.Bytes.{onto}
use Rattle.std.specs.Prelude.{if◌then◌else◌, Some, None}
use Rattle.basics.proofs.LawsBytes.{onto_none}
use Rattle.rules.specs.declared.Command.{Command}
use Rattle.rules.specs.CommandLines.{Reading}
use Rattle.rules.specs.Book.{BookRecord, book_in, record_of, record_sound}
use Rattle.rules.specs.EventLines.{event_lines}
use Rattle.rules.specs.Refusals.{first_of, least_room, line_refusals, refusals}
use Rattle.rules.specs.Step.{Returned, answer, step_on}
use Rattle.side.specs.Answers.{answer_of}

-- what a refusal returns
abbrev pub refused_on : ℕ → BookRecord → List ℕ → Returned
refused_on k r out = record { refusal = k; length = 0; book = r; out = out }

module _ (r : BookRecord) (out : List ℕ) where
  refused_step : (a : Reading) (k : ℕ) → first_of (refusals (length out) (record_sound r) (book_in r) a) ≡ k → 0 < k → step_on r a out ≡ refused_on k r out
  unfolding step_on answer event_lines
  refused_step a k e l = rw (e, ne_eqb k 0 (λ (z : k ≡ 0). omega arith)) (ap (refused k) (sym (onto_none out)))
    where
      refused : ℕ → List ℕ → Returned
      refused k o = refused_on k r o

  -- refusals 1 and 2 come before the line
  pub step_no_room : (a : Reading) → length out < least_room → step_on r a out ≡ refused_on 1 r out
  unfolding refusals first_of
  step_no_room a short = refused_step a 1 (rw (lt-ltb (length out) least_room short)) (omega arith)

  module _ (room : least_room ≤ length out) where
    pub step_unsound : (a : Reading) → record_sound r ≡ false → step_on r a out ≡ refused_on 2 r out
    unfolding refusals first_of
    step_unsound a e = refused_step a 2 (rw (le-ltb (length out) least_room room, e)) (omega arith)

    pub step_no_command : record_sound r ≡ true → step_on r None out ≡ refused_on 3 r out
    unfolding refusals line_refusals first_of
    step_no_command e = refused_step None 3 (rw (le-ltb (length out) least_room room, e)) (omega arith)

  module _ (c : Command) (is_sound : record_sound r ≡ true) (room : least_room ≤ length out) where
    fit_refusals_lem : first_of (refusals (length out) (record_sound r) (book_in r) (Some c)) ≡ first_of (line_refusals (book_in r) (Some c))
    unfolding refusals first_of
    fit_refusals_lem = rw (is_sound, le-ltb (length out) least_room room)

    pub step_answer : step_on r (Some c) out ≡ record {
      refusal = (answer_of c (book_in r)).refusal;
      length = length (event_lines (answer_of c (book_in r)).events);
      book = if eqb (answer_of c (book_in r)).refusal 0 then record_of (answer_of c (book_in r)).book else r;
      out = onto (event_lines (answer_of c (book_in r)).events) out;
    }
    unfolding step_on answer_of answer
    step_answer = rw fit_refusals_lem
