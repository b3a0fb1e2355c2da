-- An order that passes its own tests: the match of its own side and the opposite one is what 01 does to the book. One law for both
-- sides of the market. Assumes nothing.
use Prim.Native.Nat.{ℕ}
use mathlib.Core.Bool.{Bool, true, false}
use mathlib.Core.List.{List, []}
use mathlib.Core.Logic.{⊎_elim}
use mathlib.Core.Path.{◌≡◌, ◌∙◌}
use native.Mathlib.Omega.{arith}
use Rattle.std.specs.Prelude.{if◌then◌else◌, Result}
use Rattle.basics.proofs.LawsChoice.{holds_or_not}
use Rattle.kinds.specs.declared.Number.{Number}
use Rattle.orders.specs.Matching.{Match, is_full, match_of, Matches}
use Rattle.rules.specs.declared.Body.TheVariants as body
use Rattle.rules.specs.declared.Order.{Order}
use Rattle.rules.specs.declared.Refusal.{Refusal}
use Rattle.rules.specs.declared.Resting.{Resting}
use Rattle.rules.specs.Book.{Book}
use Rattle.rules.specs.Refusals.{first_of, body_refusals, order_lawful, order_in_range, rests_on_full_side}
use Rattle.rules.specs.Commands.{with_accepted, carried_out, does}
use Rattle.rules.specs.Settling.{own_side, opposite_side}
use Rattle.rules.proofs.LawsCommands.{order_does}
use Rattle.rules.specs.Working.{buying, ending, accept}
use Rattle.side.specs.Answers.{Left, body_answer}
use Rattle.side.proofs.tables.LawsAnswers.{refused_with, done_with, body_refused, body_done}
use Rattle.orders.proofs.LawsReady.{met_on}

module _ (n : Number) (time : ℕ) (o : Order) (b : Book) where
  pub unlawful : order_lawful o ≡ false → body_answer n time (body.Order o) b ≡ refused_with 8 b
  unfolding body_refusals first_of
  unlawful e = body_refused n time (body.Order o) b 8 (omega arith) (rw e)

  pub out_of_range : order_lawful o ≡ true → order_in_range o ≡ false → body_answer n time (body.Order o) b ≡ refused_with 9 b
  unfolding body_refusals first_of
  out_of_range e f = body_refused n time (body.Order o) b 9 (omega arith) (rw (e, f))

  -- the match of the order, on whichever side of the market
  abbrev pub matches : Bool → Match
  matches buy = match_of o n (met_on buy b)

  module _ (is_lawful : order_lawful o ≡ true) (in_range : order_in_range o ≡ true) where
    full : (buy : Bool) → buying o ≡ buy → is_full (ending o (met_on buy b)) (own_side buy b) ≡ true
        → (body_answer n time (body.Order o) b ≡ refused_with 11 b)
        × (matches buy ≡ record { refusal = 11; events = []; own = own_side buy b; opposite = opposite_side buy b })
    unfolding body_refusals first_of rests_on_full_side match_of
    full buy q f = (body_refused n time (body.Order o) b 11 (omega arith) (rw (is_lawful, in_range, q, f)), rw f)

    room : (buy : Bool) → buying o ≡ buy → is_full (ending o (met_on buy b)) (own_side buy b) ≡ false
        → (body_answer n time (body.Order o) b ≡ done_with (record {
          book = record {
            held = with_accepted n time b.held;
            buys = if buy then (matches buy).own else (matches buy).opposite;
            sells = if buy then (matches buy).opposite else (matches buy).own;
          };
          events = (matches buy).events;
          moves = 0;
        }))
        × ((matches buy).refusal ≡ 0)
    unfolding body_refusals first_of rests_on_full_side match_of does carried_out accept
    room buy q f =
        let d = order_does n time b o in
        (body_done n time (body.Order o) b (rw (is_lawful, in_range, q, f)) ∙ rw (d.0, d.1, q, f), rw f)

-- ── What it leaves ──

module _ (n : Number) (time : ℕ) (o : Order) (b : Book) (is_lawful : order_lawful o ≡ true) (in_range : order_in_range o ≡ true) where
  -- what a match leaves is what 01 does to the book, by the side of the market that the order is of
  pub left_entered : (buy : Bool) → buying o ≡ buy → (r : Result ℕ Refusal) (own opposite : List Resting) (out' out : List ℕ)
      → Matches r own opposite out' out (matches n time o b buy)
      → Left r (if buy then own else opposite) (if buy then opposite else own) out' out (body_answer n time (body.Order o) b)
  left_entered buy q r own opposite out' out left =
      ⊎_elim
      (λ (f : is_full (ending o (met_on buy b)) (own_side buy b) ≡ true).
      let k = full n time o b is_lawful in_range buy q f in
      rw k.0 (left_full buy (rw k.1 at left)))
      (λ (f : is_full (ending o (met_on buy b)) (own_side buy b) ≡ false).
      let k = room n time o b is_lawful in_range buy q f in
      rw k.0 (left_room buy (matches n time o b buy) left k.1))
      (holds_or_not (is_full (ending o (met_on buy b)) (own_side buy b)))
    where
      left_full : (buy : Bool) → Matches r own opposite out' out (record { refusal = 11; events = []; own = own_side buy b; opposite = opposite_side buy b })
          → Left r (if buy then own else opposite) (if buy then opposite else own) out' out (refused_with 11 b)
      left_full true left = left
      left_full false left = (left.0, left.2, left.1, left.3)

      left_room : (buy : Bool) (m : Match) → Matches r own opposite out' out m → m.refusal ≡ 0
          → Left r (if buy then own else opposite) (if buy then opposite else own) out' out (done_with (record {
            book = record {
              held = with_accepted n time b.held;
              buys = if buy then m.own else m.opposite;
              sells = if buy then m.opposite else m.own;
            };
            events = m.events;
            moves = 0;
          }))
      left_room true m left z = (rw z at left.0, left.1, left.2, left.3)
      left_room false m left z = (rw z at left.0, left.2, left.1, left.3)
