-- The answer to a cancel where no number stands twice: the number is of a buy, of a sell or of no order. Assumes nothing.
use Prim.Native.Nat.{ℕ}
use mathlib.Core.Bool.{true, false}
use mathlib.Core.List.{[], ◌∷◌, ◌++◌}
use mathlib.Core.Path.{◌≡◌, ◌∙◌}
use native.Mathlib.Omega.{arith}
use Rattle.basics.specs.Lists.{any, distinct, remove_at}
use Rattle.kinds.specs.declared.Number.{Number}
use Rattle.rules.specs.declared.Body.TheVariants as body
use Rattle.rules.specs.Book.{Book, numbers}
use Rattle.rules.specs.Commands.{with_accepted, is_number}
use Rattle.rules.specs.Refusals.{first_of, body_refusals}
use Rattle.rules.specs.Settling.{Done}
use Rattle.rules.proofs.LawsCommands.{cancel_does}
use Rattle.side.specs.Answers.{body_answer}
use Rattle.side.proofs.tables.LawsAnswers.{body_done, body_refused, done_with, refused_with}
use Rattle.commands.specs.Cancels.{off_line}
use Rattle.rules.specs.declared.Refusal.TheVariants.{NotResting}
use Rattle.rules.specs.Refusing.{number_of}
use Rattle.side.specs.Looking.{rank_of}
use Rattle.std.specs.Prelude.{Some}
use Rattle.commands.proofs.cancels.LawsCancelled.{ranked, staying_none, told_none, staying_one, told_one, on_first_side, on_second_side, first_once, second_once, stopped}

module _ (n : Number) (time : ℕ) (of : Number) (b : Book) where
  -- what is done where the number is of the buy, or of the sell, at a rank
  abbrev pub without_buy : ℕ → Done
  without_buy at = record {
    book = record { held = with_accepted n time b.held; buys = remove_at at b.buys; sells = b.sells };
    events = off_line at b.buys ∷ [];
    moves = 0;
  }

  abbrev pub without_sell : ℕ → Done
  without_sell at = record {
    book = record { held = with_accepted n time b.held; buys = b.buys; sells = remove_at at b.sells };
    events = off_line at b.sells ∷ [];
    moves = 0;
  }

  module _ (once : distinct (numbers (b.buys ++ b.sells)) ≡ true) where
    pub cancelled_buy : (rank : ℕ) → rank_of of b.buys ≡ Some rank → body_answer n time (body.Cancel of) b ≡ done_with (without_buy rank)
    unfolding first_of body_refusals
    cancelled_buy rank found =
        let at = ranked of b.buys rank found in
        let e = stopped (is_number of) b.buys (omega (arith, at.0, at.1)) in
        let none = on_first_side of b.buys b.sells once e in
        let one = first_once b.buys b.sells once in
        let does = cancel_does n time b of in
        body_done n time (body.Cancel of) b (rw e)
        ∙ rw (does.0, does.1, staying_one of b.buys one e, told_one of b.buys one e, staying_none of b.sells none, told_none of b.sells none, at.0)

    pub cancelled_sell : (rank : ℕ) → rank_of of b.sells ≡ Some rank → body_answer n time (body.Cancel of) b ≡ done_with (without_sell rank)
    unfolding first_of body_refusals
    cancelled_sell rank found =
        let at = ranked of b.sells rank found in
        let e = stopped (is_number of) b.sells (omega (arith, at.0, at.1)) in
        let none = on_second_side of b.buys b.sells once e in
        let one = second_once b.buys b.sells once in
        let does = cancel_does n time b of in
        body_done n time (body.Cancel of) b (rw (none, e))
        ∙ rw (does.0, does.1, staying_one of b.sells one e, told_one of b.sells one e, staying_none of b.buys none, told_none of b.buys none, at.0)

  pub cancel_refused : any (is_number of) b.buys ≡ false → any (is_number of) b.sells ≡ false
      → body_answer n time (body.Cancel of) b ≡ refused_with (number_of NotResting) b
  unfolding first_of body_refusals
  cancel_refused none none' = body_refused n time (body.Cancel of) b 10 (omega arith) (rw (none, none'))
