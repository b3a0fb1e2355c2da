-- The answer to a close. Assumes nothing.
use Prim.Native.Nat.{ℕ}
use mathlib.Core.List.{List, [], ◌∷◌, ◌++◌, map}
use mathlib.Core.Path.{◌≡◌, refl, ap, ◌∙◌}
use Rattle.basics.specs.Lists.{gathered}
use Rattle.kinds.specs.declared.Number.{Number}
use Rattle.orders.specs.Reports.{cancelled_for}
use Rattle.rules.specs.declared.Body.TheVariants as body
use Rattle.rules.specs.declared.Event.{Event}
use Rattle.rules.specs.declared.Reason.TheVariants.{AtClose}
use Rattle.rules.specs.Reasons.{number_of_reason}
use Rattle.rules.specs.declared.Resting.{Resting}
use Rattle.rules.specs.Book.{Book}
use Rattle.rules.specs.Commands.{with_accepted, shut, close_fate}
use Rattle.rules.specs.Refusals.{first_of, body_refusals}
use Rattle.rules.specs.Settling.{Done, told}
use Rattle.rules.proofs.LawsCommands.{close_does}
use Rattle.side.specs.Answers.{body_answer}
use Rattle.side.proofs.tables.LawsAnswers.{body_done, done_with}

-- every order is told of
told_all : (s : List Resting) → told close_fate s ≡ map (cancelled_for (number_of_reason AtClose)) s
unfolding told gathered
told_all [] = refl
told_all (h ∷ s) = ap (λ (es : List Event). cancelled_for (number_of_reason AtClose) h ∷ es) (told_all s)

-- what is done: both sides are empty
abbrev pub closed_all : Number → ℕ → Book → Done
closed_all n time b = record {
  book = record { held = shut (with_accepted n time b.held); buys = []; sells = [] };
  events = map (cancelled_for (number_of_reason AtClose)) b.buys ++ map (cancelled_for (number_of_reason AtClose)) b.sells;
  moves = 0;
}

pub closed_is : (n : Number) (time : ℕ) (b : Book) → body_answer n time body.Close b ≡ done_with (closed_all n time b)
unfolding first_of body_refusals
closed_is n time b =
    let does = close_does n time b in
    body_done n time body.Close b refl ∙ rw (does.0, does.1, told_all b.buys, told_all b.sells)
