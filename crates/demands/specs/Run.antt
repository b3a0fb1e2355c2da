-- A run of lines: its events. A run of lines or of calls: the orders that it enters.
use Rattle.std.specs.Prelude.{ℕ, true, List, [], ◌∷◌, ◌++◌, ◌≡◌, Some, None}
use Rattle.rules.specs.declared.Body.TheVariants as body
use Rattle.rules.specs.declared.Command.{Command}
use Rattle.rules.specs.declared.Event.{Event}
use Rattle.rules.specs.declared.Order.{Order}
use Rattle.rules.specs.Book.{Book}
use Rattle.rules.specs.Step.{answer_to}
use Rattle.demands.specs.Once.{Answering}

-- the events of a run of lines, in their order
unfoldable pub events_of : Book → List (List ℕ) → List Event
events_of b [] = []
events_of b (l ∷ ls) = (answer_to b l).events ++ events_of (answer_to b l).book ls

-- in a run of commands of any kind, lines or calls, one is accepted and enters an order, on the book that stood then
pub data Enters {B C : Type 0} (a : Answering B C) : B → List C → B → C → Command → Order → Type 0 where
  now : {b : B} {x : C} {xs : List C} {c : Command} {o : Order}
      → a.acts b x ≡ true → a.reading x ≡ Some c → c.body ≡ body.Order o → Enters a b (x ∷ xs) b x c o
  later : {b : B} {x y : C} {xs : List C} {stood : B} {c : Command} {o : Order}
      → Enters a (a.book b x) xs stood y c o → Enters a b (x ∷ xs) stood y c o
