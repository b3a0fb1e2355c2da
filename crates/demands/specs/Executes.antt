-- Demand 3 of one accepted order, said of what its own lines tell: the customer's sentences one by one, each by the fields below it. With
-- W4 the holdings of the opposite orders, shown parts and reserves, are "each as an order of its own at its rank in the walk".
use Rattle.std.specs.Prelude.{◌≤◌, ◌<◌, true, false, not, List, [], ◌∷◌, ◌≡◌, eqb, if◌then◌else◌}
use Rattle.basics.specs.Lists.{any, gathered, All}
use Rattle.kinds.specs.Kinds.{shares}
use Rattle.kinds.specs.declared.HalfCents.{HalfCents}
use Rattle.kinds.specs.declared.Number.{Number}
use Rattle.rules.specs.declared.Command.{Command}
use Rattle.rules.specs.declared.Event.{Event}
use Rattle.rules.specs.declared.Event.TheVariants.{Executed, Rested, Cancelled, Moved}
use Rattle.rules.specs.declared.Order.{Order}
use Rattle.rules.specs.declared.Resting.{Resting}
use Rattle.rules.specs.Book.{Book}
use Rattle.rules.specs.Commands.{is_number}
use Rattle.rules.specs.Holdings.{Holding, size, walks_before}
use Rattle.rules.specs.Instructions.{fok, has}
use Rattle.rules.specs.Working.{buying}
use Rattle.demands.specs.ExactlyWhen.{own}
use Rattle.demands.specs.ShareOut.{opposite, against, Given, Beside, Fair, given, Lawful, Fills, PriceHere}
use Rattle.demands.specs.Told.{executed_in, cancelled_in, is_killed}

-- the executions among some lines
abbrev pub execution_in : Event → List Event
execution_in (Executed incoming resting price shares) = Executed incoming resting price shares ∷ []
execution_in (Rested n price shares) = []
execution_in (Cancelled n shares reason) = []
execution_in (Moved n price shares) = []

abbrev pub executions_in : List Event → List Event
executions_in es = gathered execution_in es

-- the lines of a share-out by order n: one for each holding that gives, in the order of the walk, never one for two
unfoldable pub lines_of : Number → List Holding → List Given → List Event
lines_of n [] gs = []
lines_of n (h ∷ s) [] = []
lines_of n (h ∷ s) (g ∷ gs) =
    if eqb g.shares 0 then lines_of n s gs
    else Executed n h.of.number g.price (shares g.shares) ∷ lines_of n s gs

-- the line of an execution is between the incoming order and one of the side that it meets, of a share at least
abbrev pub Between : Number → List Resting → Event → Type 0
Between n s (Executed incoming resting price shares) = (incoming ≡ n) × (any (is_number resting) s ≡ true) × (1 ≤ shares.0)
Between n s (Rested m price shares) = Unit {0}
Between n s (Cancelled m shares reason) = Unit {0}
Between n s (Moved m price shares) = Unit {0}

-- what an order, entered by a command on the book that stood then, executes as its event lines tell it
pub record Executes (stood : Book) (c : Command) (o : Order) (es : List Event) : Type 0 where
  -- it is a share-out of the opposite holdings, told line by line, no other order gives a share, and it is lawful
  pub between : All (Between c.number (opposite o stood)) es
  pub share_out : List Given
  pub told : executions_in es ≡ lines_of c.number (against o stood) share_out
  pub in_all : executed_in c.number es ≡ given share_out
  pub is_lawful : Lawful o stood.held.away (own o stood) (against o stood) share_out
  -- "A Fill-or-Kill is killed exactly if no lawful share-out totals its size, and then executes nothing."
  pub killed_only : is_killed c.number es ≡ true → Fills o stood.held.away (own o stood) (against o stood) → ⊥
  pub killed_if : has o.word fok ≡ true → (Fills o stood.held.away (own o stood) (against o stood) → ⊥)
      → is_killed c.number es ≡ true
  pub killed_nothing : is_killed c.number es ≡ true → executed_in c.number es ≡ 0
  pub killed_whole : is_killed c.number es ≡ true → cancelled_in c.number es ≡ o.shares.0
  pub only_fok : is_killed c.number es ≡ true → has o.word fok ≡ true
  -- "Every other such order executes the greatest lawful total"
  pub greatest : is_killed c.number es ≡ false → (gs : List Given) → Lawful o stood.held.away (own o stood) (against o stood) gs
      → given gs ≤ executed_in c.number es
  -- "and no resting order gives a share while a better-ranked one that could lawfully give keeps one"
  pub in_rank : {better worse : Holding} {gives takes : Given} → Beside better gives (against o stood) share_out
      → Beside worse takes (against o stood) share_out → walks_before (not (buying o)) better worse ≡ true → 0 < takes.shares
      → {price : HalfCents} → PriceHere o (own o stood) better.of price → Fair o stood.held.away price
      → gives.shares ≡ size better
