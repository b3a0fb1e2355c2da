-- Beyond the three demands: words for what else a broker may want to know of a day. `LawsBeyond`, `LawsStanding` and `LawsTraded` have the
-- proofs.
use Rattle.std.specs.Prelude.{ℕ, zero, suc, List, [], ◌∷◌, ◌++◌, ◌⊎◌, ◌≡◌, eqb, if◌then◌else◌, Some, None}
use Rattle.basics.specs.Lists.{sum_of, OneOf}
use Rattle.kinds.specs.Kinds.{half_cents}
use Rattle.kinds.specs.declared.HalfCents.{HalfCents}
use Rattle.kinds.specs.declared.Number.{Number}
use Rattle.rules.specs.declared.Body.{Body}
use Rattle.rules.specs.declared.Body.TheVariants as body
use Rattle.rules.specs.declared.Command.{Command}
use Rattle.rules.specs.declared.Event.{Event}
use Rattle.rules.specs.declared.Event.TheVariants.{Executed, Rested, Cancelled, Moved}
use Rattle.rules.specs.declared.Order.{Order}
use Rattle.rules.specs.CommandLines.{Reading}
use Rattle.rules.specs.declared.Resting.{Resting}
use Rattle.rules.specs.Book.{Book}
use Rattle.rules.specs.CommandLines.{command_in}
use Rattle.rules.specs.Step.{answer_to}
use Rattle.demands.specs.ExactlyWhen.{own}
use Rattle.demands.specs.Once.{acts}
use Rattle.demands.specs.ShareOut.{opposite, PriceHere}
use Rattle.demands.specs.Told.{executed_in}

-- ── Numbers and lines ──

-- the numbers from 1 to n
unfoldable pub one_to : ℕ → List ℕ
one_to zero = []
one_to (suc n) = one_to n ++ (suc n ∷ [])

-- some bytes, so many times over
unfoldable pub repeated : ℕ → List ℕ → List ℕ
repeated zero bytes = []
repeated (suc n) bytes = bytes ++ repeated n bytes

-- an event that executes nothing
abbrev pub NoExecution : Event → Type 0
NoExecution (Executed incoming resting price shares) = ⊥
NoExecution (Rested n price shares) = Unit {0}
NoExecution (Cancelled n shares reason) = Unit {0}
NoExecution (Moved n price shares) = Unit {0}

-- ── Where an order was last told to stand ──

-- an event tells the price at which an order stands from then on: `12` when it comes to rest, `14` when it is moved or
-- refilled
abbrev pub price_told : Number → Event → HalfCents → HalfCents
price_told n (Executed incoming resting price shares) before = before
price_told n (Rested m price shares) before = if eqb n.0 m.0 then price else before
price_told n (Cancelled m shares reason) before = before
price_told n (Moved m price shares) before = if eqb n.0 m.0 then price else before

-- the price that the last such event of an order tells; 0 where there is none
unfoldable pub last_told : Number → HalfCents → List Event → HalfCents
last_told n before [] = before
last_told n before (e ∷ es) = last_told n (price_told n e before) es

abbrev pub stands_at : Number → List Event → HalfCents
stands_at n es = last_told n (half_cents 0) es

-- an execution of an order, on a book of which events told where its orders stand, is with one of the opposite side, which stands where it
-- was last told to: at that price, or under a lock half a cent the incoming way (02, W6)
pub record WhereTold (o : Order) (stood : Book) (es : List Event) (resting : Number) (price : HalfCents) : Type 0 where
  pub whom : Resting
  pub there : OneOf whom (opposite o stood)
  pub is_resting : whom.number ≡ resting
  pub standing : whom.price ≡ stands_at resting es
  pub at_its_price : PriceHere o (own o stood) whom price

-- ── Bought and sold ──

-- the number of the order of a side (0 buys, 1 sells) that a command enters
abbrev pub order_number : ℕ → Command → Body → List Number
order_number side c (body.Order o) = if eqb o.side side then c.number ∷ [] else []
order_number side c (body.Cancel n) = []
order_number side c (body.Quote away) = []
order_number side c body.Close = []

abbrev pub number_entered : ℕ → Reading → List Number
number_entered side (Some c) = order_number side c c.body
number_entered side None = []

-- the numbers of the accepted orders of a side, in a run of lines
unfoldable pub numbers_entered : ℕ → Book → List (List ℕ) → List Number
numbers_entered side b [] = []
numbers_entered side b (l ∷ ls) =
    if acts b l then number_entered side (command_in l) ++ numbers_entered side (answer_to b l).book ls
    else numbers_entered side (answer_to b l).book ls

-- the shares that some orders execute, as events tell it
abbrev pub executed_by_all : List Number → List Event → ℕ
executed_by_all ns es = sum_of (λ (n : Number). executed_in n es) ns

-- an execution is between one of the buys and one of the sells
abbrev pub Pairs : List Number → List Number → Event → Type 0
Pairs buys sells (Executed incoming resting price shares) =
    (OneOf incoming buys × OneOf resting sells)
    ⊎ (OneOf incoming sells × OneOf resting buys)
Pairs buys sells (Rested n price shares) = Unit {0}
Pairs buys sells (Cancelled n shares reason) = Unit {0}
Pairs buys sells (Moved n price shares) = Unit {0}
