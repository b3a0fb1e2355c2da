-- Demand 3 with minimums, in W7's own words (02): "For such books and orders demand 3, its conserved sums kept, reads: FOK is killed exactly if
-- the walk in rank order falls short, and then executes nothing, nor does an incoming order whose walk gives less than its minimum. In every
-- other walk an order reached is skipped exactly in the case above, and any other gives the smaller of its holding and what is left." Where
-- there is no minimum, demand 3 stands as it was (`Executes`). `LawsMinimum` has the proofs.
use Rattle.std.specs.Prelude.{ℕ, ◌-◌, ◌≤◌, ◌<◌, min, true, false, List, [], ◌∷◌, ◌⊎◌, ◌≡◌}
use Rattle.basics.specs.Lists.{All, OneOf}
use Rattle.kinds.specs.declared.HalfCents.{HalfCents}
use Rattle.rules.specs.declared.Away.{Away}
use Rattle.rules.specs.declared.Command.{Command}
use Rattle.rules.specs.declared.Ending.TheVariants.{Rests}
use Rattle.rules.specs.declared.Event.{Event}
use Rattle.rules.specs.declared.Event.TheVariants.{Executed, Rested, Cancelled, Moved}
use Rattle.rules.specs.declared.Order.{Order}
use Rattle.rules.specs.declared.Resting.{Resting}
use Rattle.rules.specs.Book.{Book, shares_left}
use Rattle.rules.specs.Holdings.{Holding, size}
use Rattle.rules.specs.Instructions.{ioc, fok, has, post_only}
use Rattle.rules.specs.Working.{minimum_of, seeks}
use Rattle.demands.specs.ExactlyWhen.{own}
use Rattle.demands.specs.Executes.{Between, executions_in, lines_of}
use Rattle.demands.specs.Once.{by_line}
use Rattle.demands.specs.Run.{Enters}
use Rattle.demands.specs.ShareOut.{opposite, against, Given, given, Fair, PriceHere}
use Rattle.demands.specs.Told.{executed_in, cancelled_in, is_killed}

-- neither the incoming order nor one that it meets has a minimum
pub record NoMinimum (o : Order) (stood : Book) : Type 0 where
  pub incoming : minimum_of o.carried ≡ 0
  pub resting : All (λ (h : Resting). h.minimum.0 ≡ 0) (opposite o stood)

-- no accepted order of a run of lines asks for a least size
abbrev pub NoneAsks : Book → List (List ℕ) → Type 0
NoneAsks b lines =
    (stood : Book) (line : List ℕ) (c : Command) (o : Order) → Enters by_line b lines stood line c o → minimum_of o.carried ≡ 0

-- ── The walk in rank order ──

-- "the smaller of its minimum and its holding"
abbrev pub least_given : Holding → ℕ
least_given h = min h.of.minimum.0 (size h)

-- the price given here is fair: the order may be touched
pub record MayGive (o : Order) (away : Away) (own : List Resting) (h : Holding) : Type 0 where
  pub price : HalfCents
  pub here : PriceHere o own h.of price
  pub fair : Fair o away price

-- a walk with so many shares left over holdings in their order, and what each gives: it ends at the first that may not give; "with less
-- left than the smaller of its minimum and its holding, it is skipped and the walk goes on"; "any other gives the smaller of its holding and
-- what is left"
pub data WalksInRank (o : Order) (away : Away) (own : List Resting) : ℕ → List Holding → List Given → Type 0 where
  at_the_end : {left : ℕ} → WalksInRank o away own left [] []
  ends : {left : ℕ} {h : Holding} {hs : List Holding} {gs : List Given} → (MayGive o away own h → ⊥)
      → All (λ (g : Given). g.shares ≡ 0) gs → WalksInRank o away own left (h ∷ hs) gs
  skips : {left : ℕ} {h : Holding} {hs : List Holding} {g : Given} {gs : List Given} → MayGive o away own h → left < least_given h
      → g.shares ≡ 0 → WalksInRank o away own left hs gs → WalksInRank o away own left (h ∷ hs) (g ∷ gs)
  gives : {left : ℕ} {h : Holding} {hs : List Holding} {g : Given} {gs : List Given} → PriceHere o own h.of g.price
      → Fair o away g.price → least_given h ≤ left → g.shares ≡ min left (size h)
      → WalksInRank o away own (left - g.shares) hs gs → WalksInRank o away own left (h ∷ hs) (g ∷ gs)

-- what an order that isn't Post Only executes, on the book that stood, as its event lines tell it
pub record ExecutesInRank (stood : Book) (c : Command) (o : Order) (es : List Event) : Type 0 where
  pub between : All (Between c.number (opposite o stood)) es
  -- "the walk in rank order"
  pub walk : List Given
  pub walks : WalksInRank o stood.held.away (own o stood) o.shares.0 (against o stood) walk
  -- "FOK is killed exactly if the walk in rank order falls short, and then executes nothing"
  pub killed_only : is_killed c.number es ≡ true → (has o.word fok ≡ true) × (given walk < o.shares.0)
  pub killed_if : has o.word fok ≡ true → given walk < o.shares.0 → is_killed c.number es ≡ true
  pub killed_nothing : is_killed c.number es ≡ true → (executions_in es ≡ []) × (cancelled_in c.number es ≡ o.shares.0)
  -- "nor does an incoming order whose walk gives less than its minimum"
  pub below_nothing : given walk < minimum_of o.carried → executions_in es ≡ []
  -- "In every other walk" each gives what the walk says, told line by line
  pub otherwise : is_killed c.number es ≡ false → minimum_of o.carried ≤ given walk
      → (executions_in es ≡ lines_of c.number (against o stood) walk) × (executed_in c.number es ≡ given walk)

-- ── Reason 8 ──

-- a price equals or passes that of an opposite order
pub data EqualsOrPasses (o : Order) (price : HalfCents) (h : Resting) : Type 0 where
  a_buy : o.side ≡ 0 → h.price.0 ≤ price.0 → EqualsOrPasses o price h
  a_sell : o.side ≡ 1 → price.0 ≤ h.price.0 → EqualsOrPasses o price h

-- "W6's locked price": a displayed order of its own side stands there; where a price equals or passes an opposite order of a sound book,
-- that one is hidden and stands there too
pub record AtALock (own : List Resting) (price : HalfCents) : Type 0 where
  pub by : Resting
  pub there : OneOf by own
  pub shown : by.displayed ≡ true
  pub at_the_price : by.price.0 ≡ price.0

-- "A remainder that would still equal or pass an opposite order, save Post Only or at W6's locked price", at its price from step 4: one of
-- those that are left after the walk; a remainder of a Day order, for IOC's has reason 2
pub record StillMeets (o : Order) (stood after : Book) : Type 0 where
  pub not_post_only : has o.word post_only ≡ false
  pub not_fok : has o.word fok ≡ false
  pub not_ioc : has o.word ioc ≡ false
  pub price : HalfCents
  pub sought : seeks o stood.held.away ≡ Rests price
  pub whom : Resting
  pub there : OneOf whom (opposite o after)
  pub meets : EqualsOrPasses o price whom
  pub unlocked : AtALock (own o stood) price → ⊥

-- what an order's line says of it: reason 8 is given only if it would still meet one, and an order that is not Post Only rests only where it
-- meets none of those that are left, or at a locked price
abbrev pub SaysOfReason8 : Order → Book → Book → Event → Type 0
SaysOfReason8 o stood after (Executed incoming resting price shares) = Unit {0}
SaysOfReason8 o stood after (Rested n price shares) =
    has o.word post_only ≡ false
    → AtALock (own o stood) price ⊎ ((h : Resting) → OneOf h (opposite o after) → EqualsOrPasses o price h → ⊥)
SaysOfReason8 o stood after (Cancelled n shares reason) = reason ≡ 8 → StillMeets o stood after
SaysOfReason8 o stood after (Moved n price shares) = Unit {0}

-- ── A resting order ──

-- "A Non-Displayed order may ask for a least size": none, or 1 to what is left of it, and no reserve beside it
pub data MinimumIs (h : Resting) : Type 0 where
  no_minimum : h.minimum.0 ≡ 0 → MinimumIs h
  hidden : h.displayed ≡ false → 1 ≤ h.minimum.0 → h.minimum.0 ≤ shares_left h → h.reserve.0 ≡ 0 → h.floor.0 ≡ 0 → MinimumIs h

-- an order, and what it was: "When fewer shares remain than the minimum, the minimum becomes what remains"
pub record BecomesWhatRemains (h' h : Resting) : Type 0 where
  pub number : h.number ≡ h'.number
  pub minimum : h'.minimum.0 ≡ min h.minimum.0 (shares_left h')
