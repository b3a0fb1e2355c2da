-- What each accepted command writes and leaves, in 01's words, said of its own event lines and of the book before and after: an order's
-- lines one by one, a cancel, a close, and what every command leaves of the number, the time, the away quote and the rest. `LawsWritten`
-- has the proofs. (What a quote writes and moves stands in `Quoted`.)
use Rattle.std.specs.Prelude.{ℕ, ◌+◌, ◌≤◌, min, List, [], ◌∷◌, ◌++◌, ◌≢◌, ◌≡◌}
use Rattle.basics.specs.Lists.{All, OneOf}
use Rattle.kinds.specs.Kinds.{shares}
use Rattle.kinds.specs.declared.HalfCents.{HalfCents}
use Rattle.kinds.specs.declared.Number.{Number}
use Rattle.kinds.specs.declared.Shares.{Shares}
use Rattle.rules.specs.declared.Body.{Body}
use Rattle.rules.specs.declared.Body.TheVariants as body
use Rattle.rules.specs.declared.Event.{Event}
use Rattle.rules.specs.declared.Event.TheVariants.{Executed, Rested, Cancelled}
use Rattle.rules.specs.declared.Order.{Order}
use Rattle.rules.specs.declared.Resting.{Resting}
use Rattle.rules.specs.Book.{Book, shares_left}
use Rattle.rules.specs.Holdings.{Holding, size}
use Rattle.rules.specs.Settling.{shown_of}
use Rattle.rules.specs.Working.{floor_of, minimum_of}
use Rattle.demands.specs.ExactlyWhen.{own}
use Rattle.demands.specs.Refilled.{RefillLines}
use Rattle.demands.specs.ShareOut.{opposite, against, PriceHere}
use Rattle.demands.specs.Told.{executed_in}

-- ── An order ──

-- "walk the opposite side in rank order .. Each execution is at the resting order's price", or half a cent from it under a lock (02, W6):
-- one line at most of each opposite holding, in the order of the walk, of a share at least and no more than it holds
pub data Executions (n : Number) (o : Order) (own : List Resting) : List Holding → List Event → Type 0 where
  of_nobody : Executions n o own [] []
  of_none : {h : Holding} {s : List Holding} {es : List Event} → Executions n o own s es → Executions n o own (h ∷ s) es
  of_one : {h : Holding} {s : List Holding} {es : List Event} {price : HalfCents} (given : Shares) → PriceHere o own h.of price
      → 1 ≤ given.0 → given.0 ≤ size h → Executions n o own s es
      → Executions n o own (h ∷ s) (Executed n h.of.number price given ∷ es)

-- "then at most one `12` or `13`", of an order of which so many shares are executed: nothing where these are all; or the others rest, as
-- the line says, on its own side, both parts counted, and it shows its Max Floor, or what is left if that is less, or all of it where it
-- has none (02, W4), and it keeps the smaller of its minimum and what is left (02, W7); or they are cancelled, all of them, and no order of
-- its number rests
pub data LastLine (n : Number) (o : Order) (executed : ℕ) (own : List Resting) : List Event → Type 0 where
  filled : executed ≡ o.shares.0 → All (λ (h : Resting). h.number ≢ n) own → LastLine n o executed own []
  rests : (h : Resting) → OneOf h own → h.number ≡ n → h.floor.0 ≡ floor_of o.carried
      → h.minimum.0 ≡ min (minimum_of o.carried) (shares_left h)
      → h.shares.0 ≡ shown_of h.floor.0 (shares_left h) → executed + shares_left h ≡ o.shares.0
      → LastLine n o executed own (Rested n h.price (shares (shares_left h)) ∷ [])
  is_cancelled : (left : Shares) (reason : ℕ) → executed + left.0 ≡ o.shares.0 → All (λ (h : Resting). h.number ≢ n) own
      → LastLine n o executed own (Cancelled n left reason ∷ [])

-- the lines of an order, on the book that stood and the book that it leaves: its executions, its last line, and then those of the refills
-- that are due (02, W4); every other order of its own side stands as before, and no new one but itself
pub record OrderWrites (n : Number) (o : Order) (stood after : Book) (es : List Event) : Type 0 where
  pub executions : List Event
  pub last : List Event
  pub refills : List Event
  pub in_turn : es ≡ executions ++ (last ++ refills)
  pub in_rank : Executions n o (own o stood) (against o stood) executions
  pub at_most_one : LastLine n o (executed_in n es) (own o after) last
  pub as_due : RefillLines es (opposite o stood) refills
  pub others : (h : Resting) → OneOf h (own o stood) → OneOf h (own o after)
  pub none_new : (h : Resting) → h.number ≢ n → OneOf h (own o after) → OneOf h (own o stood)

-- ── A cancel and a close ──

-- a cancel takes the order of that number off, tells it with all its shares and reason 1, and leaves every other as it was
pub record CancelWrites (of : Number) (before after : List Resting) (es : List Event) : Type 0 where
  pub gone : Resting
  pub stood : OneOf gone before
  pub named : gone.number ≡ of
  pub told : es ≡ Cancelled of (shares (shares_left gone)) 1 ∷ []
  pub off : All (λ (h : Resting). h.number ≢ of) after
  pub others : (h : Resting) → h.number ≢ of → OneOf h before → OneOf h after
  pub none_new : (h : Resting) → OneOf h after → OneOf h before

-- "Close cancels all buys in rank order, then all sells": a line for each, with all its shares, reason 7
abbrev pub close_line : Resting → Event
close_line h = Cancelled h.number (shares (shares_left h)) 7

-- a command enters an order
pub record IsOrder (x : Body) : Type 0 where
  pub order : Order
  pub is : x ≡ body.Order order
