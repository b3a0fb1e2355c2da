-- When each refusal is given (01, What the machine says back): the table row by row, each in its own words, with 01's own definitions of
-- sound, lawful and resting. "The lowest number that applies is given." (The command writer's half of row 1 is `written_for` of
-- `command_lines/specs/Writing`.)
use Rattle.std.specs.Prelude.{ℕ, ◌+◌, ◌≤◌, ◌<◌, true, false, List, ◌++◌, ◌≢◌, ◌⊎◌, ◌≡◌, eqb, length, if◌then◌else◌}
use Rattle.basics.specs.Lists.{All}
use Rattle.kinds.specs.declared.Cents.{Cents}
use Rattle.kinds.specs.declared.HalfCents.{HalfCents}
use Rattle.kinds.specs.declared.Number.{Number}
use Rattle.kinds.specs.declared.Shares.{Shares}
use Rattle.rules.specs.declared.Away.{Away}
use Rattle.rules.specs.declared.Body.TheVariants as body
use Rattle.rules.specs.declared.Carried.TheVariants.{Nothing, MaxFloor, Minimum}
use Rattle.rules.specs.declared.Command.{Command}
use Rattle.rules.specs.declared.Ending.TheVariants.{Rests}
use Rattle.rules.specs.declared.Order.{Order}
use Rattle.rules.specs.declared.Resting.{Resting}
use Rattle.rules.specs.Book.{Book, BookRecord, book_in, record_sound}
use Rattle.rules.specs.CommandLines.{Fits, line_of}
use Rattle.rules.specs.Instructions.{displayed, market, reserve, has, lawful}
use Rattle.rules.specs.Working.{met_by, ending}

-- the side that an order would rest on: a buy (side 0) among the buys, a sell among the sells
abbrev pub own : Order → Book → List Resting
own o b = if eqb o.side 0 then b.buys else b.sells

-- "away price neither 0 nor 100 to 200,000"
pub record NeitherNoneNorInRange (p : Cents) : Type 0 where
  pub not_none : p.0 ≢ 0
  pub outside : (p.0 < 100) ⊎ (200000 < p.0)

-- the rows that are of a command, on the record that is lent with it
pub data AppliesTo (r : BookRecord) (c : Command) : ℕ → Type 0 where
  -- 4 "number at or below the last: already seen"
  seen : c.number.0 ≤ r.held.last.0 → AppliesTo r c 4
  -- 5 "number above the last plus one"
  too_high : r.held.last.0 + 1 < c.number.0 → AppliesTo r c 5
  -- 6 "book closed"
  is_closed : r.held.closed ≡ true → AppliesTo r c 6
  -- 7 "time before the last accepted time, below 34,200,000, or at or above 57,600,000 (a close may be at 57,600,000)"
  before_the_last : c.time < r.held.time → AppliesTo r c 7
  before_the_opening : c.time < 34200000 → AppliesTo r c 7
  from_the_closing_on : 57600000 ≤ c.time → c.body ≢ body.Close → AppliesTo r c 7
  after_the_closing : 57600000 < c.time → AppliesTo r c 7
  -- 8 "unlawful instruction word"; "Bit 10 is set in kind 05 and nowhere else, .. else 8" (02, W4)
  unlawful : (o : Order) → c.body ≡ body.Order o → lawful o.word ≡ false → AppliesTo r c 8
  reserve_with_no_floor : (o : Order) → c.body ≡ body.Order o → o.carried ≡ Nothing → has o.word reserve ≡ true → AppliesTo r c 8
  floor_with_no_reserve : (o : Order) → c.body ≡ body.Order o → (floor : Shares) → o.carried ≡ MaxFloor floor
      → has o.word reserve ≡ false → AppliesTo r c 8
  reserve_with_minimum : (o : Order) → c.body ≡ body.Order o → (least : Shares) → o.carried ≡ Minimum least
      → has o.word reserve ≡ true → AppliesTo r c 8
  -- "with Displayed, refusal 8" (02, W7)
  minimum_displayed : (o : Order) → c.body ≡ body.Order o → (least : Shares) → o.carried ≡ Minimum least
      → has o.word displayed ≡ true → AppliesTo r c 8
  -- 9 "side not 0 or 1; shares outside 1 to 1,000,000; limit price outside 100 to 200,000; market price not 0; away price neither 0
  -- nor 100 to 200,000"
  no_side : (o : Order) → c.body ≡ body.Order o → o.side ≢ 0 → o.side ≢ 1 → AppliesTo r c 9
  shares_outside : (o : Order) → c.body ≡ body.Order o → (o.shares.0 < 1) ⊎ (1000000 < o.shares.0) → AppliesTo r c 9
  limit_outside : (o : Order) → c.body ≡ body.Order o → has o.word market ≡ false → (o.price.0 < 100) ⊎ (200000 < o.price.0)
      → AppliesTo r c 9
  market_priced : (o : Order) → c.body ≡ body.Order o → has o.word market ≡ true → o.price.0 ≢ 0 → AppliesTo r c 9
  -- "the Max Floor .., 1 to the order's shares, else refusal 9" (02, W4)
  floor_outside : (o : Order) → c.body ≡ body.Order o → (floor : Shares) → o.carried ≡ MaxFloor floor
      → (floor.0 < 1) ⊎ (o.shares.0 < floor.0) → AppliesTo r c 9
  -- "the minimum .., 1 to the order's shares, else refusal 9" (02, W7)
  minimum_outside : (o : Order) → c.body ≡ body.Order o → (least : Shares) → o.carried ≡ Minimum least
      → (least.0 < 1) ⊎ (o.shares.0 < least.0) → AppliesTo r c 9
  bid_outside : (away : Away) → c.body ≡ body.Quote away → NeitherNoneNorInRange away.bid → AppliesTo r c 9
  offer_outside : (away : Away) → c.body ≡ body.Quote away → NeitherNoneNorInRange away.offer → AppliesTo r c 9
  -- 10 "cancel of a number that isn't resting"
  not_resting : (n : Number) → c.body ≡ body.Cancel n → All (λ (h : Resting). h.number ≢ n) ((book_in r).buys ++ (book_in r).sells)
      → AppliesTo r c 10
  -- 11 "the rules would rest a remainder and that side holds 64", which W5 makes 256
  side_full : (o : Order) → c.body ≡ body.Order o → (price : HalfCents) → ending o (met_by o (book_in r)) ≡ Rests price
      → 256 ≤ length (own o (book_in r)) → AppliesTo r c 11

-- the whole table
pub data Applies (r : BookRecord) (line out : List ℕ) : ℕ → Type 0 where
  -- 1 "output room below 4,096 bytes", which W4 makes 8,192 and W5 32,768
  room_short : length out < 32768 → Applies r line out 1
  -- 2 "the book lent is not sound"
  not_sound : record_sound r ≡ false → Applies r line out 2
  -- 3 "the line is not one of the .. forms": it is the line of no command
  no_form : ((c : Command) → Fits c → line ≢ line_of c) → Applies r line out 3
  -- 4 to 11: the line is that of a command
  of_command : (c : Command) → Fits c → line ≡ line_of c → {k : ℕ} → AppliesTo r c k → Applies r line out k

-- no lower number applies
abbrev pub NoLower : BookRecord → List ℕ → List ℕ → ℕ → Type 0
NoLower r line out k = (j : ℕ) → j < k → Applies r line out j → ⊥
