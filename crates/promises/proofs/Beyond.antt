-- Beyond the customer's three demands: what else holds of a day, and 01's sentences on the lent table, each a statement and a citation of its
-- proof. The words are in `demands/specs/Beyond` and `lent/specs/Lent`. Assumes nothing.
use Prim.Native.Nat.{ℕ, ◌+◌, ◌≤◌}
use mathlib.Core.Bool.{Bool, true, false}
use mathlib.Core.List.{List}
use mathlib.Core.Logic.{◌≢◌}
use mathlib.Core.Path.{◌≡◌}
use lib.ListN.{length}
use Rattle.basics.specs.Lists.{All, OneOf}
use Rattle.kinds.specs.Kinds.{in_half_cents}
use Rattle.kinds.specs.declared.HalfCents.{HalfCents}
use Rattle.kinds.specs.declared.Number.{Number}
use Rattle.kinds.specs.declared.Shares.{Shares}
use Rattle.rules.specs.declared.Body.TheVariants as body
use Rattle.rules.specs.declared.Command.{Command}
use Rattle.rules.specs.declared.Event.TheVariants.{Executed}
use Rattle.rules.specs.declared.Order.{Order}
use Rattle.rules.specs.declared.Resting.{Resting}
use Rattle.rules.specs.Book.{Book, BookRecord, fresh}
use Rattle.rules.specs.CommandLines.{command_in}
use Rattle.rules.specs.Day.{printed, book_after, printed_of}
use Rattle.rules.specs.Instructions.{has, post_only}
use Rattle.rules.specs.Refusals.{least_room}
use Rattle.rules.specs.Step.{answer_to, step}
use Rattle.demands.specs.Beyond.{NoExecution, WhereTold, numbers_entered, executed_by_all, Pairs}
use Rattle.demands.specs.Once.{acts, by_line}
use Rattle.demands.specs.Run.{Enters}
use Rattle.demands.specs.ShareOut.{Fair}
use Rattle.demands.specs.Told.{events_in, executed_in, cancelled_in}
use Rattle.demands.proofs.LawsBeyond as beyond
use Rattle.demands.proofs.LawsLimits as limits
use Rattle.demands.proofs.LawsStanding as standing
use Rattle.demands.proofs.LawsTraded as traded
use Rattle.lent.specs.Lent.{no_places, places_lent, side_of, with_places, fits, lent_step}
use Rattle.lent.proofs.LawsPromised as lent
use Rattle.std.specs.Prelude.{Some}

-- ── A day ──

-- "Post Only executes nothing" (01, step 1)
pub post_only_executes_nothing : (b : Book) (line : List ℕ) (c : Command) (o : Order) → acts b line ≡ true → command_in line ≡ Some c
    → c.body ≡ body.Order o → has o.word post_only ≡ true → All NoExecution (events_in (printed (answer_to b line)))
post_only_executes_nothing = beyond.post_only_executes_nothing

-- a closed book stays as it is, whatever comes ..
pub closed_it_stays : (b : Book) (lines : List (List ℕ)) → b.held.closed ≡ true → book_after b lines ≡ b
closed_it_stays = beyond.closed_stays

-- .. and then shares entered = executed + cancelled, for every order
pub settled_after_the_close : (lines : List (List ℕ)) (stood : Book) (line : List ℕ) (c : Command) (o : Order)
    → Enters by_line fresh lines stood line c o → (book_after fresh lines).held.closed ≡ true
    → o.shares.0 ≡ executed_in c.number (events_in (printed_of fresh lines)) + cancelled_in c.number (events_in (printed_of fresh lines))
settled_after_the_close = beyond.closed_settles

-- in every execution that an order writes it is the incoming one; the price is that at which the resting order was last told to stand (`12`
-- or `14`), or under a lock half a cent from it (02, W6), and it is within the order's limit and, unless it is an ISO, within the away quote
-- then held
pub executions_where_told : (before : List (List ℕ)) (line : List ℕ) (c : Command) (o : Order)
    → acts (book_after fresh before) line ≡ true → command_in line ≡ Some c → c.body ≡ body.Order o
    → (incoming resting : Number) (price : HalfCents) (shares : Shares)
    → OneOf (Executed incoming resting price shares) (events_in (printed (answer_to (book_after fresh before) line)))
    → (incoming ≡ c.number) × WhereTold o (book_after fresh before) (events_in (printed_of fresh before)) resting price
    × Fair o (book_after fresh before).held.away price
executions_where_told = standing.executions_where_told

-- each `11` pairs one buy with one sell, so shares bought are shares sold
pub each_execution_pairs : (lines : List (List ℕ)) → All (Pairs (numbers_entered 0 fresh lines) (numbers_entered 1 fresh lines)) (events_in (printed_of fresh lines))
each_execution_pairs = traded.executions_pair

pub bought_is_sold : (lines : List (List ℕ))
    → executed_by_all (numbers_entered 0 fresh lines) (events_in (printed_of fresh lines))
    ≡ executed_by_all (numbers_entered 1 fresh lines) (events_in (printed_of fresh lines))
bought_is_sold = traded.bought_is_sold

-- a resting price is never beyond its order's limit
pub rests_within_its_limit : (lines : List (List ℕ)) (stood : Book) (line : List ℕ) (c : Command) (o : Order) → Enters by_line fresh lines stood line c o
    → (h : Resting) → h.number ≡ c.number
    → (OneOf h (book_after fresh lines).buys → (o.side ≡ 0) × (h.price.0 ≤ (in_half_cents o.price).0))
    × (OneOf h (book_after fresh lines).sells → (o.side ≡ 1) × ((in_half_cents o.price).0 ≤ h.price.0))
rests_within_its_limit = limits.rests_within_limit

-- ── One side lent as a table (01, The book) ──

-- "The table (64 records, else refusal 2)", with W5 256; "The book lent with it has all places of that side zero, else refusal 2"
pub a_table_that_does_not_fit : (buys : Bool) (r : BookRecord) (table : List Resting) (line out : List ℕ) → fits buys r table ≡ false
    → least_room ≤ length out → (lent_step buys r table line out).refusal ≡ 2
a_table_that_does_not_fit = lent.unfit_refused

-- "stands for that side and is left as the core would leave it"
pub a_table_is_left_as_the_core_would : (buys : Bool) (r : BookRecord) (table : List Resting) (line out : List ℕ) → fits buys r table ≡ true
    → (lent_step buys r table line out).refusal ≡ 0
    → ((lent_step buys r table line out).table ≡ (side_of buys (step (with_places buys (places_lent table) r) line out).book).places)
    × ((lent_step buys r table line out).length ≡ (step (with_places buys (places_lent table) r) line out).length)
    × ((lent_step buys r table line out).out ≡ (step (with_places buys (places_lent table) r) line out).out)
a_table_is_left_as_the_core_would = lent.fit_answers

-- "a refusal leaves it untouched"
pub a_refusal_leaves_the_table : (buys : Bool) (r : BookRecord) (table : List Resting) (line out : List ℕ)
    → (lent_step buys r table line out).refusal ≢ 0
    → ((lent_step buys r table line out).table ≡ table) × ((lent_step buys r table line out).book ≡ r) × ((lent_step buys r table line out).out ≡ out)
a_refusal_leaves_the_table = lent.refused_untouched

-- "and comes back so": with all places of that side zero
pub the_side_comes_back_empty : (buys : Bool) (r : BookRecord) (table : List Resting) (line out : List ℕ) → fits buys r table ≡ true
    → (lent_step buys r table line out).refusal ≡ 0 → side_of buys (lent_step buys r table line out).book ≡ no_places
the_side_comes_back_empty = lent.comes_back_empty
