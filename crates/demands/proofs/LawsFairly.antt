-- The lines of a command, kind by kind; and that every execution of an order is with one of the side that it meets, at the price given here
-- (02, W6), which is fair. Assumes nothing.
use Prim.Native.Nat.{ℕ, ◌<◌}
use mathlib.Core.Bool.{true, false}
use mathlib.Core.List.{List, [], ◌∷◌, ◌++◌}
use mathlib.Core.Logic.{⊎_elim}
use mathlib.Core.Path.{◌≡◌, refl}
use lib.Dec.{eqb}
use native.Mathlib.Omega.{arith}
use borrow.Author.Tests.{eqb-false}
use Rattle.basics.specs.Lists.{All, none, also, OneOf, Each, with}
use Rattle.basics.proofs.LawsChoice.{holds_or_not}
use Rattle.basics.proofs.LawsLists.{all_alike, all_both, each_there, gathered_all}
use Rattle.kinds.specs.Kinds.{shares}
use Rattle.kinds.specs.declared.HalfCents.{HalfCents}
use Rattle.kinds.specs.declared.Number.{Number}
use Rattle.kinds.specs.declared.Shares.{Shares}
use Rattle.rules.specs.declared.Body.{Body}
use Rattle.rules.specs.declared.Body.TheVariants as body
use Rattle.rules.specs.declared.Command.{Command}
use Rattle.rules.specs.declared.Ending.{Ending}
use Rattle.rules.specs.declared.Ending.TheVariants.{Filled, Rests, Cancels}
use Rattle.rules.specs.declared.Event.{Event}
use Rattle.rules.specs.declared.Event.TheVariants.{Executed, Rested, Cancelled, Moved}
use Rattle.rules.specs.declared.Order.{Order}
use Rattle.rules.specs.declared.Resting.{Resting}
use Rattle.rules.specs.Book.{Book, shares_left, sound}
use Rattle.rules.specs.CommandLines.{command_in}
use Rattle.rules.specs.Instructions.{post_only, has}
use Rattle.rules.specs.declared.Fate.{Fate}
use Rattle.rules.specs.declared.Fate.TheVariants.{Stays, IsCancelled, IsSet}
use Rattle.rules.specs.Settling.{told_by, told}
use Rattle.rules.specs.Step.{answer_to}
use Rattle.rules.specs.Holdings.{Holding, holdings, nothing, executions, after}
use Rattle.rules.specs.Working.{Met, buying, met_by, execution_price, walked, takings, remainder, ending, last_line}
use Rattle.rules.specs.Reasons.{number_of_reason}
use Rattle.rules.proofs.LawsCommands.{fate_by}
use Rattle.rules.proofs.LawsWalkOrder.{holdings_there}
use Rattle.soundness.proofs.LawsSides.{sides_of}
use Rattle.soundness.proofs.LawsSound.{sound_is}
use Rattle.demands.specs.Once.{acts}
use Rattle.demands.specs.ShareOut.{Fair, PriceHere, LawfulGiving}
use Rattle.demands.proofs.LawsExecutes.{acts_accepted, acts_order, acts_lines, order_side, all_meetable}
use Rattle.demands.proofs.LawsLinesTell.{every_refill}
use Rattle.demands.proofs.LawsShareOut.{priced_at, takings_lawful}
use Rattle.demands.proofs.LawsWalked.{taken}
use Rattle.std.specs.Prelude.{Some}

-- ── Lines of one kind ──

-- what holds of each execution line of an order, of each cancel and of each move of a command, or of each last line, holds of all of them
pub every_execution : {P : Event → Type 0} (m : Number) (price : Resting → HalfCents)
    → ((h : Resting) (t : ℕ) → P (Executed m h.number (price h) (shares t)))
    → (s : List Holding) (ts : List ℕ) → All P (executions m price s ts)
unfolding executions
every_execution m price f [] ts = none
every_execution m price f (h ∷ s) [] = none
every_execution m price f (h ∷ s) (t ∷ ts) =
    ⊎_elim
    (λ (z : eqb t 0 ≡ true). rw z (every_execution m price f s ts))
    (λ (z : eqb t 0 ≡ false). rw z (also (f h.of t) (every_execution m price f s ts)))
    (holds_or_not (eqb t 0))

pub every_told : {P : Event → Type 0} → ((m : Number) (k : Shares) (reason : ℕ) → P (Cancelled m k reason))
    → ((m : Number) (price : HalfCents) (k : Shares) → P (Moved m price k)) → (c : Body) (b : Book)
    → All P (told (fate_by c true) b.buys ++ told (fate_by c false) b.sells)
unfolding told
every_told {P = P} gone moved c b = all_both (of_side (fate_by c true) b.buys) (of_side (fate_by c false) b.sells)
  where
    by_fate : (f : Fate) (h : Resting) → All P (told_by f h)
    by_fate Stays h = none
    by_fate (IsCancelled reason) h = also (gone h.number (shares (shares_left h)) reason) none
    by_fate (IsSet new) h = also (moved new.number new.price new.shares) none

    of_side : (fate : Resting → Fate) (s : List Resting) → All P (told fate s)
    of_side fate s = gathered_all (λ (h : Resting). told_by (fate h) h) (all_alike (λ h p. by_fate (fate h) h) (each_there s))

pub every_last : {P : Event → Type 0} (n : Number) → ((price : HalfCents) (k : Shares) → P (Rested n price k))
    → ((k : Shares) (reason : ℕ) → P (Cancelled n k reason)) → (left : ℕ) (e : Ending) → All P (last_line n left e)
every_last n rested gone left Filled = none
every_last n rested gone left (Rests price) = also (rested price (shares left)) none
every_last n rested gone left (Cancels reason) = also (gone (shares left) (number_of_reason reason)) none

-- ── Executions ──

-- an execution of order n is with one of the opposite side, at the price given here, which is fair
pub record Fairly (o : Order) (met : Met) (n : Number) (incoming resting : Number) (price : HalfCents) : Type 0 where
  pub is_incoming : incoming ≡ n
  pub whom : Resting
  pub there : OneOf whom met.opposite
  pub is_resting : resting ≡ whom.number
  pub at_its_price : PriceHere o met.own whom price
  pub is_fair : Fair o met.away price

abbrev pub FairlyExecuted : Order → Met → Number → Event → Type 0
FairlyExecuted o met n (Executed incoming resting price shares) = Fairly o met n incoming resting price
FairlyExecuted o met n (Rested m price shares) = Unit {0}
FairlyExecuted o met n (Cancelled m shares reason) = Unit {0}
FairlyExecuted o met n (Moved m price shares) = Unit {0}

module _ (o : Order) (met : Met) (n : Number) where
  abbrev at : Resting → HalfCents
  at = execution_price o met

  -- those of a lawful share-out
  executions_fairly : (ts : List ℕ) {hs : List Holding} → All (λ (h : Holding). OneOf h.of met.opposite) hs
      → Each (LawfulGiving o met.away met.own) hs (priced_at at hs ts) → All (FairlyExecuted o met n) (executions n at hs ts)
  unfolding executions priced_at
  executions_fairly ts none e = none
  executions_fairly [] (also p a) e = none
  executions_fairly (t ∷ ts) (also {x = h} p a) (with l e) =
      ⊎_elim
      (λ (z : eqb t 0 ≡ true). rw z (executions_fairly ts a e))
      (λ (z : eqb t 0 ≡ false).
      let gives : 0 < t = omega (arith, eqb-false t 0 z) in
      let own : Fairly o met n n h.of.number (at h.of) =
      record { is_incoming = refl; whom = h.of; there = p; is_resting = refl; at_its_price = l.at_its_price gives; is_fair = l.fair gives } in
      rw z (also own (executions_fairly ts a e)))
      (holds_or_not (eqb t 0))

  -- of nothing there is none
  nothing_fairly : (hs : List Holding) → All (FairlyExecuted o met n) (executions n at hs (nothing hs))
  unfolding executions nothing
  nothing_fairly [] = none
  nothing_fairly (h ∷ hs) = nothing_fairly hs

-- Post Only takes nothing
pub post_only_takes_nothing : (o : Order) (met : Met) → has o.word post_only ≡ true → takings o met ≡ nothing (holdings met.opposite)
unfolding walked
post_only_takes_nothing o met t = taken (λ (ts : List ℕ). ts ≡ nothing (holdings met.opposite)) o met refl (rw t refl)

-- the executions of an accepted order
pub order_fairly : (b : Book) (line : List ℕ) (c : Command) (o : Order) → sound b ≡ true
    → acts b line ≡ true → command_in line ≡ Some c → c.body ≡ body.Order o
    → All (FairlyExecuted o (met_by o b) c.number) (answer_to b line).events
order_fairly b line c o s t e f =
    let n = c.number in
    let met = met_by o b in
    let side = met.opposite in
    let fairly =
    ⊎_elim
    (λ (p : has o.word post_only ≡ true). rw (post_only_takes_nothing o met p) (nothing_fairly o met n (holdings side)))
    (λ (p : has o.word post_only ≡ false).
    let order = acts_order b c o (acts_accepted b line c t e) f in
    let ranked = (sides_of (buying o) b (sound_is b s)).opposite_ranked in
    let lawful = takings_lawful o met (order_side o order.in_range) p ranked (all_meetable o b s) in
    executions_fairly o met n (takings o met) (holdings_there side) lawful.each)
    (holds_or_not (has o.word post_only)) in
    let last = every_last {P = FairlyExecuted o met n} n (λ price k. tt) (λ k reason. tt) (remainder o met) (ending o met) in
    let refills = every_refill {P = FairlyExecuted o met n} (λ m price k. tt) (after side (takings o met)) in
    rw (acts_lines b line c o t e f) (all_both fairly (all_both last refills))
