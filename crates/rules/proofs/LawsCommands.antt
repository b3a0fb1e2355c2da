-- What a command does to the resting orders, other than by executions: the fates that it gives them, what it leaves of both sides, and what
-- it tells of them. Assumes nothing.
use Prim.Native.Nat.{ℕ, ◌+◌}
use mathlib.Core.Bool.{Bool, true, false, not, ◌&&◌}
use mathlib.Core.List.{List, [], ◌∷◌, ◌++◌}
use mathlib.Core.Path.{◌≡◌, refl, subst}
use lib.ListN.{length}
use native.Mathlib.Nat.{zero-add}
use native.Mathlib.Omega.{arith}
use borrow.Author.Tests.{le-ltb, not-true, not-false}
use Rattle.std.specs.Prelude.{if◌then◌else◌}
use Rattle.basics.specs.Lists.{gathered}
use Rattle.basics.proofs.LawsChoice.{by_choice, and_left, and_right, and_none}
use Rattle.kinds.specs.declared.HalfCents.{HalfCents}
use Rattle.kinds.specs.declared.Number.{Number}
use Rattle.rules.specs.declared.Away.{Away}
use Rattle.rules.specs.declared.Body.{Body}
use Rattle.rules.specs.declared.Body.TheVariants as body
use Rattle.rules.specs.declared.Event.{Event}
use Rattle.rules.specs.declared.Held.{Held}
use Rattle.rules.specs.declared.Order.{Order}
use Rattle.rules.specs.declared.Reason.TheVariants.{ByCommand, CancelledBack}
use Rattle.rules.specs.declared.Resting.{Resting}
use Rattle.rules.specs.declared.Stamp.{Stamp}
use Rattle.rules.specs.Book.{Book, shares_left}
use Rattle.rules.specs.Commands.{with_accepted, with_away, shut, is_number, cancel_fate, cancel, would_now_cross, quote_fate, quote, close_fate, close, carried_out, does}
use Rattle.rules.specs.declared.Fate.{Fate}
use Rattle.rules.specs.declared.Fate.TheVariants.{Stays, IsCancelled, IsSet}
use Rattle.rules.specs.Reasons.{number_of_reason}
use Rattle.rules.specs.Settling.{set_at, stamped_as, insert_all, set_by, staying, set_anew, told, stamped_from, settled_side, first_move, own_side, with_side, settled, both_settled}
use Rattle.rules.specs.Holdings.{holdings, executions, after}
use Rattle.rules.specs.Working.{buying, takings, remainder, ending, last_line, with_remainder, worked, refill_fate, locking_price, absent, beyond, accept, met_by, execution_price}

-- ── The fates that it gives ──

-- by its body; one that enters an order lets them all stay
abbrev pub fate_by : Body → Bool → Resting → Fate
fate_by (body.Order o) buy h = Stays
fate_by (body.Cancel of) buy h = cancel_fate of h
fate_by (body.Quote away) buy h = quote_fate away buy h
fate_by body.Close buy h = close_fate h

-- case by case
pub cancel_fate_lem : (P : Fate → Type 0) (of : Number) (h : Resting) → P (IsCancelled (number_of_reason ByCommand)) → (is_number of h ≡ false → P Stays)
    → P (cancel_fate of h)
cancel_fate_lem P of h gone left = by_choice P (is_number of h) (λ t. gone) left

pub quote_fate_lem : (P : Fate → Type 0) (away : Away) (buy : Bool) (h : Resting) → (would_now_cross buy away h ≡ false → P Stays)
    → (would_now_cross buy away h ≡ true → h.back ≡ true → P (IsCancelled (number_of_reason CancelledBack)))
    → (would_now_cross buy away h ≡ true → h.back ≡ false → P (IsSet (set_at (locking_price buy away) h))) → P (quote_fate away buy h)
quote_fate_lem P away buy h left gone moved =
    let crosses = would_now_cross buy away h in
    by_choice P (not crosses) (λ t. left (not-true crosses t)) (λ t. by_choice P h.back (gone (not-false crosses t)) (moved (not-false crosses t)))

-- a claim on whoever is set anew
abbrev pub IfSet : (Resting → Type 0) → Fate → Type 0
IfSet P Stays = Unit {0}
IfSet P (IsCancelled reason) = Unit {0}
IfSet P (IsSet new) = P new

-- only a quote sets orders anew, each at the Locking Price that it would now cross
pub if_set : (P : Resting → Type 0) (c : Body) (buy : Bool) (h : Resting)
    → ((away : Away) → c ≡ body.Quote away → would_now_cross buy away h ≡ true → P (set_at (locking_price buy away) h)) → IfSet P (fate_by c buy h)
if_set P (body.Order o) buy h p = tt
if_set P (body.Cancel of) buy h p = cancel_fate_lem (IfSet P) of h tt (λ t. tt)
if_set P (body.Quote away) buy h p = quote_fate_lem (IfSet P) away buy h (λ t. tt) (λ t b. tt) (λ t b. p away refl t)
if_set P body.Close buy h p = tt

-- whoever is set anew is the same order, with the same shares, of both its parts
pub record SameOrder (h new : Resting) : Type 0 where
  pub number : new.number ≡ h.number
  pub left : shares_left new ≡ shares_left h

pub set_same : (c : Body) (buy : Bool) (h : Resting) → IfSet (SameOrder h) (fate_by c buy h)
set_same c buy h = if_set (SameOrder h) c buy h (λ away is t. record { number = refl; left = refl })

-- whoever stays is not set anew
pub never_set : {P : Type 0} {new : Resting} → Stays ≡ IsSet new → P
never_set e = absurd (subst (IfSet (λ (new : Resting). ⊥)) e tt)

-- ── Who would now cross ──

-- it does so at a Locking Price that is there, and its own price is beyond it
module _ (buy : Bool) (away : Away) (h : Resting) (crosses : would_now_cross buy away h ≡ true) where
  pub crosses_present : absent (locking_price buy away) ≡ false
  crosses_present =
      let locking = locking_price buy away in
      let both = and_left (not h.displayed && not (absent locking)) (beyond buy locking h.price) crosses in
      not-true (absent locking) (and_right (not h.displayed) (not (absent locking)) both)

  pub crosses_hidden : h.displayed ≡ false
  crosses_hidden =
      let locking = locking_price buy away in
      let both = and_left (not h.displayed && not (absent locking)) (beyond buy locking h.price) crosses in
      not-true h.displayed (and_left (not h.displayed) (not (absent locking)) both)

  pub crosses_beyond : beyond buy (locking_price buy away) h.price ≡ true
  crosses_beyond =
      let locking = locking_price buy away in
      and_right (not h.displayed && not (absent locking)) (beyond buy locking h.price) crosses

pub not_beyond_itself : (buy : Bool) (p : HalfCents) → beyond buy p p ≡ false
not_beyond_itself true p = le-ltb p.0 p.0 (omega arith)
not_beyond_itself false p = le-ltb p.0 p.0 (omega arith)

-- whoever is not beyond the Locking Price does not, so whoever is set at it is left alone from then on
module _ (buy : Bool) (away : Away) where
  pub within_stays : (h : Resting) → beyond buy (locking_price buy away) h.price ≡ false → would_now_cross buy away h ≡ false
  within_stays h w = rw w (and_none (not h.displayed && not (absent (locking_price buy away))))

  pub set_stays : (h : Resting) (anew : Stamp) → would_now_cross buy away (stamped_as anew (set_at (locking_price buy away) h)) ≡ false
  set_stays h anew = within_stays (stamped_as anew (set_at (locking_price buy away) h)) (not_beyond_itself buy (locking_price buy away))

-- ── What it leaves and tells ──

-- where nobody is set anew, a side is left with those that stay
module _ (fate : Resting → Fate) (nobody : (h : Resting) → set_by (fate h) ≡ []) where
  none_set : (s : List Resting) → set_anew fate s ≡ []
  unfolding set_anew gathered
  none_set [] = refl
  none_set (h ∷ s) = rw (nobody h) (none_set s)

  settled_staying : (n : Number) (k : ℕ) (buy : Bool) (s : List Resting) → settled_side n k buy fate s ≡ staying fate s
  unfolding settled_side stamped_from insert_all
  settled_staying n k buy s = rw (none_set s)

none_stay : (s : List Resting) → staying close_fate s ≡ []
unfolding staying gathered
none_stay [] = refl
none_stay (h ∷ s) = none_stay s

-- the opposite side, and a book with another one
opposite_is : (buy : Bool) (h : Held) (own opposite : List Resting)
    → let b : Book = record { held = h; buys = if buy then own else opposite; sells = if buy then opposite else own } in
    own_side (not buy) b ≡ opposite
opposite_is true h own opposite = refl
opposite_is false h own opposite = refl

with_opposite : (buy : Bool) (h : Held) (own opposite other : List Resting)
    → let b : Book = record { held = h; buys = if buy then own else opposite; sells = if buy then opposite else own } in
    with_side (not buy) other b ≡ record { held = h; buys = if buy then own else other; sells = if buy then other else own }
with_opposite true h own opposite other = refl
with_opposite false h own opposite other = refl

module _ (n : Number) (time : ℕ) (b : Book) where
  -- an order leaves its own side with what rests of it, and the opposite one with what it did not take, refilled
  pub order_does : (o : Order)
      → let m = met_by o b in
      let opposite = m.opposite in
      let ts = takings o m in
      let left = remainder o m in
      let end = ending o m in
      let own' = with_remainder n o left end m.own in
      let opposite' = settled_side n first_move (not (buying o)) refill_fate (after opposite ts) in
      ((does n time (body.Order o) b).book ≡ record {
        held = with_accepted n time b.held;
        buys = if buying o then own' else opposite';
        sells = if buying o then opposite' else own';
      })
      × ((does n time (body.Order o) b).events ≡ (executions n (execution_price o m) (holdings opposite) ts ++ last_line n left end) ++ told refill_fate (after opposite ts))
  unfolding does carried_out accept worked settled
  order_does o =
      let held = with_accepted n time b.held in
      let m = met_by o b in
      let own' = with_remainder n o (remainder o m) (ending o m) m.own in
      let left = after m.opposite (takings o m) in
      let is = opposite_is (buying o) held own' left in
      (rw (is, with_opposite (buying o) held own' left (settled_side n first_move (not (buying o)) refill_fate left)), rw is)

  pub cancel_does : (of : Number)
      → ((does n time (body.Cancel of) b).book ≡ record {
        held = with_accepted n time b.held;
        buys = staying (cancel_fate of) b.buys;
        sells = staying (cancel_fate of) b.sells;
      })
      × ((does n time (body.Cancel of) b).events ≡ told (cancel_fate of) b.buys ++ told (cancel_fate of) b.sells)
  unfolding does carried_out cancel both_settled settled
  cancel_does of = (simp (settled_staying (cancel_fate of) nobody), refl)
    where
      nobody : (h : Resting) → set_by (cancel_fate of h) ≡ []
      nobody h = cancel_fate_lem (λ (f : Fate). set_by f ≡ []) of h refl (λ t. refl)

  pub quote_does : (away : Away)
      → ((does n time (body.Quote away) b).book ≡ record {
        held = with_away away (with_accepted n time b.held);
        buys = settled_side n first_move true (quote_fate away true) b.buys;
        sells = settled_side n (first_move + length (set_anew (quote_fate away true) b.buys)) false (quote_fate away false) b.sells;
      })
      × ((does n time (body.Quote away) b).events ≡ told (quote_fate away true) b.buys ++ told (quote_fate away false) b.sells)
  unfolding does carried_out quote both_settled settled
  quote_does away = (rw zero-add, refl)

  pub close_does : ((does n time body.Close b).book ≡ record { held = shut (with_accepted n time b.held); buys = []; sells = [] })
      × ((does n time body.Close b).events ≡ told close_fate b.buys ++ told close_fate b.sells)
  unfolding does carried_out close both_settled settled
  close_does = (simp (settled_staying close_fate (λ h. refl), none_stay), refl)

  -- what holds of an order's events, and of the lines of those that a command cancels or sets anew, holds of what it tells
  pub does_tells : (P : Body → List Event → Type 0) → ((o : Order) → P (body.Order o) (does n time (body.Order o) b).events)
      → ((c : Body) → P c (told (fate_by c true) b.buys ++ told (fate_by c false) b.sells)) → (c : Body) → P c (does n time c b).events
  unfolding does carried_out cancel quote close both_settled settled
  does_tells P order other (body.Order o) = order o
  does_tells P order other (body.Cancel of) = other (body.Cancel of)
  does_tells P order other (body.Quote away) = other (body.Quote away)
  does_tells P order other body.Close = other body.Close

  -- every command leaves its number and its time
  pub does_number_and_time : (c : Body) → ((does n time c b).book.held.last ≡ n) × ((does n time c b).book.held.time ≡ time)
  unfolding does carried_out accept worked cancel quote close both_settled settled
  does_number_and_time (body.Order o) = (refl, refl)
  does_number_and_time (body.Cancel of) = (refl, refl)
  does_number_and_time (body.Quote away) = (refl, refl)
  does_number_and_time body.Close = (refl, refl)
