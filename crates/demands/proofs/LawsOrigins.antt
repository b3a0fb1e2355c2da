-- Where the resting orders after a command come from: each stood there before and keeps its price, or the command set it anew, or it is
-- what rests of the order that the command enters. Assumes nothing.
use Prim.Native.Nat.{ℕ, ◌+◌, ◌<◌}
use mathlib.Core.Bool.{Bool, true, false, not}
use mathlib.Core.List.{List, [], ◌++◌}
use mathlib.Core.Logic.{◌≢◌, ⊎_elim}
use mathlib.Core.Path.{◌≡◌, refl, sym, ap, subst}
use native.Mathlib.Omega.{arith}
use Rattle.basics.specs.Lists.{All, OneOf, first, later}
use Rattle.basics.proofs.LawsChoice.{holds_or_not, by_choice}
use Rattle.basics.proofs.LawsLists.{all_alike, one_of_all, each_there, behind}
use Rattle.kinds.specs.declared.Number.{Number}
use Rattle.rules.specs.declared.Body.{Body}
use Rattle.rules.specs.declared.Body.TheVariants as body
use Rattle.rules.specs.declared.Command.{Command}
use Rattle.rules.specs.declared.Ending.{Ending}
use Rattle.rules.specs.declared.Ending.TheVariants.{Filled, Rests, Cancels}
use Rattle.rules.specs.declared.Event.{Event}
use Rattle.rules.specs.declared.Order.{Order}
use Rattle.rules.specs.CommandLines.{Reading}
use Rattle.rules.specs.declared.Resting.{Resting}
use Rattle.rules.specs.declared.Stamp.{Stamp}
use Rattle.rules.specs.Book.{Book, stamp}
use Rattle.rules.specs.CommandLines.{command_in}
use Rattle.rules.specs.Commands.{cancel, quote, close, carried_out, does}
use Rattle.rules.specs.declared.Fate.TheVariants.{Stays, IsSet}
use Rattle.rules.specs.Holdings.{after}
use Rattle.rules.specs.Settling.{stamped_as, refilled, settled_side, first_move, own_side, opposite_side, settled, both_settled}
use Rattle.rules.specs.Step.{answer_to}
use Rattle.rules.specs.Working.{buying, met_by, takings, remainder, ending, remainder_of, with_remainder, refill_fate}
use Rattle.rules.proofs.LawsCommands.{fate_by, IfSet, SameOrder, set_same, order_does}
use Rattle.rules.proofs.LawsWalkOrder.{after_are, RefillSays, refill_says}
use Rattle.soundness.proofs.LawsAccepted.{InOrder}
use Rattle.soundness.proofs.LawsInsert.{added_insert, added_all}
use Rattle.soundness.proofs.LawsSettled.{set_place, settled_are}
use Rattle.soundness.proofs.LawsSides.{sides_of}
use Rattle.soundness.proofs.LawsSound.{Sound}
use Rattle.demands.specs.Once.{command_number, acts}
use Rattle.demands.proofs.LawsExecutes.{acts_accepted}
use Rattle.demands.proofs.LawsLinesTell.{once_each, once_first, once_rest, opposite_once}
use Rattle.demands.proofs.LawsOnce.{refused_book, refused_events, next_acts}
use Rattle.demands.proofs.LawsRun.{accepted_does}
use Rattle.std.specs.Prelude.{Some, None}

-- ── Where a resting order comes from ──

-- where x, of a side of the book after command n, comes from
pub data Comes (b : Book) (n : Number) (buy : Bool) (x : Resting) : Body → Type 0 where
  stayed : {c : Body} (h : Resting) → OneOf h (own_side buy b) → fate_by c buy h ≡ Stays → x.number ≡ h.number → x.price ≡ h.price
      → Comes b n buy x c
  anew : {c : Body} (h new : Resting) → OneOf h (own_side buy b) → fate_by c buy h ≡ IsSet new → x.number ≡ h.number → x.price ≡ new.price
      → Comes b n buy x c
  rests : {o : Order} → buying o ≡ buy → ending o (met_by o b) ≡ Rests x.price → x.number ≡ n → Comes b n buy x (body.Order o)

-- the opposite side of a buy is that of the sells, and the other way round
pub opposite_own : (buy : Bool) (b : Book) → opposite_side buy b ≡ own_side (not buy) b
opposite_own true b = refl
opposite_own false b = refl

module _ (b : Book) (is_sound : Sound b) (n : Number) (time : ℕ) where
  -- an order: on its own side, and on the opposite one, where neither fewer shares nor a refill change number or price
  same_comes : (o : Order) (buy : Bool) → All (λ x. Comes b n buy x (body.Order o)) (own_side buy b)
  same_comes o buy = all_alike (λ h p. stayed h p refl refl refl) (each_there (own_side buy b))

  own_comes : (o : Order) (left : ℕ) (e : Ending) → ending o (met_by o b) ≡ e
      → All (λ x. Comes b n (buying o) x (body.Order o)) (with_remainder n o left e (own_side (buying o) b))
  own_comes o left Filled i = same_comes o (buying o)
  own_comes o left (Cancels reason) i = same_comes o (buying o)
  own_comes o left (Rests price) i =
      added_all (rests refl i refl) (added_insert (buying o) (remainder_of n o left price) (own_side (buying o) b)) (same_comes o (buying o))

  opposite_comes : (o : Order) (k : ℕ)
      → let met = met_by o b in
      All (λ x. Comes b n (not (buying o)) x (body.Order o))
      (settled_side n k (not (buying o)) refill_fate (after met.opposite (takings o met)))
  opposite_comes o k =
      let met = met_by o b in
      let buy = not (buying o) in
      let left = after met.opposite (takings o met) in
      let came : All (λ x. Comes b n buy x (body.Order o)) left =
      after_are o met (λ h t r p g kept. stayed h (subst (OneOf h) (opposite_own (buying o) b) p) refl refl refl) in
      settled_are refill_fate n k buy left (λ h p e. one_of_all came p)
      (λ h new p e. subst (λ (x : Resting). Comes b n buy (stamped_as (stamp n (set_place refill_fate k p)) x) (body.Order o))
      (subst (RefillSays h) e (refill_says h)).1 (same (one_of_all came p)))
    where
      same : {buy : Bool} {h : Resting} {anew : Stamp} → Comes b n buy h (body.Order o)
          → Comes b n buy (stamped_as anew (refilled h)) (body.Order o)
      same (stayed g p a i e) = stayed g p a i e
      same (anew g new p a i e) = anew g new p a i e
      same (rests t e i) = rests t e i

  -- each on the side that it is
  on_side : {side buy : Bool} (o : Order) {s : List Resting} → side ≡ buy → All (λ x. Comes b n side x (body.Order o)) s
      → All (λ x. Comes b n buy x (body.Order o)) s
  on_side o {s = s} e a = subst (λ (side : Bool). All (λ x. Comes b n side x (body.Order o)) s) e a

  accept_comes : (o : Order) (buy : Bool) → All (λ x. Comes b n buy x (body.Order o)) (own_side buy (does n time (body.Order o) b).book)
  accept_comes o true =
      let mine = own_comes o (remainder o (met_by o b)) (ending o (met_by o b)) refl in
      rw (order_does n time b o).0
      (by_choice (All (λ x. Comes b n true x (body.Order o))) (buying o) (λ t. on_side o t mine)
      (λ t. on_side o (ap not t) (opposite_comes o first_move)))
  accept_comes o false =
      let mine = own_comes o (remainder o (met_by o b)) (ending o (met_by o b)) refl in
      rw (order_does n time b o).0
      (by_choice (All (λ x. Comes b n false x (body.Order o))) (buying o)
      (λ t. on_side o (ap not t) (opposite_comes o first_move)) (λ t. on_side o t mine))

  -- every other command
  settled_comes : (c : Body) (buy : Bool) (k : ℕ) → All (λ x. Comes b n buy x c) (settled_side n k buy (fate_by c buy) (own_side buy b))
  settled_comes c buy k =
      settled_are (fate_by c buy) n k buy (own_side buy b) (λ h p e. stayed h p e refl refl)
      (λ h new p e. anew h new p e (subst (IfSet (SameOrder h)) e (set_same c buy h)).number refl)

  -- whatever a command does
  pub does_comes : (c : Body) (buy : Bool) → All (λ x. Comes b n buy x c) (own_side buy (does n time c b).book)
  unfolding does carried_out cancel quote close both_settled settled
  does_comes (body.Order o) buy = accept_comes o buy
  does_comes (body.Cancel of) true = settled_comes (body.Cancel of) true _
  does_comes (body.Cancel of) false = settled_comes (body.Cancel of) false _
  does_comes (body.Quote away) true = settled_comes (body.Quote away) true _
  does_comes (body.Quote away) false = settled_comes (body.Quote away) false _
  does_comes body.Close true = settled_comes body.Close true _
  does_comes body.Close false = settled_comes body.Close false _

-- ── A number stands for one order of a sound book ──

-- on one side
pub same_order_lem : {x y : Resting} {s : List Resting} → once_each s ≡ true → OneOf x s → OneOf y s → x.number.0 ≡ y.number.0 → x ≡ y
same_order_lem d first first e = refl
same_order_lem {x = x} d (first {s = s}) (later q) e = absurd (one_of_all (once_first x s d) q e)
same_order_lem {y = y} d (later p) (first {s = s}) e = absurd (one_of_all (once_first y s d) p (sym e))
same_order_lem d (later {y = z} {s = s} p) (later q) e = same_order_lem (once_rest z s d) p q e

-- of two sides, no number stands on both
pub other_number : {x y : Resting} {s : List Resting} (u : List Resting) → once_each (s ++ u) ≡ true → OneOf x s → OneOf y u
    → x.number.0 ≢ y.number.0
other_number {x = x} u d (first {s = s}) q = one_of_all (once_first x (s ++ u) d) (behind s q)
other_number u d (later {y = z} {s = s} p) q = other_number u (once_rest z (s ++ u) d) p q

-- so a number names one side and one order of it
pub one_number : (b : Book) → Sound b → (buy other : Bool) {x y : Resting} → OneOf x (own_side buy b) → OneOf y (own_side other b)
    → x.number.0 ≡ y.number.0 → (buy ≡ other) × (x ≡ y)
one_number b s true true p q e = (refl, same_order_lem (opposite_once (sides_of false b s)) p q e)
one_number b s false false p q e = (refl, same_order_lem (opposite_once (sides_of true b s)) p q e)
one_number b s true false p q e = absurd (other_number b.sells s.once p q e)
one_number b s false true p q e = absurd (other_number b.sells s.once q p (sym e))

-- a resting order has another number than a new command
pub another_number : (b : Book) → Sound b → (n : Number) → b.held.last.0 < n.0 → (buy : Bool) {h : Resting}
    → OneOf h (own_side buy b) → h.number.0 ≢ n.0
another_number b s n l buy p e = let r = one_of_all (sides_of buy b s).own_in_range p in omega (arith, r.up_to_last, e)

-- ── A line ──

-- what holds where a line is refused, and where it is an accepted command, holds after any line
pub after_line : (P : Book → List Event → Type 0) (b : Book) (line : List ℕ) → (acts b line ≡ false → P b [])
    → ((c : Command) → acts b line ≡ true → command_in line ≡ Some c → InOrder b c
    → P (does c.number c.time c.body b).book (does c.number c.time c.body b).events)
    → P (answer_to b line).book (answer_to b line).events
after_line P b line refused done =
    ⊎_elim
    (λ (t : acts b line ≡ true). by_reading t (command_in line) refl)
    (λ (t : acts b line ≡ false). rw (refused_book b line t, refused_events b line t) (refused t))
    (holds_or_not (acts b line))
  where
    by_reading : acts b line ≡ true → (r : Reading) → command_in line ≡ r → P (answer_to b line).book (answer_to b line).events
    by_reading t None e =
        let z : 0 ≡ b.held.last.0 + 1 = subst (λ (r : Reading). command_number r ≡ b.held.last.0 + 1) e (next_acts b line t).0 in
        let no : ⊥ = omega (arith, z) in
        absurd no
    by_reading t (Some c) e =
        let d = accepted_does b line c e t in
        rw (d.0, d.1) (done c t e (acts_accepted b line c t e))
