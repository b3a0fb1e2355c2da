-- A resting price is never beyond its order's limit: an order comes to rest at its limit or at a less aggressive price, and a moved
-- quote only makes a price less aggressive. Assumes nothing.
use Prim.Native.Nat.{ℕ, ◌+◌, ◌-◌, ◌≤◌, ◌<◌}
use mathlib.Core.Bool.{Bool, true, false, not, ◌&&◌, ◌||◌, true≢false}
use mathlib.Core.List.{List, [], ◌∷◌}
use mathlib.Core.Logic.{⊎_elim}
use mathlib.Core.Path.{◌≡◌, refl, sym, ap, ◌∙◌, subst}
use lib.Dec.{eqb}
use native.Mathlib.Omega.{arith}
use borrow.Author.Tests.{eqb-true, eqb-false, ltb-false, le-ltb}
use Rattle.std.specs.Prelude.{if◌then◌else◌}
use Rattle.basics.specs.Lists.{any, All, OneOf}
use Rattle.basics.proofs.LawsChoice.{holds_or_not, and_right}
use Rattle.basics.proofs.LawsLists.{all_alike, one_of_all}
use Rattle.kinds.specs.Kinds.{in_half_cents, resting_price_in_range}
use Rattle.kinds.specs.declared.HalfCents.{HalfCents}
use Rattle.kinds.specs.declared.Number.{Number}
use Rattle.rules.specs.declared.Away.{Away}
use Rattle.rules.specs.declared.Body.{Body}
use Rattle.rules.specs.declared.Body.TheVariants as body
use Rattle.rules.specs.declared.Command.{Command}
use Rattle.rules.specs.declared.Ending.{Ending}
use Rattle.rules.specs.declared.Ending.TheVariants.{Filled, Rests, Cancels}
use Rattle.rules.specs.declared.Event.{Event}
use Rattle.rules.specs.declared.Order.{Order}
use Rattle.rules.specs.declared.Resting.{Resting}
use Rattle.rules.specs.Book.{Book, fresh, sound}
use Rattle.rules.specs.Commands.{does}
use Rattle.rules.specs.Day.{book_after}
use Rattle.rules.specs.Holdings.{after}
use Rattle.rules.specs.Instructions.{ioc, fok, displayed, cancel_back, post_only, iso, has}
use Rattle.rules.specs.Settling.{own_side}
use Rattle.rules.specs.Step.{answer_to}
use Rattle.rules.specs.Working.{Met, buying, met_by, beyond, limit_of, locking_price, absent, takings, remainder, adjusted, one_cent_less_aggressive, seeks, meets_or_passes, still_meets, unless_it_meets, ending_with, ending}
use Rattle.rules.proofs.LawsCommands.{fate_by, IfSet, if_set, never_set, crosses_beyond, not_beyond_itself}
use Rattle.soundness.proofs.LawsEndings.{chosen}
use Rattle.soundness.proofs.LawsKept.{answer_sound, fresh_sound}
use Rattle.soundness.proofs.LawsSeeks.{beyond_further, beyond_within, or_right}
use Rattle.soundness.proofs.LawsSound.{Sound, sound_is}
use Rattle.demands.specs.Once.{by_line}
use Rattle.demands.specs.Run.{Enters, now, later}
use Rattle.demands.proofs.LawsExecutes.{acts_accepted, acts_order, order_side}
use Rattle.demands.proofs.LawsOnce.{next_acts, answer_rises}
use Rattle.demands.proofs.LawsOrigins.{Comes, stayed, anew, rests, does_comes, another_number, after_line}
use Rattle.demands.proofs.LawsRun.{accepted_does}

-- ── The price at which an order comes to rest ──

-- an ending that rests at no price beyond the limit
abbrev WithinLimit : Order → Ending → Type 0
WithinLimit o Filled = Unit {0}
WithinLimit o (Rests price) = beyond (buying o) (limit_of o) price ≡ false
WithinLimit o (Cancels reason) = Unit {0}

-- what is not beyond a bound is not beyond a limit at or beyond that bound
not_further : (buy : Bool) (bound limit price : HalfCents) → (eqb limit.0 bound.0 || beyond buy bound limit) ≡ true
    → beyond buy bound price ≡ false → beyond buy limit price ≡ false
not_further buy bound limit price m b =
    ⊎_elim
    (λ (t : beyond buy limit price ≡ true). absurd (true≢false (sym (beyond_within buy bound limit price m t) ∙ b)))
    (λ (t : beyond buy limit price ≡ false). t)
    (holds_or_not (beyond buy limit price))

-- a cent less aggressive is not beyond
less_not_beyond : (buy : Bool) (bound : HalfCents) → beyond buy bound (one_cent_less_aggressive buy bound) ≡ false
less_not_beyond true bound = le-ltb bound.0 (bound.0 - 2) (omega arith)
less_not_beyond false bound = le-ltb (bound.0 + 2) bound.0 (omega arith)

-- a claim on an ending that is chosen by a test
tested : (P : Ending → Type 0) (t : Bool) {e f : Ending} → (t ≡ true → P e) → P f → P (if t then e else f)
tested P true p q = p refl
tested P false p q = q

module _ (o : Order) where
  -- an adjusted order rests at the price that it is adjusted to, or not at all
  adjusted_within : (price : HalfCents) → beyond (buying o) (limit_of o) price ≡ false → WithinLimit o (adjusted o price)
  adjusted_within price b =
      chosen (WithinLimit o) (has o.word cancel_back) tt (chosen (WithinLimit o) (resting_price_in_range price) b tt)

  -- 4. a remainder seeks its limit, or a price at or below (selling: above) the Locking Price that its limit meets
  seeks_within : (away : Away) → WithinLimit o (seeks o away)
  unfolding seeks
  seeks_within away =
      let buy = buying o in
      let limit = limit_of o in
      let locking = locking_price buy away in
      let would_cross = beyond buy locking limit in
      let would_lock = eqb limit.0 locking.0 in
      let itself = not_beyond_itself buy in
      tested (WithinLimit o) (has o.word iso || absent locking) (λ t. itself limit)
      (tested (WithinLimit o) (has o.word displayed && (would_lock || would_cross))
      (λ t. adjusted_within (one_cent_less_aggressive buy locking)
      (not_further buy locking limit (one_cent_less_aggressive buy locking)
      (and_right (has o.word displayed) (would_lock || would_cross) t) (less_not_beyond buy locking)))
      (tested (WithinLimit o) (not (has o.word displayed) && would_cross)
      (λ t. adjusted_within locking
      (not_further buy locking limit locking (or_right would_lock (and_right (not (has o.word displayed)) would_cross t)) (itself locking)))
      (itself limit)))

  -- 5. changes no price
  unless_within : (own left : List Resting) (e : Ending) → WithinLimit o e → WithinLimit o (unless_it_meets o own left e)
  unless_within own left Filled w = tt
  unless_within own left (Rests price) w =
      chosen (WithinLimit o) (has o.word post_only) (chosen (WithinLimit o) (any (meets_or_passes (buying o) price) left) tt w)
      (chosen (WithinLimit o) (still_meets o own left price) tt w)
  unless_within own left (Cancels reason) w = tt

  -- whatever becomes of the order
  ending_within : (met : Met) → WithinLimit o (ending o met)
  unfolding ending ending_with
  ending_within met =
      chosen (WithinLimit o) (eqb (remainder o met) 0) tt
      (chosen (WithinLimit o) (has o.word fok) tt
      (chosen (WithinLimit o) (has o.word ioc) tt
      (unless_within met.own (after met.opposite (takings o met)) (seeks o met.away) (seeks_within met.away))))

-- ── Every resting order of a number ──

-- a resting order of a side is on the order's side, at no price beyond its limit
record Limited (o : Order) (buy : Bool) (h : Resting) : Type 0 where
  is_side : buying o ≡ buy
  within : beyond buy (limit_of o) h.price ≡ false

-- those that have number n are
abbrev Limits : Order → Number → Book → Type 0
Limits o n b = (buy : Bool) → All (λ (h : Resting). h.number ≡ n → Limited o buy h) (own_side buy b)

-- whoever is set at a bound that it was beyond is not beyond its limit, if it was not before
less_aggressive : (buy : Bool) (limit bound price : HalfCents) → beyond buy bound price ≡ true → beyond buy limit price ≡ false
    → beyond buy limit bound ≡ false
less_aggressive buy limit bound price b w =
    ⊎_elim
    (λ (t : beyond buy limit bound ≡ true). absurd (true≢false (sym (beyond_further buy limit bound price t b) ∙ w)))
    (λ (t : beyond buy limit bound ≡ false). t)
    (holds_or_not (beyond buy limit bound))

-- so is whoever a command sets anew
set_within : (c : Body) (buy : Bool) (limit : HalfCents) (h : Resting) → beyond buy limit h.price ≡ false
    → IfSet (λ (new : Resting). beyond buy limit new.price ≡ false) (fate_by c buy h)
set_within c buy limit h w =
    if_set (λ (new : Resting). beyond buy limit new.price ≡ false) c buy h
    (λ away is t. less_aggressive buy limit (locking_price buy away) h.price (crosses_beyond buy away h t) w)

module _ (b : Book) (is_sound : Sound b) (n : Number) (next : b.held.last.0 < n.0) (time : ℕ) where
  -- when the order enters
  entered_limits : (o : Order) → Limits o n (does n time (body.Order o) b).book
  entered_limits o buy = all_alike limited (does_comes b is_sound n time (body.Order o) buy)
    where
      limited : (x : Resting) → Comes b n buy x (body.Order o) → x.number ≡ n → Limited o buy x
      limited x (stayed h p a i e) same = absurd (another_number b is_sound n next buy p (ap (λ (m : Number). m.0) (sym i ∙ same)))
      limited x (anew h new p a i e) same = never_set a
      limited x (rests t e i) same =
          let w : beyond (buying o) (limit_of o) x.price ≡ false = subst (WithinLimit o) e (ending_within o (met_by o b)) in
          record { is_side = t; within = subst (λ (side : Bool). beyond side (limit_of o) x.price ≡ false) t w }

  -- by any later command
  later_limits : (o : Order) (m : Number) → m.0 ≤ b.held.last.0 → Limits o m b → (c : Body) → Limits o m (does n time c b).book
  later_limits o m l limits c buy = all_alike (limited c) (does_comes b is_sound n time c buy)
    where
      limited : (c : Body) (x : Resting) → Comes b n buy x c → x.number ≡ m → Limited o buy x
      limited c x (stayed h p a i e) same =
          let w = one_of_all (limits buy) p (sym i ∙ same) in
          record { is_side = w.is_side; within = rw e w.within }
      limited c x (anew h new p a i e) same =
          let w = one_of_all (limits buy) p (sym i ∙ same) in
          let within = subst (IfSet (λ (new : Resting). beyond buy (limit_of o) new.price ≡ false)) a
          (set_within c buy (limit_of o) h w.within) in
          record { is_side = w.is_side; within = rw e within }
      limited (body.Order entered) x (rests t e i) same =
          let z : ⊥ = omega (arith, next, l, ap (λ (k : Number). k.0) (sym i ∙ same)) in
          absurd z

-- ── A run of lines ──

-- after the order has entered, over any run
run_limits : (o : Order) (n : Number) (b : Book) (lines : List (List ℕ)) → sound b ≡ true → n.0 ≤ b.held.last.0 → Limits o n b
    → Limits o n (book_after b lines)
unfolding book_after
run_limits o n b [] s l limits = limits
run_limits o n b (line ∷ lines) s l limits =
    let book = (answer_to b line).book in
    let kept : Limits o n book =
    after_line (λ (after : Book) (events : List Event). Limits o n after) b line (λ t. limits)
    (λ c t e order. later_limits b (sound_is b s) c.number (omega (arith, order.next)) c.time o n l limits c.body) in
    run_limits o n book lines (answer_sound b line s) (omega (arith, answer_rises b line)) kept

-- from any sound book on
enters_limits : {b : Book} {lines : List (List ℕ)} {stood : Book} {entry : List ℕ} {c : Command} {o : Order} → sound b ≡ true
    → Enters by_line b lines stood entry c o → Limits o c.number (book_after b lines)
unfolding book_after
enters_limits s (now {b = b} {x = line} {xs = lines} {c = c} {o = o} t e f) =
    let order = acts_accepted b line c t e in
    let entered = entered_limits b (sound_is b s) c.number (omega (arith, order.next)) c.time o in
    let book : (answer_to b line).book ≡ (does c.number c.time (body.Order o) b).book =
    (accepted_does b line c e t).0 ∙ ap (λ (x : Body). (does c.number c.time x b).book) f in
    run_limits o c.number (answer_to b line).book lines (answer_sound b line s)
    (omega (arith, order.next, (next_acts b line t).1)) (subst (Limits o c.number) (sym book) entered)
enters_limits s (later {b = b} {x = line} r) = enters_limits (answer_sound b line s) r

-- an accepted order is a buy or a sell
enters_side : {b : Book} {lines : List (List ℕ)} {stood : Book} {entry : List ℕ} {c : Command} {o : Order}
    → Enters by_line b lines stood entry c o → o.side ≤ 1
enters_side (now {b = b} {x = line} {c = c} {o = o} t e f) = order_side o (acts_order b c o (acts_accepted b line c t e) f).in_range
enters_side (later r) = enters_side r

-- over any run from a fresh book, an order rests on its side, a buy at most at its limit, a sell at least
pub rests_within_limit : (lines : List (List ℕ)) (stood : Book) (line : List ℕ) (c : Command) (o : Order) → Enters by_line fresh lines stood line c o
    → (h : Resting) → h.number ≡ c.number
    → (OneOf h (book_after fresh lines).buys → (o.side ≡ 0) × (h.price.0 ≤ (in_half_cents o.price).0))
    × (OneOf h (book_after fresh lines).sells → (o.side ≡ 1) × ((in_half_cents o.price).0 ≤ h.price.0))
rests_within_limit lines stood line c o r h same =
    let limits = enters_limits fresh_sound r in (
      λ p.
          let w = one_of_all (limits true) p same in
          (eqb-true o.side 0 w.is_side, ltb-false (in_half_cents o.price).0 h.price.0 w.within),
      λ p.
          let w = one_of_all (limits false) p same in
          let is_sell : o.side ≡ 1 = omega (arith, enters_side r, eqb-false o.side 0 w.is_side) in
          (is_sell, ltb-false h.price.0 (in_half_cents o.price).0 w.within),
    )
