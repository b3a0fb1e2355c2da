-- A remainder rests below (selling: above) every order that the walk left on the opposite side. Assumes nothing.
use Prim.Native.Nat.{◌-◌, ◌≤◌, ◌<◌}
use mathlib.Core.Bool.{Bool, true, false, not, ◌&&◌, true≢false}
use mathlib.Core.List.{List, [], ◌∷◌}
use mathlib.Core.Logic.{⊎_elim}
use mathlib.Core.Path.{◌≡◌, refl, sym, ap, ◌∙◌}
use lib.Dec.{eqb}
use native.Mathlib.Omega.{arith}
use borrow.Author.Tests.{ltb-true, ltb-false, le-leb, eqb-true, eqb-false, not-false}
use Rattle.basics.proofs.LawsLists.{all_alike}
use Rattle.basics.specs.Lists.{All, any, total, none, also}
use Rattle.basics.proofs.LawsChoice.{holds_or_not, or_neither, and_left, and_right}
use Rattle.kinds.specs.declared.HalfCents.{HalfCents}
use Rattle.rules.specs.declared.Ending.{Ending}
use Rattle.rules.specs.declared.Ending.TheVariants.{Filled, Rests, Cancels}
use Rattle.rules.specs.declared.Order.{Order}
use Rattle.rules.specs.declared.Reason.TheVariants.{IocRemainder, FokKilled, PostOnlyMeets, WouldStillMeet}
use Rattle.rules.specs.declared.Resting.{Resting}
use Rattle.rules.specs.Instructions.{ioc, fok, post_only, has}
use Rattle.rules.specs.Refusals.{is_rest}
use Rattle.rules.specs.Holdings.{after}
use Rattle.rules.specs.Working.{buying, beyond, reaches, takings, remainder, seeks, Met, is_displayed_at, meets_or_passes, still_meets, rests_unless_it_meets, unless_it_meets, ending_with, ending}
use Rattle.soundness.proofs.LawsApart.{clear, Clear}
use Rattle.rules.proofs.LawsRank.{reaches_is}
use Rattle.soundness.proofs.LawsSeeks.{rests_at}

-- a price that is strictly before another reaches none behind it
before_reached : (buy : Bool) (price other : HalfCents) → beyond buy price other ≡ true → reaches buy other price ≡ true
before_reached true price other b = let l : price.0 < other.0 = ltb-true price.0 other.0 b in le-leb price.0 other.0 (omega (arith, l))
before_reached false price other b = let l : other.0 < price.0 = ltb-true other.0 price.0 b in le-leb other.0 price.0 (omega (arith, l))

-- an opposite order that is beyond a price is clear of it, whoever rests there; and so is a hidden one that it does not pass
beyond_clear : (buy shown : Bool) (price : HalfCents) (h : Resting) → beyond buy price h.price ≡ true → clear buy shown price h ≡ true
beyond_clear buy shown price h b =
    ⊎_elim
    (λ (t : (shown && h.displayed) ≡ true). rw t b)
    (λ (t : (shown && h.displayed) ≡ false). rw t (before_reached buy price h.price b))
    (holds_or_not (shown && h.displayed))

and_no : (a : Bool) → (a && false) ≡ false
and_no true = refl
and_no false = refl

hidden_clear : (buy shown : Bool) (price : HalfCents) (h : Resting) → h.displayed ≡ false → reaches buy h.price price ≡ true
    → clear buy shown price h ≡ true
hidden_clear buy shown price h d r = rw (d, and_no shown) r

not_passed : (buy : Bool) (price other : HalfCents) → beyond buy other price ≡ false → reaches buy other price ≡ true
not_passed true price other b = let l : price.0 ≤ other.0 = ltb-false other.0 price.0 b in le-leb price.0 other.0 l
not_passed false price other b = let l : other.0 ≤ price.0 = ltb-false price.0 other.0 b in le-leb other.0 price.0 l

one_met : (buy shown : Bool) (price : HalfCents) (h : Resting) → meets_or_passes buy price h ≡ false → clear buy shown price h ≡ true
one_met buy shown price h e =
    ⊎_elim
    (λ (d : h.displayed ≡ true).
    beyond_clear buy shown price h
    (not-false (beyond buy price h.price) (sym (reaches_is buy price h.price) ∙ (rw d at e))))
    (λ (d : h.displayed ≡ false). hidden_clear buy shown price h d (not_passed buy price h.price (rw d at e)))
    (holds_or_not h.displayed)

-- what meets no displayed order and passes no hidden one is clear of all
pub none_met : (buy shown : Bool) (price : HalfCents) (s : List Resting) → any (meets_or_passes buy price) s ≡ false → Clear buy shown price s
unfolding any
none_met buy shown price [] e = none
none_met buy shown price (h ∷ s) e =
    let both = or_neither (meets_or_passes buy price h) (any (meets_or_passes buy price) s) e in
    also (one_met buy shown price h both.0) (none_met buy shown price s both.1)

-- ── At a locked price ──

-- a displayed order that is clear of the own side is beyond a price at which one is displayed there
pub lock_beyond : (buy : Bool) (q : HalfCents) (x : Resting) (own : List Resting) → x.displayed ≡ true → any (is_displayed_at q) own ≡ true
    → Clear (not buy) x.displayed x.price own → beyond buy q x.price ≡ true
unfolding any
lock_beyond buy q x [] d e c = absurd (true≢false (sym e))
lock_beyond buy q x (h ∷ s) d e (also c more) =
    ⊎_elim
    (λ (t : is_displayed_at q h ≡ true).
    let shown : h.displayed ≡ true = and_left h.displayed (eqb h.price.0 q.0) t in
    let same : h.price.0 ≡ q.0 = eqb-true h.price.0 q.0 (and_right h.displayed (eqb h.price.0 q.0) t) in
    flipped buy same (rw (d, shown) at c))
    (λ (t : is_displayed_at q h ≡ false). lock_beyond buy q x s d (rw t at e) more)
    (holds_or_not (is_displayed_at q h))
  where
    flipped : (buy : Bool) → h.price.0 ≡ q.0 → beyond (not buy) x.price h.price ≡ true → beyond buy q x.price ≡ true
    flipped true same b = rw (← same) b
    flipped false same b = rw (← same) b

-- and a hidden one is not passed by it
lock_reached : (buy : Bool) (q : HalfCents) (x : Resting) (own : List Resting) → x.displayed ≡ false → any (is_displayed_at q) own ≡ true
    → Clear (not buy) x.displayed x.price own → reaches buy x.price q ≡ true
unfolding any
lock_reached buy q x [] d e c = absurd (true≢false (sym e))
lock_reached buy q x (h ∷ s) d e (also c more) =
    ⊎_elim
    (λ (t : is_displayed_at q h ≡ true).
    let same : h.price.0 ≡ q.0 = eqb-true h.price.0 q.0 (and_right h.displayed (eqb h.price.0 q.0) t) in
    flipped buy same (rw d at c))
    (λ (t : is_displayed_at q h ≡ false). lock_reached buy q x s d (rw t at e) more)
    (holds_or_not (is_displayed_at q h))
  where
    flipped : (buy : Bool) → h.price.0 ≡ q.0 → reaches (not buy) h.price x.price ≡ true → reaches buy x.price q ≡ true
    flipped true same b = rw (← same) b
    flipped false same b = rw (← same) b

locked_clear : (buy shown : Bool) (p : HalfCents) (x : Resting) (own : List Resting) → any (is_displayed_at p) own ≡ true
    → Clear (not buy) x.displayed x.price own → clear buy shown p x ≡ true
locked_clear buy shown p x own locks c =
    ⊎_elim
    (λ (d : x.displayed ≡ true). beyond_clear buy shown p x (lock_beyond buy p x own d locks c))
    (λ (d : x.displayed ≡ false). hidden_clear buy shown p x d (lock_reached buy p x own d locks c))
    (holds_or_not x.displayed)

-- what reaches none is clear of all
none_reached : (buy shown : Bool) (p : HalfCents) (s : List Resting) → any (λ (h : Resting). reaches buy p h.price) s ≡ false → Clear buy shown p s
unfolding any
none_reached buy shown p [] e = none
none_reached buy shown p (h ∷ s) e =
    let both = or_neither (reaches buy p h.price) (any (λ (x : Resting). reaches buy p x.price) s) e in
    also (beyond_clear buy shown p h (not-false (beyond buy p h.price) (sym (reaches_is buy p h.price) ∙ both.0)))
    (none_reached buy shown p s both.1)

-- ── An order that rests ──

-- what it says of an order that its ending is to rest
pub record RestsBy (o : Order) (m : Met) (p : HalfCents) : Type 0 where
  pub left : total (takings o m) < o.shares.0
  pub no_kill_lem : has o.word fok ≡ false
  pub no_cancel_lem : has o.word ioc ≡ false
  pub seeking : unless_it_meets o m.own (after m.opposite (takings o m)) (seeks o m.away) ≡ Rests p

no_rest : {P : Type 0} {e : Ending} {p : HalfCents} → e ≡ Rests p → is_rest e ≡ false → P
no_rest q f = absurd (true≢false (sym (ap is_rest q) ∙ f))

pub rests_by : (o : Order) (m : Met) (p : HalfCents) → ending o m ≡ Rests p → RestsBy o m p
unfolding ending ending_with remainder
rests_by o m p e =
    ⊎_elim
    (λ (z : eqb (o.shares.0 - total (takings o m)) 0 ≡ true). no_rest {e = Filled} (rw z at e) refl)
    (λ (z : eqb (o.shares.0 - total (takings o m)) 0 ≡ false).
    let n = eqb-false (o.shares.0 - total (takings o m)) 0 z in
    ⊎_elim
    (λ (k : has o.word fok ≡ true). no_rest {e = Cancels FokKilled} (rw (z, k) at e) refl)
    (λ (k : has o.word fok ≡ false).
    ⊎_elim
    (λ (i : has o.word ioc ≡ true). no_rest {e = Cancels IocRemainder} (rw (z, k, i) at e) refl)
    (λ (i : has o.word ioc ≡ false). record { left = omega (arith, n); no_kill_lem = k; no_cancel_lem = i; seeking = rw (z, k, i) at e })
    (holds_or_not (has o.word ioc)))
    (holds_or_not (has o.word fok)))
    (holds_or_not (eqb (o.shares.0 - total (takings o m)) 0))

module _ (o : Order) (own left : List Resting) (p : HalfCents) (shown : Bool)
    (clears : All (λ (h : Resting). Clear (not (buying o)) h.displayed h.price own) left) where
  -- Post Only meets or passes none
  post_only_clear : (q : HalfCents) → has o.word post_only ≡ true → rests_unless_it_meets o own left q ≡ Rests p → Clear (buying o) shown p left
  post_only_clear q t e =
      ⊎_elim
      (λ (m : any (meets_or_passes (buying o) q) left ≡ true). no_rest {e = Cancels PostOnlyMeets} (rw (t, m) at e) refl)
      (λ (m : any (meets_or_passes (buying o) q) left ≡ false).
      let same : q ≡ p = rests_at q p (rw (t, m) at e) in
      none_met (buying o) shown p left (rw (← same) m))
      (holds_or_not (any (meets_or_passes (buying o) q) left))

  -- any other reaches none, or rests at a locked price
  other_clear : (q : HalfCents) → has o.word post_only ≡ false → rests_unless_it_meets o own left q ≡ Rests p → Clear (buying o) shown p left
  other_clear q t e =
      ⊎_elim
      (λ (m : still_meets o own left q ≡ true). no_rest {e = Cancels WouldStillMeet} (rw (t, m) at e) refl)
      (λ (m : still_meets o own left q ≡ false).
      let same : q ≡ p = rests_at q p (rw (t, m) at e) in
      let free : still_meets o own left p ≡ false = rw (← same) m in
      ⊎_elim
      (λ (r : any (λ (h : Resting). reaches (buying o) p h.price) left ≡ true).
      let locks = not-false (any (is_displayed_at p) own) (rw r at free) in
      all_alike (λ h c. locked_clear (buying o) shown p h own locks c) clears)
      (λ (r : any (λ (h : Resting). reaches (buying o) p h.price) left ≡ false). none_reached (buying o) shown p left r)
      (holds_or_not (any (λ (h : Resting). reaches (buying o) p h.price) left)))
      (holds_or_not (still_meets o own left q))

  -- so an order that rests is clear of those that the walk leaves, which are clear of its own side
  pub rests_clear : (e : Ending) → unless_it_meets o own left e ≡ Rests p → Clear (buying o) shown p left
  rests_clear Filled e = no_rest {e = Filled} e refl
  rests_clear (Cancels reason) e = no_rest {e = Cancels reason} e refl
  rests_clear (Rests q) e =
      ⊎_elim (λ (t : has o.word post_only ≡ true). post_only_clear q t e) (λ (t : has o.word post_only ≡ false). other_clear q t e)
      (holds_or_not (has o.word post_only))
