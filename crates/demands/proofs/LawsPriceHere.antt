-- The price given here (02, W6) is the one at which the rules execute, and it gets no better along the walk. Assumes nothing.
use Prim.Native.Nat.{ℕ, ◌+◌, ◌-◌, ◌≤◌}
use mathlib.Core.Bool.{Bool, true, false, not, or-true, true≢false}
use mathlib.Core.List.{List, [], ◌∷◌}
use mathlib.Core.Logic.{◌⊎◌, inl, inr, ⊎_elim}
use mathlib.Core.Path.{◌≡◌, refl, sym, ◌∙◌}
use lib.Dec.{eqb}
use native.Mathlib.Omega.{arith}
use borrow.Author.Tests.{eq-eqb, ne_eqb, eqb-true, eqb-false, le-ltb, ltb-false, not-true}
use Rattle.std.specs.Prelude.{if◌then◌else◌}
use Rattle.basics.specs.Lists.{any, OneOf, first}
use Rattle.basics.proofs.LawsChoice.{holds_or_not, by_choice, and_left, and_right}
use Rattle.kinds.specs.declared.HalfCents.{HalfCents}
use Rattle.kinds.specs.Kinds.{half_above, half_below}
use Rattle.rules.specs.declared.Order.{Order}
use Rattle.rules.specs.declared.Resting.{Resting}
use Rattle.rules.specs.Holdings.{Holding, walks_before}
use Rattle.rules.specs.Working.{Met, buying, beyond, is_displayed_at, is_locked, half_a_cent_the_incoming_way, execution_price}
use Rattle.rules.proofs.LawsWalkOrder.{walks_price}
use Rattle.soundness.proofs.LawsApart.{Clear}
use Rattle.soundness.proofs.LawsRests.{lock_beyond}
use Rattle.demands.specs.ShareOut.{Locked, PriceHere, its_own, half_under, half_over}

-- ── Locks ──

-- the test of the rules holds exactly where there is a lock
any_one : (q : HalfCents) (own : List Resting) → any (is_displayed_at q) own ≡ true → (h : Resting) → h.price.0 ≡ q.0
    → h.displayed ≡ false → Locked own h
unfolding any
any_one q [] e h same d = absurd (true≢false (sym e))
any_one q (x ∷ s) e h same d =
    ⊎_elim
    (λ (t : is_displayed_at q x ≡ true).
    record {
      hidden = d;
      by = x;
      there = first;
      shown = and_left x.displayed (eqb x.price.0 q.0) t;
      at_its_price = eqb-true x.price.0 q.0 (and_right x.displayed (eqb x.price.0 q.0) t) ∙ sym same;
    })
    (λ (t : is_displayed_at q x ≡ false).
    let l = any_one q s (rw t at e) h same d in
    record { hidden = d; by = l.by; there = OneOf.later l.there; shown = l.shown; at_its_price = l.at_its_price })
    (holds_or_not (is_displayed_at q x))

one_any : (q : HalfCents) {x : Resting} {own : List Resting} → OneOf x own → x.displayed ≡ true → x.price.0 ≡ q.0
    → any (is_displayed_at q) own ≡ true
unfolding any
one_any q {x = x} first d e = rw (d, eq-eqb x.price.0 q.0 e) refl
one_any q {own = y ∷ s} (OneOf.later p) d e = rw (one_any q p d e) (or-true (is_displayed_at q y))

pub locked_is : (own : List Resting) (h : Resting) → is_locked own h ≡ true → Locked own h
locked_is own h t =
    any_one h.price own (and_right (not h.displayed) (any (is_displayed_at h.price) own) t) h refl
    (not-true h.displayed (and_left (not h.displayed) (any (is_displayed_at h.price) own) t))

pub is_locked_lem : (own : List Resting) (h : Resting) → Locked own h → is_locked own h ≡ true
is_locked_lem own h l = rw (l.hidden, one_any h.price l.there l.shown l.at_its_price) refl

-- ── The price ──

-- an order that is no buy is a sell, and the other way round
pub sells : (o : Order) → o.side ≤ 1 → buying o ≡ false → o.side ≡ 1
sells o is_side b = omega (arith, is_side, eqb-false o.side 0 b)

pub sells_other : (side : ℕ) → side ≡ 1 → eqb side 0 ≡ false
sells_other side e = ne_eqb side 0 (λ (z : side ≡ 0). let n : ⊥ = omega (arith, e, z) in n)

-- an order executes at the price given here
pub given_here : (o : Order) (m : Met) → o.side ≤ 1 → (h : Resting) → 1 ≤ h.price.0 → PriceHere o m.own h (execution_price o m h)
given_here o m is_side h some =
    by_choice (PriceHere o m.own h) (is_locked m.own h)
    (λ t. under_a_lock (locked_is m.own h t))
    (λ t. its_own (λ l. true≢false (sym (is_locked_lem m.own h l) ∙ t)))
  where
    under_a_lock : Locked m.own h → PriceHere o m.own h (half_a_cent_the_incoming_way (buying o) h.price)
    under_a_lock l =
        by_choice (PriceHere o m.own h) (buying o)
        (λ b. half_over {price = half_above h.price} l (eqb-true o.side 0 b) refl)
        (λ b. half_under {price = half_below h.price} l (sells o is_side b) (omega (arith, some)))

-- .. and at no other
pub here_is : (o : Order) (m : Met) (h : Resting) (p : HalfCents) → PriceHere o m.own h p → p ≡ execution_price o m h
here_is o m h p (its_own n) =
    ⊎_elim
    (λ (t : is_locked m.own h ≡ true). absurd (n (locked_is m.own h t)))
    (λ (t : is_locked m.own h ≡ false). rw t refl)
    (holds_or_not (is_locked m.own h))
here_is o m h p (half_under l side e) =
    let k : p.0 ≡ h.price.0 - 1 = omega (arith, e) in
    rw (is_locked_lem m.own h l, sells_other o.side side) (λ i. record { 0 = k i })
here_is o m h p (half_over l side e) = rw (is_locked_lem m.own h l, eq-eqb o.side 0 side) (λ i. record { 0 = e i })

-- ── Along the walk ──

-- an opposite order that is clear of the own side, and has a price
pub record Meetable (o : Order) (m : Met) (h : Resting) : Type 0 where
  pub clears : Clear (not (buying o)) h.displayed h.price m.own
  pub priced : 1 ≤ h.price.0

module _ (o : Order) (m : Met) where
  abbrev at : Resting → HalfCents
  at = execution_price o m

  -- the half cent of a lock
  bump : Resting → ℕ
  bump h = if is_locked m.own h then 1 else 0

  bump_most : (h : Resting) → bump h ≤ 1
  unfolding bump
  bump_most h = by_choice (λ (k : ℕ). k ≤ 1) (is_locked m.own h) (λ t. omega arith) (λ t. omega arith)

  at_buys : buying o ≡ true → (h : Resting) → (at h).0 ≡ h.price.0 + bump h
  unfolding bump
  at_buys b h =
      ⊎_elim
      (λ (t : is_locked m.own h ≡ true). rw (t, b) refl)
      (λ (t : is_locked m.own h ≡ false). rw (t, b) (omega arith))
      (holds_or_not (is_locked m.own h))

  at_sells : buying o ≡ false → (h : Resting) → (at h).0 ≡ h.price.0 - bump h
  unfolding bump
  at_sells b h =
      ⊎_elim
      (λ (t : is_locked m.own h ≡ true). rw (t, b) refl)
      (λ (t : is_locked m.own h ≡ false). rw (t, b) (omega arith))
      (holds_or_not (is_locked m.own h))

  -- one price: where a hidden order is locked, so is every other there, for none is displayed
  bump_same : (x y : Resting) → x.price.0 ≡ y.price.0 → Meetable o m y → bump x ≤ bump y
  unfolding bump
  bump_same x y same c =
      ⊎_elim
      (λ (u : is_locked m.own y ≡ true). rw u (bump_most x))
      (λ (u : is_locked m.own y ≡ false).
      ⊎_elim
      (λ (t : is_locked m.own x ≡ true).
      let locks = and_right (not x.displayed) (any (is_displayed_at x.price) m.own) t in
      ⊎_elim
      (λ (d : y.displayed ≡ true).
      let further = lock_beyond (buying o) x.price y m.own d locks c.clears in
      absurd (true≢false (sym further ∙ not_apart (buying o))))
      (λ (d : y.displayed ≡ false).
      let locked : is_locked m.own y ≡ true = rw (d, ← same) locks in
      absurd (true≢false (sym locked ∙ u)))
      (holds_or_not y.displayed))
      (λ (t : is_locked m.own x ≡ false). rw (t, u) (omega arith))
      (holds_or_not (is_locked m.own x)))
      (holds_or_not (is_locked m.own y))
    where
      not_apart : (buy : Bool) → beyond buy x.price y.price ≡ false
      not_apart true = le-ltb x.price.0 y.price.0 (omega (arith, same))
      not_apart false = le-ltb y.price.0 x.price.0 (omega (arith, same))

  bump_behind : (x y : Resting) → Meetable o m y → (x.price.0 ≡ y.price.0 → ⊥) ⊎ (bump x ≤ bump y)
  bump_behind x y c =
      ⊎_elim
      (λ (e : eqb x.price.0 y.price.0 ≡ true). inr (bump_same x y (eqb-true x.price.0 y.price.0 e) c))
      (λ (e : eqb x.price.0 y.price.0 ≡ false). inl (eqb-false x.price.0 y.price.0 e))
      (holds_or_not (eqb x.price.0 y.price.0))

  -- so what the walk reaches first executes no worse
  pub lower : o.side ≡ 0 → (x y : Holding) → walks_before (not (buying o)) x y ≡ true → Meetable o m y.of
      → (at x.of).0 ≤ (at y.of).0
  lower b x y r c =
      let is_buy = eq-eqb o.side 0 b in
      let w = walks_price (not (buying o)) x y r in
      let l : x.of.price.0 ≤ y.of.price.0 = ltb-false y.of.price.0 x.of.price.0 (rw is_buy at w) in
      ⊎_elim
      (λ (n : x.of.price.0 ≡ y.of.price.0 → ⊥).
      omega (arith, l, n, at_buys is_buy x.of, at_buys is_buy y.of, bump_most x.of))
      (λ (k : bump x.of ≤ bump y.of). omega (arith, l, k, at_buys is_buy x.of, at_buys is_buy y.of))
      (bump_behind x.of y.of c)

  pub higher : o.side ≡ 1 → (x y : Holding) → walks_before (not (buying o)) x y ≡ true → Meetable o m y.of
      → (at y.of).0 ≤ (at x.of).0
  higher b x y r c =
      let is_sell = sells_other o.side b in
      let w = walks_price (not (buying o)) x y r in
      let l : y.of.price.0 ≤ x.of.price.0 = ltb-false x.of.price.0 y.of.price.0 (rw is_sell at w) in
      ⊎_elim
      (λ (n : x.of.price.0 ≡ y.of.price.0 → ⊥).
      omega (arith, l, n, at_sells is_sell x.of, at_sells is_sell y.of, bump_most x.of))
      (λ (k : bump x.of ≤ bump y.of). omega (arith, l, k, at_sells is_sell x.of, at_sells is_sell y.of))
      (bump_behind x.of y.of c)
