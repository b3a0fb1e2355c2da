-- The best of those that are left of the opposite side, and the locked price, tell what becomes of an order. Assumes nothing.
use Prim.Native.Nat.{ℕ, zero, suc, ◌≤◌, ◌<◌}
use mathlib.Core.Bool.{true, false, not, ◌&&◌, ◌||◌}
use mathlib.Core.List.{List, [], ◌∷◌}
use mathlib.Core.Logic.{⊎_elim}
use mathlib.Core.Path.{◌≡◌, refl, ap, ◌∙◌}
use lib.Dec.{eqb, ltb}
use lib.ListN.{length, get_or, drop, drop_of_length-le}
use native.Mathlib.Omega.{arith}
use borrow.Author.Tests.{eqb-false, lt-ltb, le-ltb}
use Rattle.std.specs.Prelude.{if◌then◌else◌}
use Rattle.basics.specs.Lists.{any}
use Rattle.basics.proofs.LawsChoice.{holds_or_not, lt_or_le}
use Rattle.basics.proofs.LawsLists.{all_alike, all_at}
use Rattle.kinds.specs.declared.HalfCents.{HalfCents}
use Rattle.kinds.specs.Kinds.{resting_price_in_range}
use Rattle.kinds.proofs.LawsRanges.{resting_lowest}
use Rattle.rules.specs.declared.Away.{Away}
use Rattle.rules.specs.declared.Ending.{Ending}
use Rattle.rules.specs.declared.Ending.TheVariants.{Filled, Rests, Cancels}
use Rattle.rules.specs.declared.Order.{Order}
use Rattle.rules.specs.declared.Reason.TheVariants.{PostOnlyMeets}
use Rattle.rules.specs.declared.Resting.{Resting}
use Rattle.rules.specs.Book.{unused, in_rank_order}
use Rattle.rules.specs.Holdings.{after}
use Rattle.rules.specs.Instructions.{ioc, fok, post_only, displayed, cancel_back, iso, has}
use Rattle.rules.specs.Working.{buying, beyond, reaches, meets_or_passes, limit_of, locking_price, absent, one_cent_less_aggressive, adjusted, seeks}
use Rattle.rules.specs.Working.{Met, takings, remainder, rests_unless_it_meets, unless_it_meets, ending_with, ending}
use Rattle.soundness.proofs.LawsEndings.{chosen}
use Rattle.soundness.proofs.LawsLeaves.{after_nothing}
use Rattle.orders.specs.Locks.{locked_price}
use Rattle.orders.specs.Walking.{Walkable, rests_unless_best_meets, unless_best_meets, ending_by_best}
use Rattle.orders.proofs.work.LawsMeeting.{meets_best}
use Rattle.orders.proofs.work.LawsWalking.{post_nothing}

-- ── A price that is sought ──

-- it is no 0
abbrev Priced : Ending → Type 0
Priced Filled = Unit {0}
Priced (Rests price) = 1 ≤ price.0
Priced (Cancels reason) = Unit {0}

adjusted_priced : (o : Order) (price : HalfCents) → Priced (adjusted o price)
adjusted_priced o price =
    chosen Priced (has o.word cancel_back) tt
    (⊎_elim
    (λ (t : resting_price_in_range price ≡ true). rw t (omega (arith, resting_lowest price t)))
    (λ (t : resting_price_in_range price ≡ false). rw t tt)
    (holds_or_not (resting_price_in_range price)))

seeks_priced : (o : Order) (away : Away) → 1 ≤ (limit_of o).0 → Priced (seeks o away)
unfolding seeks
seeks_priced o away limit =
    let locking = locking_price (buying o) away in
    let would_cross = beyond (buying o) locking (limit_of o) in
    let would_lock = eqb (limit_of o).0 locking.0 in
    chosen Priced (has o.word iso || absent locking) limit
    (chosen Priced (has o.word displayed && (would_lock || would_cross)) (adjusted_priced o (one_cent_less_aggressive (buying o) locking))
    (chosen Priced (not (has o.word displayed) && would_cross) (adjusted_priced o locking) limit))

-- ── The best of those that are left ──

first_of_drop : (k : ℕ) (s : List Resting) → k < length s → drop k s ≡ get_or s k unused ∷ drop (suc k) s
first_of_drop k [] l = let z : ⊥ = omega arith in absurd z
first_of_drop zero (h ∷ s) l = refl
first_of_drop (suc k) (h ∷ s) l = first_of_drop k s (omega (arith, l))

best_meets : (o : Order) (locked price : HalfCents) (s : List Resting) → has o.word post_only ≡ true → in_rank_order (not (buying o)) s ≡ true
    → (if any (meets_or_passes (buying o) price) s then Cancels PostOnlyMeets else Rests price) ≡ rests_unless_best_meets o locked s price
unfolding rests_unless_best_meets any
best_meets o locked price [] post ranked = refl
best_meets o locked price (best ∷ s) post ranked =
    rw (post, meets_best (buying o) price (best ∷ s) best (omega arith) refl ranked) refl

module _ (o : Order) (met : Met) (w : Walkable o met) (kept : ℕ)
    (tells : 0 < remainder o met → has o.word post_only ≡ false → (price : HalfCents)
    → any (λ (h : Resting). reaches (buying o) price h.price) (after met.opposite (takings o met))
    ≡ (ltb kept (length met.opposite) && reaches (buying o) price (get_or met.opposite kept unused).price))
    (at_the_start : has o.word post_only ≡ true → kept ≡ 0) where
  abbrev left : List Resting
  left = after met.opposite (takings o met)

  abbrev locked : HalfCents
  locked = locked_price met.own

  -- Post Only takes nothing, and its best opposite order is the first
  post_rests : has o.word post_only ≡ true → (price : HalfCents)
      → rests_unless_it_meets o met.own left price ≡ rests_unless_best_meets o locked (drop kept met.opposite) price
  unfolding rests_unless_best_meets
  post_rests post price =
      let same : left ≡ met.opposite =
      ap (after met.opposite) (post_nothing o met post)
      ∙ after_nothing (all_alike (λ h k. record { is_left = omega (arith, k.holds); least = k.remains }) w.workable) in
      rw (same, at_the_start post, post) (best_meets o locked price met.opposite post w.ranked)

  other_rests : 0 < remainder o met → has o.word post_only ≡ false → (price : HalfCents) → 1 ≤ price.0
      → rests_unless_it_meets o met.own left price ≡ rests_unless_best_meets o locked (drop kept met.opposite) price
  unfolding rests_unless_best_meets
  other_rests some other price priced =
      let told = tells some other price in
      ⊎_elim
      (λ (l : kept < length met.opposite).
      let best = get_or met.opposite kept unused in
      let is : any (λ (h : Resting). reaches (buying o) price h.price) left ≡ reaches (buying o) price best.price =
      told ∙ rw (lt-ltb kept (length met.opposite) l) refl in
      ⊎_elim
      (λ (r : reaches (buying o) price best.price ≡ true).
      let lock = all_at unused kept (w.lock_told price priced) l r in
      rw (first_of_drop kept met.opposite l, other, is, r, lock) refl)
      (λ (r : reaches (buying o) price best.price ≡ false). rw (first_of_drop kept met.opposite l, other, is, r) refl)
      (holds_or_not (reaches (buying o) price best.price)))
      (λ (l : length met.opposite ≤ kept).
      let is : any (λ (h : Resting). reaches (buying o) price h.price) left ≡ false = told ∙ rw (le-ltb kept (length met.opposite) l) refl in
      rw (drop_of_length-le met.opposite l, other, is) refl)
      (lt_or_le kept (length met.opposite))

  sought_rests : 0 < remainder o met → (e : Ending) → Priced e
      → unless_it_meets o met.own left e ≡ unless_best_meets o locked (drop kept met.opposite) e
  sought_rests some Filled p = refl
  sought_rests some (Rests price) p =
      ⊎_elim
      (λ (post : has o.word post_only ≡ true). post_rests post price)
      (λ (other : has o.word post_only ≡ false). other_rests some other price p)
      (holds_or_not (has o.word post_only))
  sought_rests some (Cancels reason) p = refl

  pub ending_by_best_lem : ending o met ≡ ending_by_best (remainder o met) o met.away locked (drop kept met.opposite)
  unfolding ending ending_with ending_by_best
  ending_by_best_lem =
      ⊎_elim
      (λ (z : eqb (remainder o met) 0 ≡ true). rw z refl)
      (λ (z : eqb (remainder o met) 0 ≡ false).
      let some : 0 < remainder o met = let n = eqb-false (remainder o met) 0 z in omega (arith, n) in
      ⊎_elim
      (λ (k : has o.word fok ≡ true). rw (z, k) refl)
      (λ (k : has o.word fok ≡ false).
      ⊎_elim
      (λ (i : has o.word ioc ≡ true). rw (z, k, i) refl)
      (λ (i : has o.word ioc ≡ false). rw (z, k, i) (sought_rests some (seeks o met.away) (seeks_priced o met.away (w.priced k i))))
      (holds_or_not (has o.word ioc)))
      (holds_or_not (has o.word fok)))
      (holds_or_not (eqb (remainder o met) 0))
