-- A walk at whose end shares are still wanted (02, W7): every order before the one at `kept` gave all that it held, and that one gave
-- nothing. So it is the first of those that are left, and its price tells what a price reaches among them. Assumes nothing.
use Prim.Native.Nat.{ℕ, zero, suc, ◌+◌, ◌-◌, ◌≤◌, ◌<◌, min}
use mathlib.Core.Bool.{Bool, true, false, not, ◌&&◌, true≢false}
use mathlib.Core.List.{List, [], ◌∷◌}
use mathlib.Core.Logic.{inl, inr, ⊎_elim}
use mathlib.Core.Path.{◌≡◌, refl, sym, ap, subst, ◌∙◌}
use lib.Dec.{ltb}
use lib.ListN.{length, get_or}
use native.Mathlib.Omega.{arith}
use borrow.Author.Tests.{eq-eqb, ne_eqb, lt-ltb, le-ltb, ltb-false, le-leb, leb-true}
use Rattle.basics.specs.Lists.{any, All, none, also}
use Rattle.basics.proofs.LawsChoice.{holds_or_not, by_choice, lt_or_le}
use Rattle.basics.proofs.LawsLists.{all_alike, all_at, all_second}
use Rattle.kinds.specs.declared.HalfCents.{HalfCents}
use Rattle.rules.specs.declared.Resting.{Resting}
use Rattle.rules.specs.Book.{places_a_side, unused, shares_left, better, in_rank_order}
use Rattle.rules.specs.Holdings.{after}
use Rattle.rules.specs.Working.{reaches}
use Rattle.rules.proofs.LawsBest.{HoldingsBest, ranked_best, holdings_best}
use Rattle.rules.proofs.LawsRank.{ranked_rest, reaches_is}
use Rattle.rules.proofs.LawsWalkOrder.{NotBoth, Gives, takings_give}
use Rattle.side.specs.Shifts.{less_by}
use Rattle.soundness.proofs.LawsApart.{no_worse}
use Rattle.orders.specs.declared.cursor.Part.{Part}
use Rattle.orders.specs.declared.takings.Taking.{Taking}
use Rattle.orders.specs.declared.walk.Walked.{Walked}
use Rattle.orders.specs.Cursor.{parts, placed_at, part_of, placed_from}
use Rattle.side.specs.Shifts.{keeps, keepers}
use Rattle.orders.specs.Fills.{taken_at, lessened, after_takings}
use Rattle.orders.specs.Walk.{is_within}
use Rattle.orders.specs.Walk.{reached, first_skipped, takings_of, walked_of}
use Rattle.orders.proofs.cursor.LawsParts.{placed_holdings, parts_present, parts_within}
use Rattle.orders.proofs.cursor.LawsParts.{Closed, best_closed}
use Rattle.orders.proofs.walk.LawsTaken.{takings_reached, reached_within}
use Rattle.orders.proofs.fills.LawsTakenOff.{taken_before, Orderly, takings_after}
use Rattle.rules.proofs.LawsHoldings.{Parts}
use Rattle.orders.proofs.work.LawsGiven.{IsWhole, side_held, all_parts, closed_present, gave_all_held, skipped_kept, reached_all}
use Rattle.rules.specs.declared.Order.{Order}
use Rattle.rules.specs.Instructions.{post_only, has}
use Rattle.rules.specs.Working.{buying, Met, takings, remainder}
use Rattle.orders.specs.Walking.{Walkable, bound_walk, is_idle, walk_for, takings_for, walk_bound, takings_by}

-- ── Prices along a side ──

-- a price that reaches another reaches every better one
reaches_better : (buy : Bool) (price p q : HalfCents) → better (not buy) q p ≡ false → reaches buy price q ≡ true
    → reaches buy price p ≡ true
reaches_better true price p q worse r =
    le-leb p.0 price.0 (omega (arith, ltb-false q.0 p.0 worse, leb-true q.0 price.0 r))
reaches_better false price p q worse r =
    le-leb price.0 p.0 (omega (arith, ltb-false p.0 q.0 worse, leb-true price.0 q.0 r))

-- no order of a side in rank order has a better price than one before it
ranked_price : (buy : Bool) (s : List Resting) → in_rank_order buy s ≡ true → (k i : ℕ) → k ≤ i → i < length s
    → better buy (get_or s i unused).price (get_or s k unused).price ≡ false
ranked_price buy [] r k i m l = let z : ⊥ = omega (arith, l) in absurd z
ranked_price buy (h ∷ s) r zero i m l = (all_at unused i (no_worse buy h s r) l).worse
ranked_price buy (h ∷ s) r (suc k) zero m l = let z : ⊥ = omega (arith, m) in absurd z
ranked_price buy (h ∷ s) r (suc k) (suc i) m l = ranked_price buy s (ranked_rest buy h s r) k i (omega (arith, m)) (omega (arith, l))

-- ── The side after a walk ──

ltb_suc : (m n : ℕ) → ltb (suc m) (suc n) ≡ ltb m n
ltb_suc m n =
    ⊎_elim
    (λ (l : m < n). lt-ltb (suc m) (suc n) (omega (arith, l)) ∙ sym (lt-ltb m n l))
    (λ (l : n ≤ m). le-ltb (suc m) (suc n) (omega (arith, l)) ∙ sym (le-ltb m n l))
    (lt_or_le m n)

module _ (buy : Bool) (price : HalfCents) (ks : List Taking) where
  abbrev is_reached : Resting → Bool
  is_reached h = reaches buy price h.price

  -- takings leave the prices
  none_reached : (i : ℕ) {s : List Resting} → All (λ (h : Resting). is_reached h ≡ false) s
      → any is_reached (keepers (lessened i ks s)) ≡ false
  unfolding any keepers lessened
  none_reached i none = refl
  none_reached i (also {x = h} e a) =
      by_choice (λ (l : List Resting). any is_reached l ≡ false) (keeps (less_by (taken_at i ks) h))
      (λ t. rw e (none_reached (i + 1) a)) (λ t. none_reached (i + 1) a)

  stays : (i : ℕ) (h : Resting) → 1 ≤ h.shares.0 → taken_at i ks ≡ 0 → keeps (less_by (taken_at i ks) h) ≡ true
  stays i h l z = rw (z, ne_eqb (h.shares.0 - 0) 0 (λ e. omega (arith, l, e)))

  leaves : (i : ℕ) (h : Resting) → taken_at i ks ≡ shares_left h → keeps (less_by (taken_at i ks) h) ≡ false
  leaves i h e =
      rw (e, eq-eqb (h.shares.0 - shares_left h) 0 (omega arith), eq-eqb (h.reserve.0 - (shares_left h - h.shares.0)) 0 (omega arith))

  -- those before rank m are gone, the one at m stays, and those behind it have no better price
  reached_by : (i m : ℕ) (s : List Resting) → in_rank_order (not buy) s ≡ true → All (λ (h : Resting). 1 ≤ h.shares.0) s
      → ((k : ℕ) → k < m → taken_at (i + k) ks ≡ shares_left (get_or s k unused)) → taken_at (i + m) ks ≡ 0
      → any is_reached (keepers (lessened i ks s)) ≡ (ltb m (length s) && is_reached (get_or s m unused))
  unfolding any keepers lessened
  reached_by i m [] r a before here = rw (le-ltb m 0 (omega arith))
  reached_by i zero (h ∷ s) r (also l a) before here =
      let e : i + 0 ≡ i = omega arith in
      let z : taken_at i ks ≡ 0 = rw e at here in
      rw (stays i h l z, lt-ltb 0 (length (h ∷ s)) (omega arith))
      (⊎_elim
      (λ (t : is_reached h ≡ true). rw t)
      (λ (t : is_reached h ≡ false).
      let behind : All (λ (x : Resting). is_reached x ≡ false) (h ∷ s) =
      all_alike (λ x b.
      ⊎_elim
      (λ (u : is_reached x ≡ true).
      absurd (true≢false (sym (reaches_better buy price h.price x.price b.worse u) ∙ t)))
      (λ (u : is_reached x ≡ false). u)
      (holds_or_not (is_reached x)))
      (no_worse (not buy) h s r) in
      rw t (none_reached (i + 1) (all_second (h ∷ []) s behind)))
      (holds_or_not (is_reached h)))
  reached_by i (suc m) (h ∷ s) r (also l a) before here =
      let e : i + 0 ≡ i = omega arith in
      let next : (k : ℕ) → i + suc k ≡ i + 1 + k = λ k. omega arith in
      let all : taken_at i ks ≡ shares_left h = rw e at (before 0 (omega arith)) in
      rw (leaves i h all, ltb_suc m (length s))
      (reached_by (i + 1) m s (ranked_rest (not buy) h s r) a
      (λ k b. ap (λ (j : ℕ). taken_at j ks) (sym (next k)) ∙ before (suc k) (omega (arith, b)))
      (ap (λ (j : ℕ). taken_at j ks) (sym (next m)) ∙ here))

-- ── A walk up to a bound ──

module _ (buy : Bool) (bound : HalfCents) (want : ℕ) (s : List Resting) where
  abbrev may : Part → Bool
  may = is_within buy bound

  abbrev ks : List Taking
  ks = takings_of may want (parts s)

  abbrev w : Walked
  w = walked_of may want (parts s)

  -- the first that was skipped, or where the walk stopped
  abbrev kept : ℕ
  kept = min w.skipped w.at

  -- the order at a rank has a price up to the bound
  abbrev is_touched : ℕ → Bool
  is_touched i = reaches buy bound (get_or s i unused).price

  abbrev held_by : ℕ → ℕ
  held_by i = shares_left (get_or s i unused)

  parts_closed : in_rank_order (not buy) s ≡ true → Closed may (parts s)
  parts_closed ranked =
      let best = subst (HoldingsBest (not buy)) (sym (placed_holdings 0 s)) (holdings_best (not buy) (ranked_best (not buy) s ranked)) in
      subst (Closed may) (sym (parts_present s)) (closed_present may (placed_from 0 s) (best_closed buy bound (placed_from 0 s) best))

  touched_before : in_rank_order (not buy) s ≡ true → (i : ℕ) → i < w.at → is_touched i ≡ true
  touched_before ranked =
      reached_all may {P = λ (i : ℕ). is_touched i ≡ true} 0 want
      (all_parts {P = λ (p : Part). may p ≡ true → (i : ℕ) → i ≤ p.place → is_touched i ≡ true} s (λ k b l t i m.
      reaches_better buy bound (get_or s i unused).price (get_or s k unused).price (ranked_price (not buy) s ranked i k m l)
      (reaches_is buy bound (get_or s k unused).price ∙ t)))
      (λ i l. let z : ⊥ = omega (arith, l) in absurd z)

  -- every order before `kept` gave all that it held
  pub gave_all : in_rank_order (not buy) s ≡ true → 0 < w.left.0 → (j : ℕ) → j < kept
      → taken_at j ks ≡ shares_left (get_or s j unused)
  gave_all ranked wanted j l =
      let touched : is_touched j ≡ true = touched_before ranked j (omega (arith, l)) in
      gave_all_held may want places_a_side j (parts_closed ranked)
      (all_parts {P = λ (p : Part). p.place ≡ j → may p ≡ true} s (λ k b m e.
      sym (reaches_is buy bound (get_or s k unused).price) ∙ ap is_touched e ∙ touched))
      (omega (arith, wanted)) (omega (arith, l))
      ∙ side_held j s

  -- an order with a minimum is one part
  one_part : All NotBoth s → All (IsWhole held_by) (parts s)
  one_part alone = all_parts {P = IsWhole held_by} s (λ k b l. whole k b (all_at unused k alone l))
    where
      whole : (k : ℕ) (b : Bool) → NotBoth (get_or s k unused)
          → IsWhole held_by (part_of (placed_at k (record { of = get_or s k unused; is_reserve = b })))
      whole k true both m l = let z : ⊥ = omega (arith, both m, l) in absurd z
      whole k false both m l = omega (arith, both m)

  -- the order at `kept` gave nothing
  pub gave_none : length s ≤ places_a_side → All NotBoth s → taken_at kept ks ≡ 0
  gave_none fits alone =
      let f = first_skipped may places_a_side want (parts s) in
      let r = reached may 0 want (parts s) in
      ⊎_elim
      (λ (l : f < r).
      let within : r ≤ length s = reached_within may (length s) 0 want (parts s) (parts_within s) (omega arith) in
      let is : min f r ≡ f = omega (arith, l) in
      let keeps_all = skipped_kept may held_by places_a_side want f (one_part alone) refl (omega (arith, l, within, fits)) in
      rw is (omega (arith, side_held f s, keeps_all)))
      (λ (l : r ≤ f).
      let is : min f r ≡ r = omega (arith, l) in
      rw is (taken_before r (takings_reached may want (parts s))))
      (lt_or_le f r)

  -- a price reaches one of those that are left exactly if it reaches the one at `kept`
  pub reaches_left : in_rank_order (not buy) s ≡ true → All (λ (h : Resting). 1 ≤ h.shares.0) s → All NotBoth s
      → length s ≤ places_a_side → 0 < w.left.0 → (price : HalfCents)
      → any (λ (h : Resting). reaches buy price h.price) (after_takings ks s)
      ≡ (ltb kept (length s) && reaches buy price (get_or s kept unused).price)
  reaches_left ranked shown alone fits wanted price =
      let e : (k : ℕ) → 0 + k ≡ k = λ k. omega arith in
      reached_by buy price ks 0 kept s ranked shown
      (λ k l. ap (λ (j : ℕ). taken_at j ks) (e k) ∙ gave_all ranked wanted k l)
      (ap (λ (j : ℕ). taken_at j ks) (e kept) ∙ gave_none fits alone)

-- ── An order's walk ──

-- whoever has no minimum and reserve both gives of its reserve only when the shown part gave all
give_orderly : {s : List Resting} {ts rs : List ℕ} → All NotBoth s → Parts Gives s ts rs → Parts Orderly s ts rs
give_orderly none Parts.none = Parts.none
give_orderly (also n a) (Parts.also {o = h} {t = t} g p) =
    Parts.also (g.shown, ⊎_elim (λ (l : t < h.shares.0). inr (g.shown_first n l)) (λ (l : h.shares.0 ≤ t). inl (omega (arith, l, g.shown))) (lt_or_le t h.shares.0))
    (give_orderly a p)

module _ (o : Order) (met : Met) where
  abbrev bound : HalfCents
  bound = walk_bound o met

  abbrev made : Walked
  made = walk_for o bound met.opposite

  -- the rank of the best of those that are left
  abbrev pub best_left : ℕ
  best_left = min made.skipped made.at

  -- Post Only's is the first of all
  pub post_first : has o.word post_only ≡ true → best_left ≡ 0
  unfolding walk_for
  post_first post = rw post

  module _ (c : Walkable o met) (fits : length met.opposite ≤ places_a_side) where
    alone : All NotBoth met.opposite
    alone = all_alike (λ h w. w.alone) c.workable

    holding : All (λ (h : Resting). 1 ≤ h.shares.0) met.opposite
    holding = all_alike (λ h w. w.holds) c.workable

    pub taken_left : after_takings (takings_by o met) met.opposite ≡ after met.opposite (takings o met)
    taken_left = takings_after met.opposite (takings o met) (give_orderly alone (takings_give o met))

    -- with shares left, a price reaches one of those that are left exactly if it reaches the best of them
    pub best_tells : takings_for o bound met.opposite ≡ takings_by o met → made.left.0 ≡ remainder o met → 0 < remainder o met
        → (price : HalfCents)
        → any (λ (h : Resting). reaches (buying o) price h.price) (after met.opposite (takings o met))
        ≡ (ltb best_left (length met.opposite) && reaches (buying o) price (get_or met.opposite best_left unused).price)
    unfolding walk_for takings_for taken_at
    best_tells takes leaves some price =
        let within : List Resting → Bool = any (λ (h : Resting). reaches (buying o) price h.price) in
        let is : within (after met.opposite (takings o met)) ≡ within (after_takings (takings_for o bound met.opposite) met.opposite) =
        ap within (sym taken_left ∙ ap (λ (ks : List Taking). after_takings ks met.opposite) (sym takes)) in
        is
        ∙ ⊎_elim
        (λ (t : is_idle o bound met.opposite ≡ true).
        rw t (reached_by (buying o) price [] 0 0 met.opposite c.ranked holding (λ k l. let z : ⊥ = omega (arith, l) in absurd z) refl))
        (λ (t : is_idle o bound met.opposite ≡ false).
        let left : 0 < (bound_walk o bound met.opposite).left.0 = omega (arith, some, rw t at leaves) in
        rw t (reaches_left (buying o) bound o.shares.0 met.opposite c.ranked holding alone fits left price))
        (holds_or_not (is_idle o bound met.opposite))
