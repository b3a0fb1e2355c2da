-- The walk of an order as it is made, over the parts that a cursor gives, with one bound for limit and away price and with Post Only and
-- Fill-or-Kill told by what is left, takes what 01 takes. Assumes nothing.
use Prim.Native.Nat.{ℕ, ◌*◌, ◌-◌, ◌≤◌}
use mathlib.Core.Bool.{Bool, true, false, not}
use mathlib.Core.List.{List, [], ◌∷◌, map}
use mathlib.Core.Logic.{⊎_elim}
use mathlib.Core.Path.{◌≡◌, refl, sym, ap, subst, ◌∙◌}
use lib.Dec.{ltb}
use lib.ListN.{length, get_or}
use native.Mathlib.Omega.{arith}
use Rattle.std.specs.Prelude.{if◌then◌else◌}
use Rattle.basics.specs.Lists.{total, All, none, also}
use Rattle.basics.proofs.LawsChoice.{holds_or_not, by_choice, or_neither}
use Rattle.basics.proofs.LawsLists.{all_at, all_alike}
use Rattle.kinds.specs.declared.HalfCents.{HalfCents}
use Rattle.rules.specs.declared.Order.{Order}
use Rattle.rules.specs.declared.Resting.{Resting}
use Rattle.rules.specs.Book.{unused}
use Rattle.rules.specs.Holdings.{Holding, holdings, nothing, walk, smaller}
use Rattle.rules.specs.Instructions.{post_only, has}
use Rattle.rules.specs.Working.{buying, least_of, Met, half_a_cent_the_incoming_way, execution_price, may_touch, walked, takings, remainder}
use Rattle.rules.proofs.LawsBest.{HoldingsBest, ranked_best, holdings_best}
use Rattle.rules.proofs.LawsTakings.{nothing_total, walk_at_most}
use Rattle.orders.specs.Locks.{locked_price, executes_at}
use Rattle.orders.specs.declared.cursor.Part.{Part}
use Rattle.orders.specs.Cursor.{parts, Placed, part_of, placed_from}
use Rattle.orders.specs.Walk.{is_within, part_is_skipped, part_gives, takings_from, takings_of}
use Rattle.orders.specs.Walking.{Walkable, untouched, bound_walk, is_idle, walk_for, takings_for, walk_bound, takings_by, Walks}
use Rattle.orders.proofs.cursor.LawsAhead.{length_parts}
use Rattle.orders.proofs.cursor.LawsParts.{placed_holdings, all_placed, parts_present, Alike, walk_present, best_closed, parts_within}
use Rattle.orders.proofs.pricing.LawsBound.{within_under}
use Rattle.orders.proofs.walk.LawsTaken.{takings_nothing, takings_most, reached_within, takings_reached}

-- ── A walk over things that stand for others ──

nothing_map : {A B : Type 0} (f : A → B) (s : List A) → nothing (map f s) ≡ nothing s
unfolding nothing
nothing_map f [] = refl
nothing_map f (x ∷ s) = ap (λ (l : List ℕ). 0 ∷ l) (nothing_map f s)

module _ {A B : Type 0} (f : A → B) (may : B → Bool) (gives : ℕ → B → ℕ) (may' : A → Bool) (gives' : ℕ → A → ℕ)
    (same : (left : ℕ) (x : A) → gives left (f x) ≡ gives' left x) where
  walk_map : (left : ℕ) {s : List A} → All (λ (x : A). may (f x) ≡ may' x) s → walk may gives left (map f s) ≡ walk may' gives' left s
  unfolding walk
  walk_map left none = refl
  walk_map left (also {x = x} {s = s} e a) =
      rw (e, same left x, nothing_map f (x ∷ s))
      (ap (λ (l : List ℕ). if may' x then gives' left x ∷ l else nothing (x ∷ s)) (walk_map (left - gives' left x) a))

-- no part gives more than is left
part_at_most : (left : ℕ) (p : Part) → part_gives left p ≤ left
part_at_most left p = by_choice (λ (k : ℕ). k ≤ left) (part_is_skipped left p) (λ t. omega arith) (λ t. omega arith)

-- ── An order's walk ──

module _ (o : Order) (met : Met) where
  abbrev side : List Resting
  side = met.opposite

  abbrev whole : List Part
  whole = map part_of (placed_from 0 side)

  -- an order that takes nothing
  walks_nothing : takings o met ≡ nothing (holdings side) → Walks o met (untouched o) []
  unfolding remainder
  walks_nothing e =
      let empty : nothing (holdings side) ≡ nothing whole =
      ap nothing (sym (placed_holdings 0 side))
      ∙ nothing_map (λ (p : Placed). p.holding) (placed_from 0 side) ∙ sym (nothing_map part_of (placed_from 0 side)) in
      let n : takings_by o met ≡ [] = ap (takings_from whole) (e ∙ empty) ∙ takings_nothing whole in
      record {
        takes = sym n;
        leaves = rw e (omega (arith, nothing_total (holdings side)));
        reaches = omega arith;
        before = none;
      }

  -- "Post Only executes nothing."
  pub post_nothing : has o.word post_only ≡ true → takings o met ≡ nothing (holdings side)
  unfolding takings walked
  post_nothing p = rw p (either (ltb (total (nothing (holdings side))) (least_of o)))
    where
      either : (t : Bool) → (if t then nothing (holdings side) else nothing (holdings side)) ≡ nothing (holdings side)
      either true = refl
      either false = refl

  -- no walk goes past the side
  pub walk_within : (bound : HalfCents) → (walk_for o bound side).at ≤ length side
  unfolding walk_for
  walk_within bound =
      ⊎_elim
      (λ (t : is_idle o bound side ≡ true). rw t (omega arith))
      (λ (t : is_idle o bound side ≡ false).
      rw t (reached_within (is_within (buying o) bound) (length side) 0 o.shares.0 (parts side) (parts_within side) (omega arith)))
      (holds_or_not (is_idle o bound side))

  module _ (w : Walkable o met) where
    abbrev bound : HalfCents
    bound = walk_bound o met

    abbrev may : Part → Bool
    may = is_within (buying o) bound

    abbrev gifts : List ℕ
    gifts = walk may part_gives o.shares.0 (parts side)

    alike : Alike may whole (parts side) o.shares.0
    alike =
        let best = subst (HoldingsBest (not (buying o))) (sym (placed_holdings 0 side)) (holdings_best (not (buying o)) (ranked_best (not (buying o)) side w.ranked)) in
        subst (λ (u : List Part). Alike may whole u o.shares.0) (sym (parts_present side))
        (walk_present may o.shares.0 (placed_from 0 side) (best_closed (buying o) bound (placed_from 0 side) best))

    gifts_most : total gifts ≤ o.shares.0
    gifts_most = walk_at_most may part_gives part_at_most o.shares.0 (parts side)

    -- the price of an order alone tells at which it would execute
    pub executes_at_lem : All (λ (h : Resting). executes_at (buying o) (locked_price met.own) h.price ≡ execution_price o met h) side
    executes_at_lem =
        all_alike (λ h t. ap (λ (b : Bool). if b then half_a_cent_the_incoming_way (buying o) h.price else h.price) (sym t)) w.told

    module _ (plain : has o.word post_only ≡ false) where
      -- the one bound stands for the limit and the away price, and parts for holdings
      bound_walk_lem : walked o met ≡ walk may part_gives o.shares.0 whole
      unfolding walked
      bound_walk_lem =
          let reach : Holding → Bool = λ h. may_touch o met.away (execution_price o met h.of) in
          let touch : Placed → Bool = λ p. reach p.holding in
          let give : ℕ → Placed → ℕ = λ left p. smaller left p.holding in
          let priced : All (λ (p : Placed). may (part_of p) ≡ touch p) (placed_from 0 side) =
          all_placed 0 side (λ k h b l is.
          rw is
          (within_under o met.away (locked_price met.own) (get_or side k unused).price
          (all_at unused k w.workable l).priced (all_at unused k w.workable l).below
          ∙ ap (may_touch o met.away) (all_at unused k executes_at_lem l))) in
          rw plain
          (ap (walk reach smaller o.shares.0) (sym (placed_holdings 0 side))
          ∙ walk_map (λ (p : Placed). p.holding) reach smaller touch give (λ left p. refl) o.shares.0 (all_alike (λ p e. refl) priced)
          ∙ sym (walk_map part_of may part_gives touch give (λ left p. refl) o.shares.0 priced))

      -- what the walk gives is what is not left
      gave_all : total (walk may part_gives o.shares.0 whole) ≡ o.shares.0 - (o.shares.0 - total gifts)
      gave_all = omega (arith, alike.in_all, gifts_most)

      takings_are : takings o met
          ≡ (if ltb (o.shares.0 - (o.shares.0 - total gifts)) (least_of o) then nothing (holdings side) else walk may part_gives o.shares.0 whole)
      unfolding takings
      takings_are = rw (bound_walk_lem, gave_all)

    -- Post Only, or one whose walk gives less than the least that it must
    idle_nothing : is_idle o bound side ≡ true → takings o met ≡ nothing (holdings side)
    idle_nothing idle =
        ⊎_elim
        (λ (p : has o.word post_only ≡ true). post_nothing p)
        (λ (p : has o.word post_only ≡ false).
        let killed : ltb (o.shares.0 - (o.shares.0 - total gifts)) (least_of o) ≡ true = rw p at idle in
        takings_are p ∙ rw killed)
        (holds_or_not (has o.word post_only))

    walks_on : is_idle o bound side ≡ false → Walks o met (bound_walk o bound side) (takings_of may o.shares.0 (parts side))
    unfolding remainder
    walks_on busy =
        let neither = or_neither (has o.word post_only) (ltb (o.shares.0 - (o.shares.0 - total gifts)) (least_of o)) busy in
        let alive : ltb (o.shares.0 - (o.shares.0 - total gifts)) (least_of o) ≡ false = neither.1 in
        let is : takings o met ≡ walk may part_gives o.shares.0 whole = takings_are neither.0 ∙ rw alive in
        let by : takings_by o met ≡ takings_of may o.shares.0 (parts side) = ap (takings_from whole) is ∙ alike.same in
        record {
          takes = sym by;
          leaves = ap (λ (k : ℕ). o.shares.0 - k) (sym alike.in_all ∙ ap total (sym is));
          reaches = reached_within may (length side) 0 o.shares.0 (parts side) (parts_within side) (omega arith);
          before = takings_reached may o.shares.0 (parts side);
        }

    -- a walk up to the bound is the order's
    pub walks : Walks o met (walk_for o bound side) (takings_for o bound side)
    unfolding walk_for takings_for
    walks =
        ⊎_elim
        (λ (t : is_idle o bound side ≡ true). rw t (walks_nothing (idle_nothing t)))
        (λ (t : is_idle o bound side ≡ false). rw t (walks_on t))
        (holds_or_not (is_idle o bound side))

    -- there is room for so many
    pub takings_fit : length (takings_for o bound side) ≤ 2 * length side
    unfolding takings_for
    takings_fit =
        ⊎_elim
        (λ (t : is_idle o bound side ≡ true). rw t (omega arith))
        (λ (t : is_idle o bound side ≡ false). rw t (omega (arith, takings_most (parts side) gifts, length_parts side)))
        (holds_or_not (is_idle o bound side))
