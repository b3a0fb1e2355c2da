-- Demand 3: the test of the walk is the customer's fairness, and what is executed is a lawful share-out. Where none of those that are met
-- has a minimum (02, W7), the walk gives the greatest lawful total, so all that an order asks exactly if a lawful share-out totals its
-- size; and no holding gives a share while one that the walk reaches before it, and that could lawfully give, keeps one. Assumes nothing.
use Prim.Native.Nat.{ℕ, ◌-◌, ◌≤◌, ◌<◌}
use mathlib.Core.Bool.{Bool, true, false, not, ◌&&◌, ◌||◌, true≢false}
use mathlib.Core.List.{List, [], ◌∷◌}
use mathlib.Core.Logic.{◌≢◌, ⊎_elim}
use mathlib.Core.Path.{◌≡◌, refl, sym, ◌∙◌, subst}
use lib.Dec.{eqb, ltb}
use native.Mathlib.Omega.{arith}
use borrow.Author.Tests.{eq-eqb, ne_eqb, eqb-true, eqb-false, le-ltb, ltb-false, not-true}
use Rattle.basics.specs.Lists.{total, sum_of, All, none, also, OneOf, first, Each, empty, with}
use Rattle.basics.proofs.LawsChoice.{holds_or_not, lt_or_le, and_left, and_right}
use Rattle.basics.proofs.LawsLists.{all_alike, one_of_all}
use Rattle.kinds.specs.declared.Cents.{Cents}
use Rattle.kinds.specs.declared.HalfCents.{HalfCents}
use Rattle.kinds.specs.Kinds.{in_half_cents}
use Rattle.rules.specs.declared.Away.{Away}
use Rattle.rules.specs.declared.Order.{Order}
use Rattle.rules.specs.declared.Resting.{Resting}
use Rattle.rules.specs.Book.{in_rank_order, shares_left}
use Rattle.rules.specs.Holdings.{Holding, size, holdings, walks_before, nothing, walk, smaller, BeforeAll, InWalkOrder, nobody, somebody, reduced_by, after}
use Rattle.rules.specs.Instructions.{iso, market, post_only, has}
use Rattle.rules.proofs.LawsBest.{all_holdings}
use Rattle.rules.proofs.LawsHoldings.{parts_alike, each_parts, keeping_all}
use Rattle.rules.proofs.LawsInTurn.{Skipped, InTurn, next, takings_in_turn}
use Rattle.rules.proofs.LawsTakings.{nothing_total, walk_at_most, smaller_at_most, smaller_within}
use Rattle.rules.specs.Working.{Met, buying, beyond, limit_of, locking_price, absent, execution_price, may_touch, walked, takings}
use Rattle.rules.proofs.LawsWalkOrder.{walks_transitive, walks_not_itself, holdings_walk}
use Rattle.demands.specs.ShareOut.{Given, Beside, here, later, Fair, LawfulGiving, given, Lawful, Fills}
use Rattle.demands.proofs.LawsPriceHere.{sells, sells_other, given_here, here_is, Meetable, lower, higher}
use Rattle.demands.proofs.LawsWalked.{taken, could_give, available, walk_total, walk_short}

-- each taking beside the price of its holding
unfoldable pub priced_at : (Resting → HalfCents) → List Holding → List ℕ → List Given
priced_at price [] ts = []
priced_at price (h ∷ s) [] = []
priced_at price (h ∷ s) (t ∷ ts) = record { shares = t; price = price h.of } ∷ priced_at price s ts

-- what is given in all is the total of what is taken
nothing_given : (price : Resting → HalfCents) (s : List Holding) → given (priced_at price s (nothing s)) ≡ 0
unfolding nothing priced_at sum_of
nothing_given price [] = refl
nothing_given price (h ∷ s) = omega (arith, nothing_given price s)

walk_given : (price : Resting → HalfCents) (may : Holding → Bool) (left : ℕ) (s : List Holding)
    → given (priced_at price s (walk may smaller left s)) ≡ total (walk may smaller left s)
unfolding walk total priced_at sum_of
walk_given price may left [] = refl
walk_given price may left (h ∷ s) =
    ⊎_elim
    (λ (t : may h ≡ true). rw t (omega (arith, walk_given price may (left - smaller left h) s)))
    (λ (t : may h ≡ false). rw t (omega (arith, nothing_total (h ∷ s), nothing_given price (h ∷ s))))
    (holds_or_not (may h))

-- ── Rank ──

-- whoever stands beside something in a list is one of it
pub beside_there : {A B : Type 0} {x : A} {y : B} {s : List A} {u : List B} → Beside x y s u → OneOf x s
beside_there here = first
beside_there (later p) = OneOf.later (beside_there p)

-- none walks before itself
never_itself : {P : Type 0} (buy : Bool) (x : Holding) → walks_before buy x x ≡ true → P
never_itself buy x w = absurd (true≢false (sym w ∙ walks_not_itself buy x))

-- where holdings without a minimum, in the order of the walk, give in turn, whoever the walk reaches before one that gives gave all
turn_rank : (price : Resting → HalfCents) (buy : Bool) {hs : List Holding} {ts : List ℕ} → InWalkOrder buy hs
    → All (λ (x : Holding). x.of.minimum.0 ≡ 0) hs → InTurn hs ts
    → {better worse : Holding} {gives takes : Given} → Beside better gives hs (priced_at price hs ts)
    → Beside worse takes hs (priced_at price hs ts) → walks_before buy better worse ≡ true → 0 < takes.shares → gives.shares ≡ size better
unfolding priced_at
turn_rank price buy nobody _ _ p _ b g = elim p [ ]
turn_rank price buy (somebody before w) (also plain ps) (next c i) {better = better} here here b g = never_itself buy better b
turn_rank price buy (somebody before w) (also plain ps) (next {h = h} {t = t} {s = hs} {ts = ts} c i) here (later q) b g =
    ⊎_elim
    (λ (all : t ≡ size h). all)
    (λ d.
    ⊎_elim
    (λ (idle : All (λ (k : ℕ). k ≡ 0) ts). let n = none_priced hs ts idle q in let z : ⊥ = omega (arith, n, g) in absurd z)
    (λ (skipped : Skipped h t). let z : ⊥ = omega (arith, plain, skipped.0) in absurd z)
    d)
    c
  where
    none_priced : (hs : List Holding) (ts : List ℕ) → All (λ (k : ℕ). k ≡ 0) ts → {x : Holding} {g : Given}
        → Beside x g hs (priced_at price hs ts) → g.shares ≡ 0
    none_priced [] _ _ p = elim p [ ]
    none_priced (h ∷ hs) [] _ p = elim p [ ]
    none_priced (h ∷ hs) (t ∷ ts) (also n a) here = n
    none_priced (h ∷ hs) (t ∷ ts) (also n a) (later p) = none_priced hs ts a p
turn_rank price buy (somebody {h = h} before w) (also plain ps) (next c i) {better = better} (later p) here b g =
    never_itself buy better (walks_transitive buy better h better b (one_of_all before (beside_there p)))
turn_rank price buy (somebody before w) (also plain ps) (next c i) (later p) (later q) b g = turn_rank price buy w ps i p q b g

-- ── Fairness ──

within_buys : (bound price : HalfCents) → not (beyond true bound price) ≡ true → price.0 ≤ bound.0
within_buys bound price w = ltb-false bound.0 price.0 (not-true (ltb bound.0 price.0) w)

within_sells : (bound price : HalfCents) → not (beyond false bound price) ≡ true → bound.0 ≤ price.0
within_sells bound price w = ltb-false price.0 bound.0 (not-true (ltb price.0 bound.0) w)

buys_within : (bound price : HalfCents) → price.0 ≤ bound.0 → not (beyond true bound price) ≡ true
buys_within bound price l = rw (le-ltb bound.0 price.0 l) refl

sells_within : (bound price : HalfCents) → bound.0 ≤ price.0 → not (beyond false bound price) ≡ true
sells_within bound price l = rw (le-ltb price.0 bound.0 l) refl

-- the two halves of the test
abbrev within_limit : Order → HalfCents → Bool
within_limit o price = has o.word market || not (beyond (buying o) (limit_of o) price)

abbrev within_away : Order → Away → HalfCents → Bool
within_away o away price =
    has o.word iso || absent (locking_price (buying o) away) || not (beyond (buying o) (locking_price (buying o) away) price)

-- the test of a holding
abbrev pub may_take : Order → Met → Holding → Bool
may_take o m h = may_touch o m.away (execution_price o m h.of)

-- an away price that is there is there in half cents
pub present_is : (p : Cents) → p.0 ≢ 0 → absent (in_half_cents p) ≡ false
present_is p some = ne_eqb (in_half_cents p).0 0 (λ z. some (omega (arith, z)))

-- a test that is passed, or that there is none to pass
none_or_within : (bound : ℕ) (t : Bool) → (bound ≢ 0 → t ≡ true) → (eqb bound 0 || t) ≡ true
none_or_within bound t f =
    ⊎_elim
    (λ (e : eqb bound 0 ≡ true). rw e refl)
    (λ (e : eqb bound 0 ≡ false). rw e (f (eqb-false bound 0 e)))
    (holds_or_not (eqb bound 0))

both : (a b : Bool) → a ≡ true → b ≡ true → (a && b) ≡ true
both a b p q = rw (p, q) refl

-- none of some resting orders has a minimum
abbrev pub Plain : List Resting → Type 0
Plain s = All (λ (h : Resting). h.minimum.0 ≡ 0) s

-- ── Demand 3, of an order that is not Post Only, on a side in rank order ──

module _ (o : Order) (m : Met) (is_side : o.side ≤ 1) (not_post_only : has o.word post_only ≡ false)
    (ranked : in_rank_order (not (buying o)) m.opposite ≡ true) (meetable : All (Meetable o m) m.opposite) where
  -- the holdings that it meets, and their prices
  abbrev hs : List Holding
  hs = holdings m.opposite

  abbrev away : Away
  away = m.away

  abbrev at : Resting → HalfCents
  at = execution_price o m

  pub all_meetable : All (λ (x : Holding). Meetable o m x.of) hs
  all_meetable = all_holdings meetable meetable

  all_plain : Plain m.opposite → All (λ (x : Holding). x.of.minimum.0 ≡ 0) hs
  all_plain plain = all_holdings plain plain

  -- the test of 01's step 1 is the customer's fairness
  pub may_fair : (price : HalfCents) → may_touch o away price ≡ true → Fair o away price
  may_fair price t =
      let l = and_left (within_limit o price) (within_away o away price) t in
      let a = and_right (within_limit o price) (within_away o away price) t in
      record {
        buys_within_limit = λ n b. within_buys (limit_of o) price (rw (n, eq-eqb o.side 0 b) at l);
        sells_within_limit = λ n b. within_sells (limit_of o) price (rw (n, sells_other o.side b) at l);
        buys_within_offer = λ i b n.
            within_buys (in_half_cents away.offer) price (rw (i, eq-eqb o.side 0 b, present_is away.offer n) at a);
        sells_within_bid = λ i b n.
            within_sells (in_half_cents away.bid) price (rw (i, sells_other o.side b, present_is away.bid n) at a);
      }

  fair_limit : (price : HalfCents) → Fair o away price → within_limit o price ≡ true
  fair_limit price f =
      ⊎_elim
      (λ (n : has o.word market ≡ true). rw n refl)
      (λ (n : has o.word market ≡ false).
      ⊎_elim
      (λ (b : buying o ≡ true). rw (n, b) (buys_within (limit_of o) price (f.buys_within_limit n (eqb-true o.side 0 b))))
      (λ (b : buying o ≡ false). rw (n, b) (sells_within (limit_of o) price (f.sells_within_limit n (sells o is_side b))))
      (holds_or_not (buying o)))
      (holds_or_not (has o.word market))

  fair_away : (price : HalfCents) → Fair o away price → within_away o away price ≡ true
  fair_away price f =
      ⊎_elim
      (λ (i : has o.word iso ≡ true). rw i refl)
      (λ (i : has o.word iso ≡ false).
      ⊎_elim
      (λ (b : buying o ≡ true).
      rw (i, b) (none_or_within (in_half_cents away.offer).0 (not (beyond true (in_half_cents away.offer) price))
      (λ n. buys_within (in_half_cents away.offer) price (f.buys_within_offer i (eqb-true o.side 0 b) (λ z. n (omega (arith, z)))))))
      (λ (b : buying o ≡ false).
      rw (i, b) (none_or_within (in_half_cents away.bid).0 (not (beyond false (in_half_cents away.bid) price))
      (λ n. sells_within (in_half_cents away.bid) price (f.sells_within_bid i (sells o is_side b) (λ z. n (omega (arith, z)))))))
      (holds_or_not (buying o)))
      (holds_or_not (has o.word iso))

  pub fair_may : (price : HalfCents) → Fair o away price → may_touch o away price ≡ true
  fair_may price f = both (within_limit o price) (within_away o away price) (fair_limit price f) (fair_away price f)

  -- a price that is no worse than a fair one is fair
  fair_better : (x y : Holding) → walks_before (not (buying o)) x y ≡ true → Meetable o m y.of → Fair o away (at y.of)
      → Fair o away (at x.of)
  fair_better x y r c f =
      record {
        buys_within_limit = λ n b. omega (arith, lower o m b x y r c, f.buys_within_limit n b);
        sells_within_limit = λ n b. omega (arith, higher o m b x y r c, f.sells_within_limit n b);
        buys_within_offer = λ i b n. omega (arith, lower o m b x y r c, f.buys_within_offer i b n);
        sells_within_bid = λ i b n. omega (arith, higher o m b x y r c, f.sells_within_bid i b n);
      }

  -- none behind one that may not be touched may be
  ends : (h : Holding) (s : List Holding) → BeforeAll (not (buying o)) h s → All (λ (x : Holding). Meetable o m x.of) s
      → may_take o m h ≡ false → All (λ (y : Holding). may_take o m y ≡ false) s
  ends h [] none none n = none
  ends h (y ∷ s) (also b before) (also c cs) n = also behind (ends h s before cs n)
    where
      behind : may_take o m y ≡ false
      behind =
          ⊎_elim
          (λ (t : may_take o m y ≡ true).
          absurd (true≢false (sym (fair_may (at h.of) (fair_better h y b c (may_fair (at y.of) t))) ∙ n)))
          (λ (t : may_take o m y ≡ false). t)
          (holds_or_not (may_take o m y))

  -- ── Lawful share-outs, and what the walk gives ──

  -- who gives lawfully gives no more than it could
  one_within : (h : Holding) (g : Given) → LawfulGiving o m.away m.own h g → g.shares ≤ could_give (may_take o m) h
  one_within h g l =
      ⊎_elim
      (λ (p : 0 < g.shares).
      let f : Fair o away (at h.of) = subst (Fair o away) (here_is o m h.of g.price (l.at_its_price p)) (l.fair p) in
      rw (fair_may (at h.of) f) l.no_more)
      (λ (p : g.shares ≤ 0). omega (arith, p))
      (lt_or_le 0 g.shares)

  lawful_within : {s : List Holding} {gs : List Given} → Each (LawfulGiving o m.away m.own) s gs → given gs ≤ available (may_take o m) s
  unfolding sum_of available
  lawful_within empty = omega arith
  lawful_within (with {x = h} {y = g} l e) = omega (arith, one_within h g l, lawful_within e)

  gives_nothing : (h : Holding) → LawfulGiving o m.away m.own h (record { shares = 0; price = at h.of })
  gives_nothing h =
      record {
        no_more = omega arith;
        at_its_price = λ (p : 0 < 0). let z : ⊥ = omega (arith, p) in absurd z;
        fair = λ (p : 0 < 0). let z : ⊥ = omega (arith, p) in absurd z;
      }

  gives_smaller : (left : ℕ) (h : Holding) → 1 ≤ h.of.price.0 → may_take o m h ≡ true
      → LawfulGiving o m.away m.own h (record { shares = smaller left h; price = at h.of })
  gives_smaller left h some t = record {
    no_more = smaller_within left h;
    at_its_price = λ p. given_here o m is_side h.of some;
    fair = λ p. may_fair (at h.of) t;
  }

  nothing_each : (s : List Holding) → Each (LawfulGiving o m.away m.own) s (priced_at at s (nothing s))
  unfolding nothing priced_at
  nothing_each [] = empty
  nothing_each (h ∷ s) = with (gives_nothing h) (nothing_each s)

  walk_each : (left : ℕ) (s : List Holding) → All (λ (x : Holding). Meetable o m x.of) s
      → Each (LawfulGiving o m.away m.own) s (priced_at at s (walk (may_take o m) smaller left s))
  unfolding walk priced_at
  walk_each left [] none = empty
  walk_each left (h ∷ s) (also c cs) =
      ⊎_elim
      (λ (t : may_take o m h ≡ true). rw t (with (gives_smaller left h c.priced t) (walk_each (left - smaller left h) s cs)))
      (λ (t : may_take o m h ≡ false). rw t (nothing_each (h ∷ s)))
      (holds_or_not (may_take o m h))

  pub walked_is : walked o m ≡ walk (may_take o m) smaller o.shares.0 hs
  unfolding walked
  walked_is = rw not_post_only refl

  walked_at_most : total (walked o m) ≤ o.shares.0
  walked_at_most = rw walked_is (walk_at_most (may_take o m) smaller smaller_at_most o.shares.0 hs)

  pub walked_given : given (priced_at at hs (walked o m)) ≡ total (walked o m)
  walked_given = rw walked_is (walk_given at (may_take o m) o.shares.0 hs)

  walked_lawful : Lawful o m.away m.own hs (priced_at at hs (walked o m))
  walked_lawful = record {
    each = rw walked_is (walk_each o.shares.0 hs all_meetable);
    in_all = rw walked_given walked_at_most;
  }

  -- what is executed is lawful
  pub takings_lawful : Lawful o m.away m.own hs (priced_at at hs (takings o m))
  takings_lawful =
      taken (λ (ts : List ℕ). Lawful o m.away m.own hs (priced_at at hs ts)) o m
      (record { each = nothing_each hs; in_all = omega (arith, nothing_given at hs) })
      walked_lawful

  -- what is executed in all is what that share-out gives
  pub takings_given : given (priced_at at hs (takings o m)) ≡ total (takings o m)
  takings_given =
      taken (λ (ts : List ℕ). given (priced_at at hs ts) ≡ total ts) o m (nothing_given at hs ∙ sym (nothing_total hs)) walked_given

  -- ── Where none has a minimum ──

  abbrev PlainlyMet : Holding → Type 0
  PlainlyMet x = Meetable o m x.of × (x.of.minimum.0 ≡ 0)

  all_plainly : Plain m.opposite → All PlainlyMet hs
  all_plainly plain =
      let both = all_two meetable plain in
      all_holdings {P = PlainlyMet} both both
    where
      all_two : {s : List Resting} → All (Meetable o m) s → Plain s → All (λ (h : Resting). Meetable o m h × (h.minimum.0 ≡ 0)) s
      all_two none none = none
      all_two (also c a) (also z b) = also (c, z) (all_two a b)

  ends_plainly : (h : Holding) (s : List Holding) → BeforeAll (not (buying o)) h s → All PlainlyMet s → may_take o m h ≡ false
      → All (λ (y : Holding). may_take o m y ≡ false) s
  ends_plainly h s before cs = ends h s before (all_alike (λ x c. c.0) cs)

  -- the walk gives the greatest lawful total
  pub walked_greatest : Plain m.opposite → (gs : List Given) → Lawful o m.away m.own hs gs → given gs ≤ total (walked o m)
  walked_greatest plain gs l =
      let in_order = holdings_walk (not (buying o)) m.opposite ranked in
      let takes =
      walk_total (may_take o m) (not (buying o)) PlainlyMet (λ h c. c.1) ends_plainly o.shares.0 in_order (all_plainly plain) in
      rw walked_is (omega (arith, l.in_all, lawful_within l.each, takes))

  -- where it gives less than is wanted, it leaves none that it may touch
  pub walked_leaves : Plain m.opposite → total (walked o m) < o.shares.0
      → All (λ (h : Resting). may_touch o m.away (at h) ≡ false) (after m.opposite (walked o m))
  unfolding after
  walked_leaves plain short =
      let in_order = holdings_walk (not (buying o)) m.opposite ranked in
      let all : Each (λ (h : Holding) (t : ℕ). may_take o m h ≡ true → t ≡ size h) hs (walked o m) =
      rw walked_is
      (walk_short (may_take o m) (not (buying o)) PlainlyMet (λ h c. c.1) ends_plainly o.shares.0 in_order (all_plainly plain)
      (rw walked_is at short)) in
      keeping_all (parts_alike (λ h t r c some. untouched h t r c.0 c.1 some) (each_parts m.opposite (walked o m) all))
    where
      untouched : (h : Resting) (t r : ℕ) → (may_touch o m.away (at h) ≡ true → t ≡ h.shares.0)
          → (may_touch o m.away (at h) ≡ true → r ≡ h.reserve.0) → shares_left (reduced_by t r h) ≢ 0
          → may_touch o m.away (at h) ≡ false
      untouched h t r shown reserve some =
          ⊎_elim
          (λ (u : may_touch o m.away (at h) ≡ true). absurd (some (omega (arith, shown u, reserve u))))
          (λ (u : may_touch o m.away (at h) ≡ false). u)
          (holds_or_not (may_touch o m.away (at h)))

  -- a lawful share-out totals the order's size exactly if the walk leaves nothing
  pub walk_fills : Plain m.opposite → Fills o m.away m.own hs → o.shares.0 ≤ total (walked o m)
  walk_fills plain f = omega (arith, walked_greatest plain f.share_out f.is_lawful, f.totals)

  pub fills_walk : o.shares.0 ≤ total (walked o m) → Fills o m.away m.own hs
  fills_walk l = record {
    share_out = priced_at at hs (walked o m);
    is_lawful = walked_lawful;
    totals = omega (arith, walked_given, l, walked_at_most);
  }

  -- no holding gives a share while one that the walk reaches before it, and that could lawfully give, keeps one
  pub takings_rank : Plain m.opposite → {better worse : Holding} {gives takes : Given}
      → Beside better gives hs (priced_at at hs (takings o m))
      → Beside worse takes hs (priced_at at hs (takings o m)) → walks_before (not (buying o)) better worse ≡ true → 0 < takes.shares
      → gives.shares ≡ size better
  takings_rank plain =
      turn_rank at (not (buying o)) (holdings_walk (not (buying o)) m.opposite ranked) (all_plain plain) (takings_in_turn o m)
