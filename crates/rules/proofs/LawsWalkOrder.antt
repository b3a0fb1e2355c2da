-- The order of the walk (02, W4), and what it leaves: holdings of a side in rank order stand in the order of the walk; what is taken of each
-- order, which orders are left, which of them are refilled, and how many holdings there are. Assumes nothing.
use Prim.Native.Nat.{ℕ, ◌+◌, ◌*◌, ◌≤◌, ◌<◌}
use mathlib.Core.Bool.{Bool, true, false, not, ◌&&◌, beq, true≢false}
use mathlib.Core.List.{List, [], ◌∷◌}
use mathlib.Core.Logic.{◌≢◌, ⊎_elim}
use mathlib.Core.Path.{◌≡◌, refl, sym, ◌∙◌}
use lib.Dec.{eqb}
use lib.ListN.{length}
use native.Mathlib.Omega.{arith}
use borrow.Author.Tests.{eq-eqb, ne_eqb, eqb-true, eqb-false, le-ltb, ltb-true, not-true}
use Rattle.std.specs.Prelude.{if◌then◌else◌}
use Rattle.basics.specs.Lists.{All, none, also, OneOf, first, later}
use Rattle.basics.proofs.LawsChoice.{holds_or_not, by_choice, and_left, and_right, and_none}
use Rattle.basics.proofs.LawsLists.{all_alike, each_there}
use Rattle.kinds.specs.declared.HalfCents.{HalfCents}
use Rattle.rules.specs.declared.Fate.{Fate}
use Rattle.rules.specs.declared.Fate.TheVariants.{Stays, IsCancelled, IsSet}
use Rattle.rules.specs.declared.Order.{Order}
use Rattle.rules.specs.declared.Resting.{Resting}
use Rattle.rules.specs.Book.{better, first_at_one_price, ranks_before, in_rank_order, shares_left}
use Rattle.rules.specs.Holdings.{Holding, shown_part, reserve_part, behind_its_price, holdings, walks_before, BeforeAll, InWalkOrder, nobody, somebody, taken_of, reduced_by, keeping, after}
use Rattle.rules.specs.Settling.{refilled}
use Rattle.rules.specs.Working.{takings, refill_fate, Met}
use Rattle.rules.proofs.LawsBest.{same_no_better, all_behind, all_holdings}
use Rattle.rules.proofs.LawsHoldings.{Parts, parts_alike, keeping_all}
use Rattle.rules.proofs.LawsInTurn.{takings_in_turn, in_turn_parts}
use Rattle.rules.proofs.LawsTakings.{parts_within}
use Rattle.rules.proofs.LawsRank.{or_transitive, at_one_lem, transitive_at_one_price, never_itself_at_one_price, ranked_first, ranked_rest}

-- ── The rank of a holding in the walk ──

-- at one price: shown parts before reserves, and each among themselves in the rank of their orders
abbrev part_first : Bool → Bool → Bool → Bool
part_first r q at_one = if not (beq r q) then q else at_one

part_transitive : (r q p : Bool) (a b c : Bool) → (a ≡ true → b ≡ true → c ≡ true)
    → part_first r q a ≡ true → part_first q p b ≡ true → part_first r p c ≡ true
part_transitive true true true a b c both x y = both x y
part_transitive true true false a b c both x y = absurd (true≢false (sym y))
part_transitive true false p a b c both x y = absurd (true≢false (sym x))
part_transitive false true true a b c both x y = refl
part_transitive false true false a b c both x y = absurd (true≢false (sym y))
part_transitive false false true a b c both x y = refl
part_transitive false false false a b c both x y = both x y

pub walks_transitive : (buy : Bool) (x y z : Holding) → walks_before buy x y ≡ true → walks_before buy y z ≡ true → walks_before buy x z ≡ true
walks_transitive buy x y z a b =
    or_transitive buy x.of.price.0 y.of.price.0 z.of.price.0
    (part_first x.is_reserve y.is_reserve (first_at_one_price x.of y.of))
    (part_first y.is_reserve z.is_reserve (first_at_one_price y.of z.of))
    (part_first x.is_reserve z.is_reserve (first_at_one_price x.of z.of))
    (part_transitive x.is_reserve y.is_reserve z.is_reserve
    (first_at_one_price x.of y.of) (first_at_one_price y.of z.of) (first_at_one_price x.of z.of)
    (transitive_at_one_price x.of.displayed y.of.displayed z.of.displayed x.of.stamp y.of.stamp z.of.stamp))
    a b

pub walks_not_itself : (buy : Bool) (x : Holding) → walks_before buy x x ≡ false
walks_not_itself buy x =
    at_one_lem buy x.of.price.0 x.of.price.0 (part_first x.is_reserve x.is_reserve (first_at_one_price x.of x.of)) refl
    ∙ same_part x.is_reserve
  where
    same_part : (r : Bool) → part_first r r (first_at_one_price x.of x.of) ≡ false
    same_part true = never_itself_at_one_price x.of.displayed x.of.stamp
    same_part false = never_itself_at_one_price x.of.displayed x.of.stamp

-- of two prices at most one is the better
better_one_way : (buy : Bool) (p q : HalfCents) → better buy p q ≡ true → better buy q p ≡ false
better_one_way true p q b = let l : q.0 < p.0 = ltb-true q.0 p.0 b in le-ltb p.0 q.0 (omega arith)
better_one_way false p q b = let l : p.0 < q.0 = ltb-true p.0 q.0 b in le-ltb q.0 p.0 (omega arith)

-- whoever the walk reaches later has no better price
pub walks_price : (buy : Bool) (x y : Holding) → walks_before buy x y ≡ true → better buy y.of.price x.of.price ≡ false
walks_price buy x y w =
    ⊎_elim
    (λ (t : eqb x.of.price.0 y.of.price.0 ≡ true).
    same_no_better buy y.of.price x.of.price (sym (eqb-true x.of.price.0 y.of.price.0 t)))
    (λ (t : eqb x.of.price.0 y.of.price.0 ≡ false). better_one_way buy x.of.price y.of.price (rw t at w))
    (holds_or_not (eqb x.of.price.0 y.of.price.0))

-- ── Holdings in the order of the walk ──

-- an order that ranks before another: its shown part walks before both parts of the other, its reserve before the other's reserve, and
-- before the other's shown part where that has another price
module _ (buy : Bool) (x y : Resting) (r : ranks_before buy x y ≡ true) where
  same_part_first : (part : Bool) → walks_before buy (record { of = x; is_reserve = part }) (record { of = y; is_reserve = part }) ≡ true
  unfolding ranks_before
  same_part_first true = r
  same_part_first false = r

  other_part : (part : Bool) → (eqb x.price.0 y.price.0 ≡ true → part ≡ true)
      → walks_before buy (record { of = x; is_reserve = not part }) (record { of = y; is_reserve = part }) ≡ true
  unfolding ranks_before
  other_part part at_one_price_lem =
      ⊎_elim
      (λ (t : eqb x.price.0 y.price.0 ≡ true). rw (t, at_one_price_lem t) refl)
      (λ (t : eqb x.price.0 y.price.0 ≡ false). let b : better buy x.price y.price ≡ true = rw t at r in rw t b)
      (holds_or_not (eqb x.price.0 y.price.0))

-- a reserve goes behind a holding where that is a shown part at its price; of every other one that stands behind its order it goes in front
abbrev goes_behind : Resting → Holding → Bool
goes_behind o h = eqb h.of.price.0 o.price.0 && not h.is_reserve

data Faces (buy : Bool) (o : Resting) (h : Holding) : Type 0 where
  is_behind : goes_behind o h ≡ true → Faces buy o h
  is_before : goes_behind o h ≡ false → walks_before buy (reserve_part o) h ≡ true → Faces buy o h

faces_shown : (buy : Bool) (o y : Resting) → ranks_before buy o y ≡ true → Faces buy o (shown_part y)
faces_shown buy o y r =
    ⊎_elim
    (λ (t : eqb y.price.0 o.price.0 ≡ true). is_behind (rw t refl))
    (λ (t : eqb y.price.0 o.price.0 ≡ false).
    is_before (rw t refl)
    (other_part buy o y r false (λ (e : eqb o.price.0 y.price.0 ≡ true).
    absurd (eqb-false y.price.0 o.price.0 t (sym (eqb-true o.price.0 y.price.0 e))))))
    (holds_or_not (eqb y.price.0 o.price.0))

faces_reserve : (buy : Bool) (o y : Resting) → ranks_before buy o y ≡ true → Faces buy o (reserve_part y)
faces_reserve buy o y r = is_before (and_none (eqb y.price.0 o.price.0)) (same_part_first buy o y r true)

-- a shown part at its price walks before a reserve
shown_first_lem : (buy : Bool) (o : Resting) (h : Holding) → goes_behind o h ≡ true → walks_before buy h (reserve_part o) ≡ true
shown_first_lem buy o h t =
    let one = and_left (eqb h.of.price.0 o.price.0) (not h.is_reserve) t in
    let shown = not-true h.is_reserve (and_right (eqb h.of.price.0 o.price.0) (not h.is_reserve) t) in
    rw (one, shown) refl

behind_walks : (buy : Bool) (o : Resting) {hs : List Holding} → All (Faces buy o) hs → InWalkOrder buy hs
    → InWalkOrder buy (behind_its_price (reserve_part o) hs)
unfolding behind_its_price
behind_walks buy o none nobody = somebody none nobody
behind_walks buy o (also {x = h} (is_behind t) a) (somebody b w) =
    rw t (somebody (all_behind (reserve_part o) (shown_first_lem buy o h t) b) (behind_walks buy o a w))
behind_walks buy o (also {x = h} (is_before t f) a) (somebody b w) =
    rw t (somebody (also f (all_alike (λ x before. walks_transitive buy (reserve_part o) h x f before) b)) (somebody b w))

-- the holdings of a side in rank order: each walks before all behind it
pub holdings_walk : (buy : Bool) (s : List Resting) → in_rank_order buy s ≡ true → InWalkOrder buy (holdings s)
unfolding holdings
holdings_walk buy [] r = nobody
holdings_walk buy (o ∷ s) r =
    let ranked = ranked_first buy o s r in
    let own : walks_before buy (shown_part o) (reserve_part o) ≡ true = rw (eq-eqb o.price.0 o.price.0 refl) refl in
    let others : BeforeAll buy (shown_part o) (holdings s) =
    all_holdings (all_alike (λ y b. same_part_first buy o y b false) ranked) (all_alike (λ y b. other_part buy o y b true (λ e. refl)) ranked) in
    somebody (all_behind (reserve_part o) own others)
    (behind_walks buy o (all_holdings (all_alike (faces_shown buy o) ranked) (all_alike (faces_reserve buy o) ranked)) (holdings_walk buy s (ranked_rest buy o s r)))

-- each is a part of one of the side
pub holdings_there : (s : List Resting) → All (λ (h : Holding). OneOf h.of s) (holdings s)
holdings_there s = all_holdings {P = λ (h : Holding). OneOf h.of s} (each_there s) (each_there s)

-- ── What is taken of each order ──

-- the orders of which a claim is made are those of the side
pub parts_there : {Claim : Resting → ℕ → ℕ → Type 0} {s : List Resting} {ts rs : List ℕ} → Parts Claim s ts rs
    → Parts (λ (o : Resting) (t r : ℕ). OneOf o s × Claim o t r) s ts rs
parts_there Parts.none = Parts.none
parts_there (Parts.also c a) = Parts.also (first, c) (parts_alike (λ o t r p. (later p.0, p.1)) (parts_there a))

-- an order with a minimum has no reserve
abbrev pub NotBoth : Resting → Type 0
NotBoth o = 0 < o.minimum.0 → o.reserve.0 ≡ 0

-- neither part gives more than it holds, and the reserve gives only when the shown part gave all
pub record Gives (o : Resting) (t r : ℕ) : Type 0 where
  pub shown : t ≤ o.shares.0
  pub reserve : r ≤ o.reserve.0
  pub shown_first : NotBoth o → t < o.shares.0 → r ≡ 0

pub parts_both : {P Q : Resting → ℕ → ℕ → Type 0} {s : List Resting} {ts rs : List ℕ} → Parts P s ts rs → Parts Q s ts rs
    → Parts (λ (o : Resting) (t r : ℕ). P o t r × Q o t r) s ts rs
parts_both Parts.none Parts.none = Parts.none
parts_both (Parts.also p a) (Parts.also q b) = Parts.also (p, q) (parts_both a b)

-- ── Who keeps a share ──

-- an order that keeps a share stands there afterwards
pub record Kept (Claim : Resting → ℕ → ℕ → Type 0) (o : Resting) (left : List Resting) : Type 0 where
  pub of_shown : ℕ
  pub of_reserve : ℕ
  pub is : Claim o of_shown of_reserve
  pub there : shares_left (reduced_by of_shown of_reserve o) ≢ 0 → OneOf (reduced_by of_shown of_reserve o) left

pub keeping_has : {Claim : Resting → ℕ → ℕ → Type 0} {s : List Resting} {ts rs : List ℕ} {o : Resting} → Parts Claim s ts rs → OneOf o s
    → Kept Claim o (keeping s ts rs)
unfolding keeping
keeping_has Parts.none x = elim x [ ]
keeping_has (Parts.also {o = o} {t = t} {r = r} c a) first =
    record { of_shown = t; of_reserve = r; is = c; there = λ n. rw (ne_eqb (shares_left (reduced_by t r o)) 0 n) first }
keeping_has (Parts.also {o = x} {t = t} {r = r} c a) (later p) =
    let k = keeping_has a p in
    record {
      of_shown = k.of_shown;
      of_reserve = k.of_reserve;
      is = k.is;
      there = λ n.
          ⊎_elim
          (λ (z : eqb (shares_left (reduced_by t r x)) 0 ≡ true). rw z (k.there n))
          (λ (z : eqb (shares_left (reduced_by t r x)) 0 ≡ false). rw z (later (k.there n)))
          (holds_or_not (eqb (shares_left (reduced_by t r x)) 0));
    }

-- so of the side that an order meets: what it takes of each, and who is left
module _ (o : Order) (m : Met) where
  abbrev met : List Resting
  met = m.opposite

  pub takings_give : Parts Gives met (taken_of false (holdings met) (takings o m)) (taken_of true (holdings met) (takings o m))
  takings_give =
      parts_alike
      (λ h t r c. record {
        shown = c.0.0;
        reserve = c.0.1;
        shown_first = λ alone l.
            ⊎_elim
            (λ (e : t ≡ h.shares.0). let z : ⊥ = omega (arith, l) in absurd z)
            (λ d. ⊎_elim (λ (e : r ≡ 0). e) (λ (k : 0 < h.minimum.0). omega (arith, alone k, c.0.1)) d)
            c.1;
      })
      (parts_both (parts_within o m) (in_turn_parts met (takings_in_turn o m)))

  pub after_are : {P : Resting → Type 0}
      → ((h : Resting) (t r : ℕ) → OneOf h met → Gives h t r → shares_left (reduced_by t r h) ≢ 0 → P (reduced_by t r h)) → All P (after met (takings o m))
  unfolding after
  after_are f = keeping_all (parts_alike (λ h t r c n. f h t r c.0 c.1 n) (parts_there takings_give))

-- ── Who is refilled ──

-- whoever shows nothing, and nobody else
abbrev pub RefillSays : Resting → Fate → Type 0
RefillSays h Stays = h.shares.0 ≢ 0
RefillSays h (IsCancelled reason) = ⊥
RefillSays h (IsSet new) = (h.shares.0 ≡ 0) × (refilled h ≡ new)

pub refill_says : (h : Resting) → RefillSays h (refill_fate h)
refill_says h = by_choice (RefillSays h) (eqb h.shares.0 0) (λ t. (eqb-true h.shares.0 0 t, refl)) (λ t. eqb-false h.shares.0 0 t)

pub refill_due : (h : Resting) → h.shares.0 ≡ 0 → refill_fate h ≡ IsSet (refilled h)
refill_due h z = rw (eq-eqb h.shares.0 0 z) refl

pub refill_not_due : (h : Resting) → h.shares.0 ≢ 0 → refill_fate h ≡ Stays
refill_not_due h n = rw (ne_eqb h.shares.0 0 n) refl

-- ── How many there are ──

-- two holdings an order
pub holdings_length : (s : List Resting) → length (holdings s) ≡ 2 * length s
unfolding holdings behind_its_price
holdings_length [] = refl
holdings_length (o ∷ s) = omega (arith, behind_length (reserve_part o) (holdings s), holdings_length s)
  where
    behind_length : (r : Holding) (hs : List Holding) → length (behind_its_price r hs) ≡ length hs + 1
    behind_length r [] = refl
    behind_length r (h ∷ hs) =
        ⊎_elim
        (λ (t : goes_behind r.of h ≡ true). rw t (omega (arith, behind_length r hs)))
        (λ (t : goes_behind r.of h ≡ false). rw t (omega arith))
        (holds_or_not (goes_behind r.of h))
