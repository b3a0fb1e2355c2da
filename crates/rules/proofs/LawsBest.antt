-- Laws of the walk's order: where the orders of a side stand better price first, as those in rank order do, so do its holdings (02, W4).
-- With the laws of `walk` this is what demand 3's greatest total and rank clause rest on. Assumes nothing.
use mathlib.Core.Bool.{Bool, true, false, not, ◌&&◌}
use mathlib.Core.List.{List, [], ◌∷◌}
use mathlib.Core.Logic.{⊎_elim}
use mathlib.Core.Path.{◌≡◌, refl, sym}
use lib.Dec.{eqb}
use native.Mathlib.Omega.{arith}
use borrow.Author.Tests.{eqb-true, le-ltb}
use Rattle.basics.specs.Lists.{All, none, also}
use Rattle.basics.proofs.LawsChoice.{holds_or_not, and_left}
use Rattle.basics.proofs.LawsLists.{all_alike}
use Rattle.kinds.specs.declared.HalfCents.{HalfCents}
use Rattle.rules.specs.declared.Resting.{Resting}
use Rattle.rules.specs.Book.{better, in_rank_order}
use Rattle.rules.specs.Holdings.{Holding, shown_part, reserve_part, behind_its_price, holdings}
use Rattle.rules.proofs.LawsRank.{rank_price, ranked_first, ranked_rest}

-- a holding has no better price than an order
abbrev pub NoBetter : Bool → Resting → Holding → Type 0
NoBetter buy o h = better buy h.of.price o.price ≡ false

-- better price first: no later one has a better price, of orders and of holdings
pub data OrdersBest (buy : Bool) : List Resting → Type 0 where
  end : OrdersBest buy []
  first : {s : List Resting} (o : Resting) → All (λ (x : Resting). better buy x.price o.price ≡ false) s → OrdersBest buy s → OrdersBest buy (o ∷ s)

pub data HoldingsBest (buy : Bool) : List Holding → Type 0 where
  end : HoldingsBest buy []
  first : {s : List Holding} (h : Holding) → All (NoBetter buy h.of) s → HoldingsBest buy s → HoldingsBest buy (h ∷ s)

pub ranked_best : (buy : Bool) (s : List Resting) → in_rank_order buy s ≡ true → OrdersBest buy s
ranked_best buy [] r = end
ranked_best buy (o ∷ s) r = first o (all_alike (λ x p. rank_price buy o x p) (ranked_first buy o s r)) (ranked_best buy s (ranked_rest buy o s r))

pub all_behind : {P : Holding → Type 0} (r : Holding) → P r → {hs : List Holding} → All P hs → All P (behind_its_price r hs)
unfolding behind_its_price
all_behind r p none = also p none
all_behind r p (also {x = h} {s = s} q a) =
    ⊎_elim
    (λ (t : (eqb h.of.price.0 r.of.price.0 && not h.is_reserve) ≡ true). rw t (also q (all_behind r p a)))
    (λ (t : (eqb h.of.price.0 r.of.price.0 && not h.is_reserve) ≡ false). rw t (also p (also q a)))
    (holds_or_not (eqb h.of.price.0 r.of.price.0 && not h.is_reserve))

pub same_no_better : (buy : Bool) (p q : HalfCents) → p.0 ≡ q.0 → better buy p q ≡ false
same_no_better true p q e = le-ltb q.0 p.0 (omega (arith, e))
same_no_better false p q e = le-ltb p.0 q.0 (omega (arith, e))

behind_best : (buy : Bool) (o : Resting) {hs : List Holding} → All (NoBetter buy o) hs → HoldingsBest buy hs → HoldingsBest buy (behind_its_price (reserve_part o) hs)
unfolding behind_its_price
behind_best buy o none end = first (reserve_part o) none end
behind_best buy o (also {s = s} n a) (first h b best) =
    ⊎_elim
    (λ (t : (eqb h.of.price.0 o.price.0 && not h.is_reserve) ≡ true).
    let e : h.of.price.0 ≡ o.price.0 = eqb-true _ _ (and_left _ _ t) in
    rw t (first h (all_behind (reserve_part o) (same_no_better buy o.price h.of.price (sym e)) b) (behind_best buy o a best)))
    (λ (t : (eqb h.of.price.0 o.price.0 && not h.is_reserve) ≡ false). rw t (first (reserve_part o) (also n a) (first h b best)))
    (holds_or_not (eqb h.of.price.0 o.price.0 && not h.is_reserve))

-- what holds of both parts of each order holds of the holdings
pub all_holdings : {P : Holding → Type 0} {s : List Resting} → All (λ (o : Resting). P (shown_part o)) s → All (λ (o : Resting). P (reserve_part o)) s → All P (holdings s)
unfolding holdings
all_holdings none none = none
all_holdings (also {x = o} p a) (also q b) = also p (all_behind (reserve_part o) q (all_holdings a b))

pub holdings_best : (buy : Bool) {s : List Resting} → OrdersBest buy s → HoldingsBest buy (holdings s)
unfolding holdings
holdings_best buy end = end
holdings_best buy (first o a best) =
    first (shown_part o) (all_behind (reserve_part o) (same_no_better buy o.price o.price refl) (all_holdings a a))
    (behind_best buy o (all_holdings a a) (holdings_best buy best))
