-- Executions do nothing to resting orders but take some away and lower the shares of others, of the shown part and of the reserve. Whatever
-- does no more keeps what a sound book says of them: rank, numbers, the distance between the sides, and ranges, but that an order may show
-- nothing for a while. Assumes nothing.
use Prim.Native.Nat.{ℕ, ◌+◌, ◌-◌, ◌≤◌, min}
use mathlib.Core.Bool.{Bool, true, false}
use mathlib.Core.List.{List, [], ◌∷◌}
use mathlib.Core.Logic.{⊎_elim}
use mathlib.Core.Path.{◌≡◌, refl, sym, subst, ◌∙◌}
use lib.Dec.{eqb}
use lib.ListN.{length}
use native.Mathlib.Omega.{arith}
use borrow.Author.Tests.{eqb-false}
use Rattle.basics.proofs.LawsLists.{all_alike}
use Rattle.basics.specs.Lists.{sum_of, All, none, also}
use Rattle.basics.proofs.LawsChoice.{holds_or_not}
use Rattle.rules.specs.declared.Resting.{Resting}
use Rattle.rules.specs.Book.{shares_left, ranks_before, in_rank_order}
use Rattle.rules.specs.Holdings.{holdings, taken_of, reduced_by, keeping, after}
use Rattle.rules.specs.Settling.{amended}
use Rattle.soundness.proofs.LawsNumbers.{times_in}
use Rattle.rules.proofs.LawsRank.{ranked_first, ranked_rest, ranked_more}

-- an order of which so much is left, of its shown part and of its reserve; its minimum becomes what remains, if that is less
abbrev pub with_parts : ℕ → ℕ → Resting → Resting
with_parts shown reserve h = amended h.price h.stamp shown reserve (min h.minimum.0 (shown + reserve)) h

-- orders of which some are taken away and others keep some of their shares
pub data Thinned : List Resting → List Resting → Type 0 where
  empty : Thinned [] []
  away : {h : Resting} {s r : List Resting} → Thinned s r → Thinned (h ∷ s) r
  keeps : {h : Resting} {s r : List Resting} (shown reserve : ℕ) → shown ≤ h.shares.0 → reserve ≤ h.reserve.0 → 1 ≤ shown + reserve → Thinned s r
      → Thinned (h ∷ s) (with_parts shown reserve h ∷ r)

-- an order that has a share, and a minimum of no more than it has
pub record Stands (h : Resting) : Type 0 where
  pub is_left : 1 ≤ shares_left h
  pub least : h.minimum.0 ≤ shares_left h

abbrev pub Standing : List Resting → Type 0
Standing s = All Stands s

-- ── What thins ──

pub thinned_same : {s : List Resting} → Standing s → Thinned s s
thinned_same none = empty
thinned_same (also {x = h} {s = s} p a) =
    let cut : min h.minimum.0 (shares_left h) ≡ h.minimum.0 = omega (arith, p.least) in
    subst (λ (k : ℕ). Thinned (h ∷ s) (amended h.price h.stamp h.shares.0 h.reserve.0 k h ∷ s)) cut
    (keeps {h = h} h.shares.0 h.reserve.0 (omega arith) (omega arith) p.is_left (thinned_same a))

pub thinned_none : (s : List Resting) → Thinned s []
thinned_none [] = empty
thinned_none (h ∷ s) = away (thinned_none s)

thinned_keeping : {s : List Resting} (ts rs : List ℕ) → Standing s → Thinned s (keeping s ts rs)
unfolding keeping
thinned_keeping ts rs none = empty
thinned_keeping [] rs (also p a) = thinned_same (also p a)
thinned_keeping (t ∷ ts) [] (also p a) = thinned_same (also p a)
thinned_keeping (t ∷ ts) (r ∷ rs) (also {x = h} {s = s} p a) =
    ⊎_elim
    (λ (e : eqb (shares_left (reduced_by t r h)) 0 ≡ true). rw e (away (thinned_keeping ts rs a)))
    (λ (e : eqb (shares_left (reduced_by t r h)) 0 ≡ false).
    let n = eqb-false (shares_left (reduced_by t r h)) 0 e in
    rw e (keeps {h = h} (h.shares.0 - t) (h.reserve.0 - r) (omega arith) (omega arith) (omega (arith, n)) (thinned_keeping ts rs a)))
    (holds_or_not (eqb (shares_left (reduced_by t r h)) 0))

pub thinned_after : {s : List Resting} (ts : List ℕ) → Standing s → Thinned s (after s ts)
unfolding after
thinned_after {s = s} ts a = thinned_keeping (taken_of false (holdings s) ts) (taken_of true (holdings s) ts) a

-- ── What thinning keeps ──

pub thinned_length : {s r : List Resting} → Thinned s r → length r ≤ length s
thinned_length empty = omega arith
thinned_length (away a) = omega (arith, thinned_length a)
thinned_length (keeps shown reserve l m o a) = omega (arith, thinned_length a)

-- what lower shares make of a claim
pub thinned_all : {P Q : Resting → Type 0}
    → ((h : Resting) (shown reserve : ℕ) → shown ≤ h.shares.0 → reserve ≤ h.reserve.0 → 1 ≤ shown + reserve → P h → Q (with_parts shown reserve h))
    → {s r : List Resting} → Thinned s r → All P s → All Q r
thinned_all f empty none = none
thinned_all f (away a) (also p ps) = thinned_all f a ps
thinned_all f (keeps {h = h} shown reserve l m o a) (also p ps) = also (f h shown reserve l m o p) (thinned_all f a ps)

-- rank goes by what thinning leaves alone
same_rank : (buy : Bool) (x y : Resting) (shown reserve : ℕ) → ranks_before buy x y ≡ ranks_before buy x (with_parts shown reserve y)
unfolding ranks_before
same_rank buy x y shown reserve = refl

same_rank_first : (buy : Bool) (x y : Resting) (shown reserve : ℕ) → ranks_before buy x y ≡ ranks_before buy (with_parts shown reserve x) y
unfolding ranks_before
same_rank_first buy x y shown reserve = refl

pub thinned_ranked : (buy : Bool) {s r : List Resting} → Thinned s r → in_rank_order buy s ≡ true → in_rank_order buy r ≡ true
thinned_ranked buy empty o = o
thinned_ranked buy (away {h = h} {s = s} a) o = thinned_ranked buy a (ranked_rest buy h s o)
thinned_ranked buy (keeps {h = h} {s = s} {r = r} shown reserve l m k a) o =
    ranked_more buy (with_parts shown reserve h) r
    (all_alike (λ y p. sym (same_rank_first buy h y shown reserve) ∙ p)
    (thinned_all {P = λ (y : Resting). ranks_before buy h y ≡ true} (λ y i j lo hi some p. sym (same_rank buy h y i j) ∙ p) a (ranked_first buy h s o)))
    (thinned_ranked buy a (ranked_rest buy h s o))

-- no number stands more often
pub thinned_times : (n : ℕ) {s r : List Resting} → Thinned s r → times_in n r ≤ times_in n s
unfolding sum_of
thinned_times n empty = omega arith
thinned_times n (away a) = omega (arith, thinned_times n a)
thinned_times n (keeps shown reserve l m o a) = omega (arith, thinned_times n a)
