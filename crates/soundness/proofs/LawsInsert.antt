-- A new order that takes its place by rank keeps what a sound book says of the resting orders. Assumes nothing.
use Prim.Native.Nat.{ℕ, suc, ◌+◌, ◌≤◌}
use mathlib.Core.Bool.{Bool, true, false}
use mathlib.Core.List.{List, [], ◌∷◌, ◌++◌}
use mathlib.Core.Logic.{◌≢◌, ⊎_elim}
use mathlib.Core.Path.{◌≡◌, refl, ap}
use lib.Dec.{eqb}
use lib.ListN.{length}
use native.Mathlib.Omega.{arith}
use borrow.Author.Tests.{eqb-true}
use Rattle.basics.specs.Lists.{any, distinct, sum_of, All, also, OneOf, first}
use Rattle.basics.proofs.LawsChoice.{holds_or_not}
use Rattle.rules.specs.declared.Resting.{Resting}
use Rattle.rules.specs.Book.{numbers, earlier, ranks_before, in_rank_order}
use Rattle.rules.specs.Settling.{insert}
use Rattle.soundness.proofs.LawsNumbers.{one_if, times_in, not_among_times, times_at_most, at_most_times}
use Rattle.rules.proofs.LawsRank.{ranks_total, ranked_first, ranked_rest, ranked_more}

-- one order more, somewhere among the others
pub data Added (x : Resting) : List Resting → List Resting → Type 0 where
  here : {s : List Resting} → Added x s (x ∷ s)
  later : {y : Resting} {s r : List Resting} → Added x s r → Added x (y ∷ s) (y ∷ r)

pub added_insert : (buy : Bool) (x : Resting) (s : List Resting) → Added x s (insert buy x s)
unfolding insert
added_insert buy x [] = here
added_insert buy x (y ∷ s) =
    ⊎_elim
    (λ (t : ranks_before buy x y ≡ true). rw t here)
    (λ (t : ranks_before buy x y ≡ false). rw t (later (added_insert buy x s)))
    (holds_or_not (ranks_before buy x y))

pub added_before : {x : Resting} {s r : List Resting} (u : List Resting) → Added x s r → Added x (s ++ u) (r ++ u)
added_before u here = here
added_before u (later a) = later (added_before u a)

pub added_behind : {x : Resting} (u : List Resting) {s r : List Resting} → Added x s r → Added x (u ++ s) (u ++ r)
added_behind [] a = a
added_behind (y ∷ u) a = later (added_behind u a)

-- ── What one order more keeps ──

pub added_length : {x : Resting} {s r : List Resting} → Added x s r → length r ≡ suc (length s)
added_length here = refl
added_length (later a) = ap suc (added_length a)

pub added_sum : (count : Resting → ℕ) {x : Resting} {s r : List Resting} → Added x s r → sum_of count r ≡ count x + sum_of count s
unfolding sum_of
added_sum count here = refl
added_sum count (later a) = omega (arith, added_sum count a)

pub added_all : {P : Resting → Type 0} {x : Resting} → P x → {s r : List Resting} → Added x s r → All P s → All P r
added_all p here a = also p a
added_all p (later d) (also q a) = also q (added_all p d a)

-- the new order is there, and so are all others
pub added_new : {x : Resting} {s r : List Resting} → Added x s r → OneOf x r
added_new here = first
added_new (later a) = OneOf.later (added_new a)

pub added_old : {x h : Resting} {s r : List Resting} → Added x s r → OneOf h s → OneOf h r
added_old here p = OneOf.later p
added_old (later a) first = first
added_old (later a) (OneOf.later p) = OneOf.later (added_old a p)

-- .. and nobody else: whoever is there and has another number was there
pub added_other : {x h : Resting} {s r : List Resting} → Added x s r → h.number ≢ x.number → OneOf h r → OneOf h s
added_other here d first = absurd (d refl)
added_other here d (OneOf.later p) = p
added_other (later a) d first = first
added_other (later a) d (OneOf.later p) = OneOf.later (added_other a d p)

-- a number that no other order has stands once more, and every other number as often as before
pub added_distinct : {x : Resting} {s r : List Resting} → Added x s r → any (eqb x.number.0) (numbers s) ≡ false
    → distinct (numbers s) ≡ true → distinct (numbers r) ≡ true
added_distinct {x = x} {s = s} {r = r} a new d = at_most_times r by_number
  where
    by_number : (n : ℕ) → times_in n r ≤ 1
    by_number n =
        ⊎_elim
        (λ (t : eqb n x.number.0 ≡ true).
        let itself : n ≡ x.number.0 = eqb-true n x.number.0 t in
        omega (arith, rw t at (added_sum (one_if n) a), not_among_times n s (rw itself new)))
        (λ (t : eqb n x.number.0 ≡ false). omega (arith, rw t at (added_sum (one_if n) a), times_at_most s d n))
        (holds_or_not (eqb n x.number.0))

-- a new order is the one with the latest stamp of its side
pub ranked_insert : (buy : Bool) (x : Resting) (s : List Resting) → All (λ (y : Resting). earlier y.stamp x.stamp ≡ true) s → in_rank_order buy s ≡ true → in_rank_order buy (insert buy x s) ≡ true
unfolding insert in_rank_order
ranked_insert buy x [] n o = refl
ranked_insert buy x (y ∷ s) (also d n) o =
    ⊎_elim
    (λ (t : ranks_before buy x y ≡ true). rw t (rw t o))
    (λ (t : ranks_before buy x y ≡ false).
    rw t (ranked_more buy y (insert buy x s) (added_all (ranks_total buy x y d t) (added_insert buy x s) (ranked_first buy y s o)) (ranked_insert buy x s n (ranked_rest buy y s o))))
    (holds_or_not (ranks_before buy x y))
