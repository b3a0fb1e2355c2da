-- Laws of the refusals by their numbers: which number gives which, that only 0 gives none, and that the refusal which a number gives has that
-- number. Assumes nothing.
use Prim.Native.Nat.{ℕ, zero, suc, ◌+◌, ◌≤◌, ◌<◌}
use mathlib.Core.Bool.{Bool, true, ◌&&◌}
use mathlib.Core.List.{List, [], ◌∷◌}
use mathlib.Core.Path.{◌≡◌, refl, ap}
use lib.Dec.{eqb}
use native.Mathlib.Omega.{arith}
use borrow.Author.Tests.{eqb-true}
use Rattle.std.specs.Prelude.{Option, Some, None, Ok, Err, slice_get}
use Rattle.basics.proofs.LawsChoice.{and_left, and_right}
use Rattle.rules.specs.declared.Refusal.{Refusal}
use Rattle.rules.specs.Refusals.{last_refusal}
use Rattle.rules.specs.Refusing.{number_of, in_order, refusal_numbered, unless_refused, or_refused}

-- what is returned is the same refusal whatever the value is
pub refused_alike : {A B : Type 0} (a : A) (b : B) (k : ℕ) (e : Refusal) → or_refused a k ≡ Err e → or_refused b k ≡ Err e
refused_alike {A} {B} a b k e = by_given (refusal_numbered k)
  where
    by_given : (given : Option Refusal) → unless_refused given a ≡ Err e → unless_refused given b ≡ Err e
    by_given None h = cc
    by_given (Some f) h = let same : f ≡ e = cc in ap (λ (x : Refusal). Err x) same

-- a number of the table gives no refusal only where it is 0
pub passed_zero : {A : Type 0} (a b : A) (k : ℕ) → k ≤ last_refusal → or_refused a k ≡ Ok b → k ≡ 0
passed_zero a b zero l h = refl
passed_zero a b (suc zero) l h = cc
passed_zero a b (suc (suc zero)) l h = cc
passed_zero a b (suc (suc (suc zero))) l h = cc
passed_zero a b (suc (suc (suc (suc zero)))) l h = cc
passed_zero a b (suc (suc (suc (suc (suc zero))))) l h = cc
passed_zero a b (suc (suc (suc (suc (suc (suc zero)))))) l h = cc
passed_zero a b (suc (suc (suc (suc (suc (suc (suc zero))))))) l h = cc
passed_zero a b (suc (suc (suc (suc (suc (suc (suc (suc zero)))))))) l h = cc
passed_zero a b (suc (suc (suc (suc (suc (suc (suc (suc (suc zero))))))))) l h = cc
passed_zero a b (suc (suc (suc (suc (suc (suc (suc (suc (suc (suc zero)))))))))) l h = cc
passed_zero a b (suc (suc (suc (suc (suc (suc (suc (suc (suc (suc (suc zero))))))))))) l h = cc
passed_zero a b (suc (suc (suc (suc (suc (suc (suc (suc (suc (suc (suc (suc k)))))))))))) l h = let z : ⊥ = omega (arith, l) in absurd z

-- and 0 gives none
pub refused_above : {A : Type 0} (a : A) (k : ℕ) (e : Refusal) → or_refused a k ≡ Err e → 0 < k
refused_above a zero e h = cc
refused_above a (suc k) e h = omega arith

-- ── The number of a refusal ──

-- refusals whose numbers follow one another, from one on
abbrev follow : ℕ → List Refusal → Bool
follow k [] = true
follow k (r ∷ rs) = eqb (number_of r) k && follow (suc k) rs

number_at : (k n : ℕ) (rs : List Refusal) (refusal : Refusal) → follow k rs ≡ true → slice_get rs n ≡ Some refusal → number_of refusal ≡ k + n
number_at k n [] refusal f e = let z : ⊥ = cc in absurd z
number_at k zero (r ∷ rs) refusal f e =
    let same : r ≡ refusal = cc in
    let own : number_of r ≡ k = eqb-true (number_of r) k (and_left (eqb (number_of r) k) (follow (suc k) rs) f) in
    omega (arith, own, ap number_of same)
number_at k (suc n) (r ∷ rs) refusal f e =
    omega (arith, number_at (suc k) n rs refusal (and_right (eqb (number_of r) k) (follow (suc k) rs) f) e)

-- a number that gives a refusal is the refusal's own
pub own_number : (n : ℕ) (refusal : Refusal) → refusal_numbered n ≡ Some refusal → number_of refusal ≡ n
own_number zero refusal e = let z : ⊥ = cc in absurd z
own_number (suc n) refusal e = omega (arith, number_at 1 n in_order refusal refl e)

err_is : {A : Type 0} (given : Option Refusal) (a : A) (refusal : Refusal) → unless_refused given a ≡ Err refusal → given ≡ Some refusal
err_is None a refusal e = let z : ⊥ = cc in absurd z
err_is (Some given) a refusal e = cc

-- so has what is returned: 01's number of the refusal that comes back is the number that the table gives
pub returned_number : {A : Type 0} (a : A) (n : ℕ) (refusal : Refusal) → or_refused a n ≡ Err refusal → number_of refusal ≡ n
returned_number a n refusal e = own_number n refusal (err_is (refusal_numbered n) a refusal e)
