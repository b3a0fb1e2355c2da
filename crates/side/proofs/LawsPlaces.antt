-- Laws of the first element of a list that passes a test, and of rank by values. Assumes nothing.
use Prim.Native.Nat.{ℕ, zero, suc, ◌≤◌, ◌<◌}
use mathlib.Core.Bool.{Bool, true, false, not, ◌&&◌, ◌||◌, beq}
use mathlib.Core.List.{List, [], ◌∷◌}
use mathlib.Core.Logic.{⊎_elim}
use mathlib.Core.Path.{◌≡◌, refl}
use lib.Dec.{eqb, ltb}
use lib.ListN.{length, get_or}
use native.Mathlib.Omega.{arith}
use borrow.Author.Tests.{eqb-true, le-ltb}
use Rattle.std.specs.Prelude.{if◌then◌else◌}
use Rattle.std.specs.Ordering.{is_lt, nat_cmp}
use Rattle.std.proofs.Common.{rules}
use Rattle.basics.specs.Lists.{first_where}
use Rattle.basics.proofs.LawsChoice.{holds_or_not}
use Rattle.rules.specs.declared.Resting.{Resting}
use Rattle.rules.specs.Book.{earlier, ranks_before}

-- ── The first that passes a test ──

module _ {A : Type 0} (test : A → Bool) where
  -- its place is one of the list's, or the one behind its last
  pub first_within : (s : List A) → first_where test s ≤ length s
  unfolding first_where
  first_within [] = omega arith
  first_within (h ∷ s) =
      ⊎_elim
      (λ (t : test h ≡ true). rw t (omega arith))
      (λ (t : test h ≡ false). rw t (omega (arith, first_within s)))
      (holds_or_not (test h))

  -- whatever passes the test stands there or behind it
  pub first_before : (d : A) (s : List A) (i : ℕ) → i < length s → test (get_or s i d) ≡ true → first_where test s ≤ i
  unfolding first_where
  first_before d [] i l p = let z : ⊥ = omega arith in absurd z
  first_before d (x ∷ s) zero l p = rw p (omega arith)
  first_before d (x ∷ s) (suc i) l p =
      ⊎_elim
      (λ (t : test x ≡ true). rw t (omega arith))
      (λ (t : test x ≡ false). rw t (omega (arith, first_before d s i (omega arith) p)))
      (holds_or_not (test x))

-- ── Rank by values ──

-- what the derived order of a kind says
pub is_lt_nat_cmp : (a b : ℕ) → is_lt (nat_cmp a b) ≡ ltb a b
is_lt_nat_cmp a b = search rules

pub ranks_by_values : (buy : Bool) (x y : Resting)
    → (buy && ltb y.price.0 x.price.0 || not buy && ltb x.price.0 y.price.0
    || eqb x.price.0 y.price.0
    && (x.displayed && not y.displayed || (x.displayed || not y.displayed) && earlier x.stamp y.stamp))
    ≡ ranks_before buy x y
unfolding ranks_before
ranks_by_values buy x y =
    ⊎_elim
    (λ (t : eqb x.price.0 y.price.0 ≡ true).
    let e : x.price.0 ≡ y.price.0 = eqb-true x.price.0 y.price.0 t in
    rw (t, le-ltb y.price.0 x.price.0 (omega arith), le-ltb x.price.0 y.price.0 (omega arith))
    (at_one_price_lem buy x.displayed y.displayed (earlier x.stamp y.stamp)))
    (λ (t : eqb x.price.0 y.price.0 ≡ false). rw t (apart_prices buy (ltb y.price.0 x.price.0) (ltb x.price.0 y.price.0)))
    (holds_or_not (eqb x.price.0 y.price.0))
  where
    at_one_price_lem : (b d e l : Bool) → (b && false || not b && false || true && (d && not e || (d || not e) && l)) ≡ (if not (beq d e) then d else l)
    at_one_price_lem true true true l = refl
    at_one_price_lem true true false l = refl
    at_one_price_lem true false true l = refl
    at_one_price_lem true false false l = refl
    at_one_price_lem false true true l = refl
    at_one_price_lem false true false l = refl
    at_one_price_lem false false true l = refl
    at_one_price_lem false false false l = refl

    apart_prices : (b p q : Bool) → (b && p || not b && q || false) ≡ (if b then p else q)
    apart_prices true true q = refl
    apart_prices true false q = refl
    apart_prices false p true = refl
    apart_prices false p false = refl
