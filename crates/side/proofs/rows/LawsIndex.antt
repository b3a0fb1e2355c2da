-- Laws of an index: the rows that it names in rank order, and how often each is named. Assumes nothing.
use Prim.Native.Nat.{ℕ, zero, suc, ◌+◌, ◌-◌, ◌≤◌, ◌<◌}
use mathlib.Core.List.{List, [], ◌∷◌}
use mathlib.Core.Logic.{⊎_elim}
use mathlib.Core.Path.{◌≡◌, refl, ap, ◌∙◌}
use lib.Dec.{eqb}
use lib.ListN.{length, get_or, drop}
use native.Mathlib.Omega.{arith}
use borrow.Author.Tests.{eq-eqb}
use Rattle.std.specs.Prelude.{if◌then◌else◌}
use Rattle.basics.specs.Lists.{times, insert_at}
use Rattle.basics.proofs.LawsChoice.{lt_or_le}
use Rattle.rules.specs.Book.{places_a_side}
use Rattle.side.specs.Table.{ranked, Names}

-- ── The rows in rank order ──

pub length_ranked : (n : ℕ) (x : List ℕ) → length (ranked n x) ≡ n
unfolding ranked
length_ranked zero x = refl
length_ranked (suc n) x = ap suc (length_ranked n x)

pub ranked_at : (n : ℕ) (x : List ℕ) (i : ℕ) → i < n → get_or (ranked n x) i 0 ≡ get_or x (n - 1 - i) 0
unfolding ranked
ranked_at zero x i l = let z : ⊥ = omega arith in absurd z
ranked_at (suc n) x zero l = let e : n ≡ suc n - 1 - 0 = omega arith in ap (λ (j : ℕ). get_or x j 0) e
ranked_at (suc n) x (suc i) l =
    let e : n - 1 - i ≡ suc n - 1 - suc i = omega arith in
    ranked_at n x i (omega arith) ∙ ap (λ (j : ℕ). get_or x j 0) e

-- the best k left out
pub ranked_drop : (n : ℕ) (x : List ℕ) (k : ℕ) → k ≤ n → drop k (ranked n x) ≡ ranked (n - k) x
unfolding ranked
ranked_drop n x zero l = let e : n ≡ n - 0 = omega arith in ap (λ (m : ℕ). ranked m x) e
ranked_drop zero x (suc k) l = let z : ⊥ = omega arith in absurd z
ranked_drop (suc n) x (suc k) l =
    let e : n - k ≡ suc n - suc k = omega arith in
    ranked_drop n x k (omega arith) ∙ ap (λ (m : ℕ). ranked m x) e

-- bytes past the first n do not matter
pub ranked_alike : (n : ℕ) (x y : List ℕ) → ((i : ℕ) → i < n → get_or x i 0 ≡ get_or y i 0) → ranked n x ≡ ranked n y
unfolding ranked
ranked_alike zero x y e = refl
ranked_alike (suc n) x y e =
    let h = e n (omega arith) in
    let r = ranked_alike n x y (λ i l. e i (omega (arith, l))) in
    cc

-- ── How often a row is named ──

pub times_insert_at : (j k v : ℕ) (s : List ℕ) → times j (insert_at k v s) ≡ (if eqb v j then 1 else 0) + times j s
unfolding times
times_insert_at j zero v s = refl
times_insert_at j (suc k) v [] = refl
times_insert_at j (suc k) v (m ∷ s) = omega (arith, times_insert_at j k v s)

-- who stands there is counted
pub times_there : (k : ℕ) (s : List ℕ) → k < length s → 1 ≤ times (get_or s k 0) s
unfolding times
times_there k [] l = let z : ⊥ = omega arith in absurd z
times_there zero (m ∷ s) l = rw (eq-eqb m m refl) (omega arith)
times_there (suc k) (m ∷ s) l = omega (arith, times_there k s (omega arith))

-- ── What an index names ──

module _ (x : List ℕ) (names : Names x) where
  pub names_below : (i : ℕ) → i < places_a_side → get_or x i 0 < places_a_side
  names_below i l =
      let j = places_a_side - 1 - i in
      let e : places_a_side - 1 - j ≡ i = omega arith in
      let at : get_or (ranked places_a_side x) j 0 ≡ get_or x i 0 = ranked_at places_a_side x j (omega arith) ∙ ap (λ (k : ℕ). get_or x k 0) e in
      let some : 1 ≤ times (get_or x i 0) (ranked places_a_side x) =
      rw at at (times_there j (ranked places_a_side x) (omega (arith, length_ranked places_a_side x))) in
      ⊎_elim
      (λ (p : get_or x i 0 < places_a_side). p)
      (λ (p : places_a_side ≤ get_or x i 0). let z : ⊥ = omega (arith, names.in_table (get_or x i 0) p, some) in absurd z)
      (lt_or_le (get_or x i 0) places_a_side)

  pub ranked_once : (n : ℕ) → n ≤ places_a_side → (j : ℕ) → times j (ranked n x) ≤ 1
  unfolding times
  ranked_once n l j =
      let k : places_a_side - (places_a_side - n) ≡ n = omega arith in
      let d : drop (places_a_side - n) (ranked places_a_side x) ≡ ranked n x =
      ranked_drop places_a_side x (places_a_side - n) (omega arith) ∙ ap (λ (m : ℕ). ranked m x) k in
      omega (arith, names.once j, fewer (places_a_side - n) (ranked places_a_side x), ap (times j) d)
    where
      fewer : (k : ℕ) (s : List ℕ) → times j (drop k s) ≤ times j s
      fewer zero s = omega arith
      fewer (suc k) [] = omega arith
      fewer (suc k) (m ∷ s) = omega (arith, fewer k s)

  -- the row of the next place is not among those in use
  pub next_free : (n : ℕ) → n < places_a_side → times (get_or x n 0) (ranked n x) ≡ 0
  unfolding times ranked
  next_free n l =
      let e = eq-eqb (get_or x n 0) (get_or x n 0) refl in
      let h = ranked_once (suc n) l (get_or x n 0) in
      omega (arith, rw e at h)

-- an index that names the same rows as often names as well
pub names_same : (x y : List ℕ) → Names x → length y ≡ length x → ((j : ℕ) → times j (ranked places_a_side y) ≡ times j (ranked places_a_side x)) → Names y
names_same x y n l e = record {
  long = l ∙ n.long;
  in_table = λ j p. e j ∙ n.in_table j p;
  once = λ j. let h = e j in let o = n.once j in omega arith;
}
