-- An index whose side stands in the first rows of its table, in rank order: it names each row once, and the side is what was loaded. Assumes
-- nothing.
use Prim.Native.Nat.{ℕ, zero, suc, ◌-◌, ◌≤◌, ◌<◌}
use mathlib.Core.Bool.{true, false}
use mathlib.Core.List.{List, [], map}
use mathlib.Core.Logic.{⊎_elim}
use mathlib.Core.Path.{◌≡◌, refl, sym, ap, ◌∙◌}
use lib.Dec.{eqb, ltb}
use lib.ListN.{length, get_or, take, length-map}
use lib.Seq.{ext_get_or, get_or-take, length-take-le}
use native.Mathlib.Omega.{arith}
use borrow.Author.Tests.{eqb-true, lt-ltb, le-ltb}
use Rattle.std.specs.Prelude.{if◌then◌else◌}
use Rattle.basics.specs.Lists.{times}
use Rattle.basics.proofs.LawsChoice.{holds_or_not, lt_or_le}
use Rattle.rules.specs.declared.Resting.{Resting}
use Rattle.rules.specs.Book.{places_a_side}
use Rattle.side.specs.declared.rows.Row.{Row}
use Rattle.side.specs.Table.{row_of, free, ranked, rows_at, Names}
use Rattle.side.proofs.rows.LawsIndex.{length_ranked, ranked_at}
use Rattle.std.proofs.lemmas.List.{get_or-map}
use Rattle.side.proofs.rows.LawsShown.{Shows, shows_rows}
use Rattle.side.specs.Tables.{numbered_at, Numbered}

-- who stands at a place stands there by turning round the first n places, and turning them again leads back
turned_back : (n i : ℕ) → numbered_at n (numbered_at n i) ≡ i
turned_back n i =
    ⊎_elim
    (λ (l : i < n). let k : n - 1 - i < n = omega arith in rw (lt-ltb i n l, lt-ltb (n - 1 - i) n k) (omega arith))
    (λ (l : n ≤ i). rw (le-ltb i n l, le-ltb i n l))
    (lt_or_le i n)

turned_past : (n i : ℕ) → n ≤ i → numbered_at n i ≡ i
turned_past n i l = rw (le-ltb i n l)

module _ (n : ℕ) (x : List ℕ) (fits : n ≤ places_a_side) (numbered : Numbered n x) where
  -- a row is named at one place alone
  named_at : (j m : ℕ) → m ≤ places_a_side → times j (ranked m x) ≤ (if ltb (numbered_at n j) m then 1 else 0)
  unfolding times ranked
  named_at j zero l = omega arith
  named_at j (suc m) l =
      let h = named_at j m (omega arith) in
      let e : get_or x m 0 ≡ numbered_at n m = numbered.each m l in
      ⊎_elim
      (λ (t : eqb (numbered_at n m) j ≡ true).
      let is : numbered_at n j ≡ m = ap (numbered_at n) (sym (eqb-true (numbered_at n m) j t)) ∙ turned_back n m in
      let none : times j (ranked m x) ≤ 0 = rw (is, le-ltb m m (omega arith)) at h in
      let here : m < suc m = omega arith in
      rw (e, t, is, lt-ltb m (suc m) here) (omega (arith, none)))
      (λ (t : eqb (numbered_at n m) j ≡ false). rw (e, t) (omega (arith, h, no_fewer (numbered_at n j) m)))
      (holds_or_not (eqb (numbered_at n m) j))
    where
      no_fewer : (k m : ℕ) → (if ltb k m then 1 else 0) ≤ (if ltb k (suc m) then 1 else 0)
      no_fewer k m =
          ⊎_elim
          (λ (l : k < m). let u : k < suc m = omega arith in rw (lt-ltb k m l, lt-ltb k (suc m) u) (omega arith))
          (λ (l : m ≤ k). rw (le-ltb k m l) (omega arith))
          (lt_or_le k m)

  pub numbered_names : Names x
  numbered_names = record {
    long = numbered.long;
    in_table = λ j p. none j p;
    once = λ j. omega (arith, named_at j places_a_side (omega arith), at_most_one_lem (numbered_at n j) places_a_side);
  }
    where
      none : (j : ℕ) → places_a_side ≤ j → times j (ranked places_a_side x) ≡ 0
      none j p =
          let h = named_at j places_a_side (omega arith) in
          let e : numbered_at n j ≡ j = turned_past n j (omega arith) in
          omega (arith, rw (e, le-ltb j places_a_side p) at h)

      at_most_one_lem : (k m : ℕ) → (if ltb k m then 1 else 0) ≤ 1
      at_most_one_lem k m =
          ⊎_elim
          (λ (l : k < m). rw (lt-ltb k m l) (omega arith))
          (λ (l : m ≤ k). rw (le-ltb k m l) (omega arith))
          (lt_or_le k m)

  -- the rows in rank order are the first n rows
  rows_first : (t : List Row) → length t ≡ places_a_side → rows_at t (ranked n x) ≡ take n t
  rows_first t all =
      ext_get_or free (rows_at t (ranked n x)) (take n t)
      (length-map (ranked n x) (λ (j : ℕ). get_or t j free) ∙ length_ranked n x ∙ sym (length-take-le n t (omega arith)))
      (λ i l. each i (omega (arith, l, length-map (ranked n x) (λ (j : ℕ). get_or t j free), length_ranked n x)))
    where
      each : (i : ℕ) → i < n → get_or (rows_at t (ranked n x)) i free ≡ get_or (take n t) i free
      each i l =
          let back : n - 1 - i < n = omega arith in
          let is : get_or (ranked n x) i 0 ≡ i =
          ranked_at n x i l ∙ (numbered.each (n - 1 - i) (omega arith) ∙ rw (lt-ltb (n - 1 - i) n back) (omega arith)) in
          get_or-map (λ (j : ℕ). get_or t j free) (ranked n x) i 0 free (omega (arith, length_ranked n x))
          ∙ (ap (λ (j : ℕ). get_or t j free) is ∙ sym (get_or-take n t i free l))

  -- what was loaded is shown
  pub numbered_shows : (s : List Resting) (t : List Row) → length t ≡ places_a_side → take n t ≡ map row_of s → Shows s n x t
  numbered_shows s t all e = shows_rows s x t n fits all numbered_names (rows_first t all ∙ e)

-- a side with no order, whatever the rows
pub numbered_none : (x : List ℕ) (t : List Row) → Numbered 0 x → length t ≡ places_a_side → Shows [] 0 x t
numbered_none x t numbered all = numbered_shows 0 x (omega arith) numbered [] t all refl
