-- Laws of an index that is closed up: two bytes change places at each turn, so it names the same rows. Assumes nothing.
use Prim.Native.Nat.{ℕ, zero, suc, ◌+◌, ◌-◌, ◌≤◌, ◌<◌}
use mathlib.Core.Bool.{true, false}
use mathlib.Core.List.{List, [], ◌∷◌, map}
use mathlib.Core.Logic.{⊎_elim}
use mathlib.Core.Path.{◌≡◌, refl, ap, ◌∙◌}
use lib.Dec.{eqb}
use lib.ListN.{length, get_or, set, drop, length-set}
use lib.Seq.{get_or-set_same, get_or-set_other}
use native.Mathlib.Numerals.{add-one}
use native.Mathlib.Omega.{arith}
use borrow.Author.Tests.{eqb-true, eqb-false}
use Rattle.std.specs.Prelude.{if◌then◌else◌}
use Rattle.basics.specs.Lists.{every, times}
use Rattle.basics.proofs.LawsChoice.{holds_or_not, lt_or_le, and_left, and_right}
use Rattle.side.specs.declared.rows.Row.{Row}
use Rattle.side.specs.Shifts.{keeps, keepers}
use Rattle.std.specs.Int.{from_bool}
use Rattle.side.specs.Table.{order_of, row_of, free, ranked, rows_at, side, Holds}
use Rattle.side.proofs.rows.LawsIndex.{ranked_alike, names_same}
use Rattle.side.proofs.rows.LawsShown.{Shows, shows_rows, side_dropped}
use Rattle.rules.specs.declared.Resting.{Resting}
use Rattle.rules.specs.Book.{places_a_side}

-- ── Two bytes change places ──

abbrev pub swapped : ℕ → ℕ → List ℕ → List ℕ
swapped a b x = set (set x b (get_or x a 0)) a (get_or x b 0)

-- another byte counts in place of one
times_put : (j m k v : ℕ) (x : List ℕ) → k < m → k < length x
    → times j (ranked m (set x k v)) + (if eqb (get_or x k 0) j then 1 else 0) ≡ times j (ranked m x) + (if eqb v j then 1 else 0)
unfolding times ranked
times_put j zero k v x l b = let z : ⊥ = omega arith in absurd z
times_put j (suc m) k v x l b =
    ⊎_elim
    (λ (p : k < m).
    let g : get_or (set x k v) m 0 ≡ get_or x m 0 = get_or-set_other x k m v 0 (λ z. omega arith) in
    rw g (omega (arith, times_put j m k v x p b)))
    (λ (p : m ≤ k).
    let e : k ≡ m = omega arith in
    let g : get_or (set x m v) m 0 ≡ v = get_or-set_same x m v 0 (omega arith) in
    let r : ranked m (set x m v) ≡ ranked m x = ranked_alike m (set x m v) x (λ i q. get_or-set_other x m i v 0 (λ z. omega (arith, q, z))) in
    rw (e, g, r) (omega arith))
    (lt_or_le k m)

module _ (a b : ℕ) (x : List ℕ) where
  first_put : b < length x → get_or (set x b (get_or x a 0)) a 0 ≡ get_or x a 0
  first_put l =
      ⊎_elim
      (λ (e : eqb a b ≡ true). let z : a ≡ b = eqb-true a b e in rw z (get_or-set_same x b (get_or x b 0) 0 l))
      (λ (e : eqb a b ≡ false). get_or-set_other x b a (get_or x a 0) 0 (eqb-false a b e))
      (holds_or_not (eqb a b))

  times_swapped : (j m : ℕ) → a < m → b < m → m ≤ length x → times j (ranked m (swapped a b x)) ≡ times j (ranked m x)
  times_swapped j m p q l =
      let y = set x b (get_or x a 0) in
      let z : length y ≡ length x = length-set x b (get_or x a 0) in
      let two = times_put j m a (get_or x b 0) y p (omega arith) in
      omega (arith, times_put j m b (get_or x a 0) x q (omega arith), rw (first_put (omega arith)) at two)

-- ── The loop ──

-- where all keep shares, nobody leaves
pub keepers_all : (s : List Resting) → every keeps s ≡ true → keepers s ≡ s
unfolding every keepers
keepers_all [] e = refl
keepers_all (h ∷ s) e =
    rw (and_left (keeps h) (every keeps s) e) (ap (λ (r : List Resting). h ∷ r) (keepers_all s (and_right (keeps h) (every keeps s) e)))

-- of the i worst orders of the index x₀ those that have shares are named by the first `to` bytes of x, which goes on like x₀
pub record Closing (n : ℕ) (x₀ x : List ℕ) (t : List Row) (to i : ℕ) : Type 0 where
  pub behind : to ≤ i
  pub inside : i ≤ n
  pub long : length x ≡ length x₀
  pub ahead : (k : ℕ) → i ≤ k → get_or x k 0 ≡ get_or x₀ k 0
  pub same : (j : ℕ) → times j (ranked places_a_side x) ≡ times j (ranked places_a_side x₀)
  pub rows : rows_at t (ranked to x) ≡ map row_of (keepers (side i x₀ t))

pub closing_start : (n : ℕ) (x : List ℕ) (t : List Row) (reached : ℕ) → Holds n x t → reached ≤ n → every keeps (drop reached (side n x t)) ≡ true
    → Closing n x x t (n - reached) (n - reached)
closing_start n x t reached h l e =
    let worst = side_dropped n x t h reached l in
    let all : keepers (side (n - reached) x t) ≡ side (n - reached) x t = keepers_all (side (n - reached) x t) (rw worst.is e) in
    record {
      behind = omega arith;
      inside = omega arith;
      long = refl;
      ahead = λ k p. refl;
      same = λ j. refl;
      rows = rw all worst.holds.rows;
    }

module _ {n : ℕ} {x₀ x : List ℕ} {t : List Row} {to i : ℕ} (h : Holds n x₀ t) (w : Closing n x₀ x t to i) where
  pub closing_end : i ≡ n → Shows (keepers (side n x₀ t)) to x t
  closing_end e =
      shows_rows (keepers (side n x₀ t)) x t to (omega (arith, w.behind, w.inside, h.fits)) h.all (names_same x₀ x h.names w.long w.same) (rw e at w.rows)

  module _ (l : i < n) where
    pub slot_same : get_or x i 0 ≡ get_or x₀ i 0
    slot_same = w.ahead i (omega arith)

    -- the row of the order that comes next
    row_next : get_or t (get_or x₀ i 0) free ≡ row_of (order_of (get_or t (get_or x₀ i 0) free))
    unfolding ranked
    row_next =
        let z : n - (n - suc i) ≡ suc i = omega arith in
        let words : rows_at t (ranked (suc i) x₀) ≡ map row_of (side (suc i) x₀ t) = rw z at (side_dropped n x₀ t h (n - suc i) (omega arith)).holds.rows in
        ap (λ (rs : List Row). get_or rs 0 free) words

    module _ (o : Resting) (e : o ≡ order_of (get_or t (get_or x i 0) free)) where
      rows_next : rows_at t (ranked (to + from_bool (keeps o)) (swapped to i x)) ≡ map row_of (keepers (side (i + 1) x₀ t))
      unfolding ranked keepers
      rows_next =
          let y = set x i (get_or x to 0) in
          let b = w.behind in
          let m : to < length y = rw (length-set x i (get_or x to 0)) (omega (arith, w.long, h.names.long, h.fits)) in
          let front : ranked to (swapped to i x) ≡ ranked to x =
          ranked_alike to (swapped to i x) x
          (λ k p. get_or-set_other y to k (get_or x i 0) 0 (λ z. omega (arith, p, z)) ∙ get_or-set_other x i k (get_or x to 0) 0 (λ z. omega (arith, p, z))) in
          let here : get_or (swapped to i x) to 0 ≡ get_or x₀ i 0 = get_or-set_same y to (get_or x i 0) 0 m ∙ slot_same in
          let next : o ≡ order_of (get_or t (get_or x₀ i 0) free) = e ∙ rw slot_same in
          let row = row_next in
          let rows = w.rows in
          ⊎_elim
          (λ (k : keeps o ≡ true).
          let kept : keeps (order_of (get_or t (get_or x₀ i 0) free)) ≡ true = rw next at k in
          rw (k, add-one to, add-one i, here, front, kept) (cc))
          (λ (k : keeps o ≡ false).
          let gone : keeps (order_of (get_or t (get_or x₀ i 0) free)) ≡ false = rw next at k in
          let still : to + 0 ≡ to = omega arith in
          rw (k, still, add-one i, front, gone) rows)
          (holds_or_not (keeps o))

      pub closing_on : Closing n x₀ (swapped to i x) t (to + from_bool (keeps o)) (i + 1)
      closing_on =
          let y = set x i (get_or x to 0) in
          let long : length y ≡ length x = length-set x i (get_or x to 0) in
          let room : places_a_side ≤ length x = omega (arith, w.long, h.names.long) in
          record {
            behind = ⊎_elim
                (λ (k : keeps o ≡ true). rw k (omega (arith, w.behind)))
                (λ (k : keeps o ≡ false). rw k (omega (arith, w.behind)))
                (holds_or_not (keeps o));
            inside = omega arith;
            long = length-set y to (get_or x i 0) ∙ (long ∙ w.long);
            ahead = λ k p.
                get_or-set_other y to k (get_or x i 0) 0 (λ z. omega (arith, p, z, w.behind))
                ∙ (get_or-set_other x i k (get_or x to 0) 0 (λ z. omega (arith, p, z)) ∙ w.ahead k (omega (arith, p)));
            same = λ j. times_swapped to i x j places_a_side (omega (arith, w.behind, h.fits)) (omega (arith, h.fits)) room ∙ w.same j;
            rows = rows_next;
          }
