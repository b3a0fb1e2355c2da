-- Laws of an index of which a byte is moved: the rows that it names in rank order, and so the side that it shows. Assumes nothing.
use Prim.Native.Nat.{ℕ, zero, suc, ◌+◌, ◌-◌, ◌≤◌, ◌<◌}
use mathlib.Core.List.{List}
use mathlib.Core.Path.{◌≡◌, sym, ap, ◌∙◌}
use lib.Dec.{eqb}
use lib.ListN.{length, get_or, set, length-set}
use lib.Seq.{get_or-set_other}
use native.Mathlib.Numerals.{add-one}
use native.Mathlib.Omega.{arith}
use Rattle.std.specs.Prelude.{if◌then◌else◌}
use Rattle.basics.specs.Lists.{times, insert_at, remove_at}
use Rattle.basics.proofs.LawsLists.{length_remove_at}
use Rattle.rules.specs.declared.Resting.{Resting}
use Rattle.rules.specs.Book.{places_a_side}
use Rattle.side.specs.declared.rows.Row.{Row}
use Rattle.side.specs.Table.{row_of, ranked, rotated, side, Names, Holds}
use Rattle.side.proofs.rows.LawsIndex.{length_ranked, ranked_alike, times_insert_at, names_same}
use Rattle.side.proofs.rows.LawsShown.{Shows, side_inserted, side_removed}
use Rattle.side.proofs.shifts.LawsRotated.{inserted_before, inserted_there, inserted_behind, removed_before, insert_at_remove_at, remove_at_insert_at, length_rotated}

-- ── The rows in rank order ──

-- a byte put in comes behind those that stand past it
module _ (at v : ℕ) (s : List ℕ) (p : at ≤ length s) where
  ranked_past : (k : ℕ) → ranked (suc (at + k)) (insert_at at v s) ≡ insert_at k v (ranked (at + k) s)
  unfolding ranked
  ranked_past zero =
      let z : at + 0 ≡ at = omega arith in
      let h = inserted_there 0 at v s p in
      let r = ranked_alike at (insert_at at v s) s (inserted_before 0 at v s p) in
      rw z (cc)
  ranked_past (suc k) =
      let e : at + suc k ≡ suc (at + k) = omega arith in
      let h = inserted_behind 0 at v s p (at + k) (omega arith) in
      let r = ranked_past k in
      rw e (cc)

  ranked_inserted : (m : ℕ) → at ≤ m → ranked (suc m) (insert_at at v s) ≡ insert_at (m - at) v (ranked m s)
  ranked_inserted m l = let e : at + (m - at) ≡ m = omega arith in rw e at (ranked_past (m - at))

module _ (x : List ℕ) (from to : ℕ) (f : from < length x) where
  ranked_raised : to ≤ from → ranked (from + 1) (rotated from to x) ≡ insert_at (from - to) (get_or x from 0) (ranked from x)
  ranked_raised h =
      let m : to ≤ length (remove_at from x) = omega (arith, length_remove_at from x f) in
      ap (λ (n : ℕ). ranked n (rotated from to x)) (add-one from)
      ∙ ranked_inserted to (get_or x from 0) (remove_at from x) m from h
      ∙ ap (λ (js : List ℕ). insert_at (from - to) (get_or x from 0) js) (ranked_alike from (remove_at from x) x (removed_before 0 from x))

  ranked_lowered : from ≤ to → to < length x → ranked to (rotated from to x) ≡ remove_at (to - from) (ranked (suc to) x)
  ranked_lowered h t =
      let long : length (remove_at from x) ≡ length x - 1 = length_remove_at from x f in
      let s = ranked to (remove_at from x) in
      let m : to - from ≤ length s = omega (arith, length_ranked to (remove_at from x)) in
      let e : ranked (suc to) x ≡ insert_at (to - from) (get_or x from 0) s =
      ap (ranked (suc to)) (sym (insert_at_remove_at 0 from x f)) ∙ ranked_inserted from (get_or x from 0) (remove_at from x) (omega arith) to h in
      ranked_alike to (rotated from to x) (remove_at from x) (inserted_before 0 to (get_or x from 0) (remove_at from x) (omega arith))
      ∙ rw e (sym (remove_at_insert_at 0 (to - from) (get_or x from 0) s m))

-- a hint is none of them
ranked_hinted : (x : List ℕ) (n hint v : ℕ) → n ≤ hint → ranked n (set x hint v) ≡ ranked n x
ranked_hinted x n hint v l = ranked_alike n (set x hint v) x (λ i p. get_or-set_other x hint i v 0 (λ z. omega (arith, z, p)))

-- ── What it names ──

module _ (x : List ℕ) (names : Names x) where
  -- whichever byte moved, and wherever to: in and out of a place a byte counts the same
  names_rotated : (from to : ℕ) → from < places_a_side → to < places_a_side → Names (rotated from to x)
  names_rotated from to f t =
      let all = names.long in
      let in_x : from < length x = omega arith in
      let long : length (remove_at from x) ≡ length x - 1 = length_remove_at from x in_x in
      names_same x (rotated from to x) names (length_rotated x from to (omega arith) (omega arith))
      (λ j. times_with j to (omega arith) t ∙ sym (rw (insert_at_remove_at 0 from x) at (times_with j from (omega arith) f)))
    where
      times_with : (j at : ℕ) → at ≤ length (remove_at from x) → at < places_a_side
          → times j (ranked places_a_side (insert_at at (get_or x from 0) (remove_at from x)))
          ≡ (if eqb (get_or x from 0) j then 1 else 0) + times j (ranked (places_a_side - 1) (remove_at from x))
      times_with j at p l =
          ap (times j) (ranked_inserted at (get_or x from 0) (remove_at from x) p (places_a_side - 1) (omega arith))
          ∙ times_insert_at j (places_a_side - 1 - at) (get_or x from 0) (ranked (places_a_side - 1) (remove_at from x))

  names_hinted : (hint v : ℕ) → places_a_side ≤ hint → Names (set x hint v)
  names_hinted hint v l = names_same x (set x hint v) names (length-set x hint v) (λ j. ap (times j) (ranked_hinted x places_a_side hint v l))

-- ── The side that it shows ──

module _ (n : ℕ) (x : List ℕ) (t : List Row) (h : Holds n x t) where
  pub shows_inserted : (at hint : ℕ) (o : Resting) → at ≤ n → n < places_a_side → places_a_side ≤ hint
      → Shows (insert_at at o (side n x t)) (n + 1) (set (rotated n (n - at) x) hint (get_or x n 0)) (set t (get_or x n 0) (row_of o))
  shows_inserted at hint o l p far =
      let x₁ = rotated n (n - at) x in
      let v = get_or x n 0 in
      let all = h.names.long in
      let e : n - (n - at) ≡ at = omega arith in
      side_inserted n x t h (set x₁ hint v) at o p (names_hinted x₁ (names_rotated x h.names n (n - at) p (omega arith)) hint v far)
      (ranked_hinted x₁ (n + 1) hint v (omega arith) ∙ rw e at (ranked_raised x n (n - at) (omega arith) (omega arith)))

  pub shows_removed : (at : ℕ) → at < n → Shows (remove_at at (side n x t)) (n - 1) (rotated (n - 1 - at) (n - 1) x) t
  shows_removed at l =
      let all = h.names.long in
      let fits = h.fits in
      let e : n - 1 - (n - 1 - at) ≡ at = omega arith in
      let m : suc (n - 1) ≡ n = omega arith in
      side_removed n x t h (rotated (n - 1 - at) (n - 1) x) at (names_rotated x h.names (n - 1 - at) (n - 1) (omega arith) (omega arith))
      (rw (e, m) at (ranked_lowered x (n - 1 - at) (n - 1) (omega arith) (omega arith) (omega arith)))
