-- Laws of a side in an index and a table of rows: its orders, and what becomes of it where the index is turned or a row is put. Assumes
-- nothing.
use Prim.Native.Nat.{ℕ, zero, suc, ◌+◌, ◌-◌, ◌≤◌, ◌<◌}
use mathlib.Core.Bool.{Bool, true, false}
use mathlib.Core.List.{List, [], ◌∷◌, map}
use mathlib.Core.Logic.{⊎_elim}
use mathlib.Core.Path.{◌≡◌, refl, sym, ap, ◌∙◌}
use lib.Dec.{eqb}
use lib.ListN.{length, get_or, set, drop, length-map, length-set}
use lib.Seq.{get_or-set_same, get_or-set_other}
use Rattle.std.proofs.lemmas.List.{get_or-map}
use native.Mathlib.Omega.{arith}
use borrow.Author.Tests.{eq-eqb, eqb-false}
use Rattle.basics.specs.Lists.{times, insert_at, remove_at}
use Rattle.basics.proofs.LawsChoice.{holds_or_not}
use Rattle.basics.proofs.LawsLists.{map_drop, map_set, map_insert_at, map_remove_at}
use Rattle.rules.specs.declared.Resting.{Resting}
use Rattle.rules.specs.Book.{places_a_side, unused}
use Rattle.side.specs.declared.rows.Row.{Row}
use Rattle.side.specs.declared.table.Table.TheInside.{Inside}
use Rattle.side.specs.Table.{order_of, row_of, level_of, level_in, free, ranked, rows_at, side, Names, Holds}
use Rattle.side.proofs.rows.LawsTable.{orders_rows}
use Rattle.side.proofs.rows.LawsIndex.{length_ranked, ranked_at, ranked_drop, names_below, ranked_once, next_free, times_there}

-- ── The orders of a side ──

pub length_side : (n : ℕ) (x : List ℕ) (t : List Row) → length (side n x t) ≡ n
length_side n x t = length-map (rows_at t (ranked n x)) order_of ∙ length-map (ranked n x) (λ (j : ℕ). get_or t j free) ∙ length_ranked n x

-- how many orders a table holds is the length of its side
pub length_is : (t : Inside) {s : List Resting} → side t.held t.index t.rows ≡ s → t.held ≡ length s
length_is t e = sym (length_side t.held t.index t.rows) ∙ ap length e

module _ (n : ℕ) (x : List ℕ) (t : List Row) (i : ℕ) (l : i < n) where
  row_at : get_or (rows_at t (ranked n x)) i free ≡ get_or t (get_or (ranked n x) i 0) free
  row_at = get_or-map (λ (j : ℕ). get_or t j free) (ranked n x) i 0 free (omega (arith, length_ranked n x))

  -- the order at a rank stands in the row that the index names there
  pub order_at : order_of (get_or t (get_or (ranked n x) i 0) free) ≡ get_or (side n x t) i unused
  order_at =
      let m : i < length (rows_at t (ranked n x)) = omega (arith, length-map (ranked n x) (λ (j : ℕ). get_or t j free), length_ranked n x) in
      ap order_of (sym row_at) ∙ sym (get_or-map order_of (rows_at t (ranked n x)) i free unused m)

  -- that row is the order's row, so it has the order's level
  pub level_at_lem : Holds n x t → (buy : Bool) → level_in buy (get_or t (get_or (ranked n x) i 0) free) ≡ level_of buy (get_or (side n x t) i unused)
  level_at_lem h buy =
      let m : i < length (side n x t) = omega (arith, length_side n x t) in
      let r : get_or t (get_or (ranked n x) i 0) free ≡ row_of (get_or (side n x t) i unused) =
      sym row_at ∙ ap (λ (rs : List Row). get_or rs i free) h.rows ∙ get_or-map row_of (side n x t) i unused free m in
      ap (level_in buy) r ∙ by_side buy (get_or (side n x t) i unused)
    where
      by_side : (b : Bool) (o : Resting) → level_in b (row_of o) ≡ level_of b o
      by_side true o = refl
      by_side false o = refl

-- ── A side that is shown ──

-- an index and a table hold n orders, and they are these
pub record Shows (s : List Resting) (n : ℕ) (x : List ℕ) (t : List Row) : Type 0 where
  pub holds : Holds n x t
  pub is : side n x t ≡ s

-- rows that are those of some orders show them
pub shows_rows : (s : List Resting) (x : List ℕ) (t : List Row) (n : ℕ) → n ≤ places_a_side → length t ≡ places_a_side → Names x
    → rows_at t (ranked n x) ≡ map row_of s → Shows s n x t
shows_rows s x t n fits all names rows =
    let is : side n x t ≡ s = ap (map order_of) rows ∙ orders_rows s in
    record {
      holds = record { fits = fits; all = all; names = names; rows = rows ∙ ap (map row_of) (sym is) };
      is = is;
    }

-- ── Rows that are put ──

-- a row that is not named
put_free : (v : ℕ) (r : Row) (t : List Row) (js : List ℕ) → times v js ≡ 0 → rows_at (set t v r) js ≡ rows_at t js
unfolding times
put_free v r t [] z = refl
put_free v r t (j ∷ js) z =
    ⊎_elim
    (λ (e : eqb j v ≡ true). let y : ⊥ = omega (arith, rw e at z) in absurd y)
    (λ (e : eqb j v ≡ false).
    let ne = eqb-false j v e in
    let h = put_free v r t js (omega (arith, rw e at z)) in
    let g : get_or (set t v r) j free ≡ get_or t j free = get_or-set_other t v j r free ne in
    rw (g, h))
    (holds_or_not (eqb j v))

-- a row that is named once
put_named : (r : Row) (t : List Row) (js : List ℕ) (i : ℕ) → i < length js → get_or js i 0 < length t → times (get_or js i 0) js ≤ 1
    → rows_at (set t (get_or js i 0) r) js ≡ set (rows_at t js) i r
unfolding times
put_named r t [] i l b o = let z : ⊥ = omega arith in absurd z
put_named r t (j ∷ js) zero l b o =
    let e = eq-eqb j j refl in
    let h = put_free j r t js (omega (arith, rw e at o)) in
    let g : get_or (set t j r) j free ≡ r = get_or-set_same t j r free b in
    rw (g, h)
put_named r t (j ∷ js) (suc i) l b o =
    let v = get_or js i 0 in
    ⊎_elim
    (λ (e : eqb j v ≡ true). let z : ⊥ = omega (arith, rw e at o, times_there i js (omega arith)) in absurd z)
    (λ (e : eqb j v ≡ false).
    let ne = eqb-false j v e in
    let h = put_named r t js i (omega arith) b (omega (arith, rw e at o)) in
    let g : get_or (set t v r) j free ≡ get_or t j free = get_or-set_other t v j r free ne in
    rw (g, h))
    (holds_or_not (eqb j v))

-- ── What becomes of a side ──

module _ (n : ℕ) (x : List ℕ) (t : List Row) (h : Holds n x t) where
  -- one more order, in the row of the next place, at rank `at`
  pub side_inserted : (x' : List ℕ) (at : ℕ) (o : Resting) → n < places_a_side → Names x' → ranked (n + 1) x' ≡ insert_at at (get_or x n 0) (ranked n x)
      → Shows (insert_at at o (side n x t)) (n + 1) x' (set t (get_or x n 0) (row_of o))
  side_inserted x' at o p names e =
      let v = get_or x n 0 in
      let t' = set t v (row_of o) in
      let b : v < length t = omega (arith, h.all, names_below x h.names n p) in
      let new : get_or t' v free ≡ row_of o = get_or-set_same t v (row_of o) free b in
      let old : rows_at t' (ranked n x) ≡ map row_of (side n x t) = put_free v (row_of o) t (ranked n x) (next_free x h.names n p) ∙ h.rows in
      shows_rows (insert_at at o (side n x t)) x' t' (n + 1) (omega arith) (length-set t v (row_of o) ∙ h.all) names
      (ap (rows_at t') e ∙ map_insert_at (λ (j : ℕ). get_or t' j free) at v (ranked n x) ∙ rw (new, old) (sym (map_insert_at row_of at o (side n x t))))

  -- one order fewer
  pub side_removed : (x' : List ℕ) (at : ℕ) → Names x' → ranked (n - 1) x' ≡ remove_at at (ranked n x) → Shows (remove_at at (side n x t)) (n - 1) x' t
  side_removed x' at names e =
      let f = h.fits in
      shows_rows (remove_at at (side n x t)) x' t (n - 1) (omega arith) h.all names
      (ap (rows_at t) e ∙ map_remove_at (λ (j : ℕ). get_or t j free) at (ranked n x) ∙ (ap (λ (rs : List Row). remove_at at rs) h.rows ∙ sym (map_remove_at row_of at (side n x t))))

  -- another order in the place of one
  pub side_put : (at : ℕ) (o : Resting) → at < n → Shows (set (side n x t) at o) n x (set t (get_or (ranked n x) at 0) (row_of o))
  side_put at o l =
      let v = get_or (ranked n x) at 0 in
      let f = h.fits in
      let m : at < length (ranked n x) = omega (arith, length_ranked n x) in
      let b : v < length t = rw (ranked_at n x at l) (omega (arith, h.all, names_below x h.names (n - 1 - at) (omega arith))) in
      shows_rows (set (side n x t) at o) x (set t v (row_of o)) n f (length-set t v (row_of o) ∙ h.all) h.names
      (put_named (row_of o) t (ranked n x) at m b (ranked_once x h.names n f v) ∙ (ap (λ (rs : List Row). set rs at (row_of o)) h.rows ∙ sym (map_set row_of (side n x t) at o)))

  -- the best k left out: nothing moves
  pub side_dropped : (k : ℕ) → k ≤ n → Shows (drop k (side n x t)) (n - k) x t
  side_dropped k l =
      let f = h.fits in
      shows_rows (drop k (side n x t)) x t (n - k) (omega arith) h.all h.names
      (ap (rows_at t) (sym (ranked_drop n x k l)) ∙ map_drop (λ (j : ℕ). get_or t j free) k (ranked n x) ∙ (ap (drop k) h.rows ∙ sym (map_drop row_of k (side n x t))))

  -- no order
  pub side_cleared : Shows [] 0 x t
  unfolding ranked
  side_cleared = shows_rows [] x t 0 (omega arith) h.all h.names refl
