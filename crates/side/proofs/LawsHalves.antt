-- A new order's place on a side in rank order, by any one order of the side: behind those that it does not rank before, and no further
-- than the first that it does. So each look at an order narrows it. Assumes nothing.
use Prim.Native.Nat.{ℕ, zero, suc, ◌+◌, ◌-◌, ◌*◌, ◌≤◌, ◌<◌}
use mathlib.Core.Bool.{Bool, true, false, true≢false}
use mathlib.Core.List.{List, [], ◌∷◌}
use mathlib.Core.Logic.{⊎_elim}
use mathlib.Core.Path.{◌≡◌, sym, ◌∙◌}
use lib.Dec.{ltb}
use lib.ListN.{length, get_or}
use native.Mathlib.Omega.{arith}
use borrow.Author.Tests.{lt-ltb, le-ltb}
use Rattle.basics.specs.Lists.{first_where, All, none, also}
use Rattle.basics.proofs.LawsChoice.{holds_or_not, lt_or_le}
use Rattle.std.specs.Int.{from_bool}
use Rattle.rules.specs.declared.Resting.{Resting}
use Rattle.rules.specs.Book.{unused, ranks_before, in_rank_order}
use Rattle.rules.proofs.LawsRank.{ranks_transitive, ranked_first, ranked_rest}
use Rattle.side.specs.Table.{level_of}
use Rattle.side.specs.Looking.{Newest}
use Rattle.side.proofs.LawsPlaces.{first_within, first_before}
use Rattle.side.proofs.LawsLevels.{place_by_level, rank_by_level, place_by_level_lem}

-- an order that the new one does not rank before stands in front of its place, on a side in rank order
place_behind : (buy : Bool) (o : Resting) (s : List Resting) → in_rank_order buy s ≡ true → (i : ℕ) → i < length s
    → ranks_before buy o (get_or s i unused) ≡ false → i < first_where (ranks_before buy o) s
unfolding first_where
place_behind buy o [] r i l p = let z : ⊥ = omega arith in absurd z
place_behind buy o (x ∷ s) r zero l p = rw p (omega arith)
place_behind buy o (x ∷ s) r (suc i) l p =
    ⊎_elim
    (λ (t : ranks_before buy o x ≡ true). absurd (true≢false (sym (behind (ranked_first buy x s r) i (omega arith) t) ∙ p)))
    (λ (t : ranks_before buy o x ≡ false). rw t (omega (arith, place_behind buy o s (ranked_rest buy x s r) i (omega arith) p)))
    (holds_or_not (ranks_before buy o x))
  where
    behind : {s : List Resting} → All (λ (y : Resting). ranks_before buy x y ≡ true) s → (i : ℕ) → i < length s → ranks_before buy o x ≡ true
        → ranks_before buy o (get_or s i unused) ≡ true
    behind none i l t = let z : ⊥ = omega arith in absurd z
    behind (also {x = y} q a) zero l t = ranks_transitive buy o x y t q
    behind (also q a) (suc i) l t = behind a i (omega arith) t

-- ── By levels ──

-- how many orders of a side, from the worst on, an order of this level ranks before
abbrev pub passed : List Resting → Bool → ℕ → ℕ
passed s buy level = length s - place_by_level buy level s

module _ (s : List Resting) (buy : Bool) (o : Resting) (ranked : in_rank_order buy s ≡ true) (newest : Newest o s) (level : ℕ) (mine : level ≡ level_of buy o) where
  place_is : place_by_level buy level s ≡ first_where (ranks_before buy o) s
  place_is = rw mine (place_by_level_lem buy o s newest)

  -- one look tells whether the i-th order from the worst is among them
  pub looked : (i : ℕ) → 1 ≤ i → i ≤ length s → ltb level (level_of buy (get_or s (length s - i) unused)) ≡ ltb (i - 1) (passed s buy level)
  looked i some l =
      let k = length s - i in
      let in_side : k < length s = omega arith in
      let test : ltb level (level_of buy (get_or s k unused)) ≡ ranks_before buy o (get_or s k unused) = rw mine (sym (rank_by_level buy o s newest k in_side)) in
      ⊎_elim
      (λ (b : ranks_before buy o (get_or s k unused) ≡ true).
      test ∙ b ∙ sym (lt-ltb (i - 1) (passed s buy level) (omega (arith, place_is, first_before (ranks_before buy o) unused s k in_side b))))
      (λ (b : ranks_before buy o (get_or s k unused) ≡ false).
      test ∙ b ∙ sym (le-ltb (i - 1) (passed s buy level) (omega (arith, place_is, place_behind buy o s ranked k in_side b))))
      (holds_or_not (ranks_before buy o (get_or s k unused)))

  pub all_looked : length s - passed s buy level ≡ first_where (ranks_before buy o) s
  all_looked = omega (arith, place_is, first_within (ranks_before buy o) s)

-- ── How far the looks narrow it ──

-- it lies between low and low + range, which is at most n
abbrev pub Within : ℕ → ℕ → ℕ → ℕ → Type 0
Within n m low range = (low ≤ m) × (m ≤ low + range) × (low + range ≤ n)

module _ (n m low range : ℕ) (within : Within n m low range) where
  -- three looks together
  pub quartered : (q a b c : ℕ) → 1 ≤ q → 4 * q ≤ range + 1
      → a ≡ from_bool (ltb (low + q - 1) m) → b ≡ from_bool (ltb (low + 2 * q - 1) m) → c ≡ from_bool (ltb (low + 3 * q - 1) m)
      → (a + b + c ≤ 3) × Within n m (low + q * (a + b + c)) (range - 3 * q)
  quartered q a b c some l e f g =
      ⊎_elim
      (λ (u : m < low + q).
      rw (e, f, g, le-ltb (low + q - 1) m (omega arith), le-ltb (low + 2 * q - 1) m (omega arith), le-ltb (low + 3 * q - 1) m (omega arith)) (omega arith))
      (λ (u : low + q ≤ m).
      ⊎_elim
      (λ (v : m < low + 2 * q).
      rw (e, f, g, lt-ltb (low + q - 1) m (omega arith), le-ltb (low + 2 * q - 1) m (omega arith), le-ltb (low + 3 * q - 1) m (omega arith)) (omega arith))
      (λ (v : low + 2 * q ≤ m).
      ⊎_elim
      (λ (w : m < low + 3 * q).
      rw (e, f, g, lt-ltb (low + q - 1) m (omega arith), lt-ltb (low + 2 * q - 1) m (omega arith), le-ltb (low + 3 * q - 1) m (omega arith)) (omega arith))
      (λ (w : low + 3 * q ≤ m).
      rw (e, f, g, lt-ltb (low + q - 1) m (omega arith), lt-ltb (low + 2 * q - 1) m (omega arith), lt-ltb (low + 3 * q - 1) m (omega arith)) (omega arith))
      (lt_or_le m (low + 3 * q)))
      (lt_or_le m (low + 2 * q)))
      (lt_or_le m (low + q))

  -- one look
  pub halved : (a : ℕ) → 1 ≤ range → a ≡ from_bool (ltb low m) → Within n m (low + a) (range - 1)
  halved a some e =
      ⊎_elim
      (λ (u : low < m). rw (e, lt-ltb low m u) (omega arith))
      (λ (u : m ≤ low). rw (e, le-ltb low m u) (omega arith))
      (lt_or_le low m)
