-- Of the newest order of a side price and display decide the rank, and so its level. Assumes nothing.
use Prim.Native.Nat.{ℕ, zero, suc, ◌+◌, ◌-◌, ◌*◌, ◌%◌, ◌≤◌, ◌<◌}
use mathlib.Core.Bool.{Bool, true, false, not, beq}
use mathlib.Core.List.{List}
use mathlib.Core.Logic.{⊎_elim}
use mathlib.Core.Path.{◌≡◌, refl, sym, ◌∙◌}
use lib.Dec.{eqb, ltb}
use lib.ListN.{length, get_or}
use native.Mathlib.Nat.{mod-eq_of_lt}
use native.Mathlib.Omega.{arith}
use borrow.Author.Tests.{eq-eqb, ne_eqb, eqb-true, eqb-false, ltb-true, lt-ltb, le-ltb}
use Rattle.std.specs.Prelude.{if◌then◌else◌}
use Rattle.basics.specs.Lists.{first_where, All, none, also}
use Rattle.basics.proofs.LawsChoice.{holds_or_not, lt_or_le}
use Rattle.std.specs.Int.{from_bool}
use Rattle.rules.specs.declared.Resting.{Resting}
use Rattle.rules.specs.declared.Stamp.{Stamp}
use Rattle.rules.specs.Book.{unused, earlier, ranks_before}
use Rattle.side.specs.Table.{level_of}
use Rattle.side.proofs.rows.LawsTable.{flag_small}
use Rattle.side.specs.Looking.{price_bound, Older, Newest}

-- the later of two stamps is not the earlier one
later : (s t : Stamp) → earlier s t ≡ true → earlier t s ≡ false
later s t e =
    ⊎_elim
    (λ (u : eqb s.command.0 t.command.0 ≡ true).
    let same = eqb-true s.command.0 t.command.0 u in
    let p : s.place < t.place = ltb-true s.place t.place (rw u at e) in
    rw (eq-eqb t.command.0 s.command.0 (sym same)) (le-ltb t.place s.place (omega arith)))
    (λ (u : eqb s.command.0 t.command.0 ≡ false).
    let p : s.command.0 < t.command.0 = ltb-true s.command.0 t.command.0 (rw u at e) in
    rw (ne_eqb t.command.0 s.command.0 (λ z. omega (arith, z))) (le-ltb t.command.0 s.command.0 (omega arith)))
    (holds_or_not (eqb s.command.0 t.command.0))

-- two tests that hold alike
same_test : (a b c d : ℕ) → (a < b → c < d) → (b ≤ a → d ≤ c) → ltb a b ≡ ltb c d
same_test a b c d f g = ⊎_elim (λ l. lt-ltb a b l ∙ sym (lt-ltb c d (f l))) (λ l. le-ltb a b l ∙ sym (le-ltb c d (g l))) (lt_or_le a b)

-- the level of a price and a choice
abbrev level_at : Bool → ℕ → Bool → ℕ
level_at buy p d = if buy then 4294967295 - (p * 2 + from_bool d) else p * 2 + from_bool (not d)

-- the better price has the lower level, and at one price what is displayed
by_level : (buy : Bool) (p q : ℕ) (d e : Bool) → p < price_bound → q < price_bound
    → (if not (eqb p q) then if buy then ltb q p else ltb p q else if not (beq d e) then d else false) ≡ ltb (level_at buy p d) (level_at buy q e)
by_level buy p q d e l m =
    ⊎_elim
    (λ (u : eqb p q ≡ true). let same = eqb-true p q u in rw (u, same) (at_one_lem buy d e))
    (λ (u : eqb p q ≡ false). rw u (apart buy (eqb-false p q u)))
    (holds_or_not (eqb p q))
  where
    at_one_lem : (buy d e : Bool) → (if not (beq d e) then d else false) ≡ ltb (level_at buy q d) (level_at buy q e)
    at_one_lem true true true = sym (le-ltb (level_at true q true) (level_at true q true) (omega arith))
    at_one_lem true true false = sym (lt-ltb (level_at true q true) (level_at true q false) (omega arith))
    at_one_lem true false true = sym (le-ltb (level_at true q false) (level_at true q true) (omega arith))
    at_one_lem true false false = sym (le-ltb (level_at true q false) (level_at true q false) (omega arith))
    at_one_lem false true true = sym (le-ltb (level_at false q true) (level_at false q true) (omega arith))
    at_one_lem false true false = sym (lt-ltb (level_at false q true) (level_at false q false) (omega arith))
    at_one_lem false false true = sym (le-ltb (level_at false q false) (level_at false q true) (omega arith))
    at_one_lem false false false = sym (le-ltb (level_at false q false) (level_at false q false) (omega arith))

    apart : (buy : Bool) → (p ≡ q → ⊥) → (if buy then ltb q p else ltb p q) ≡ ltb (level_at buy p d) (level_at buy q e)
    apart true ne =
        let f = flag_small d in
        let g = flag_small e in
        same_test q p (level_at true p d) (level_at true q e) (λ t. omega (arith, t)) (λ t. omega (arith, t, ne))
    apart false ne =
        let f = flag_small (not d) in
        let g = flag_small (not e) in
        same_test p q (level_at false p d) (level_at false q e) (λ t. omega (arith, t)) (λ t. omega (arith, t, ne))

-- ── The newest order's place ──

-- the place of an order by its level
unfoldable pub place_by_level : Bool → ℕ → List Resting → ℕ
place_by_level buy level s = first_where (λ (h : Resting). ltb level (level_of buy h)) s

module _ (buy : Bool) (o : Resting) where
  newest_by_level : o.price.0 < price_bound → (h : Resting) → Older o.stamp h → ranks_before buy o h ≡ ltb (level_of buy o) (level_of buy h)
  unfolding ranks_before
  newest_by_level priced h older =
      let p : o.price.0 % price_bound ≡ o.price.0 = mod-eq_of_lt priced in
      let q : h.price.0 % price_bound ≡ h.price.0 = mod-eq_of_lt older.priced in
      rw (later h.stamp o.stamp older.stamped, p, q) (by_level buy o.price.0 h.price.0 o.displayed h.displayed priced older.priced)

  pub rank_by_level : (s : List Resting) → Newest o s → (i : ℕ) → i < length s
      → ranks_before buy o (get_or s i unused) ≡ ltb (level_of buy o) (level_of buy (get_or s i unused))
  rank_by_level s n i l = at n.others i l
    where
      at : {s : List Resting} → All (Older o.stamp) s → (i : ℕ) → i < length s
          → ranks_before buy o (get_or s i unused) ≡ ltb (level_of buy o) (level_of buy (get_or s i unused))
      at none i l = let z : ⊥ = omega arith in absurd z
      at (also {x = h} older a) zero l = newest_by_level n.priced h older
      at (also older a) (suc i) l = at a i (omega arith)

  pub place_by_level_lem : (s : List Resting) → Newest o s → place_by_level buy (level_of buy o) s ≡ first_where (ranks_before buy o) s
  unfolding place_by_level first_where
  place_by_level_lem s n = all n.others
    where
      all : {s : List Resting} → All (Older o.stamp) s → first_where (λ (h : Resting). ltb (level_of buy o) (level_of buy h)) s ≡ first_where (ranks_before buy o) s
      all none = refl
      all (also {x = h} older a) = let e = newest_by_level n.priced h older in let r = all a in rw (e, r)
