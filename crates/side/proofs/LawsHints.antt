-- The rank of the order of a number; and that a row in use which holds it stands at that rank, for the number is on one order alone. Assumes
-- nothing.
use Prim.Native.Nat.{ℕ, zero, suc, ◌-◌, ◌≤◌, ◌<◌}
use mathlib.Core.Bool.{true, false, not, true≢false}
use mathlib.Core.List.{List, [], ◌∷◌}
use mathlib.Core.Logic.{⊎_elim}
use mathlib.Core.Path.{◌≡◌, sym, ap, ◌∙◌}
use lib.Dec.{eqb}
use lib.ListN.{length, get_or}
use native.Mathlib.Omega.{arith}
use borrow.Author.Tests.{eq-eqb, eqb-true, not-true, lt-ltb, le-ltb}
use Rattle.std.specs.Prelude.{None, Some}
use Rattle.basics.specs.Lists.{first_where, any, distinct}
use Rattle.basics.proofs.LawsChoice.{holds_or_not, and_left, and_right, or_neither}
use Rattle.kinds.specs.declared.Number.{Number}
use Rattle.rules.specs.declared.Resting.{Resting}
use Rattle.rules.specs.Book.{unused, numbers}
use Rattle.rules.specs.Commands.{is_number}
use Rattle.side.specs.declared.rows.Row.{Row}
use Rattle.side.specs.Table.{order_of, free, ranked, side, Holds}
use Rattle.side.specs.Looking.{rank_of}
use Rattle.side.proofs.rows.LawsIndex.{ranked_at}
use Rattle.side.proofs.rows.LawsShown.{length_side, order_at}

module _ (number : Number) (s : List Resting) where
  pub rank_found : (i : ℕ) → i < length s → i ≡ first_where (is_number number) s → rank_of number s ≡ Some i
  rank_found i l e = rw (← e, lt-ltb i (length s) l)

  pub rank_nowhere : length s ≤ first_where (is_number number) s → rank_of number s ≡ None
  rank_nowhere l = rw (le-ltb (first_where (is_number number) s) (length s) l)

-- a number that is not among some stands on none of their orders
not_among : (n : ℕ) (s : List Resting) → any (eqb n) (numbers s) ≡ false → (k : ℕ) → k < length s → eqb n (get_or s k unused).number.0 ≡ false
unfolding any
not_among n [] e k l = let z : ⊥ = omega arith in absurd z
not_among n (h ∷ s) e zero l = (or_neither (eqb n h.number.0) (any (eqb n) (numbers s)) e).0
not_among n (h ∷ s) e (suc k) l = not_among n s (or_neither (eqb n h.number.0) (any (eqb n) (numbers s)) e).1 k (omega arith)

-- where no number stands twice, an order of a number is the first of it
only_one : (number : Number) (s : List Resting) → distinct (numbers s) ≡ true → (k : ℕ) → k < length s → is_number number (get_or s k unused) ≡ true
    → k ≡ first_where (is_number number) s
unfolding distinct first_where
only_one number [] d k l e = let z : ⊥ = omega arith in absurd z
only_one number (h ∷ s) d zero l e = rw e
only_one number (h ∷ s) d (suc k) l e =
    let others = not-true (any (eqb h.number.0) (numbers s)) (and_left (not (any (eqb h.number.0) (numbers s))) (distinct (numbers s)) d) in
    ⊎_elim
    (λ (t : is_number number h ≡ true).
    let same : h.number.0 ≡ (get_or s k unused).number.0 = eqb-true h.number.0 number.0 t ∙ sym (eqb-true (get_or s k unused).number.0 number.0 e) in
    absurd (true≢false (sym (eq-eqb h.number.0 (get_or s k unused).number.0 same) ∙ not_among h.number.0 s others k (omega arith))))
    (λ (t : is_number number h ≡ false).
    rw t (ap suc (only_one number s (and_right (not (any (eqb h.number.0) (numbers s))) (distinct (numbers s)) d) k (omega arith) e)))
    (holds_or_not (is_number number h))

-- a row in use, whose place in the index is i
pub hint_leads : (n : ℕ) (x : List ℕ) (t : List Row) → Holds n x t → (number : Number) → distinct (numbers (side n x t)) ≡ true
    → (slot i : ℕ) → get_or x i 0 ≡ slot → i < n → is_number number (order_of (get_or t slot free)) ≡ true → n - 1 - i ≡ first_where (is_number number) (side n x t)
hint_leads n x t holds number d slot i named l its =
    let k = n - 1 - i in
    let back : n - 1 - k ≡ i = omega arith in
    let at : get_or (ranked n x) k 0 ≡ slot = ranked_at n x k (omega arith) ∙ ap (λ (j : ℕ). get_or x j 0) back ∙ named in
    let found : order_of (get_or t slot free) ≡ get_or (side n x t) k unused = rw at at (order_at n x t k (omega arith)) in
    only_one number (side n x t) d k (omega (arith, length_side n x t)) (ap (is_number number) (sym found) ∙ its)
