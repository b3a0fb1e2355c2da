-- Laws of a cancel on a side, or on two, on which no number stands twice: it takes off the first order of its number, and writes that
-- order's line. Assumes nothing.
use Prim.Native.Nat.{ℕ, suc, ◌+◌, ◌≤◌, ◌<◌}
use mathlib.Core.Bool.{Bool, true, false, not, true≢false}
use mathlib.Core.List.{List, [], ◌∷◌, ◌++◌}
use mathlib.Core.Logic.{⊎_elim}
use mathlib.Core.Path.{◌≡◌, refl, sym, ap, subst, ◌∙◌}
use lib.Dec.{eqb}
use lib.ListN.{length}
use native.Mathlib.Omega.{arith}
use borrow.Author.Tests.{eqb-true, eqb-false, ne_eqb, not-true, lt-ltb, le-ltb}
use Rattle.basics.specs.Lists.{any, distinct, first_where, remove_at, gathered}
use Rattle.basics.proofs.LawsChoice.{holds_or_not, lt_or_le, and_left, and_right, or_neither}
use Rattle.kinds.specs.declared.Number.{Number}
use Rattle.rules.specs.declared.Event.{Event}
use Rattle.rules.specs.declared.Resting.{Resting}
use Rattle.rules.specs.Book.{numbers}
use Rattle.rules.specs.Commands.{is_number, cancel_fate}
use Rattle.rules.specs.Settling.{staying, told}
use Rattle.commands.specs.declared.cancels.Found.{Found}
use Rattle.commands.specs.declared.cancels.Found.TheVariants.{AmongBuys, AmongSells}
use Rattle.commands.specs.Cancels.{among_both, where_is, off_line}
use Rattle.side.specs.Looking.{rank_of}
use Rattle.std.specs.Prelude.{Option, Some, None}

-- ── A search ──

module _ (test : Resting → Bool) where
  -- it passes every order where it finds none, and stops where it finds one
  pub passed_all : (s : List Resting) → length s ≤ first_where test s → any test s ≡ false
  unfolding any first_where
  passed_all [] l = refl
  passed_all (h ∷ s) l =
      ⊎_elim
      (λ (t : test h ≡ true). let m : suc (length s) ≤ 0 = rw t at l in let z : ⊥ = omega (arith, m) in absurd z)
      (λ (t : test h ≡ false).
      let m : suc (length s) ≤ suc (first_where test s) = rw t at l in
      rw t (passed_all s (omega (arith, m))))
      (holds_or_not (test h))

  pub passes_all : (s : List Resting) → any test s ≡ false → length s ≤ first_where test s
  unfolding any first_where
  passes_all [] e = omega arith
  passes_all (h ∷ s) e = let both = or_neither (test h) (any test s) e in rw both.0 (omega (arith, passes_all s both.1))

  pub stopped : (s : List Resting) → first_where test s < length s → any test s ≡ true
  stopped s l =
      ⊎_elim
      (λ (t : any test s ≡ true). t)
      (λ (t : any test s ≡ false). let z : ⊥ = omega (arith, passes_all s t) in absurd z)
      (holds_or_not (any test s))

-- ── By a number ──

module _ (of : Number) where
  -- no order has it
  pub staying_none : (s : List Resting) → any (is_number of) s ≡ false → staying (cancel_fate of) s ≡ s
  unfolding any staying gathered
  staying_none [] e = refl
  staying_none (h ∷ s) e =
      let both = or_neither (is_number of h) (any (is_number of) s) e in
      rw both.0 (ap (λ (r : List Resting). h ∷ r) (staying_none s both.1))

  pub told_none : (s : List Resting) → any (is_number of) s ≡ false → told (cancel_fate of) s ≡ []
  unfolding any told gathered
  told_none [] e = refl
  told_none (h ∷ s) e = let both = or_neither (is_number of h) (any (is_number of) s) e in rw both.0 (told_none s both.1)

  -- an order has it, and no other
  others : (n : ℕ) (s : List Resting) → n ≡ of.0 → any (eqb n) (numbers s) ≡ false → any (is_number of) s ≡ false
  unfolding any
  others n [] e d = refl
  others n (h ∷ s) e d =
      let both = or_neither (eqb n h.number.0) (any (eqb n) (numbers s)) d in
      let apart = eqb-false n h.number.0 both.0 in
      rw (ne_eqb h.number.0 of.0 (λ (z : h.number.0 ≡ of.0). apart (e ∙ sym z))) (others n s e both.1)

  none_behind : (h : Resting) (s : List Resting) → distinct (numbers (h ∷ s)) ≡ true → is_number of h ≡ true → any (is_number of) s ≡ false
  unfolding distinct
  none_behind h s d t =
      let first = and_left (not (any (eqb h.number.0) (numbers s))) (distinct (numbers s)) d in
      others h.number.0 s (eqb-true h.number.0 of.0 t) (not-true (any (eqb h.number.0) (numbers s)) first)

  distinct_rest : (h : Resting) (s : List Resting) → distinct (numbers (h ∷ s)) ≡ true → distinct (numbers s) ≡ true
  unfolding distinct
  distinct_rest h s d = and_right (not (any (eqb h.number.0) (numbers s))) (distinct (numbers s)) d

  pub staying_one : (s : List Resting) → distinct (numbers s) ≡ true → any (is_number of) s ≡ true
      → staying (cancel_fate of) s ≡ remove_at (first_where (is_number of) s) s
  unfolding any staying gathered first_where
  staying_one [] d e = absurd (true≢false (sym e))
  staying_one (h ∷ s) d e =
      ⊎_elim
      (λ (t : is_number of h ≡ true). rw t (staying_none s (none_behind h s d t)))
      (λ (t : is_number of h ≡ false).
      let m : any (is_number of) s ≡ true = rw t at e in
      let k = first_where (is_number of) s in
      let more : suc k + 1 ≡ suc (k + 1) = omega arith in
      rw (t, more) (ap (λ (r : List Resting). h ∷ r) (staying_one s (distinct_rest h s d) m)))
      (holds_or_not (is_number of h))

  pub told_one : (s : List Resting) → distinct (numbers s) ≡ true → any (is_number of) s ≡ true
      → told (cancel_fate of) s ≡ off_line (first_where (is_number of) s) s ∷ []
  unfolding any told gathered first_where
  told_one [] d e = absurd (true≢false (sym e))
  told_one (h ∷ s) d e =
      ⊎_elim
      (λ (t : is_number of h ≡ true). rw t (ap (λ (es : List Event). off_line 0 (h ∷ s) ∷ es) (told_none s (none_behind h s d t))))
      (λ (t : is_number of h ≡ false). let m : any (is_number of) s ≡ true = rw t at e in rw t (told_one s (distinct_rest h s d) m))
      (holds_or_not (is_number of h))

  -- a number on one of two sides is not on the other
  any_second : (s u : List Resting) → any (is_number of) (s ++ u) ≡ false → any (is_number of) u ≡ false
  unfolding any
  any_second [] u e = e
  any_second (h ∷ s) u e = any_second s u (or_neither (is_number of h) (any (is_number of) (s ++ u)) e).1

  pub on_first_side : (s u : List Resting) → distinct (numbers (s ++ u)) ≡ true → any (is_number of) s ≡ true → any (is_number of) u ≡ false
  unfolding any
  on_first_side [] u d e = absurd (true≢false (sym e))
  on_first_side (h ∷ s) u d e =
      ⊎_elim
      (λ (t : is_number of h ≡ true). any_second s u (none_behind h (s ++ u) d t))
      (λ (t : is_number of h ≡ false). let m : any (is_number of) s ≡ true = rw t at e in on_first_side s u (distinct_rest h (s ++ u) d) m)
      (holds_or_not (is_number of h))

  pub on_second_side : (s u : List Resting) → distinct (numbers (s ++ u)) ≡ true → any (is_number of) u ≡ true → any (is_number of) s ≡ false
  on_second_side s u d e =
      ⊎_elim
      (λ (t : any (is_number of) s ≡ true). absurd (true≢false (sym e ∙ on_first_side s u d t)))
      (λ (t : any (is_number of) s ≡ false). t)
      (holds_or_not (any (is_number of) s))

-- ── The numbers of each side stand once ──

any_front : (n : ℕ) (s u : List Resting) → any (eqb n) (numbers (s ++ u)) ≡ false → any (eqb n) (numbers s) ≡ false
unfolding any
any_front n [] u e = refl
any_front n (h ∷ s) u e =
    let both = or_neither (eqb n h.number.0) (any (eqb n) (numbers (s ++ u))) e in
    rw both.0 (any_front n s u both.1)

pub first_once : (s u : List Resting) → distinct (numbers (s ++ u)) ≡ true → distinct (numbers s) ≡ true
unfolding distinct
first_once [] u d = refl
first_once (h ∷ s) u d =
    let other = not-true (any (eqb h.number.0) (numbers (s ++ u))) (and_left (not (any (eqb h.number.0) (numbers (s ++ u)))) (distinct (numbers (s ++ u))) d) in
    rw (any_front h.number.0 s u other)
    (first_once s u (and_right (not (any (eqb h.number.0) (numbers (s ++ u)))) (distinct (numbers (s ++ u))) d))

pub second_once : (s u : List Resting) → distinct (numbers (s ++ u)) ≡ true → distinct (numbers u) ≡ true
unfolding distinct
second_once [] u d = d
second_once (h ∷ s) u d = second_once s u (and_right (not (any (eqb h.number.0) (numbers (s ++ u)))) (distinct (numbers (s ++ u))) d)

-- ── The rank of a number ──

module _ (of : Number) (s : List Resting) where
  pub ranked : (rank : ℕ) → rank_of of s ≡ Some rank → (rank ≡ first_where (is_number of) s) × (rank < length s)
  ranked rank e =
      ⊎_elim
      (λ (l : first_where (is_number of) s < length s).
      let is : Some (first_where (is_number of) s) ≡ Some rank = rw (lt-ltb (first_where (is_number of) s) (length s) l) at e in
      let same : first_where (is_number of) s ≡ rank = cc in
      (sym same, omega (arith, same, l)))
      (λ (l : length s ≤ first_where (is_number of) s).
      let is : None ≡ Some rank = rw (le-ltb (first_where (is_number of) s) (length s) l) at e in
      absurd (never is))
      (lt_or_le (first_where (is_number of) s) (length s))
    where
      never : {r : ℕ} → ◌≡◌ {A = Option ℕ} None (Some r) → ⊥
      never z = cc

  pub unranked : rank_of of s ≡ None → any (is_number of) s ≡ false
  unranked e =
      ⊎_elim
      (λ (l : first_where (is_number of) s < length s).
      let is : Some (first_where (is_number of) s) ≡ None = rw (lt-ltb (first_where (is_number of) s) (length s) l) at e in
      absurd (never is))
      (λ (l : length s ≤ first_where (is_number of) s). passed_all (is_number of) s l)
      (lt_or_le (first_where (is_number of) s) (length s))
    where
      never : {r : ℕ} → ◌≡◌ {A = Option ℕ} (Some r) None → ⊥
      never z = cc

  pub none_ranked : any (is_number of) s ≡ false → rank_of of s ≡ None
  none_ranked e = rw (le-ltb (first_where (is_number of) s) (length s) (passes_all (is_number of) s e))

-- ── Where the order of a number rests ──

module _ (of : Number) (buys sells : List Resting) where
  -- what was found is so
  Is : Option Found → Type 0
  Is (Some (AmongBuys rank)) = rank_of of buys ≡ Some rank
  Is (Some (AmongSells rank)) = rank_of of sells ≡ Some rank
  Is None = (any (is_number of) buys ≡ false) × (any (is_number of) sells ≡ false)

  where_is_lem : (bought sold : Option ℕ) → rank_of of buys ≡ bought → rank_of of sells ≡ sold → Is (among_both bought sold)
  unfolding Is
  where_is_lem (Some rank) sold e f = e
  where_is_lem None (Some rank) e f = f
  where_is_lem None None e f = (unranked of buys e, unranked of sells f)

  module _ (found : Option Found) (is : found ≡ where_is of buys sells) where
    found_is : Is found
    found_is = subst Is (sym is) (where_is_lem (rank_of of buys) (rank_of of sells) refl refl)

    pub found_buy : (rank : ℕ) → found ≡ Some (AmongBuys rank) → rank_of of buys ≡ Some rank
    unfolding Is
    found_buy rank e = subst Is e found_is

    pub found_sell : (rank : ℕ) → found ≡ Some (AmongSells rank) → rank_of of sells ≡ Some rank
    unfolding Is
    found_sell rank e = subst Is e found_is

    pub found_none : found ≡ None → (any (is_number of) buys ≡ false) × (any (is_number of) sells ≡ false)
    unfolding Is
    found_none e = subst Is e found_is
