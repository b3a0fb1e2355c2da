-- Demand 3, the sums of one command: what executing, cancelling, setting anew and resting do to the shares that a side holds of an order.
-- Assumes nothing.
use Prim.Native.Nat.{ℕ, ◌+◌, ◌-◌, ◌≤◌}
use mathlib.Core.Bool.{Bool, true, false, true≢false}
use mathlib.Core.List.{List, [], ◌∷◌, ◌++◌}
use mathlib.Core.Logic.{◌≢◌, ⊎_elim}
use mathlib.Core.Path.{◌≡◌, refl, sym, ap, ◌∙◌}
use lib.Dec.{eqb}
use native.Mathlib.Omega.{arith}
use borrow.Author.Tests.{eq-eqb, ne_eqb, eqb-true, eqb-false}
use Rattle.basics.specs.Lists.{total, sum_of, gathered, Each, empty, with}
use Rattle.basics.proofs.LawsChoice.{holds_or_not}
use Rattle.basics.proofs.LawsLists.{gathered_sum}
use Rattle.kinds.specs.declared.HalfCents.{HalfCents}
use Rattle.kinds.specs.declared.Number.{Number}
use Rattle.rules.specs.declared.Away.{Away}
use Rattle.rules.specs.declared.Ending.{Ending}
use Rattle.rules.specs.declared.Ending.TheVariants.{Filled, Rests, Cancels}
use Rattle.rules.specs.declared.Order.{Order}
use Rattle.rules.specs.declared.Resting.{Resting}
use Rattle.rules.specs.Book.{shares_left}
use Rattle.rules.specs.Holdings.{Holding, size, holdings, executions, after}
use Rattle.rules.specs.Instructions.{ioc, fok, has}
use Rattle.rules.specs.declared.Fate.{Fate}
use Rattle.rules.specs.declared.Fate.TheVariants.{Stays, IsCancelled, IsSet}
use Rattle.rules.specs.Settling.{told_by, told, settled_side}
use Rattle.rules.specs.Working.{Met, buying, takings, remainder, ending_with, ending, last_line, floor_of, remainder_of, with_remainder}
use Rattle.rules.proofs.LawsCommands.{IfSet, SameOrder}
use Rattle.rules.proofs.LawsFloors.{shown_at_most}
use Rattle.rules.proofs.LawsHoldings.{each_parts, counted_as, taken_from_holdings, held_as, after_sum}
use Rattle.soundness.proofs.LawsEndings.{chosen, sought_is}
use Rattle.soundness.proofs.LawsInsert.{added_insert, added_sum}
use Rattle.soundness.proofs.LawsSettled.{left_by, settled_sum}
use Rattle.demands.specs.Told.{counted_if, executed_in, cancelled_by, cancelled_in, rests_on}

-- ── What is counted under a number ──

pub counted_same : (n m : Number) (k : ℕ) → n.0 ≡ m.0 → counted_if n m k ≡ k
counted_same n m k e = rw (eq-eqb n.0 m.0 e) refl

pub counted_other : (n m : Number) (k : ℕ) → n.0 ≢ m.0 → counted_if n m k ≡ 0
counted_other n m k e = rw (ne_eqb n.0 m.0 e) refl

counted_add : (n m : Number) (j k : ℕ) → counted_if n m (j + k) ≡ counted_if n m j + counted_if n m k
counted_add n m j k =
    ⊎_elim
    (λ (t : eqb n.0 m.0 ≡ true). rw t refl)
    (λ (t : eqb n.0 m.0 ≡ false). rw t (omega arith))
    (holds_or_not (eqb n.0 m.0))

pub counted_none : (n m : Number) (k : ℕ) → k ≡ 0 → counted_if n m k ≡ 0
counted_none n m k z =
    ⊎_elim
    (λ (t : eqb n.0 m.0 ≡ true). rw t z)
    (λ (t : eqb n.0 m.0 ≡ false). rw t refl)
    (holds_or_not (eqb n.0 m.0))

pub counted_split : (n m : Number) (j k : ℕ) → j ≤ k → counted_if n m k ≡ counted_if n m j + counted_if n m (k - j)
counted_split n m j k l =
    let e : k ≡ j + (k - j) = omega arith in
    ap (counted_if n m) e ∙ counted_add n m j (k - j)

-- ── What is executed ──

-- none gives more than it holds
abbrev pub NoMore : Holding → ℕ → Type 0
NoMore h t = t ≤ size h

-- the rules' own words for what is counted under a number
pub counted_as_lem : (n : Number) (o : Resting) (k : ℕ) → counted_as n.0 o k ≡ counted_if n o.number k
counted_as_lem n o k =
    ⊎_elim
    (λ (t : eqb n.0 o.number.0 ≡ true). rw (t, eq-eqb o.number.0 n.0 (sym (eqb-true n.0 o.number.0 t))) refl)
    (λ (t : eqb n.0 o.number.0 ≡ false).
    rw (t, ne_eqb o.number.0 n.0 (λ (e : o.number.0 ≡ n.0). eqb-false n.0 o.number.0 t (sym e))) refl)
    (holds_or_not (eqb n.0 o.number.0))

held_rests : (n : Number) (s : List Resting) → held_as n.0 s ≡ rests_on n s
unfolding sum_of
held_rests n [] = refl
held_rests n (h ∷ s) = omega (arith, counted_as_lem n h (shares_left h), held_rests n s)

-- what executions say of n, as the incoming order and as a resting one ..
executed_taken : (n m : Number) (price : Resting → HalfCents) {hs : List Holding} {ts : List ℕ} → Each NoMore hs ts
    → executed_in n (executions m price hs ts) ≡ counted_if n m (total ts) + taken_from_holdings n.0 hs ts
unfolding executions taken_from_holdings sum_of total
executed_taken n m price empty = omega (arith, counted_none n m 0 refl)
executed_taken n m price (with {x = h} {y = t} {u = ts} l e) =
    let ih = executed_taken n m price e in
    let a = counted_add n m t (total ts) in
    let b = counted_as_lem n h.of t in
    ⊎_elim
    (λ (z : eqb t 0 ≡ true).
    let z' : t ≡ 0 = eqb-true t 0 z in
    let c = counted_none n m t z' in
    let d = counted_none n h.of.number t z' in
    rw z (omega (arith, ih, a, b, c, d)))
    (λ (z : eqb t 0 ≡ false). rw z (omega (arith, ih, a, b)))
    (holds_or_not (eqb t 0))

-- .. with what the side still holds of it
pub executions_sum : (n m : Number) (price : Resting → HalfCents) (s : List Resting) (ts : List ℕ) → Each NoMore (holdings s) ts
    → executed_in n (executions m price (holdings s) ts) + rests_on n (after s ts) ≡ counted_if n m (total ts) + rests_on n s
executions_sum n m price s ts e =
    omega (
      arith,
      executed_taken n m price e,
      after_sum n.0 s ts (each_parts s ts e),
      held_rests n s,
      held_rests n (after s ts),
    )

-- .. and they cancel nothing
pub executions_cancel_none : (n m : Number) (price : Resting → HalfCents) (s : List Holding) (ts : List ℕ)
    → cancelled_in n (executions m price s ts) ≡ 0
unfolding executions sum_of
executions_cancel_none n m price [] ts = refl
executions_cancel_none n m price (h ∷ s) [] = refl
executions_cancel_none n m price (h ∷ s) (t ∷ ts) =
    ⊎_elim
    (λ (z : eqb t 0 ≡ true). rw z (executions_cancel_none n m price s ts))
    (λ (z : eqb t 0 ≡ false). rw z (omega (arith, executions_cancel_none n m price s ts)))
    (holds_or_not (eqb t 0))

-- ── What is cancelled and what is set anew ──

-- whoever is cancelled is told with its shares; whoever stays or is set anew keeps them
pub told_sum : (n m : Number) (k : ℕ) (buy : Bool) (fate : Resting → Fate) → ((h : Resting) → IfSet (SameOrder h) (fate h)) → (s : List Resting)
    → cancelled_in n (told fate s) + rests_on n (settled_side m k buy fate s) ≡ rests_on n s
unfolding told sum_of
told_sum n m k buy fate same s =
    let cut : Resting → ℕ = λ h. cancelled_in n (told_by (fate h) h) in
    omega (
      arith,
      gathered_sum (λ (h : Resting). told_by (fate h) h) (cancelled_by n) s,
      settled_sum (λ (h : Resting). counted_if n h.number (shares_left h)) cut (λ h anew. refl) fate (λ h. by_fate (fate h) h (same h)) m k buy s,
    )
  where
    by_fate : (f : Fate) (h : Resting) → IfSet (SameOrder h) f → rests_on n (left_by f h) + cancelled_in n (told_by f h) ≡ counted_if n h.number (shares_left h)
    by_fate Stays h i = omega arith
    by_fate (IsCancelled reason) h i = omega arith
    by_fate (IsSet new) h i = rw (i.number, i.left) (omega arith)

-- .. and nothing is executed
pub told_execute_none : (n : Number) (fate : Resting → Fate) (s : List Resting) → executed_in n (told fate s) ≡ 0
unfolding told gathered sum_of
told_execute_none n fate [] = refl
told_execute_none n fate (h ∷ s) = by_fate (fate h) (told_execute_none n fate s)
  where
    by_fate : (f : Fate) → executed_in n (told fate s) ≡ 0 → executed_in n (told_by f h ++ told fate s) ≡ 0
    by_fate Stays e = e
    by_fate (IsCancelled reason) e = omega (arith, e)
    by_fate (IsSet new) e = omega (arith, e)

-- ── What rests ──

-- an order is filled only if nothing is left of it
abbrev pub Leaves : ℕ → Ending → Type 0
Leaves left e = e ≡ Filled → left ≡ 0

-- what is left of an order is cancelled or rests
pub ending_sum : (n m : Number) (o : Order) (left : ℕ) (e : Ending) (own : List Resting) → Leaves left e
    → executed_in n (last_line m left e) + cancelled_in n (last_line m left e) + rests_on n (with_remainder m o left e own) ≡ counted_if n m left + rests_on n own
unfolding sum_of
ending_sum n m o left Filled own f = omega (arith, counted_none n m left (f refl))
ending_sum n m o left (Rests price) own f =
    let rests = remainder_of m o left price in
    let whole : shares_left rests ≡ left = omega (arith, shown_at_most (floor_of o.carried) left) in
    omega (
      arith,
      ap (counted_if n m) whole,
      added_sum (λ (h : Resting). counted_if n h.number (shares_left h)) (added_insert (buying o) rests own),
    )
ending_sum n m o left (Cancels reason) own f = omega arith

-- ── An order of which something is left is not filled ──

abbrev is_filled : Ending → Bool
is_filled Filled = true
is_filled (Rests price) = false
is_filled (Cancels reason) = false

abbrev Unfilled : Ending → Type 0
Unfilled e = is_filled e ≡ false

with_unfilled : (left : ℕ) (o : Order) (away : Away) (own opposite : List Resting) → Leaves left (ending_with left o away own opposite)
unfolding ending_with
with_unfilled left o away own opposite f =
    ⊎_elim
    (λ (t : eqb left 0 ≡ true). eqb-true left 0 t)
    (λ (t : eqb left 0 ≡ false).
    let u : Unfilled (ending_with left o away own opposite) =
    rw t
    (chosen Unfilled (has o.word fok) refl
    (chosen Unfilled (has o.word ioc) refl
    (sought_is Unfilled (λ price e. refl) refl refl refl refl o away own opposite refl))) in
    absurd (true≢false (sym (ap is_filled f) ∙ u)))
    (holds_or_not (eqb left 0))

pub ending_leaves : (o : Order) (met : Met) → Leaves (remainder o met) (ending o met)
unfolding ending
ending_leaves o met = with_unfilled (remainder o met) o met.away met.own (after met.opposite (takings o met))
