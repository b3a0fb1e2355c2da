-- No number stands twice exactly where none is counted twice. So what counts each number at most as often keeps them distinct,
-- in whatever order its orders stand. Assumes nothing.
use Prim.Native.Nat.{ℕ, ◌≤◌}
use mathlib.Core.Bool.{true, false, not}
use mathlib.Core.List.{List, [], ◌∷◌}
use mathlib.Core.Logic.{⊎_elim}
use mathlib.Core.Path.{◌≡◌, refl}
use lib.Dec.{eqb}
use native.Mathlib.Omega.{arith}
use borrow.Author.Tests.{eq-eqb, eqb-true, not-true}
use Rattle.std.specs.Prelude.{if◌then◌else◌}
use Rattle.basics.specs.Lists.{any, distinct, sum_of}
use Rattle.basics.proofs.LawsChoice.{holds_or_not, and_left, and_right, or_neither}
use Rattle.rules.specs.declared.Resting.{Resting}
use Rattle.rules.specs.Book.{numbers}

-- how often a number stands on orders
abbrev pub one_if : ℕ → Resting → ℕ
one_if n h = if eqb n h.number.0 then 1 else 0

abbrev pub times_in : ℕ → List Resting → ℕ
times_in n s = sum_of (one_if n) s

pub not_among_times : (n : ℕ) (s : List Resting) → any (eqb n) (numbers s) ≡ false → times_in n s ≡ 0
unfolding any sum_of
not_among_times n [] e = refl
not_among_times n (h ∷ s) e =
    let both = or_neither (eqb n h.number.0) (any (eqb n) (numbers s)) e in
    rw both.0 (omega (arith, not_among_times n s both.1))

times_not_among : (n : ℕ) (s : List Resting) → times_in n s ≡ 0 → any (eqb n) (numbers s) ≡ false
unfolding any sum_of
times_not_among n [] e = refl
times_not_among n (h ∷ s) e =
    ⊎_elim
    (λ (t : eqb n h.number.0 ≡ true). let z : ⊥ = omega (arith, rw t at e) in absurd z)
    (λ (t : eqb n h.number.0 ≡ false). rw t (times_not_among n s (omega (arith, rw t at e))))
    (holds_or_not (eqb n h.number.0))

pub times_at_most : (s : List Resting) → distinct (numbers s) ≡ true → (n : ℕ) → times_in n s ≤ 1
unfolding distinct sum_of
times_at_most [] d n = omega arith
times_at_most (h ∷ s) d n =
    let others = not-true (any (eqb h.number.0) (numbers s)) (and_left (not (any (eqb h.number.0) (numbers s))) (distinct (numbers s)) d) in
    ⊎_elim
    (λ (t : eqb n h.number.0 ≡ true).
    let e : n ≡ h.number.0 = eqb-true n h.number.0 t in
    rw t (omega (arith, not_among_times n s (rw e others))))
    (λ (t : eqb n h.number.0 ≡ false).
    rw t (omega (arith, times_at_most s (and_right (not (any (eqb h.number.0) (numbers s))) (distinct (numbers s)) d) n)))
    (holds_or_not (eqb n h.number.0))

pub at_most_times : (s : List Resting) → ((n : ℕ) → times_in n s ≤ 1) → distinct (numbers s) ≡ true
unfolding distinct sum_of
at_most_times [] once = refl
at_most_times (h ∷ s) once =
    let itself = eq-eqb h.number.0 h.number.0 refl in
    rw (times_not_among h.number.0 s (omega (arith, rw itself at (once h.number.0))))
    (at_most_times s (λ n. omega (arith, once n)))

pub fewer_distinct : (s r : List Resting) → ((n : ℕ) → times_in n r ≤ times_in n s) → distinct (numbers s) ≡ true → distinct (numbers r) ≡ true
fewer_distinct s r fewer d = at_most_times r (λ n. omega (arith, fewer n, times_at_most s d n))
