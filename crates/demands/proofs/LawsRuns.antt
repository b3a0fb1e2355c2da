-- Demand 1 over runs of any kind of command, from the two things that a kind must keep to: a refused command leaves the book and
-- tells nothing, and one that acts has the number after the last and leaves it as the last. Assumes nothing.
use Prim.Native.Nat.{ℕ, ◌+◌, ◌<◌}
use mathlib.Core.Bool.{true, false}
use mathlib.Core.List.{List, [], ◌∷◌}
use mathlib.Core.Logic.{⊎_elim}
use mathlib.Core.Path.{◌≡◌, refl, sym, ap, subst}
use lib.Dec.{eqb}
use native.Mathlib.Omega.{arith}
use borrow.Author.Tests.{ne_eqb}
use Rattle.basics.specs.Lists.{any, distinct}
use Rattle.basics.proofs.LawsChoice.{holds_or_not}
use Rattle.demands.specs.Once.{Answering, command_number, end_of, event_lines_of, acting_numbers, struck_out, none_refused}

-- what a kind must keep to; `last` is the last number that a book accepted
pub record Keeps {B C : Type 0} (a : Answering B C) (last : B → ℕ) : Type 0 where
  pub same_book : (b : B) (c : C) → a.acts b c ≡ false → a.book b c ≡ b
  pub no_line : (b : B) (c : C) → a.acts b c ≡ false → a.tells b c ≡ []
  pub next : (b : B) (c : C) → a.acts b c ≡ true → (command_number (a.reading c) ≡ last b + 1) × (last (a.book b c) ≡ last b + 1)

-- ── The refused commands struck out ──

-- a run with its refused commands struck out ends with the same book
pub struck_out_end : {B C : Type 0} {a : Answering B C} {last : B → ℕ} → Keeps a last → (b : B) (cs : List C)
    → end_of a b (struck_out a b cs) ≡ end_of a b cs
unfolding end_of struck_out
struck_out_end k b [] = refl
struck_out_end {a = a} k b (c ∷ cs) =
    ⊎_elim
    (λ (t : a.acts b c ≡ true). rw t (struck_out_end k (a.book b c) cs))
    (λ (t : a.acts b c ≡ false). rw (t, k.same_book b c t) (struck_out_end k b cs))
    (holds_or_not (a.acts b c))

-- .. and the same event lines
pub struck_out_lines : {B C : Type 0} {a : Answering B C} {last : B → ℕ} → Keeps a last → (b : B) (cs : List C)
    → event_lines_of a b (struck_out a b cs) ≡ event_lines_of a b cs
unfolding event_lines_of struck_out
struck_out_lines k b [] = refl
struck_out_lines {a = a} k b (c ∷ cs) =
    ⊎_elim
    (λ (t : a.acts b c ≡ true). rw (t, struck_out_lines k (a.book b c) cs) refl)
    (λ (t : a.acts b c ≡ false). rw (t, k.no_line b c t, k.same_book b c t) (struck_out_lines k b cs))
    (holds_or_not (a.acts b c))

-- .. and nothing of it is refused
pub struck_out_acts : {B C : Type 0} {a : Answering B C} {last : B → ℕ} → Keeps a last → (b : B) (cs : List C)
    → none_refused a b (struck_out a b cs) ≡ true
unfolding none_refused struck_out
struck_out_acts k b [] = refl
struck_out_acts {a = a} k b (c ∷ cs) =
    ⊎_elim
    (λ (t : a.acts b c ≡ true). rw t (rw t (struck_out_acts k (a.book b c) cs)))
    (λ (t : a.acts b c ≡ false). rw (t, k.same_book b c t) (struck_out_acts k b cs))
    (holds_or_not (a.acts b c))

-- ── Each command number at most once ──

-- the numbers from n on, one after the other, as many as a list has
unfoldable following : ℕ → List ℕ → List ℕ
following n [] = []
following n (x ∷ s) = n ∷ following (n + 1) s

-- the command numbers that act follow one another, from the one after the last
acting_follow : {B C : Type 0} {a : Answering B C} {last : B → ℕ} → Keeps a last → (b : B) (cs : List C)
    → acting_numbers a b cs ≡ following (last b + 1) (acting_numbers a b cs)
unfolding acting_numbers following
acting_follow k b [] = refl
acting_follow {a = a} {last = last} k b (c ∷ cs) =
    ⊎_elim
    (λ (t : a.acts b c ≡ true).
    let next = k.next b c t in
    let onward = rw next.1 at (acting_follow k (a.book b c) cs) in
    rw (t, next.0) (ap (λ (s : List ℕ). (last b + 1) ∷ s) onward))
    (λ (t : a.acts b c ≡ false). rw (t, k.same_book b c t) (acting_follow k b cs))
    (holds_or_not (a.acts b c))

-- numbers from one on are all larger than one below it, so they are distinct
none_below : (n m : ℕ) (s : List ℕ) → n < m → any (eqb n) (following m s) ≡ false
unfolding any following
none_below n m [] l = refl
none_below n m (x ∷ s) l =
    let other : n ≡ m → ⊥ = λ (e : n ≡ m). omega (arith, e) in
    rw (ne_eqb n m other) (none_below n (m + 1) s (omega arith))

distinct_from : (n : ℕ) (s : List ℕ) → distinct (following n s) ≡ true
unfolding distinct following
distinct_from n [] = refl
distinct_from n (x ∷ s) = rw (none_below n (n + 1) s (omega arith)) (distinct_from (n + 1) s)

-- .. so none acts twice
pub each_once : {B C : Type 0} {a : Answering B C} {last : B → ℕ} → Keeps a last → (b : B) (cs : List C)
    → distinct (acting_numbers a b cs) ≡ true
each_once {a = a} {last = last} k b cs =
    subst (λ (s : List ℕ). distinct s ≡ true) (sym (acting_follow k b cs)) (distinct_from (last b + 1) (acting_numbers a b cs))
