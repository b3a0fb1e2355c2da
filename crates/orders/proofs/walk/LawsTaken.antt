-- Laws of the takings of a walk: which orders they are from, and how many there are. Assumes nothing.
use Prim.Native.Nat.{ℕ, ◌+◌, ◌-◌, ◌≤◌, ◌<◌, max}
use mathlib.Core.Bool.{Bool, true, false, not, ◌||◌}
use mathlib.Core.List.{List, [], ◌∷◌}
use mathlib.Core.Logic.{⊎_elim}
use mathlib.Core.Path.{◌≡◌, refl, ap}
use lib.Dec.{eqb}
use lib.ListN.{length, length-append}
use native.Mathlib.Omega.{arith}
use borrow.Author.Tests.{ne_eqb, eqb-true}
use Rattle.basics.specs.Lists.{All, none, also}
use Rattle.basics.proofs.LawsChoice.{holds_or_not, by_choice}
use Rattle.basics.proofs.LawsLists.{all_both}
use Rattle.kinds.specs.Kinds.{half_cents, shares}
use Rattle.rules.specs.Holdings.{nothing, walk}
use Rattle.orders.specs.declared.cursor.Part.{Part}
use Rattle.orders.specs.declared.takings.Taking.{Taking}
use Rattle.orders.specs.Walk.{part_is_skipped, part_gives, taking, takings_from, is_below, reached, takings_of}

-- no taking, where a list of them has none
abbrev pub no_taking : Taking
no_taking = record { place = 0; price = half_cents 0; shares = shares 0 }

-- ── What one part gives ──

pub taking_none : (p : Part) → taking p 0 ≡ []
unfolding taking
taking_none p = refl

pub taking_one : (p : Part) (g : ℕ) → (g ≡ 0 → ⊥) → taking p g ≡ record { place = p.place; price = p.price; shares = shares g } ∷ []
unfolding taking
taking_one p g z = rw (ne_eqb g 0 z)

pub length_taking : (p : Part) (g : ℕ) → length (taking p g) ≤ 1
unfolding taking
length_taking p g =
    ⊎_elim
    (λ (z : eqb g 0 ≡ true). rw z (omega arith))
    (λ (z : eqb g 0 ≡ false). rw z (omega arith))
    (holds_or_not (eqb g 0))

pub taking_below : (n : ℕ) (p : Part) (g : ℕ) → p.place < n → All (is_below n) (taking p g)
unfolding taking
taking_below n p g l =
    ⊎_elim
    (λ (z : eqb g 0 ≡ true). rw z none)
    (λ (z : eqb g 0 ≡ false). rw z (also l none))
    (holds_or_not (eqb g 0))

-- ── Nobody gives ──

pub takings_nothing : (s : List Part) → takings_from s (nothing s) ≡ []
unfolding takings_from nothing
takings_nothing [] = refl
takings_nothing (p ∷ s) = rw (taking_none p) (takings_nothing s)

-- with nothing left
gives_nothing : (p : Part) → part_gives 0 p ≡ 0
gives_nothing p = by_choice (λ (k : ℕ). k ≡ 0) (part_is_skipped 0 p) (λ t. refl) (λ t. omega arith)

pub walk_nothing : (may : Part → Bool) (s : List Part) → walk may part_gives 0 s ≡ nothing s
unfolding walk nothing
walk_nothing may [] = refl
walk_nothing may (p ∷ s) =
    let e : part_gives 0 p ≡ 0 = gives_nothing p in
    ⊎_elim
    (λ (t : may p ≡ true). rw (t, e) (ap (λ (l : List ℕ). 0 ∷ l) (walk_nothing may s)))
    (λ (t : may p ≡ false). rw t)
    (holds_or_not (may p))

-- ── The orders that a walk takes from ──

pub takings_most : (s : List Part) (gs : List ℕ) → length (takings_from s gs) ≤ length s
unfolding takings_from
takings_most [] gs = omega arith
takings_most (p ∷ s) [] = omega arith
takings_most (p ∷ s) (g ∷ gs) = omega (arith, length-append (taking p g) (takings_from s gs), length_taking p g, takings_most s gs)

module _ (may : Part → Bool) where
  reached_later : (at left : ℕ) (s : List Part) → at ≤ reached may at left s
  unfolding reached
  reached_later at left [] = omega arith
  reached_later at left (p ∷ s) =
      ⊎_elim
      (λ (z : (eqb left 0 || not (may p)) ≡ true). rw z (omega arith))
      (λ (z : (eqb left 0 || not (may p)) ≡ false). rw z (omega (arith, reached_later (max at (p.place + 1)) (left - part_gives left p) s)))
      (holds_or_not (eqb left 0 || not (may p)))

  pub reached_within : (n at left : ℕ) (s : List Part) → All (λ (p : Part). p.place < n) s → at ≤ n → reached may at left s ≤ n
  unfolding reached
  reached_within n at left [] none l = l
  reached_within n at left (p ∷ s) (also q a) l =
      ⊎_elim
      (λ (z : (eqb left 0 || not (may p)) ≡ true). rw z l)
      (λ (z : (eqb left 0 || not (may p)) ≡ false). rw z (reached_within n (max at (p.place + 1)) (left - part_gives left p) s a (omega arith)))
      (holds_or_not (eqb left 0 || not (may p)))

  from_reached : (at left : ℕ) (s : List Part) → All (is_below (reached may at left s)) (takings_from s (walk may part_gives left s))
  unfolding takings_from walk reached
  from_reached at left [] = none
  from_reached at left (p ∷ s) =
      ⊎_elim
      (λ (z : eqb left 0 ≡ true). rw (eqb-true left 0 z) (rw (walk_nothing may (p ∷ s), takings_nothing (p ∷ s)) none))
      (λ (z : eqb left 0 ≡ false).
      ⊎_elim
      (λ (t : may p ≡ true).
      let r = reached may (max at (p.place + 1)) (left - part_gives left p) s in
      let l : p.place < r = omega (arith, reached_later (max at (p.place + 1)) (left - part_gives left p) s) in
      rw (z, t) (all_both (taking_below r p (part_gives left p) l) (from_reached (max at (p.place + 1)) (left - part_gives left p) s)))
      (λ (t : may p ≡ false). rw (z, t) (rw (takings_nothing (p ∷ s)) none))
      (holds_or_not (may p)))
      (holds_or_not (eqb left 0))

  -- every taking is from an order that the walk reached
  pub takings_reached : (want : ℕ) (s : List Part) → All (is_below (reached may 0 want s)) (takings_of may want s)
  takings_reached want s = from_reached 0 want s
