-- What a walk takes from holdings in the order of the walk, with any test of which may be touched: where none has a minimum (02, W7) and
-- none behind one that may not be touched may be, it is as much as is wanted or all that they could give. And what an order takes of what
-- its walk gives. Assumes nothing.
use Prim.Native.Nat.{ℕ, ◌+◌, ◌-◌, ◌≤◌, ◌<◌, min}
use mathlib.Core.Bool.{Bool, true, false, true≢false}
use mathlib.Core.List.{List, [], ◌∷◌}
use mathlib.Core.Logic.{⊎_elim}
use mathlib.Core.Path.{◌≡◌, refl, sym, ◌∙◌}
use lib.Dec.{ltb}
use native.Mathlib.Omega.{arith}
use borrow.Author.Tests.{ltb-true, lt-ltb, le-ltb}
use Rattle.std.specs.Prelude.{if◌then◌else◌}
use Rattle.basics.specs.Lists.{total, All, none, also, Each, empty, with}
use Rattle.basics.proofs.LawsChoice.{holds_or_not, by_choice}
use Rattle.basics.proofs.LawsLists.{all_alike}
use Rattle.rules.specs.declared.Order.{Order}
use Rattle.rules.specs.Holdings.{Holding, size, holdings, nothing, walk, is_skipped, smaller, BeforeAll, InWalkOrder, nobody, somebody}
use Rattle.rules.specs.Working.{Met, walked, least_of, takings}
use Rattle.rules.proofs.LawsTakings.{nothing_total, nothing_each}

-- ── A walk, with any test of which may be touched ──

-- what a holding could give, and what all could
abbrev pub could_give : (Holding → Bool) → Holding → ℕ
could_give may h = if may h then size h else 0

unfoldable pub available : (Holding → Bool) → List Holding → ℕ
available may [] = 0
available may (h ∷ s) = could_give may h + available may s

none_available : (may : Holding → Bool) {s : List Holding} → All (λ (h : Holding). may h ≡ false) s → available may s ≡ 0
unfolding available
none_available may none = refl
none_available may (also {x = h} n a) = rw n (omega (arith, none_available may a))

-- one that has no minimum is never skipped
pub unskipped : (left : ℕ) (h : Holding) → h.of.minimum.0 ≡ 0 → smaller left h ≡ min left (size h)
unskipped left h z =
    by_choice (λ (k : ℕ). k ≡ min left (size h)) (is_skipped left h)
    (λ t. let short : left < min h.of.minimum.0 (size h) = ltb-true left (min h.of.minimum.0 (size h)) t in
    let no : ⊥ = omega (arith, short, z) in absurd no)
    (λ t. refl)

-- in the order of the walk, where of holdings of which a claim holds none has a minimum, and none behind one that may not be touched may
-- be: ending the walk there loses nothing
module _ (may : Holding → Bool) (buy : Bool) (Claim : Holding → Type 0) (no_minimum : (h : Holding) → Claim h → h.of.minimum.0 ≡ 0)
    (ends : (h : Holding) (s : List Holding) → BeforeAll buy h s → All Claim s → may h ≡ false
    → All (λ (y : Holding). may y ≡ false) s) where
  pub walk_total : (left : ℕ) {s : List Holding} → InWalkOrder buy s → All Claim s
      → total (walk may smaller left s) ≡ min left (available may s)
  unfolding walk total available
  walk_total left nobody none = omega arith
  walk_total left (somebody {h = h} {hs = s} b w) (also c cs) =
      ⊎_elim
      (λ (t : may h ≡ true). rw t (omega (arith, unskipped left h (no_minimum h c), walk_total (left - smaller left h) w cs)))
      (λ (t : may h ≡ false). rw t (omega (arith, nothing_total (h ∷ s), none_available may (ends h s b cs t))))
      (holds_or_not (may h))

  -- where less is taken than is wanted, whoever may be touched gives all
  pub walk_short : (left : ℕ) {s : List Holding} → InWalkOrder buy s → All Claim s → total (walk may smaller left s) < left
      → Each (λ (h : Holding) (t : ℕ). may h ≡ true → t ≡ size h) s (walk may smaller left s)
  unfolding walk total
  walk_short left nobody none l = empty
  walk_short left (somebody {h = h} {hs = s} b w) (also c cs) l =
      ⊎_elim
      (λ (t : may h ≡ true).
      let short : smaller left h + total (walk may smaller (left - smaller left h) s) < left = rw t at l in
      let all : smaller left h ≡ size h = omega (arith, short, unskipped left h (no_minimum h c)) in
      rw t (with (λ u. all) (walk_short (left - smaller left h) w cs (omega (arith, short)))))
      (λ (t : may h ≡ false).
      let none_may : All (λ (y : Holding). may y ≡ false) (h ∷ s) = also t (ends h s b cs t) in
      rw t (nothing_each (all_alike (λ y f u. absurd (true≢false (sym u ∙ f))) none_may)))
      (holds_or_not (may h))

-- ── An order ──

-- an order takes nothing, or what the walk gives
pub taken : (P : List ℕ → Type 0) (o : Order) (m : Met) → P (nothing (holdings m.opposite)) → P (walked o m) → P (takings o m)
unfolding takings
taken P o m p q = by_choice P (ltb (total (walked o m)) (least_of o)) (λ t. p) (λ t. q)

-- nothing where the walk gives less than it must, else what it gives
pub takes_nothing : (o : Order) (m : Met) → total (walked o m) < least_of o → takings o m ≡ nothing (holdings m.opposite)
unfolding takings
takes_nothing o m l = rw (lt-ltb (total (walked o m)) (least_of o) l) refl

pub takes_all : (o : Order) (m : Met) → least_of o ≤ total (walked o m) → takings o m ≡ walked o m
unfolding takings
takes_all o m l = rw (le-ltb (total (walked o m)) (least_of o) l) refl
