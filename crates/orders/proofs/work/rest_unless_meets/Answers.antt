-- `orders::work::rest_unless_meets` meets its contract: the tests come in the definition's order. Assumes nothing.
use Prim.Native.Nat.{ℕ, zero, suc}
use mathlib.Core.List.{List, [], ◌∷◌}
use mathlib.Core.Path.{◌≡◌, refl, sym, ap, ◌∙◌}
use lib.ListN.{drop}
use Rattle.std.specs.List.{slice_get}
use Rattle.std.specs.Prelude.{Some, None}
use Rattle.std.proofs.lemmas.Grind.{common_steps}
use native.Mathlib.Omega.{arith}
use Rattle.rules.specs.declared.Resting.{Resting}
use Rattle.orders.specs.Walking.{rests_unless_best_meets}
use Rattle.orders.proofs.work.rest_unless_meets.Goals as goal
use Rattle.orders.proofs.work.rest_unless_meets.Goals.{In-Some}

-- those from a rank on, by the first of them
left_from : (k : ℕ) (s : List Resting) (best : Resting) → slice_get s k ≡ Some best → drop k s ≡ best ∷ drop (suc k) s
left_from k [] best e = let z : ⊥ = cc in absurd z
left_from zero (h ∷ s) best e = let is : h ≡ best = cc in ap (λ (x : Resting). x ∷ s) is
left_from (suc k) (h ∷ s) best e = left_from k s best e

none_from : (k : ℕ) (s : List Resting) → slice_get s k ≡ None → drop k s ≡ []
none_from zero [] e = refl
none_from (suc k) [] e = refl
none_from zero (h ∷ s) e = let z : ⊥ = cc in absurd z
none_from (suc k) (h ∷ s) e = none_from k s e

-- the best of those that are left
best_left : (c : In-Some) → drop c.args.kept c.args.t.now ≡ c.in-Some.best ∷ drop (suc c.args.kept) c.args.t.now
best_left c = left_from c.args.kept c.args.t.now c.in-Some.best (sym c.get.ensures ∙ c.in-Some.is)

pub returns-in_default : goal.returns-in_default
unfolding rests_unless_best_meets
returns-in_default c = rw (none_from c.args.kept c.args.t.now (sym c.get.ensures ∙ c.in_default.is))

pub returns-then-meets : goal.returns-then-meets
unfolding rests_unless_best_meets
returns-then-meets c = rw (best_left (goal.at.returns-then-meets c).In-Some) (grind (arith, common_steps))

pub returns-then-has : goal.returns-then-has
unfolding rests_unless_best_meets
returns-then-has c = rw (best_left (goal.at.returns-then-has c).In-Some) (grind (arith, common_steps))

pub returns-then-still_meets : goal.returns-then-still_meets
unfolding rests_unless_best_meets
returns-then-still_meets c = rw (best_left (goal.at.returns-then-still_meets c).In-Some) (grind (arith, common_steps))

pub returns : goal.returns
unfolding rests_unless_best_meets
returns c = rw (best_left (goal.at.returns c).In-Some) (grind (arith, common_steps))
