-- `orders::pricing::locked_price` meets its contract: the first order of a side is its best. Assumes nothing.
use mathlib.Core.List.{List, [], ◌∷◌}
use mathlib.Core.Path.{◌≡◌, refl, sym, ap, ◌∙◌}
use Rattle.std.specs.List.{slice_get}
use Rattle.std.specs.Prelude.{if◌then◌else◌, Some, None}
use Rattle.kinds.specs.Kinds.{half_cents}
use Rattle.rules.specs.declared.Resting.{Resting}
use Rattle.orders.specs.Locks.{locked_price}
use Rattle.orders.proofs.pricing.locked_price.Goals as goal

of_the_best : (s : List Resting) (best : Resting) → slice_get s 0 ≡ Some best → locked_price s ≡ (if best.displayed then best.price else half_cents 0)
unfolding locked_price
of_the_best [] best e = let z : ⊥ = cc in absurd z
of_the_best (h ∷ s) best e = let is : h ≡ best = cc in ap (λ (o : Resting). if o.displayed then o.price else half_cents 0) is

of_none : (s : List Resting) → slice_get s 0 ≡ None → locked_price s ≡ half_cents 0
unfolding locked_price
of_none [] e = refl
of_none (h ∷ s) e = let z : ⊥ = cc in absurd z

pub returns-in-Some : goal.returns-in-Some
returns-in-Some c = sym (of_the_best c.args.t.now c.in-Some.best (sym c.get.ensures ∙ c.in-Some.is) ∙ rw c.if-best.true)

pub returns-in_default : goal.returns-in_default
returns-in_default c = sym (of_the_best c.args.t.now c.in-Some.best (sym c.get.ensures ∙ c.in-Some.is) ∙ rw c.if-best.false)

pub returns-in_default-2 : goal.returns-in_default-2
returns-in_default-2 c = sym (of_none c.args.t.now (sym c.get.ensures ∙ c.in_default.is))
