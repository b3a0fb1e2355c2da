-- `inspection::has_number` meets its contract. Assumes nothing.
use Rattle.std.proofs.Common.{Bool, List, ◌||◌, refl, ◌∙◌, eqb, rules}
use borrow.Author.Tests.{tests}
use Rattle.std.proofs.lemmas.Iterator.{YieldsList-from_slice}
use Rattle.std.proofs.lemmas.Iterator.Search.{any_from_yields_List}
use Rattle.std.proofs.lemmas.List.Recursion.{same_from_clauses}
use Rattle.std.specs.List.{list_any}
use Rattle.basics.specs.Lists.{any}
use Rattle.rules.specs.declared.Resting.{Resting}
use Rattle.rules.specs.Book.{numbers}
use Rattle.inspection.proofs.has_number.Goals as goal

pub returns : goal.returns
unfolding any
returns c =
    let test = λ (o : Resting). eqb c.args.number.0 o.number.0 in
    any_from_yields_List test _ _ _ c.any.ensures.ran (YieldsList-from_slice c.args.orders.now cc) (λ x b q k. search (rules, tests))
    ∙ same_from_clauses (list_any test) (λ (s : List Resting). any (eqb c.args.number.0) (numbers s)) (λ (o : Resting) (b : Bool). test o || b)
    refl (λ _ _. refl) (λ _ _. refl) c.args.orders.now
