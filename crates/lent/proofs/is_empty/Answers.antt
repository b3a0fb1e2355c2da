-- `lent::is_empty` meets its contract. Assumes nothing.
use Rattle.std.proofs.Common.{Bool, ◌≡◌, ◌&&◌, refl, ◌∙◌, length, rules}
use mathlib.Core.Bool.{and-true}
use borrow.Author.Tests.{eq-eqb, tests}
use Rattle.std.proofs.lemmas.Iterator.{YieldsList-from_slice}
use Rattle.std.proofs.lemmas.Iterator.Search.{all_from_yields_List}
use Rattle.std.proofs.lemmas.List.Recursion.{same_from_clauses}
use Rattle.std.specs.List.{list_all}
use Rattle.basics.specs.Lists.{every}
use Rattle.rules.specs.declared.Resting.{Resting}
use Rattle.rules.specs.Book.{is_unused, places_a_side}
use Rattle.lent.specs.Lent.{is_empty}
use Rattle.lent.proofs.is_empty.Goals as goal

pub returns : goal.returns
unfolding every is_empty
returns c =
    let places = c.args.side.now.places in
    let long : length places ≡ places_a_side = search rules in
    let unused_is : c.all.result ≡ every is_unused places =
    all_from_yields_List is_unused _ _ _ c.all.ensures.ran (YieldsList-from_slice places cc) (λ x b q k. search (rules, tests))
    ∙ same_from_clauses (list_all is_unused) (every is_unused) (λ (o : Resting) (b : Bool). is_unused o && b) refl (λ _ _. refl) (λ _ _. refl) places in
    rw (eq-eqb (length places) places_a_side long, and-true, unused_is)
