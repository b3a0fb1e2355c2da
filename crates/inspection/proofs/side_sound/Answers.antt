-- `inspection::side_sound` meets its contract: the loop passes orders that are sound. Assumes nothing.
use Rattle.std.proofs.Common.{Bool, true, ◌≡◌, ◌&&◌, sym, refl, ◌∙◌, rules}
use borrow.Author.Tests.{tests}
use Rattle.std.proofs.lemmas.Iterator.{YieldsList-from_slice}
use Rattle.std.proofs.lemmas.Iterator.Search.{all_from_yields_List}
use Rattle.std.proofs.lemmas.List.Recursion.{same_from_clauses}
use Rattle.std.specs.List.{list_all}
use Rattle.basics.specs.Lists.{every}
use Rattle.rules.specs.declared.Resting.{Resting}
use Rattle.rules.specs.Book.{is_unused, numbers, unused}
use Rattle.inspection.proofs.LawsInspected.{orders_sound, side_cut, orders_fail, orders_next, orders_end}
use Rattle.inspection.proofs.side_sound.Goals as goal

pub returns-then-not-order_sound : goal.returns-then-not-order_sound
returns-then-not-order_sound c =
    let a = c.args in
    let others = numbers a.others.now in
    let fails = orders_fail a.buying a.last others c.split_at.result.0.now c.loop-i.i c.loop-i-test.true unused c.loop-i.invariant
    c.order_sound.result c.order_sound.ensures c.if-not-order_sound.true in
    sym (side_cut a.buying a.last others a.side.now.used a.side.now.places ∙ rw (← c.split_at.ensures.front, fails))

pub loop-i-preserved : goal.loop-i-preserved
loop-i-preserved c =
    let a = c.args in
    orders_next a.buying a.last (numbers a.others.now) c.split_at.result.0.now c.loop-i.i c.loop-i-test.true unused c.loop-i.invariant
    c.order_sound.result c.order_sound.ensures c.if-not-order_sound.false

pub returns : goal.returns
unfolding every
returns c =
    let a = c.args in
    let others = numbers a.others.now in
    let rest = c.split_at.result.1.now in
    let sound : orders_sound a.buying a.last others c.split_at.result.0.now ≡ true =
    sym c.loop-i.invariant ∙ orders_end a.buying a.last others c.split_at.result.0.now c.loop-i.i c.loop-i-test.false in
    let unused_is : c.all.result ≡ every is_unused rest =
    all_from_yields_List is_unused _ _ _ c.all.ensures.ran (YieldsList-from_slice rest cc) (λ x b q k. search (rules, tests))
    ∙ same_from_clauses (list_all is_unused) (every is_unused) (λ (o : Resting) (b : Bool). is_unused o && b) refl (λ _ _. refl) (λ _ _. refl) rest in
    unused_is ∙ sym (side_cut a.buying a.last others a.side.now.used a.side.now.places ∙ rw (← c.split_at.ensures.front, ← c.split_at.ensures.back, sound))
