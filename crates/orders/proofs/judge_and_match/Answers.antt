-- `orders::judge_and_match` meets its contract: the match of an order, on whichever side of the market, is what 01 does. Assumes nothing.
use mathlib.Core.Bool.{true, false, not, ◌&&◌, beq}
use mathlib.Core.Path.{◌≡◌, sym, ◌∙◌}
use Rattle.basics.proofs.LawsChoice.{and_left}
use Rattle.rules.specs.declared.Refusal.TheVariants.{UnlawfulWord, OutOfRange}
use Rattle.rules.specs.Book.{Book}
use Rattle.rules.specs.Instructions.{displayed, reserve, has, needs as needs_of, lawful}
use Rattle.rules.specs.Refusals.{carries_floor, carries_minimum, order_lawful, order_in_range}
use Rattle.side.proofs.tables.LawsAnswers.{left_refused}
use Rattle.orders.proofs.LawsEntered.{unlawful, out_of_range, left_entered}
use Rattle.orders.proofs.LawsReady.{ready}
use Rattle.orders.proofs.judge_and_match.Goals as goal
use Rattle.orders.proofs.judge_and_match.Goals.{Else-not-order_in_range, Else-not-order_lawful, Start}

abbrev book : Start → Book
book s = record { held = s.args.held.now; buys = s.args.buys.now; sells = s.args.sells.now }

-- the order is lawful
is_lawful : (c : Else-not-order_lawful) → order_lawful c.args.o ≡ true
is_lawful c = sym c.order_lawful.ensures ∙ c.if-not-order_lawful.false

word_lawful : (c : Else-not-order_lawful) → lawful c.args.o.word ≡ true
word_lawful c =
    let o = c.args.o in
    let tied = beq (has o.word reserve) (carries_floor o.carried) in
    and_left (lawful o.word) tied
    (and_left (lawful o.word && tied) (needs_of (carries_minimum o.carried) (not (has o.word displayed))) (is_lawful c))

-- and in range
in_range : (c : Else-not-order_in_range) → order_in_range c.args.o ≡ true
in_range c = sym c.order_in_range.ensures ∙ c.if-not-order_in_range.false

pub returns-then-not-order_lawful : goal.returns-then-not-order_lawful
returns-then-not-order_lawful c time =
    let a = c.args in
    let b = book (goal.at.returns-then-not-order_lawful c).Start in
    left_refused UnlawfulWord b a.out.now _ (unlawful a.number time a.o b (sym c.order_lawful.ensures ∙ c.if-not-order_lawful.true))

pub returns-then-not-order_in_range : goal.returns-then-not-order_in_range
returns-then-not-order_in_range c time =
    let a = c.args in
    let b = book (goal.at.returns-then-not-order_in_range c).Start in
    let lawful_too = is_lawful (goal.at.returns-then-not-order_in_range c).Else-not-order_lawful in
    left_refused OutOfRange b a.out.now _
    (out_of_range a.number time a.o b lawful_too (sym c.order_in_range.ensures ∙ c.if-not-order_in_range.true))

-- a buy

pub match_order-requires-clause-ready : goal.match_order-requires-clause-ready
match_order-requires-clause-ready c =
    let p = c.requires in
    ready c.args.o c.args.number true (book (goal.at.match_order-requires-clause-ready c).Start) p.is_sound p.next
    (word_lawful (goal.at.match_order-requires-clause-ready c).Else-not-order_lawful)
    (in_range (goal.at.match_order-requires-clause-ready c).Else-not-order_in_range) (sym c.is_buy.ensures ∙ c.if-is_buy.true)

pub returns-then-is_buy : goal.returns-then-is_buy
returns-then-is_buy c time =
    let a = c.args in
    left_entered a.number time a.o (book (goal.at.returns-then-is_buy c).Start)
    (is_lawful (goal.at.returns-then-is_buy c).Else-not-order_lawful) (in_range (goal.at.returns-then-is_buy c).Else-not-order_in_range)
    true (sym c.is_buy.ensures ∙ c.if-is_buy.true) _ _ _ _ _ c.match_order.ensures

-- a sell

pub match_order-requires-else-is_buy-clause-ready : goal.match_order-requires-else-is_buy-clause-ready
match_order-requires-else-is_buy-clause-ready c =
    let p = c.requires in
    ready c.args.o c.args.number false (book (goal.at.match_order-requires-else-is_buy-clause-ready c).Start) p.is_sound p.next
    (word_lawful (goal.at.match_order-requires-else-is_buy-clause-ready c).Else-not-order_lawful)
    (in_range (goal.at.match_order-requires-else-is_buy-clause-ready c).Else-not-order_in_range) (sym c.is_buy.ensures ∙ c.if-is_buy.false)

pub returns-else-is_buy : goal.returns-else-is_buy
returns-else-is_buy c time =
    let a = c.args in
    left_entered a.number time a.o (book (goal.at.returns-else-is_buy c).Start)
    (is_lawful (goal.at.returns-else-is_buy c).Else-not-order_lawful) (in_range (goal.at.returns-else-is_buy c).Else-not-order_in_range)
    false (sym c.is_buy.ensures ∙ c.if-is_buy.false) _ _ _ _ _ c.match_order-else-is_buy.ensures
