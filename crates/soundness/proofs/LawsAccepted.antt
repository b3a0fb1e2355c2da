-- What it says of a command that no refusal of the table is given for it. Assumes nothing.
use Prim.Native.Nat.{ℕ, ◌+◌, ◌≤◌, ◌<◌}
use mathlib.Core.Bool.{Bool, true, false, not, ◌&&◌, ◌||◌, beq}
use mathlib.Core.Path.{◌≡◌}
use lib.Dec.{leb, ltb}
use native.Mathlib.Omega.{arith}
use borrow.Author.Tests.{not-false, ltb-false, leb-false, le-leb}
use Rattle.basics.proofs.LawsChoice.{and_left, and_right, or_neither}
use Rattle.std.specs.Prelude.{if◌then◌else◌, Some, None}
use Rattle.rules.specs.declared.Away.{Away}
use Rattle.rules.specs.declared.Body.TheVariants as body
use Rattle.rules.specs.declared.Command.{Command}
use Rattle.rules.specs.declared.Order.{Order}
use Rattle.rules.specs.Instructions.{displayed, reserve, has, needs, lawful}
use Rattle.rules.specs.Book.{Book, opening, closing, away_in_range}
use Rattle.rules.specs.Refusals.{first_of, is_close, untimely, carries_floor, carries_minimum, order_lawful, order_in_range, rests_on_full_side, header_refusals, body_refusals, line_refusals}
use Rattle.rules.proofs.LawsRefusals.{none_given}

-- ── By the header ──

-- the number is the next, the book is open and the time is one of the session
pub record InOrder (b : Book) (c : Command) : Type 0 where
  pub next : c.number.0 ≡ b.held.last.0 + 1
  pub is_open : b.held.closed ≡ false
  pub opened : leb opening c.time ≡ true
  pub in_time : leb c.time closing ≡ true
  pub by_body : first_of (body_refusals b c.body) ≡ 0

-- "at or above 57,600,000 (a close may be at 57,600,000)"
not_late : (close : Bool) (time : ℕ) → (if close then ltb closing time else leb closing time) ≡ false → time ≤ closing
not_late true time e = ltb-false closing time e
not_late false time e = let l : time < closing = leb-false closing time e in omega arith

pub accepted : (b : Book) (c : Command) → first_of (line_refusals b (Some c)) ≡ 0 → InOrder b c
unfolding line_refusals header_refusals
accepted b c e =
    let number = none_given 4 (leb c.number.0 b.held.last.0) _ (omega arith) e in
    let gap = none_given 5 (ltb (b.held.last.0 + 1) c.number.0) _ (omega arith) number.1 in
    let closed = none_given 6 b.held.closed _ (omega arith) gap.1 in
    let timely = none_given 7 (untimely b c) (body_refusals b c.body) (omega arith) closed.1 in
    let above : b.held.last.0 < c.number.0 = leb-false c.number.0 b.held.last.0 number.0 in
    let up_to : c.number.0 ≤ b.held.last.0 + 1 = ltb-false (b.held.last.0 + 1) c.number.0 gap.0 in
    let late : Bool = if is_close c.body then ltb closing c.time else leb closing c.time in
    let times = or_neither (ltb c.time b.held.time || ltb c.time opening) late timely.0 in
    let early = or_neither (ltb c.time b.held.time) (ltb c.time opening) times.0 in
    record {
      next = omega arith;
      is_open = closed.0;
      opened = le-leb opening c.time (ltb-false c.time opening early.1);
      in_time = le-leb c.time closing (not_late (is_close c.body) c.time times.1);
      by_body = timely.1;
    }

-- ── By the body ──

pub record AcceptedOrder (b : Book) (o : Order) : Type 0 where
  pub is_lawful : lawful o.word ≡ true
  pub carries : beq (has o.word reserve) (carries_floor o.carried) ≡ true
  pub hides : needs (carries_minimum o.carried) (not (has o.word displayed)) ≡ true
  pub in_range : order_in_range o ≡ true
  pub room : rests_on_full_side o b ≡ false

pub accepted_order : (b : Book) (o : Order) → first_of (body_refusals b (body.Order o)) ≡ 0 → AcceptedOrder b o
unfolding body_refusals
accepted_order b o e =
    let word = none_given 8 (not (order_lawful o)) _ (omega arith) e in
    let fields = none_given 9 (not (order_in_range o)) _ (omega arith) word.1 in
    let full = none_given 11 (rests_on_full_side o b) _ (omega arith) fields.1 in
    let both = not-false (order_lawful o) word.0 in
    let tied = beq (has o.word reserve) (carries_floor o.carried) in
    let hides = needs (carries_minimum o.carried) (not (has o.word displayed)) in
    let first = and_left (lawful o.word && tied) hides both in
    record {
      is_lawful = and_left (lawful o.word) tied first;
      carries = and_right (lawful o.word) tied first;
      hides = and_right (lawful o.word && tied) hides both;
      in_range = not-false (order_in_range o) fields.0;
      room = full.0;
    }

pub accepted_quote : (b : Book) (a : Away) → first_of (body_refusals b (body.Quote a)) ≡ 0 → (away_in_range a.bid && away_in_range a.offer) ≡ true
unfolding body_refusals
accepted_quote b a e = not-false (away_in_range a.bid && away_in_range a.offer) (none_given 9 (not (away_in_range a.bid && away_in_range a.offer)) _ (omega arith) e).0
