-- `orders::cursor::next` meets its contract, by the three ways that it can go: the side is over, the orders at the price are over, or the
-- next order's shown part is next. Assumes nothing.
use Prim.Native.Nat.{◌<◌}
use mathlib.Core.Path.{◌≡◌, ◌∙◌}
use lib.ListN.{length, get_or}
use native.Mathlib.Omega.{arith}
use Rattle.std.proofs.lemmas.Grind.{common_steps}
use Rattle.rules.specs.Book.{unused}
use Rattle.orders.specs.Cursor.{first_waiting}
use Rattle.orders.proofs.cursor.LawsAhead.{ends_with_side, ends_at_price, next_shown, reached_behind, reached_waits, ahead_end}
use Rattle.orders.proofs.cursor.next.Goals as goal

pub next_reserve-requires-clause-ends : goal.next_reserve-requires-clause-ends
next_reserve-requires-clause-ends c = ends_with_side c.args.t.now c.args.c (omega (arith, c.if-len-c.true))

pub returns-then-len-c-clause-value : goal.returns-then-len-c-clause-value
returns-then-len-c-clause-value c = ahead_end c.args.t.now c.args.c (omega (arith, c.if-len-c.true)) c.if-c.false

pub next_reserve-requires-then-price_ends-clause-ends : goal.next_reserve-requires-then-price_ends-clause-ends
next_reserve-requires-then-price_ends-clause-ends c =
    let a = c.args in
    let other : c.at-o.result.price.0 ≡ a.c.level.0 → ⊥ = λ e. grind (arith, common_steps) in
    ends_at_price a.t.now a.c (omega (arith, c.if-len-c.false)) (rw c.at-o.ensures at other)

pub returns-clause-value : goal.returns-clause-value
returns-clause-value c =
    let a = c.args in
    let s = a.t.now in
    let stands = c.requires in
    let l : a.c.at < length s = omega (arith, c.if-len-c.false) in
    let o : c.at-o.result ≡ get_or s a.c.at unused = c.at-o.ensures in
    let same : a.c.waits < a.c.at → c.at-o.result.price.0 ≡ a.c.level.0 = λ p. grind (arith, common_steps) in
    let level : a.c.waits < a.c.at → (get_or s a.c.at unused).price.0 ≡ a.c.level.0 = λ p. rw (← o) (same p) in
    let w : c.first_waiting.result ≡ first_waiting a.c.at a.c.waits (get_or s a.c.at unused).reserve.0 = c.first_waiting.ensures ∙ rw o in
    record {
      list = rw (w, o) (next_shown s a.c l stands.behind level);
      place = l;
      at = omega arith;
      stands = record {
        within = omega arith;
        behind = rw w (reached_behind s a.c.waits a.c.at stands.behind l);
        waits = rw w (reached_waits s a.c.waits a.c.at stands.behind l stands.waits);
      };
    }
