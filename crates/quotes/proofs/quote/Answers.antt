-- `quotes::quote` meets its contract: both away prices are in range, or it is refused with 9; then the moves of the buys, and behind
-- their lines those of the sells. Assumes nothing.
use Prim.Native.Nat.{ℕ, ◌+◌, ◌-◌, ◌*◌, ◌≤◌}
use mathlib.Core.Bool.{Bool, true, false, not, ◌&&◌}
use mathlib.Core.List.{◌++◌}
use mathlib.Core.Path.{◌≡◌, sym, ap, ◌∙◌}
use lib.ListN.{length, take, drop, length-append, length-take, length-drop}
use native.Mathlib.Omega.{arith}
use Rattle.rules.specs.declared.Away.{Away}
use Rattle.rules.specs.declared.Body.TheVariants as body
use Rattle.rules.specs.declared.Refusal.TheVariants.{OutOfRange}
use Rattle.rules.specs.declared.Fate.{Fate}
use Rattle.rules.specs.declared.Resting.{Resting}
use Rattle.rules.specs.Book.{Book, away_in_range, places_a_side}
use Rattle.rules.specs.Commands.{quote_fate}
use Rattle.rules.specs.EventLines.{event_lines}
use Rattle.rules.specs.Step.{Answer}
use Rattle.rules.specs.Settling.{first_move, set_anew, told, settled_side}
use Rattle.rules.proofs.LawsEvents.{event_lines_append, lines_behind}
use Rattle.settling.specs.declared.Settling.{Settling}
use Rattle.settling.proofs.LawsSettling.{anew_fit}
use Rattle.side.specs.Answers.{body_answer}
use Rattle.side.proofs.tables.LawsAnswers.{refused_with, left_refused, left_done}
use Rattle.quotes.proofs.LawsQuoteLeaves.{quote_refused, next_move, quoted, quote_done, Ready, ready}
use Rattle.quotes.proofs.quote.Goals as goal
use Rattle.quotes.proofs.quote.Goals.{After-move_side-bought, Then-not-away_in_range, Else-not-away_in_range}

-- the test of both away prices
tested : {bid offer : Bool} (away : Away) (v : Bool) → bid ≡ away_in_range away.bid → offer ≡ away_in_range away.offer → (bid && offer) ≡ v
    → not (away_in_range away.bid && away_in_range away.offer) ≡ not v
tested away v bid offer is = ap not (rw (bid, offer) at is)

-- where both are in range, both sides are ready for their moves
accepted : (c : Else-not-away_in_range) → not (away_in_range c.args.away.bid && away_in_range c.args.away.offer) ≡ false
accepted c = tested c.args.away true c.away_in_range.ensures c.away_in_range-2.ensures c.if-not-away_in_range.false

sides_ready : (c : Else-not-away_in_range) (buy : Bool) (k : ℕ) → let a = c.args in
    Ready buy (record { held = c.requires.sides.held; buys = a.buys.now; sells = a.sells.now }) a.number k a.away
sides_ready c buy k =
    let a = c.args in
    let b : Book = record { held = c.requires.sides.held; buys = a.buys.now; sells = a.sells.now } in
    ready buy b c.requires.sides.is_sound a.number k c.requires.sides.next a.away (accepted c)

-- what the moves of the buys leave
module _ (c : After-move_side-bought) where
  abbrev fate : Resting → Fate
  fate = quote_fate c.args.away true

  bought_long : c.move_side-bought.result.length ≡ length (event_lines (told fate c.args.buys.now))
  bought_long = ap (λ (m : Settling). m.length) c.move_side-bought.ensures.value

  next_is : c.move_side-bought.result.next ≡ first_move + length (set_anew fate c.args.buys.now)
  next_is = ap (λ (m : Settling). m.next) c.move_side-bought.ensures.value

  -- the bytes behind their lines
  room : length (event_lines (told fate c.args.buys.now)) ≤ 27 * places_a_side
      → c.move_side-bought.result.length + 27 * places_a_side ≤ length c.move_side-bought.new.out
  room lines = omega (arith, bought_long, lines, c.move_side-bought.auto.out, c.requires.room)

-- ── A refusal ──

module _ (c : Then-not-away_in_range) where
  refused : (time : ℕ) (b : Book) → body_answer c.args.number time (body.Quote c.args.away) b ≡ refused_with 9 b
  refused time b =
      let a = c.args in
      quote_refused a.number time a.away b (tested a.away false c.away_in_range.ensures c.away_in_range-2.ensures c.if-not-away_in_range.true)

pub returns-then-not-away_in_range-clause-sides : goal.returns-then-not-away_in_range-clause-sides
returns-then-not-away_in_range-clause-sides c time held =
    let a = c.args in
    let b : Book = record { held = held; buys = a.buys.now; sells = a.sells.now } in
    left_refused OutOfRange b a.out.now (body_answer a.number time (body.Quote a.away) b)
    (refused (goal.at.returns-then-not-away_in_range-clause-sides c).Then-not-away_in_range time b)

pub returns-then-not-away_in_range-clause-header : goal.returns-then-not-away_in_range-clause-header
returns-then-not-away_in_range-clause-header c =
    let a = c.args in
    let b : Book = record { held = a.held.now; buys = a.buys.now; sells = a.sells.now } in
    sym (ap (λ (x : Answer). x.book.held) (refused (goal.at.returns-then-not-away_in_range-clause-header c).Then-not-away_in_range a.time b))

-- ── The buys ──

pub move_side-bought-requires : goal.move_side-bought-requires
move_side-bought-requires c =
    let r = sides_ready (goal.at.move_side-bought-requires c).Else-not-away_in_range true first_move in record {
      ranked = r.ranked;
      older = r.older;
      places = omega (arith, r.fits);
      room = omega (arith, r.lines, c.requires.room);
      countable = r.countable;
      priced = r.priced;
    }

-- ── The sells ──

pub slice_bounds-move_side-count : goal.slice_bounds-move_side-count
slice_bounds-move_side-count c =
    let at = goal.at.slice_bounds-move_side-count c in
    omega (arith, room at.After-move_side-bought (sides_ready at.Else-not-away_in_range true first_move).lines)

pub slice_bounds-move_side-start : goal.slice_bounds-move_side-start
slice_bounds-move_side-start c =
    let at = goal.at.slice_bounds-move_side-start c in
    omega (arith, room at.After-move_side-bought (sides_ready at.Else-not-away_in_range true first_move).lines)

pub move_side-sold-requires : goal.move_side-sold-requires
move_side-sold-requires c =
    let at = goal.at.move_side-sold-requires c in
    let here = at.After-move_side-bought in
    let m = c.move_side-bought.result in
    let out = c.move_side-bought.new.out in
    let first = sides_ready at.Else-not-away_in_range true first_move in
    let r = sides_ready at.Else-not-away_in_range false m.next in
    let fits : 27 * places_a_side ≤ length (take (length out - m.length) (drop m.length out)) =
    simp (length-take, length-drop) (omega (arith, room here first.lines)) in record {
      ranked = r.ranked;
      older = r.older;
      places = omega (arith, next_is here, anew_fit (fate here) c.args.buys.now, first.fits, r.fits);
      room = omega (arith, r.lines, fits);
      countable = r.countable;
      priced = r.priced;
    }

pub overflow_add-result : goal.overflow_add-result
overflow_add-result c =
    let at = goal.at.overflow_add-result c in
    let bought = (sides_ready at.Else-not-away_in_range true first_move).lines in
    let sold = (sides_ready at.Else-not-away_in_range false first_move).lines in
    let long = ap (λ (m : Settling). m.length) c.move_side-sold.ensures.value in
    record { fits = omega (arith, bought_long at.After-move_side-bought, long, bought, sold) }

pub returns-clause-sides : goal.returns-clause-sides
returns-clause-sides c time held =
    let at = goal.at.returns-clause-sides c in
    let here = at.After-move_side-bought in
    let a = c.args in
    let b : Book = record { held = held; buys = a.buys.now; sells = a.sells.now } in
    let bought = c.move_side-bought in
    let sold = c.move_side-sold in
    let len = bought.result.length + sold.result.length in
    let lines = told (quote_fate a.away true) b.buys in
    let more = told (quote_fate a.away false) b.sells in
    let sold_long : sold.result.length ≡ length (event_lines more) = ap (λ (m : Settling). m.length) sold.ensures.value in
    let long : len ≡ length (event_lines (lines ++ more)) =
    rw (event_lines_append lines more, length-append (event_lines lines) (event_lines more)) (omega (arith, bought_long here, sold_long)) in
    let sells : sold.new.t ≡ settled_side a.number (next_move a.away b) false (quote_fate a.away false) b.sells =
    sold.ensures.side_after ∙ ap (λ (k : ℕ). settled_side a.number k false (quote_fate a.away false) b.sells) (next_is here) in
    let written =
    lines_behind lines more bought.result.length bought.new.out a.out.now sold.new.out (bought_long here) bought.ensures.out_after sold.ensures.out_after in
    left_done (quoted a.number time a.away b) len bought.new.t sold.new.t _ a.out.now
    (body_answer a.number time (body.Quote a.away) b) (quote_done a.number time a.away b (accepted at.Else-not-away_in_range)) long
    bought.ensures.side_after sells written

pub returns-clause-header : goal.returns-clause-header
returns-clause-header c =
    let a = c.args in
    let b : Book = record { held = a.held.now; buys = a.buys.now; sells = a.sells.now } in
    let done = quote_done a.number a.time a.away b (accepted (goal.at.returns-clause-header c).Else-not-away_in_range) in
    rw c.accepted.ensures (sym (ap (λ (x : Answer). x.book.held) done))
