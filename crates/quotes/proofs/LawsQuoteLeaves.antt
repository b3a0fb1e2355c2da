-- The answer to a quote, and what the moves of each side ask of a sound book: it is in rank order, all its orders are older than the next
-- move, and the room of an accepted command holds the lines of both sides. Assumes nothing.
use Prim.Native.Nat.{ℕ, ◌+◌, ◌*◌, ◌≤◌, ◌<◌}
use mathlib.Core.Bool.{Bool, true, false, not, ◌&&◌}
use mathlib.Core.List.{◌++◌}
use mathlib.Core.Path.{◌≡◌, ◌∙◌}
use lib.ListN.{length}
use native.Mathlib.Omega.{arith}
use borrow.Author.Tests.{not-false}
use Rattle.basics.specs.Lists.{All}
use Rattle.kinds.specs.declared.Number.{Number}
use Rattle.rules.specs.declared.Away.{Away}
use Rattle.rules.specs.declared.Body.TheVariants as body
use Rattle.rules.specs.Book.{Book, places_a_side, stamp, in_rank_order, away_in_range, sound}
use Rattle.rules.specs.Commands.{with_accepted, with_away, quote_fate}
use Rattle.rules.specs.EventLines.{event_lines}
use Rattle.rules.specs.Refusals.{first_of, body_refusals}
use Rattle.rules.specs.Settling.{Done, own_side, first_move, set_anew, told, settled_side}
use Rattle.rules.specs.Working.{locking_price}
use Rattle.rules.proofs.LawsCommands.{quote_does}
use Rattle.rules.proofs.LawsEvents.{told_long}
use Rattle.side.specs.Looking.{price_bound, Older}
use Rattle.settling.proofs.LawsOlder.{older_all, locking_at_most}
use Rattle.basics.proofs.LawsChoice.{and_left, and_right}
use Rattle.basics.proofs.LawsLists.{all_alike}
use Rattle.side.specs.Shifts.{Countable}
use Rattle.soundness.proofs.LawsSides.{sides_of}
use Rattle.soundness.proofs.LawsSound.{sound_is}
use Rattle.side.specs.Answers.{body_answer}
use Rattle.side.proofs.tables.LawsAnswers.{body_done, body_refused, done_with, refused_with}

-- the place of the sells' first move
abbrev pub next_move : Away → Book → ℕ
next_move away b = first_move + length (set_anew (quote_fate away true) b.buys)

module _ (n : Number) (time : ℕ) (away : Away) (b : Book) where
  pub quote_refused : not (away_in_range away.bid && away_in_range away.offer) ≡ true → body_answer n time (body.Quote away) b ≡ refused_with 9 b
  unfolding first_of body_refusals
  quote_refused e = body_refused n time (body.Quote away) b 9 (omega arith) (rw e)

  abbrev pub quoted : Done
  quoted = record {
    book = record {
      held = with_away away (with_accepted n time b.held);
      buys = settled_side n first_move true (quote_fate away true) b.buys;
      sells = settled_side n (next_move away b) false (quote_fate away false) b.sells;
    };
    events = told (quote_fate away true) b.buys ++ told (quote_fate away false) b.sells;
    moves = 0;
  }

  pub quote_done : not (away_in_range away.bid && away_in_range away.offer) ≡ false → body_answer n time (body.Quote away) b ≡ done_with quoted
  unfolding first_of body_refusals
  quote_done e = let q = quote_does n time b away in body_done n time (body.Quote away) b (rw e) ∙ rw (q.0, q.1)

-- what the moves of a side ask, from place k on
pub record Ready (buy : Bool) (b : Book) (n : Number) (k : ℕ) (away : Away) : Type 0 where
  pub ranked : in_rank_order buy (own_side buy b) ≡ true
  pub fits : length (own_side buy b) ≤ places_a_side
  pub lines : length (event_lines (told (quote_fate away buy) (own_side buy b))) ≤ 27 * places_a_side
  pub priced : (locking_price buy away).0 < price_bound
  pub older : All (Older (stamp n k)) (own_side buy b)
  pub countable : All Countable (own_side buy b)

pub ready : (buy : Bool) (b : Book) → sound b ≡ true → (n : Number) (k : ℕ) → b.held.last.0 < n.0 → (away : Away)
    → not (away_in_range away.bid && away_in_range away.offer) ≡ false → Ready buy b n k away
ready buy b s n k next away e =
    let sides = sides_of buy b (sound_is b s) in
    let ranged = not-false (away_in_range away.bid && away_in_range away.offer) e in
    let bid = and_left (away_in_range away.bid) (away_in_range away.offer) ranged in
    let offer = and_right (away_in_range away.bid) (away_in_range away.offer) ranged in
    record {
      ranked = sides.own_ranked;
      fits = sides.own_fits;
      lines = omega (arith, told_long (quote_fate away buy) (own_side buy b), sides.own_fits);
      priced = omega (arith, locking_at_most buy away bid offer);
      older = older_all (stamp n k) next sides.own_in_range;
      countable = all_alike (λ h r. omega (arith, r.at_most)) sides.own_in_range;
    }
