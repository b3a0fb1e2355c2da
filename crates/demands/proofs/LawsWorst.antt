-- The most that one command writes (`specs/Room`) is reached: on a book that is sound, by a line that is accepted. Said of any number of
-- orders, by induction, so that no number of places is ever counted out. Assumes nothing.
use Prim.Native.Nat.{ℕ, zero, suc, ◌+◌, ◌-◌, ◌*◌, ◌≤◌, ◌<◌}
use mathlib.Core.Bool.{Bool, true, false}
use mathlib.Core.List.{List, []}
use mathlib.Core.Path.{◌≡◌, refl, sym, ap, ◌∙◌}
use lib.Count.{ones}
use lib.Dec.{eqb}
use lib.ListN.{length}
use native.Mathlib.Omega.{arith}
use borrow.Author.Tests.{eq-eqb, le-leb, le-ltb, lt-leb, lt-ltb, ne_eqb}
use Rattle.basics.specs.Lists.{every, any, distinct, total, All, none, also, Each}
use Rattle.basics.proofs.LawsChoice.{and_none}
use Rattle.kinds.specs.Kinds.{number, shares, lowest_price, most_shares}
use Rattle.kinds.specs.declared.HalfCents.{HalfCents}
use Rattle.kinds.specs.declared.Number.{Number}
use Rattle.rules.specs.declared.Event.TheVariants.{Rested}
use Rattle.rules.specs.declared.Resting.{Resting}
use Rattle.rules.specs.Book.{places_a_side, opening, in_rank_order, ranks_before, resting_in_range, numbers, apart, sound}
use Rattle.rules.specs.CommandLines.{empty, fits, Fits, order_kind}
use Rattle.rules.specs.Commands.{does}
use Rattle.rules.specs.Day.{printed}
use Rattle.rules.specs.EventLines.{event_lines}
use Rattle.rules.specs.Holdings.{Holding, size, holdings, walk, smaller, executions, after}
use Rattle.rules.specs.Instructions.{lawful}
use Rattle.rules.specs.Refusals.{first_of, is_rest, rests_on_full_side, header_refusals, body_refusals, line_refusals, refusals}
use Rattle.rules.specs.Step.{done_by, answer, answer_to}
use Rattle.rules.specs.Working.{met_by, limit_of, execution_price, may_touch, walked, takings, remainder, seeks, ending_with, ending, last_line}
use Rattle.rules.proofs.LawsBest.{all_holdings}
use Rattle.rules.proofs.LawsEvents.{event_lines_one, none_long, rested_length, executions_more}
use Rattle.rules.proofs.LawsHoldings.{parts_alike, each_parts, keeping_all}
use Rattle.rules.proofs.LawsLines.{command_in_line_of}
use Rattle.rules.proofs.LawsWalkOrder.{holdings_length}
use Rattle.soundness.proofs.LawsSound.{is_sound_lem}
use Rattle.demands.proofs.LawsRoom.{order_writes, order_long}
use Rattle.demands.proofs.LawsWalked.{unskipped, takes_all}
use Rattle.demands.specs.Once.{acts}
use Rattle.demands.specs.Room.{worst_lines, two_shares, reserves_from, full_of_reserves, walks_through, next_command, next_line}

-- ── The book is sound ──

reserves_length : (k n : ℕ) → length (reserves_from k n) ≡ n
unfolding reserves_from
reserves_length k zero = refl
reserves_length k (suc n) = omega (arith, reserves_length (suc k) n)

reserves_ranked : (k n : ℕ) → in_rank_order false (reserves_from k n) ≡ true
unfolding reserves_from in_rank_order ranks_before
reserves_ranked k zero = refl
reserves_ranked k (suc zero) = refl
reserves_ranked k (suc (suc n)) =
    rw (ne_eqb k (suc k) (λ e. omega (arith, e)), lt-ltb k (suc k) (omega arith)) (reserves_ranked (suc k) (suc n))

reserves_in_range : (k n last : ℕ) → 1 ≤ k → k + n ≤ last + 1 → every (resting_in_range (number last)) (reserves_from k n) ≡ true
unfolding reserves_from every
reserves_in_range k zero last l m = refl
reserves_in_range k (suc n) last l m =
    rw (le-leb 1 k l, le-leb k last (omega arith), le-leb k k (omega arith)) (reserves_in_range (suc k) n last (omega arith) (omega arith))

reserves_above : (j k n : ℕ) → j < k → any (eqb j) (numbers (reserves_from k n)) ≡ false
unfolding reserves_from any
reserves_above j k zero l = refl
reserves_above j k (suc n) l = rw (ne_eqb j k (λ e. omega (arith, e))) (reserves_above j (suc k) n (omega arith))

reserves_distinct : (k n : ℕ) → distinct (numbers (reserves_from k n)) ≡ true
unfolding reserves_from distinct
reserves_distinct k zero = refl
reserves_distinct k (suc n) = rw (reserves_above k (suc k) n (omega arith)) (reserves_distinct (suc k) n)

worst_sound : (n : ℕ) → n ≤ places_a_side → sound (full_of_reserves n) ≡ true
unfolding in_rank_order apart
worst_sound n fit =
    is_sound_lem (full_of_reserves n)
    (record {
      buys_fit = omega arith;
      sells_fit = omega (arith, reserves_length 1 n);
      buys_ranked = refl;
      sells_ranked = reserves_ranked 1 n;
      in_range = reserves_in_range 1 n n (omega arith) (omega arith);
      once = reserves_distinct 1 n;
      is_apart = refl;
      opened = refl;
      in_time = refl;
      bid = refl;
      offer = refl;
      closed_empty = refl;
    })

-- ── The walk takes all ──

-- an order that gives it all: it may be touched, holds one share, and has no minimum
record GivesItsShare (may : Holding → Bool) (h : Holding) : Type 0 where
  touched : may h ≡ true
  holds : size h ≡ 1
  plain : h.of.minimum.0 ≡ 0

-- where each may be touched and holds one share, each gives it
walk_all : (n : Number) (price : Resting → HalfCents) (may : Holding → Bool) {hs : List Holding}
    → All (GivesItsShare may) hs → (left : ℕ) → length hs ≤ left
    → let ts = walk may smaller left hs in
    (length (event_lines (executions n price hs ts)) ≡ 35 * length hs) × (total ts ≡ length hs)
    × Each (λ (h : Holding) (t : ℕ). t ≡ size h) hs ts
unfolding walk executions total
walk_all n price may none left l = (none_long, refl, Each.empty)
walk_all n price may (also {x = h} {s = s} c a) left l =
    let gives = smaller left h in
    let ts = walk may smaller (left - gives) s in
    let one : gives ≡ 1 = omega (arith, unskipped left h c.plain, c.holds, l) in
    let others = walk_all n price may a (left - gives) (omega (arith, one, l)) in
    rw c.touched (
      omega (arith, one, others.0, executions_more n price h s gives ts),
      omega (arith, one, others.1),
      Each.with (one ∙ sym c.holds) others.2,
    )

-- so none is left
all_gone : (s : List Resting) (ts : List ℕ) → Each (λ (h : Holding) (t : ℕ). t ≡ size h) (holdings s) ts → after s ts ≡ []
unfolding after
all_gone s ts e =
    no_one (keeping_all (parts_alike (λ o t r c some. some (omega (arith, c.0, c.1))) (each_parts s ts e)))
  where
    no_one : {l : List Resting} → All (λ (h : Resting). ⊥) l → l ≡ []
    no_one none = refl
    no_one (also z a) = absurd z

reserves_all : {P : Resting → Type 0} → ((k : ℕ) → P (two_shares k)) → (k n : ℕ) → All P (reserves_from k n)
unfolding reserves_from
reserves_all p k zero = none
reserves_all p k (suc n) = also (p k) (reserves_all p (suc k) n)

-- a line for each of their holdings, and one for what rests: since no command writes more, there is no other
worst_does : (n : ℕ)
    → let c = next_command n in
    length (event_lines (does c.number c.time c.body (full_of_reserves n)).events) ≡ 70 * n + 27
unfolding any walked remainder ending ending_with seeks
worst_does n =
    let c = next_command n in
    let o = walks_through n in
    let b = full_of_reserves n in
    let met = met_by o b in
    let s = b.sells in
    let may : Holding → Bool = λ h. may_touch o met.away (execution_price o met h.of) in
    let all : All (GivesItsShare may) (holdings s) =
    all_holdings (reserves_all (λ k. record { touched = refl; holds = refl; plain = refl }) 1 n)
    (reserves_all (λ k. record { touched = refl; holds = refl; plain = refl }) 1 n) in
    let long : length (holdings s) ≡ 2 * n = omega (arith, holdings_length s, reserves_length 1 n) in
    let taken = walk_all c.number (execution_price o met) may all (2 * n + 1) (omega (arith, long)) in
    let whole : takings o met ≡ walk may smaller (2 * n + 1) (holdings s) = takes_all o met (omega arith) in
    let left : remainder o met ≡ 1 = omega (arith, ap total whole, taken.1, long) in
    let gone : after s (takings o met) ≡ [] = ap (after s) whole ∙ all_gone s (walk may smaller (2 * n + 1) (holdings s)) taken.2 in
    let rested = Rested c.number (limit_of o) (shares 1) in
    let last : length (event_lines (last_line c.number (remainder o met) (ending o met))) ≡ 27 =
    rw (left, gone) (ap length (event_lines_one rested) ∙ rested_length c.number (limit_of o) (shares 1)) in
    omega (
      arith,
      order_writes c.number c.time b o,
      order_long c.number c.time b o,
      ap (λ (ts : List ℕ). length (event_lines (executions c.number (execution_price o met) (holdings s) ts))) whole,
      taken.0,
      long,
      last,
      reserves_length 1 n,
    )

-- ── Its line is accepted ──

module _ (n : ℕ) (fit : n ≤ places_a_side) where
  next_fits : Fits (next_command n)
  next_fits = record {
    header = fits 1 order_kind (omega arith) (fits 4 (n + 1) (omega arith) (fits 4 opening (omega arith) empty));
    body = fits 1 0 (omega arith)
        (fits 2 (walks_through n).word (omega arith) (fits 4 lowest_price (omega arith) (fits 4 (2 * n + 1) (omega arith) empty)));
  }

  worst_accepted : (answer_to (full_of_reserves n) (next_line n)).refusal ≡ 0
  unfolding answer_to answer refusals line_refusals header_refusals body_refusals first_of lawful ones rests_on_full_side
  worst_accepted =
      let b = full_of_reserves n in
      let o = walks_through n in
      rw (
        command_in_line_of (next_command n) next_fits,
        lt-leb (n + 1) n (omega arith),
        le-ltb (n + 1) (n + 1) (omega arith),
        le-leb 1 (2 * n + 1) (omega arith),
        le-leb (2 * n + 1) most_shares (omega arith),
        and_none (is_rest (ending o (met_by o b))),
      )
      refl

  worst_acts : acts (full_of_reserves n) (next_line n) ≡ true
  worst_acts = eq-eqb (answer_to (full_of_reserves n) (next_line n)).refusal 0 worst_accepted

  worst_printed : length (printed (answer_to (full_of_reserves n) (next_line n))) ≡ 70 * n + 27
  unfolding printed answer_to answer done_by
  worst_printed = rw (worst_acts, command_in_line_of (next_command n) next_fits) (worst_does n)

-- so with as many orders as a side has places
pub worst_reached : (sound (full_of_reserves places_a_side) ≡ true) × (acts (full_of_reserves places_a_side) (next_line places_a_side) ≡ true)
    × (length (printed (answer_to (full_of_reserves places_a_side) (next_line places_a_side))) ≡ worst_lines)
worst_reached = (worst_sound places_a_side (omega arith), worst_acts places_a_side (omega arith), worst_printed places_a_side (omega arith))
