-- The rows 4 to 11 of the table of refusals (01, What the machine says back): the table gives a row's number on a command exactly if
-- the row applies to it. Assumes nothing.
use Prim.Native.Nat.{ℕ, ◌+◌, ◌≤◌, ◌<◌}
use mathlib.Core.Bool.{Bool, true, false, not, ◌&&◌, ◌||◌, beq, or-true, true≢false}
use mathlib.Core.List.{List, [], ◌∷◌, ◌++◌}
use mathlib.Core.Logic.{◌≢◌, ◌⊎◌, inl, inr, ⊎_elim}
use mathlib.Core.Path.{◌≡◌, refl, sym, ap, ◌∙◌}
use lib.Dec.{eqb, leb, ltb}
use lib.ListN.{length}
use native.Mathlib.Omega.{arith}
use borrow.Author.Tests.{ltb-true, leb-true, leb-false, eqb-false, not-true, not-false, lt-ltb, le-leb, lt-leb, ne_eqb}
use Rattle.std.specs.Prelude.{if◌then◌else◌}
use Rattle.basics.specs.Lists.{any, All, none, also}
use Rattle.basics.proofs.LawsChoice.{holds_or_not, and_left, and_right, and_none, or_neither}
use Rattle.basics.proofs.LawsLists.{all_both}
use Rattle.kinds.specs.declared.Cents.{Cents}
use Rattle.kinds.specs.declared.HalfCents.{HalfCents}
use Rattle.kinds.specs.declared.Number.{Number}
use Rattle.kinds.specs.Kinds.{number, lowest_price, highest_price, fewest_shares, most_shares, price_in_range, shares_in_range}
use Rattle.rules.specs.declared.Away.{Away}
use Rattle.rules.specs.declared.Body.{Body}
use Rattle.rules.specs.declared.Body.TheVariants as body
use Rattle.rules.specs.declared.Carried.{Carried}
use Rattle.rules.specs.declared.Carried.TheVariants.{Nothing, MaxFloor, Minimum}
use Rattle.rules.specs.declared.Command.{Command}
use Rattle.rules.specs.declared.Ending.{Ending}
use Rattle.rules.specs.declared.Ending.TheVariants.{Filled, Rests, Cancels}
use Rattle.rules.specs.declared.Order.{Order}
use Rattle.rules.specs.declared.Resting.{Resting}
use Rattle.rules.specs.Book.{Book, BookRecord, book_in, away_in_range, opening, closing, places_a_side}
use Rattle.rules.specs.Commands.{is_number}
use Rattle.rules.specs.Instructions.{displayed, market, reserve, has, needs, lawful}
use Rattle.rules.specs.Refusals.{Refusal, is_close, untimely, carries_floor, carries_minimum, order_lawful, order_price_in_range, carried_in_range, order_in_range, is_resting, is_rest, rests_on_full_side, header_refusals, body_refusals}
use Rattle.rules.specs.Working.{met_by, ending}
use Rattle.demands.specs.ExactlyWhen.{own, NeitherNoneNorInRange, AppliesTo, seen, too_high, is_closed, before_the_last, before_the_opening, from_the_closing_on, after_the_closing, unlawful, reserve_with_no_floor, floor_with_no_reserve, reserve_with_minimum, minimum_displayed, no_side, shares_outside, limit_outside, market_priced, floor_outside, minimum_outside, bid_outside, offer_outside, not_resting, side_full}

-- a table gives a number, in one of its rows
pub data Gives : ℕ → List Refusal → Type 0 where
  here : {x : Refusal} {s : List Refusal} → x.given ≡ true → Gives x.number (x ∷ s)
  later : {x : Refusal} {s : List Refusal} {k : ℕ} → Gives k s → Gives k (x ∷ s)

-- ── Tests that hold, and tests that fail ──

-- one of the tests of a disjunction that holds holds
pub either_holds : (a b : Bool) → (a || b) ≡ true → (a ≡ true) ⊎ (b ≡ true)
either_holds true b h = inl refl
either_holds false b h = inr h

-- one of the tests of a conjunction that fails fails
either_fails : (a b : Bool) → (a && b) ≡ false → (a ≡ false) ⊎ (b ≡ false)
either_fails true b h = inr h
either_fails false b h = inl refl

-- a test that is not as one that fails holds
unlike_none : (t : Bool) → beq t false ≡ false → t ≡ true
unlike_none true h = refl
unlike_none false h = absurd (true≢false h)

-- a number that is not from the least to the most is below the one or above the other
is_outside : (least most n : ℕ) → (leb least n && leb n most) ≡ false → (n < least) ⊎ (most < n)
is_outside least most n h =
    ⊎_elim
    (λ (t : leb least n ≡ false). inl (leb-false least n t))
    (λ (t : leb n most ≡ false). inr (leb-false n most t))
    (either_fails (leb least n) (leb n most) h)

-- and the other way round
not_within : (least most n : ℕ) → (n < least) ⊎ (most < n) → (leb least n && leb n most) ≡ false
not_within least most n (inl l) = rw (lt-leb least n l) refl
not_within least most n (inr l) = rw (lt-leb n most l) (and_none (leb least n))

-- ── 7: the time ──

-- the test of a close tells it from the other bodies
no_close : (b : Body) → is_close b ≡ false → b ≢ body.Close
no_close b t e = true≢false (sym (ap is_close e) ∙ t)

not_close : (b : Body) → b ≢ body.Close → is_close b ≡ false
not_close (body.Order o) n = refl
not_close (body.Cancel m) n = refl
not_close (body.Quote away) n = refl
not_close body.Close n = absurd (n refl)

-- "at or above 57,600,000 (a close may be at 57,600,000)"
abbrev too_late : Body → ℕ → Bool
too_late b time = if is_close b then ltb closing time else leb closing time

-- a time after the closing is too late; and the closing itself is, of all but a close
after_too_late : (b : Body) (time : ℕ) → closing < time → too_late b time ≡ true
after_too_late b time l =
    ⊎_elim
    (λ (t : is_close b ≡ true). rw t (lt-ltb closing time l))
    (λ (t : is_close b ≡ false). rw t (le-leb closing time (omega arith)))
    (holds_or_not (is_close b))

from_too_late : (b : Body) (time : ℕ) → closing ≤ time → b ≢ body.Close → too_late b time ≡ true
from_too_late b time l n = rw (not_close b n) (le-leb closing time l)

module _ (r : BookRecord) (c : Command) where
  -- a time that is too late, and one that is untimely: row 7 applies
  late_applies : too_late c.body c.time ≡ true → AppliesTo r c 7
  late_applies h =
      ⊎_elim
      (λ (t : is_close c.body ≡ true). after_the_closing (ltb-true closing c.time (rw t at h)))
      (λ (t : is_close c.body ≡ false). from_the_closing_on (leb-true closing c.time (rw t at h)) (no_close c.body t))
      (holds_or_not (is_close c.body))

  untimely_applies : untimely (book_in r) c ≡ true → AppliesTo r c 7
  unfolding book_in
  untimely_applies h =
      ⊎_elim
      (λ (t : (ltb c.time r.held.time || ltb c.time opening) ≡ true).
      ⊎_elim
      (λ (u : ltb c.time r.held.time ≡ true). before_the_last (ltb-true c.time r.held.time u))
      (λ (u : ltb c.time opening ≡ true). before_the_opening (ltb-true c.time opening u))
      (either_holds (ltb c.time r.held.time) (ltb c.time opening) t))
      late_applies
      (either_holds (ltb c.time r.held.time || ltb c.time opening) (too_late c.body c.time) h)

-- ── 9: fields out of range ──

-- "away price neither 0 nor 100 to 200,000", where the test of it fails
away_outside : (p : Cents) → away_in_range p ≡ false → NeitherNoneNorInRange p
away_outside p h =
    let neither = or_neither (eqb p.0 0) (price_in_range p) h in
    record { not_none = eqb-false p.0 0 neither.0; outside = is_outside lowest_price highest_price p.0 neither.1 }

away_not_within : (p : Cents) → NeitherNoneNorInRange p → away_in_range p ≡ false
away_not_within p n = rw (ne_eqb p.0 0 n.not_none) (not_within lowest_price highest_price p.0 n.outside)

module _ (r : BookRecord) (c : Command) (o : Order) (is : c.body ≡ body.Order o) where
  -- a price out of range, and an order: row 9 applies
  price_applies : order_price_in_range o ≡ false → AppliesTo r c 9
  price_applies h =
      ⊎_elim
      (λ (t : has o.word market ≡ true). market_priced o is t (eqb-false o.price.0 0 (rw t at h)))
      (λ (t : has o.word market ≡ false). limit_outside o is t (is_outside lowest_price highest_price o.price.0 (rw t at h)))
      (holds_or_not (has o.word market))

  carried_applies : (x : Carried) → o.carried ≡ x → carried_in_range o.shares x ≡ false → AppliesTo r c 9
  carried_applies Nothing e h = absurd (true≢false h)
  carried_applies (MaxFloor floor) e h = floor_outside o is floor e (is_outside 1 o.shares.0 floor.0 h)
  carried_applies (Minimum least) e h = minimum_outside o is least e (is_outside 1 o.shares.0 least.0 h)

  range_applies : order_in_range o ≡ false → AppliesTo r c 9
  range_applies h =
      let sized = leb o.side 1 && shares_in_range o.shares in
      ⊎_elim
      (λ (t : (sized && order_price_in_range o) ≡ false).
      ⊎_elim
      (λ (u : sized ≡ false).
      ⊎_elim
      (λ (v : leb o.side 1 ≡ false). let l = leb-false o.side 1 v in no_side o is (omega (arith, l)) (omega (arith, l)))
      (λ (v : shares_in_range o.shares ≡ false). shares_outside o is (is_outside fewest_shares most_shares o.shares.0 v))
      (either_fails (leb o.side 1) (shares_in_range o.shares) u))
      price_applies
      (either_fails sized (order_price_in_range o) t))
      (carried_applies o.carried refl)
      (either_fails (sized && order_price_in_range o) (carried_in_range o.shares o.carried) h)

  -- a word that is unlawful, or that does not go with what is carried, by its bit 10 or by Displayed: row 8 applies
  floor_word_applies : (x : Carried) → o.carried ≡ x → beq (has o.word reserve) (carries_floor x) ≡ false → AppliesTo r c 8
  floor_word_applies Nothing e h = reserve_with_no_floor o is e (unlike_none (has o.word reserve) h)
  floor_word_applies (MaxFloor floor) e h = floor_with_no_reserve o is floor e (unlike_some (has o.word reserve) h)
    where
      unlike_some : (t : Bool) → beq t true ≡ false → t ≡ false
      unlike_some true h = absurd (true≢false h)
      unlike_some false h = refl
  floor_word_applies (Minimum least) e h = reserve_with_minimum o is least e (unlike_none (has o.word reserve) h)

  minimum_word_applies : (x : Carried) → o.carried ≡ x → needs (carries_minimum x) (not (has o.word displayed)) ≡ false → AppliesTo r c 8
  minimum_word_applies Nothing e h = absurd (true≢false h)
  minimum_word_applies (MaxFloor floor) e h = absurd (true≢false h)
  minimum_word_applies (Minimum least) e h = minimum_displayed o is least e (not-false (has o.word displayed) h)

  word_applies : order_lawful o ≡ false → AppliesTo r c 8
  word_applies h =
      let bit10 = beq (has o.word reserve) (carries_floor o.carried) in
      ⊎_elim
      (λ (t : (lawful o.word && bit10) ≡ false).
      ⊎_elim
      (λ (u : lawful o.word ≡ false). unlawful o is u)
      (floor_word_applies o.carried refl)
      (either_fails (lawful o.word) bit10 t))
      (minimum_word_applies o.carried refl)
      (either_fails (lawful o.word && bit10) (needs (carries_minimum o.carried) (not (has o.word displayed))) h)

-- ── 10: no order of that number rests ──

-- none of the orders has the number
abbrev pub NoneHas : Number → List Resting → Type 0
NoneHas n s = All (λ (h : Resting). h.number ≢ n) s

-- where no order is found by its number, none has it
none_has : (n : Number) (s : List Resting) → any (is_number n) s ≡ false → NoneHas n s
unfolding any
none_has n [] t = none
none_has n (h ∷ s) t =
    let neither = or_neither (is_number n h) (any (is_number n) s) t in
    also (λ e. eqb-false h.number.0 n.0 neither.0 (ap (λ (m : Number). m.0) e)) (none_has n s neither.1)

-- then none is found: by the test of one order, on a side, and on both
pub has_other : (n : Number) (h : Resting) → h.number ≢ n → is_number n h ≡ false
has_other n h other = ne_eqb h.number.0 n.0 (λ e. other (ap number e))

none_found : (n : Number) (s : List Resting) → NoneHas n s → any (is_number n) s ≡ false
unfolding any
none_found n [] a = refl
none_found n (h ∷ s) (also other a) = rw (has_other n h other) (none_found n s a)

found_on_neither : (n : Number) (s u : List Resting) → NoneHas n (s ++ u) → (any (is_number n) s || any (is_number n) u) ≡ false
unfolding any
found_on_neither n [] u a = none_found n u a
found_on_neither n (h ∷ s) u (also other a) = rw (has_other n h other) (found_on_neither n s u a)

-- ── 11: the side is full ──

-- what rests, rests at a price
rest_price : (e : Ending) → is_rest e ≡ true → (price : HalfCents) × (e ≡ Rests price)
rest_price Filled h = absurd (true≢false (sym h))
rest_price (Rests price) h = (price, refl)
rest_price (Cancels reason) h = absurd (true≢false (sym h))

-- ── The rows of a command ──

-- the part of the table that is of a command
abbrev pub command_refusals : Book → Command → List Refusal
command_refusals b c = header_refusals b c ++ body_refusals b c.body

module _ (r : BookRecord) (c : Command) where
  -- 8 to 11: what a body gives applies
  body_applies : (b : Body) → c.body ≡ b → {k : ℕ} → Gives k (body_refusals (book_in r) b) → AppliesTo r c k
  unfolding body_refusals book_in rests_on_full_side
  body_applies (body.Order o) is (here t) = word_applies r c o is (not-true (order_lawful o) t)
  body_applies (body.Order o) is (later (here t)) = range_applies r c o is (not-true (order_in_range o) t)
  body_applies (body.Order o) is (later (later (here t))) =
      let rest = is_rest (ending o (met_by o (book_in r))) in
      let full = leb places_a_side (length (own o (book_in r))) in
      let at = rest_price (ending o (met_by o (book_in r))) (and_left rest full t) in
      side_full o is at.0 at.1 (leb-true places_a_side (length (own o (book_in r))) (and_right rest full t))
  body_applies (body.Order o) is (later (later (later g))) = elim g [ ]
  body_applies (body.Cancel n) is (here t) =
      let b = book_in r in
      let neither = or_neither (any (is_number n) b.buys) (any (is_number n) b.sells) (not-true (is_resting n b) t) in
      not_resting n is (all_both (none_has n b.buys neither.0) (none_has n b.sells neither.1))
  body_applies (body.Cancel n) is (later g) = elim g [ ]
  body_applies (body.Quote away) is (here t) =
      ⊎_elim
      (λ (u : away_in_range away.bid ≡ false). bid_outside away is (away_outside away.bid u))
      (λ (u : away_in_range away.offer ≡ false). offer_outside away is (away_outside away.offer u))
      (either_fails (away_in_range away.bid) (away_in_range away.offer) (not-true (away_in_range away.bid && away_in_range away.offer) t))
  body_applies (body.Quote away) is (later g) = elim g [ ]
  body_applies body.Close is g = elim g [ ]

  -- a number that the table gives on a command: its row applies
  pub gives_applies : {k : ℕ} → Gives k (command_refusals (book_in r) c) → AppliesTo r c k
  unfolding header_refusals book_in
  gives_applies (here t) = seen (leb-true c.number.0 r.held.last.0 t)
  gives_applies (later (here t)) = too_high (ltb-true (r.held.last.0 + 1) c.number.0 t)
  gives_applies (later (later (here t))) = is_closed t
  gives_applies (later (later (later (here t)))) = untimely_applies r c t
  gives_applies (later (later (later (later g)))) = body_applies c.body refl g

  -- what gives 7; what the body gives; and what of it gives 8 and 9
  by_time : untimely (book_in r) c ≡ true → Gives 7 (command_refusals (book_in r) c)
  unfolding header_refusals
  by_time t = later (later (later (here t)))

  by_its_body : {k : ℕ} (b : Body) → c.body ≡ b → Gives k (body_refusals (book_in r) b) → Gives k (command_refusals (book_in r) c)
  unfolding header_refusals
  by_its_body b is g = rw is (later (later (later (later g))))

  by_word : (o : Order) → c.body ≡ body.Order o → order_lawful o ≡ false → Gives 8 (command_refusals (book_in r) c)
  unfolding body_refusals
  by_word o is t = by_its_body (body.Order o) is (here (ap not t))

  by_range : (o : Order) → c.body ≡ body.Order o → order_in_range o ≡ false → Gives 9 (command_refusals (book_in r) c)
  unfolding body_refusals
  by_range o is t = by_its_body (body.Order o) is (later (here (ap not t)))

  by_away : (away : Away) → c.body ≡ body.Quote away → (away_in_range away.bid && away_in_range away.offer) ≡ false
      → Gives 9 (command_refusals (book_in r) c)
  unfolding body_refusals
  by_away away is t = by_its_body (body.Quote away) is (here (ap not t))

  -- a row that applies to a command: the table gives its number
  pub applies_gives : {k : ℕ} → AppliesTo r c k → Gives k (command_refusals (book_in r) c)
  unfolding header_refusals book_in body_refusals rests_on_full_side
  applies_gives (seen l) = here (le-leb c.number.0 r.held.last.0 l)
  applies_gives (too_high l) = later (here (lt-ltb (r.held.last.0 + 1) c.number.0 l))
  applies_gives (is_closed t) = later (later (here t))
  applies_gives (before_the_last l) = by_time (rw (lt-ltb c.time r.held.time l) refl)
  applies_gives (before_the_opening l) = by_time (rw (lt-ltb c.time opening l, or-true (ltb c.time r.held.time)) refl)
  applies_gives (from_the_closing_on l n) =
      by_time (rw (from_too_late c.body c.time l n) (or-true (ltb c.time r.held.time || ltb c.time opening)))
  applies_gives (after_the_closing l) =
      by_time (rw (after_too_late c.body c.time l) (or-true (ltb c.time r.held.time || ltb c.time opening)))
  applies_gives (unlawful o is t) = by_word o is (rw t refl)
  applies_gives (reserve_with_no_floor o is e t) = by_word o is (rw (e, t, and_none (lawful o.word)) refl)
  applies_gives (floor_with_no_reserve o is floor e t) = by_word o is (rw (e, t, and_none (lawful o.word)) refl)
  applies_gives (reserve_with_minimum o is least e t) = by_word o is (rw (e, t, and_none (lawful o.word)) refl)
  applies_gives (minimum_displayed o is least e t) =
      by_word o is (rw (e, t) (and_none (lawful o.word && beq (has o.word reserve) false)))
  applies_gives (no_side o is n m) = by_range o is (rw (lt-leb o.side 1 (omega (arith, n, m))) refl)
  applies_gives (shares_outside o is out) =
      by_range o is (rw (not_within fewest_shares most_shares o.shares.0 out, and_none (leb o.side 1)) refl)
  applies_gives (limit_outside o is t out) =
      by_range o is (rw (t, not_within lowest_price highest_price o.price.0 out, and_none (leb o.side 1 && shares_in_range o.shares)) refl)
  applies_gives (market_priced o is t n) =
      by_range o is (rw (t, ne_eqb o.price.0 0 n, and_none (leb o.side 1 && shares_in_range o.shares)) refl)
  applies_gives (floor_outside o is floor e out) =
      by_range o is
      (rw (e, not_within 1 o.shares.0 floor.0 out) (and_none (leb o.side 1 && shares_in_range o.shares && order_price_in_range o)))
  applies_gives (minimum_outside o is least e out) =
      by_range o is
      (rw (e, not_within 1 o.shares.0 least.0 out) (and_none (leb o.side 1 && shares_in_range o.shares && order_price_in_range o)))
  applies_gives (bid_outside away is out) = by_away away is (rw (away_not_within away.bid out) refl)
  applies_gives (offer_outside away is out) = by_away away is (rw (away_not_within away.offer out) (and_none (away_in_range away.bid)))
  applies_gives (not_resting n is a) = by_its_body (body.Cancel n) is (here (ap not (found_on_neither n (book_in r).buys (book_in r).sells a)))
  applies_gives (side_full o is price rests full) =
      by_its_body (body.Order o) is (later (later (here (rw rests (le-leb places_a_side (length (own o (book_in r))) full)))))
