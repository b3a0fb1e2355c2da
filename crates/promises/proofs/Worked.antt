-- Promises that are not empty: three nights (`specs/Night`) are computed, and at orders of theirs these are read. At one that trades, is
-- refused, is sent again, is killed and is refilled: `executes_the_greatest` and `no_share_lost` (demand 3), `an_order_refills` (W4); at a
-- locked one: `half_a_cent_under_a_lock`, `whole_cents_without_a_lock` (W6); at one of minimums: `executes_in_rank`,
-- `who_gives_nothing_stays`, `reason_8_is_given` (W7). Assumes nothing.
use Prim.Native.Nat.{ℕ, ◌%◌, ◌≤◌, ◌<◌}
use mathlib.Core.Bool.{true, false}
use mathlib.Core.List.{List, [], ◌∷◌}
use mathlib.Core.Path.{◌≡◌, refl, sym, subst, ◌∙◌}
use lib.Count.{ones, ones_in}
use lib.ListN.{take, drop}
use native.Mathlib.Omega.{arith}
use Rattle.basics.specs.Bytes.{onto}
use Rattle.basics.specs.Lists.{every, any, distinct, total, sum_of, gathered, All, none, also, OneOf, first}
use Rattle.digits.specs.Digits.{digits, nibble_of, all_digits, number_after, number_in}
use Rattle.kinds.specs.Kinds.{cents, number, shares, in_half_cents, half_above}
use Rattle.kinds.specs.declared.HalfCents.{HalfCents}
use Rattle.rules.specs.declared.Away.{Away}
use Rattle.rules.specs.declared.Event.{Event}
use Rattle.rules.specs.declared.Event.TheVariants.{Executed, Cancelled}
use Rattle.rules.specs.declared.Ending.TheVariants.{Rests}
use Rattle.rules.specs.declared.Order.{Order}
use Rattle.rules.specs.declared.Resting.{Resting}
use Rattle.rules.specs.Book.{Book, fresh, ranks_before, in_rank_order, apart, sound, shares_left}
use Rattle.rules.specs.CommandLines.{written, line_of, numbers_from, kinds, body_of_form, body_from, body_in, command_in}
use Rattle.rules.specs.Commands.{cancel, quote, close, carried_out, does}
use Rattle.rules.specs.Day.{in_front, cut, unended_line, lines_in, printed, book_after, printed_of}
use Rattle.rules.specs.EventLines.{event_line, event_lines, refusal_line}
use Rattle.rules.specs.EventReading.{of_fields, of_kind, event_in}
use Rattle.rules.specs.Holdings.{Holding, shown_part, size, behind_its_price, holdings, nothing, walk, executions, taken_of, keeping, after}
use Rattle.rules.specs.Instructions.{lawful}
use Rattle.rules.specs.Refusals.{first_of, rests_on_full_side, header_refusals, body_refusals, line_refusals, refusals}
use Rattle.rules.specs.Settling.{insert, insert_all, staying, set_anew, told, stamped_from, settled_side, settled, both_settled}
use Rattle.rules.specs.Step.{done_by, answer, answer_to}
use Rattle.rules.specs.Working.{walked, takings, remainder, seeks, ending_with, ending, worked, accept}
use Rattle.demands.specs.ExactlyWhen.{own}
use Rattle.demands.specs.Executes.{executions_in}
use Rattle.demands.specs.Locks.{ExecutesWith}
use Rattle.demands.specs.Minimum.{NoMinimum, least_given, WalksInRank, at_the_end, ends, skips, gives, ExecutesInRank, a_buy, StillMeets}
use Rattle.demands.specs.Once.{acting_numbers, struck_out, by_line, acts}
use Rattle.demands.specs.Refilled.{Due, Stands, IsRefilled}
use Rattle.demands.specs.Run.{Enters, now, later}
use Rattle.demands.specs.ShareOut.{against, Given, given, Lawful, Fills, Locked}
use Rattle.demands.specs.Told.{events_on, events_in, is_killed, executed_in, given_in, cancelled_in, resting_of}
use Rattle.promises.proofs.Promises.{sound_all_day_by_line, executes_the_greatest, no_share_lost, an_order_refills}
use Rattle.promises.proofs.Promises.{half_a_cent_under_a_lock, whole_cents_without_a_lock}
use Rattle.promises.proofs.Promises.{executes_in_rank, who_gives_nothing_stays, reason_8_is_given}
use Rattle.promises.specs.Night.{night, night_struck_out, night_events, reserved_rests, locked_night, locked_events, locked_sell, locking_buy, sweeping, the_sweeping}
use Rattle.promises.specs.Night.{minimum_night, minimum_events, large_rests, small, choosy, the_small, the_choosy}
use Rattle.promises.specs.Night.{killed, greedy, resting, reserved, taking, the_killed, the_greedy, the_resting, the_reserved, the_taking}
use Rattle.std.specs.Prelude.{Some}

-- ── What the night is computed by ──

-- to unfold a definition is to unfold all that its own line names: these two stand for such names, their values say nothing
lines_answered : ℕ
unfolding ones ones_in onto every any distinct total digits nibble_of all_digits number_after number_in ranks_before in_rank_order apart sound
    written line_of numbers_from kinds body_of_form body_from body_in command_in lawful first_of rests_on_full_side header_refusals
    body_refusals line_refusals refusals done_by answer answer_to behind_its_price holdings nothing walk walked takings remainder
    executions taken_of keeping after seeks ending_with ending worked insert insert_all gathered staying set_anew told stamped_from
    settled_side settled both_settled accept cancel quote close carried_out does
lines_answered = 0

lines_read : ℕ
unfolding lines_answered in_front cut unended_line lines_in printed event_line event_lines refusal_line of_fields of_kind event_in events_on
lines_read = 0

-- ── Demand 1 ──

-- eleven of the fourteen lines act, each number once; the line sent again, the empty one and the one that leaves out a number do not
night_acts : acting_numbers by_line fresh night ≡ 1 ∷ 2 ∷ 3 ∷ 4 ∷ 5 ∷ 6 ∷ 7 ∷ 8 ∷ 9 ∷ 10 ∷ 11 ∷ []
unfolding lines_answered acting_numbers
night_acts = refl

night_struck_out_lem : struck_out by_line fresh night ≡ night_struck_out
unfolding lines_answered struck_out
night_struck_out_lem = refl

-- ── What the night tells ──

night_tells : events_in (printed_of fresh night) ≡ night_events
unfolding lines_read book_after printed_of
night_tells = refl

-- ── Demand 3 ──

-- three of the night's orders enter it: the Fill-or-Kill that the away price kills, the one that takes all it may, and the one whose
-- remainder rests
killed_enters : Enters by_line fresh night (book_after fresh (take 5 night)) (line_of the_killed) the_killed killed
unfolding lines_answered book_after
killed_enters = later (later (later (later (later (now refl refl refl)))))

greedy_enters : Enters by_line fresh night (book_after fresh (take 6 night)) (line_of the_greedy) the_greedy greedy
unfolding lines_answered book_after
greedy_enters = later (later (later (later (later (later (now refl refl refl))))))

resting_enters : Enters by_line fresh night (book_after fresh (take 8 night)) (line_of the_resting) the_resting resting
unfolding lines_answered book_after
resting_enters = later (later (later (later (later (later (later (later (now refl refl refl))))))))

-- 300 shares rest within the limit of the Fill-or-Kill, and yet no lawful share-out fills it, for 100 of them rest above the away offer
kills : is_killed (number 5) (events_in (printed (answer_to (book_after fresh (take 5 night)) (line_of the_killed)))) ≡ true
unfolding lines_read book_after
kills = refl

-- no order of the night has a minimum
plain_to_kill : NoMinimum killed (book_after fresh (take 5 night))
unfolding lines_answered book_after
plain_to_kill = record { incoming = refl; resting = also refl (also refl none) }

plain_to_greedy : NoMinimum greedy (book_after fresh (take 6 night))
unfolding lines_answered book_after
plain_to_greedy = record { incoming = refl; resting = also refl (also refl none) }

pub away_price_kills : Fills killed (book_after fresh (take 5 night)).held.away (book_after fresh (take 5 night)).buys (holdings (book_after fresh (take 5 night)).sells) → ⊥
away_price_kills =
    (executes_the_greatest night (book_after fresh (take 5 night)) (line_of the_killed) the_killed killed killed_enters refl plain_to_kill).killed_only kills

-- the next order executes 200 shares, and no lawful share-out gives it more
takes_200 : executed_in (number 6) (events_in (printed (answer_to (book_after fresh (take 6 night)) (line_of the_greedy)))) ≡ 200
unfolding lines_read book_after sum_of
takes_200 = refl

lives : is_killed (number 6) (events_in (printed (answer_to (book_after fresh (take 6 night)) (line_of the_greedy)))) ≡ false
unfolding lines_read book_after
lives = refl

pub nobody_gives_more : (gs : List Given)
    → Lawful greedy (book_after fresh (take 6 night)).held.away (book_after fresh (take 6 night)).buys (holdings (book_after fresh (take 6 night)).sells) gs → given gs ≤ 200
nobody_gives_more gs l =
    subst (λ (k : ℕ). given gs ≤ k) takes_200
    ((executes_the_greatest night (book_after fresh (take 6 night)) (line_of the_greedy) the_greedy greedy greedy_enters refl plain_to_greedy).greatest lives
    gs l)

-- 150 shares are entered: 100 are executed, 50 rest and are cancelled at the close, none rests then
executed_100 : executed_in (number 8) night_events ≡ 100
unfolding sum_of
executed_100 = refl

cancelled_50 : cancelled_in (number 8) night_events ≡ 50
unfolding sum_of
cancelled_50 = refl

pub none_rests : resting_of (number 8) (book_after fresh night) ≡ 0
none_rests =
    let kept = no_share_lost night (book_after fresh (take 8 night)) (line_of the_resting) the_resting resting resting_enters in
    let sum = rw (night_tells, executed_100, cancelled_50) at kept in
    omega (arith, sum)

-- ── W4 ──

-- 300 shares are entered with a Max Floor of 100: 150 are executed, the shown part and 50 of the reserve, 150 are cancelled at the close,
-- none rests then
reserved_enters : Enters by_line fresh night (book_after fresh (take 9 night)) (line_of the_reserved) the_reserved reserved
unfolding lines_answered book_after
reserved_enters = later (later (later (later (later (later (later (later (later (now refl refl refl)))))))))

executed_150 : executed_in (number 9) night_events ≡ 150
unfolding sum_of
executed_150 = refl

cancelled_150 : cancelled_in (number 9) night_events ≡ 150
unfolding sum_of
cancelled_150 = refl

pub none_of_the_reserve_rests : resting_of (number 9) (book_after fresh night) ≡ 0
none_of_the_reserve_rests =
    let kept = no_share_lost night (book_after fresh (take 9 night)) (line_of the_reserved) the_reserved reserved reserved_enters in
    let sum = rw (night_tells, executed_150, cancelled_150) at kept in
    omega (arith, sum)

-- the order that takes the 150 finds it alone on its side, uses up its shown part, and leaves reserve
abbrev found : Book
found = book_after fresh (take 10 night)

abbrev taking_tells : List Event
taking_tells = events_in (printed (answer_to found (line_of the_taking)))

stands_alone : found.sells ≡ reserved_rests ∷ []
unfolding lines_answered book_after
stands_alone = refl

taking_acts : acts found (line_of the_taking) ≡ true
unfolding lines_answered book_after
taking_acts = refl

taking_reads : command_in (line_of the_taking) ≡ Some the_taking
unfolding lines_answered
taking_reads = refl

gives_150 : given_in (number 9) taking_tells ≡ 150
unfolding lines_read book_after sum_of
gives_150 = refl

is_due_lem : Due taking_tells reserved_rests
is_due_lem = record {
  used_up = subst (λ (k : ℕ). 100 ≤ k) (sym gives_150) (omega arith);
  is_left = subst (λ (k : ℕ). k < 300) (sym gives_150) (omega arith);
}

-- so it is refilled: it shows its Max Floor, and keeps what it had less what it gave
pub is_refilled : Stands (IsRefilled (number 10) taking_tells reserved_rests) (answer_to found (line_of the_taking)).book.sells
is_refilled =
    let all_refills = an_order_refills found (line_of the_taking) the_taking taking (sound_all_day_by_line (take 10 night)) in
    (all_refills taking_acts taking_reads refl).refills reserved_rests (subst (OneOf reserved_rests) (sym stands_alone) first) is_due_lem

pub shows_100 : is_refilled.order.shares.0 ≡ 100
shows_100 = rw gives_150 at is_refilled.is.shown

pub keeps_150 : shares_left is_refilled.order ≡ 150
keeps_150 =
    let kept = rw gives_150 at is_refilled.is.in_all in
    omega (arith, kept)

-- ── W6 ──

-- a sell is hidden at 10.05 and a buy displayed there: a buy limited at that price is cancelled, and a market buy executes at 10.055
locked_night_tells : events_in (printed_of fresh locked_night) ≡ locked_events
unfolding lines_read book_after printed_of
locked_night_tells = refl

abbrev lock_stands : Book
lock_stands = book_after fresh (take 3 locked_night)

sells_locked : lock_stands.sells ≡ locked_sell ∷ []
unfolding lines_answered book_after
sells_locked = refl

buys_locking : lock_stands.buys ≡ locking_buy ∷ []
unfolding lines_answered book_after
buys_locking = refl

sweeping_acts : acts lock_stands (line_of the_sweeping) ≡ true
unfolding lines_answered book_after
sweeping_acts = refl

sweeping_reads : command_in (line_of the_sweeping) ≡ Some the_sweeping
unfolding lines_answered
sweeping_reads = refl

sweeping_tells : events_in (printed (answer_to lock_stands (line_of the_sweeping)))
    ≡ Executed (number 4) (number 1) (half_above locked_sell.price) (shares 60) ∷ []
unfolding lines_read book_after
sweeping_tells = refl

is_locked_lem : Locked lock_stands.buys locked_sell
is_locked_lem = record {
  hidden = refl;
  by = locking_buy;
  there = subst (OneOf locking_buy) (sym buys_locking) first;
  shown = refl;
  at_its_price = refl;
}

sweeping_executes : ExecutesWith lock_stands (line_of the_sweeping) sweeping locked_sell (half_above locked_sell.price)
sweeping_executes = record {
  command = the_sweeping;
  shares = shares 60;
  is_sound = sound_all_day_by_line (take 3 locked_night);
  is_accepted = sweeping_acts;
  reads = sweeping_reads;
  enters = refl;
  there = subst (OneOf locked_sell) (sym sells_locked) first;
  prints = subst (OneOf (Executed (number 4) (number 1) (half_above locked_sell.price) (shares 60))) (sym sweeping_tells) first;
}

-- and at whatever price it executes against that order, the promise says which: 2,011 half cents, no whole number of cents
pub pays_2011 : {price : HalfCents} → ExecutesWith lock_stands (line_of the_sweeping) sweeping locked_sell price → price.0 ≡ 2011
pays_2011 e = (half_a_cent_under_a_lock e is_locked_lem).0 refl

pub pays_no_whole_cents : ((half_above locked_sell.price).0 % 2 ≡ 0) → ⊥
pays_no_whole_cents even = (whole_cents_without_a_lock sweeping_executes).0 even is_locked_lem

-- ── W7 ──

-- a buy of 80 skips the order that wants 100 at least, takes 50 behind it and is cancelled with reason 8; one that wants 400 itself gets none of
-- the 300; one of 250 takes of the first, whose minimum is then the 50 that are left
minimum_night_tells : events_in (printed_of fresh minimum_night) ≡ minimum_events
unfolding lines_read book_after printed_of
minimum_night_tells = refl

minimum_night_leaves : (book_after fresh minimum_night).sells ≡ large_rests 50 50 ∷ []
unfolding lines_answered book_after
minimum_night_leaves = refl

-- of a walk in rank order: whoever it reaches with less left than the smaller of its minimum and its holding gives nothing ..
none_of_the_first : {o : Order} {away : Away} {own : List Resting} {left : ℕ} {h : Holding} {hs : List Holding} {gs : List Given}
    → left < least_given h → WalksInRank o away own left (h ∷ hs) gs → given (take 1 gs) ≡ 0
unfolding sum_of
none_of_the_first l (ends may_not none) = refl
none_of_the_first l (ends may_not (also z a)) = omega (arith, z)
none_of_the_first l (skips may m z w) = omega (arith, z)
none_of_the_first l (gives here fair m e w) = let enough : ⊥ = omega (arith, l, m) in absurd enough

-- .. and all together give no more than they hold
no_shares : {gs : List Given} → All (λ (g : Given). g.shares ≡ 0) gs → given gs ≡ 0
unfolding sum_of
no_shares none = refl
no_shares (also z a) = omega (arith, z, no_shares a)

no_more_than_held : {o : Order} {away : Away} {own : List Resting} {left : ℕ} {hs : List Holding} {gs : List Given}
    → WalksInRank o away own left hs gs → given gs ≤ sum_of size hs
unfolding sum_of
no_more_than_held at_the_end = omega arith
no_more_than_held (ends may_not a) = omega (arith, no_shares a)
no_more_than_held (skips may l z w) = omega (arith, z, no_more_than_held w)
no_more_than_held (gives here fair l e w) = omega (arith, e, no_more_than_held w)

-- the buy of 80 reaches first the order that wants 100 at least
abbrev skipping : Book
skipping = book_after fresh (take 2 minimum_night)

small_enters : Enters by_line fresh minimum_night skipping (line_of the_small) the_small small
unfolding lines_answered book_after
small_enters = later (later (now refl refl refl))

pub small_in_rank : ExecutesInRank skipping the_small small (events_in (printed (answer_to skipping (line_of the_small))))
small_in_rank = executes_in_rank minimum_night skipping (line_of the_small) the_small small small_enters refl

large_comes_first : against small skipping ≡ shown_part (large_rests 300 100) ∷ drop 1 (against small skipping)
unfolding lines_answered book_after
large_comes_first = refl

small_lives : is_killed (number 3) (events_in (printed (answer_to skipping (line_of the_small)))) ≡ false
unfolding lines_read book_after
small_lives = refl

executes_50 : executed_in (number 3) (events_in (printed (answer_to skipping (line_of the_small)))) ≡ 50
unfolding lines_read book_after sum_of
executes_50 = refl

-- so the promise says: that order gives none, and yet its walk gives 50; it was skipped, and the walk went on
pub skipped_it_gives_none : given (take 1 small_in_rank.walk) ≡ 0
skipped_it_gives_none =
    none_of_the_first (omega arith)
    (subst (λ (hs : List Holding). WalksInRank small skipping.held.away (own small skipping) 80 hs small_in_rank.walk) large_comes_first
    small_in_rank.walks)

pub the_walk_goes_on : given small_in_rank.walk ≡ 50
the_walk_goes_on = sym (small_in_rank.otherwise small_lives (omega arith)).1 ∙ executes_50

-- the buy that wants 400 finds these 300 alone
abbrev choosing : Book
choosing = book_after fresh (take 3 minimum_night)

choosy_enters : Enters by_line fresh minimum_night choosing (line_of the_choosy) the_choosy choosy
unfolding lines_answered book_after
choosy_enters = later (later (later (now refl refl refl)))

choosy_in_rank : ExecutesInRank choosing the_choosy choosy (events_in (printed (answer_to choosing (line_of the_choosy))))
choosy_in_rank = executes_in_rank minimum_night choosing (line_of the_choosy) the_choosy choosy choosy_enters refl

holds_300 : sum_of size (against choosy choosing) ≡ 300
unfolding lines_answered book_after sum_of
holds_300 = refl

-- so its walk gives less than its minimum, and by the promise it executes nothing
pub below_its_minimum_nothing : executions_in (events_in (printed (answer_to choosing (line_of the_choosy)))) ≡ []
below_its_minimum_nothing = choosy_in_rank.below_nothing (omega (arith, no_more_than_held choosy_in_rank.walks, holds_300))

-- the order that was skipped stands as before, by the promise
stands_first : OneOf (large_rests 300 100) skipping.sells
unfolding lines_answered book_after
stands_first = first

small_acts : acts skipping (line_of the_small) ≡ true
unfolding lines_answered book_after
small_acts = refl

small_reads : command_in (line_of the_small) ≡ Some the_small
unfolding lines_answered
small_reads = refl

gives_nothing : given_in (number 1) (events_in (printed (answer_to skipping (line_of the_small)))) ≡ 0
unfolding lines_read book_after sum_of
gives_nothing = refl

pub skipped_it_stays : OneOf (large_rests 300 100) (answer_to skipping (line_of the_small)).book.sells
skipped_it_stays =
    who_gives_nothing_stays skipping (line_of the_small) the_small small (sound_all_day_by_line (take 2 minimum_night)) small_acts small_reads refl
    (large_rests 300 100) stands_first gives_nothing

-- and so the buy of 80 is cancelled for reason 8: at 10.06 it would still pass that order, and no buy is displayed there
no_buys : skipping.buys ≡ []
unfolding lines_answered book_after
no_buys = refl

seeks_its_limit : seeks small skipping.held.away ≡ Rests (in_half_cents (cents 1006))
unfolding lines_answered book_after
seeks_its_limit = refl

none_of_none : {h : Resting} → OneOf h [] → ⊥
none_of_none = elim [ ]

small_still_meets : StillMeets small skipping (answer_to skipping (line_of the_small)).book
small_still_meets = record {
  not_post_only = refl;
  not_fok = refl;
  not_ioc = refl;
  price = in_half_cents (cents 1006);
  sought = seeks_its_limit;
  whom = large_rests 300 100;
  there = skipped_it_stays;
  meets = a_buy refl (omega arith);
  unlocked = λ l. none_of_none (subst (OneOf l.by) no_buys l.there);
}

pub is_cancelled_for_8 : OneOf (Cancelled (number 3) (shares 30) 8) (events_in (printed (answer_to skipping (line_of the_small))))
is_cancelled_for_8 =
    let sound_there = sound_all_day_by_line (take 2 minimum_night) in
    let some = subst (λ (k : ℕ). k < 80) (sym executes_50) (omega arith) in
    rw executes_50 at (reason_8_is_given skipping (line_of the_small) the_small small sound_there small_acts small_reads refl some small_still_meets)
