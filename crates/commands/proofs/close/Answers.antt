-- `commands::close` meets its contract: the lines of the buys, then those of the sells, and both sides empty. Assumes nothing.
use Prim.Native.Nat.{◌+◌, ◌*◌, ◌≤◌}
use mathlib.Core.Bool.{true, false}
use mathlib.Core.List.{List, ◌++◌, map}
use mathlib.Core.Path.{◌≡◌, sym, ◌∙◌}
use lib.ListN.{length, length-append, length-take, length-drop}
use native.Mathlib.Omega.{arith}
use Rattle.kinds.specs.Kinds.{shares}
use Rattle.orders.specs.Reports.{cancelled_for}
use Rattle.orders.proofs.LawsReady.{all_countable}
use Rattle.orders.proofs.reports.LawsReports.{lines_length}
use Rattle.rules.specs.declared.Event.{Event}
use Rattle.rules.specs.declared.Reason.TheVariants.{AtClose}
use Rattle.rules.specs.declared.Resting.{Resting}
use Rattle.rules.specs.Book.{Book, shares_left, places_a_side}
use Rattle.rules.specs.EventLines.{event_lines}
use Rattle.rules.specs.Reasons.{number_of_reason}
use Rattle.rules.proofs.LawsEvents.{cancelled_length, event_lines_append, lines_behind}
use Rattle.side.proofs.tables.LawsAnswers.{left_done}
use Rattle.soundness.proofs.LawsSound.{sound_is}
use Rattle.commands.proofs.LawsDone.{closed_all, closed_is}
use Rattle.commands.proofs.close.Goals as goal
use Rattle.commands.proofs.close.Goals.{Start}

-- the lines of a side
abbrev events : List Resting → List Event
events s = map (cancelled_for (number_of_reason AtClose)) s

events_length : (s : List Resting) → length (event_lines (events s)) ≡ 21 * length s
events_length s = lines_length (cancelled_for (number_of_reason AtClose)) 21 (λ h. cancelled_length h.number (shares (shares_left h)) (number_of_reason AtClose)) s

-- both sides have room for their lines
fits : (c : Start) → (length c.args.buys.now ≤ places_a_side) × (length c.args.sells.now ≤ places_a_side)
fits c = let s = sound_is _ c.requires.sides.is_sound in (s.buys_fit, s.sells_fit)

pub report_cancelled-length-requires-clause-room : goal.report_cancelled-length-requires-clause-room
report_cancelled-length-requires-clause-room c = let f = fits (goal.at.report_cancelled-length-requires-clause-room c).Start in omega (arith, f.0, c.requires.room)

pub report_cancelled-length-requires-clause-countable : goal.report_cancelled-length-requires-clause-countable
report_cancelled-length-requires-clause-countable c = all_countable true _ c.requires.sides.is_sound

pub slice_bounds-report_cancelled-count : goal.slice_bounds-report_cancelled-count
slice_bounds-report_cancelled-count c =
    let r = c.report_cancelled-length in
    let f = fits (goal.at.slice_bounds-report_cancelled-count c).Start in
    omega (arith, r.ensures.value, r.auto.out, f.0, c.requires.room)

pub slice_bounds-report_cancelled-start : goal.slice_bounds-report_cancelled-start
slice_bounds-report_cancelled-start c =
    let r = c.report_cancelled-length in
    let f = fits (goal.at.slice_bounds-report_cancelled-start c).Start in
    omega (arith, r.ensures.value, r.auto.out, f.0, c.requires.room)

pub report_cancelled-more-requires-clause-room : goal.report_cancelled-more-requires-clause-room
report_cancelled-more-requires-clause-room c =
    let r = c.report_cancelled-length in
    let f = fits (goal.at.report_cancelled-more-requires-clause-room c).Start in
    simp (length-take, length-drop) (omega (arith, r.ensures.value, r.auto.out, f.0, f.1, c.requires.room))

pub report_cancelled-more-requires-clause-countable : goal.report_cancelled-more-requires-clause-countable
report_cancelled-more-requires-clause-countable c = all_countable false _ c.requires.sides.is_sound

pub overflow_add-result : goal.overflow_add-result
overflow_add-result c =
    let f = fits (goal.at.overflow_add-result c).Start in
    omega (arith, c.report_cancelled-length.ensures.value, c.report_cancelled-more.ensures.value, f.0, f.1)

pub returns : goal.returns
returns c n time held =
    let a = c.args in
    let r = c.report_cancelled-length in
    let q = c.report_cancelled-more in
    let bought = events a.buys.now in
    let sold = events a.sells.now in
    let len : r.result ≡ length (event_lines bought) = r.ensures.value ∙ sym (events_length a.buys.now) in
    let more : q.result ≡ length (event_lines sold) = q.ensures.value ∙ sym (events_length a.sells.now) in
    let all : r.result + q.result ≡ length (event_lines (bought ++ sold)) =
    rw (event_lines_append bought sold) (omega (arith, length-append (event_lines bought) (event_lines sold), len, more)) in
    let b : Book = record { held = held; buys = a.buys.now; sells = a.sells.now } in
    left_done (closed_all n time b) (r.result + q.result) _ _ _ a.out.now _ (closed_is n time b) all c.clear.ensures c.clear-2.ensures
    (lines_behind bought sold r.result r.new.out a.out.now q.new.out len (rw (← c.from-reason.ensures) r.ensures.out_after)
    (rw (← c.from-reason.ensures) q.ensures.out_after))
