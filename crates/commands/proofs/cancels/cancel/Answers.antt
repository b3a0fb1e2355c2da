-- `commands::cancels::cancel` meets its contract: the number is of a buy, of a sell or of no order. Assumes nothing.
use mathlib.Core.Bool.{true, false}
use mathlib.Core.List.{◌++◌}
use mathlib.Core.Path.{◌≡◌, refl, sym, ap, ◌∙◌}
use lib.ListN.{length}
use Rattle.std.specs.Prelude.{Some}
use Rattle.basics.specs.Bytes.{onto}
use Rattle.basics.specs.Lists.{distinct}
use Rattle.rules.specs.declared.Held.{Held}
use Rattle.rules.specs.declared.Refusal.TheVariants.{NotResting}
use Rattle.rules.specs.Book.{Book, numbers}
use Rattle.rules.proofs.LawsEvents.{event_lines_one}
use Rattle.soundness.proofs.LawsSound.{sound_is}
use Rattle.side.proofs.tables.LawsAnswers.{left_refused, left_done}
use Rattle.orders.proofs.LawsReady.{all_countable}
use Rattle.commands.specs.Cancels.{off_line}
use Rattle.commands.proofs.cancels.LawsCancelled.{found_buy, found_sell, found_none}
use Rattle.commands.proofs.cancels.LawsCancelDone.{without_buy, without_sell, cancelled_buy, cancelled_sell, cancel_refused}
use Rattle.commands.proofs.cancels.cancel.Goals as goal
use Rattle.commands.proofs.cancels.cancel.Goals.{Start}

-- the two sides, with any header, and that no number stands twice on them
module _ (c : Start) where
  abbrev with_header : Held → Book
  with_header held = record { held = held; buys = c.args.buys.now; sells = c.args.sells.now }

  once : distinct (numbers (c.args.buys.now ++ c.args.sells.now)) ≡ true
  once = (sound_is (with_header c.requires.sides.held) c.requires.sides.is_sound).once

pub seek-requires : goal.seek-requires
seek-requires c = once (goal.at.seek-requires c).Start

pub take_off-requires-clause-countable : goal.take_off-requires-clause-countable
take_off-requires-clause-countable c = all_countable true _ c.requires.sides.is_sound

pub take_off-requires-in-Some-AmongSells-clause-countable : goal.take_off-requires-in-Some-AmongSells-clause-countable
take_off-requires-in-Some-AmongSells-clause-countable c = all_countable false _ c.requires.sides.is_sound

pub returns-in-Some-AmongBuys : goal.returns-in-Some-AmongBuys
returns-in-Some-AmongBuys c n time held =
    let a = c.args in
    let b = with_header (goal.at.returns-in-Some-AmongBuys c).Start held in
    let f = c.take_off in
    let rank = c.in-Some-AmongBuys.rank in
    let e = off_line rank b.buys in
    let found = found_buy a.of b.buys b.sells c.seek.result c.seek.ensures rank (c.in-Some-AmongBuys.is ∙ ap (λ f. Some f) c.in-Some-AmongBuys.field-0-is) in
    left_done (without_buy n time a.of b rank) f.result f.new.t a.sells.now f.new.out a.out.now _
    (cancelled_buy n time a.of b (once (goal.at.returns-in-Some-AmongBuys c).Start) rank found)
    (f.ensures.value ∙ sym (ap length (event_lines_one e))) f.ensures.side_after refl
    (f.ensures.out_after ∙ ap (λ l. onto l a.out.now) (sym (event_lines_one e)))

pub returns-in-Some-AmongSells : goal.returns-in-Some-AmongSells
returns-in-Some-AmongSells c n time held =
    let a = c.args in
    let b = with_header (goal.at.returns-in-Some-AmongSells c).Start held in
    let f = c.take_off-in-Some-AmongSells in
    let rank = c.in-Some-AmongSells.rank in
    let e = off_line rank b.sells in
    let found = found_sell a.of b.buys b.sells c.seek.result c.seek.ensures rank (c.in-Some-AmongSells.is ∙ ap (λ f. Some f) c.in-Some-AmongSells.field-0-is) in
    left_done (without_sell n time a.of b rank) f.result a.buys.now f.new.t f.new.out a.out.now _
    (cancelled_sell n time a.of b (once (goal.at.returns-in-Some-AmongSells c).Start) rank found)
    (f.ensures.value ∙ sym (ap length (event_lines_one e))) refl f.ensures.side_after
    (f.ensures.out_after ∙ ap (λ l. onto l a.out.now) (sym (event_lines_one e)))

pub returns-in-None : goal.returns-in-None
returns-in-None c n time held =
    let a = c.args in
    let b = with_header (goal.at.returns-in-None c).Start held in
    let none = found_none a.of b.buys b.sells c.seek.result c.seek.ensures c.in-None.is in
    left_refused NotResting b a.out.now _ (cancel_refused n time a.of b none.0 none.1)
