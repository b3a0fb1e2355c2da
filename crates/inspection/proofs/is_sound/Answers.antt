-- `inspection::is_sound` meets its contract: a count is above the limit, or each call says what the law has at its place. Assumes nothing.
use mathlib.Core.Path.{sym}
use Rattle.rules.specs.Book.{BookRecord}
use Rattle.side.specs.Sides.{places_on}
use Rattle.inspection.proofs.LawsInspection.{over_full, inspected}
use Rattle.inspection.proofs.is_sound.Goals as goal

pub returns-then-buys-sells : goal.returns-then-buys-sells
returns-then-buys-sells c = sym (over_full _ c.if-buys-sells.true)

pub returns : goal.returns
returns c =
    let a = c.args in
    let r : BookRecord = record { held = a.held.now; buys = places_on a.buys.now; sells = places_on a.sells.now } in
    rw (
      inspected r c.orders-buying.ensures.all c.orders-selling.ensures.all c.if-buys-sells.false,
      c.held_sound.ensures,
      c.are_apart-apart.ensures,
      c.side_sound-sold.ensures,
      c.side_sound-bought.ensures,
      c.orders-buying.ensures.value,
      c.orders-selling.ensures.value,
    )
