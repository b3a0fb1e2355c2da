-- `side::table::Table::load` meets its contract. After each turn the first `i` places are copied. Assumes nothing.
use mathlib.Core.Path.{◌≡◌, ◌∙◌}
use lib.ListN.{length-set, take}
use native.Mathlib.Omega.{arith}
use Rattle.rules.specs.Book.{unused}
use Rattle.side.specs.Table.{row_of, free}
use Rattle.side.proofs.rows.LawsShown.{Shows}
use Rattle.side.proofs.tables.LawsCopied.{copied_step, copied_front}
use Rattle.side.proofs.tables.LawsNumbered.{numbered_shows}
use Rattle.side.proofs.table.Table.load.Goals as goal
use Rattle.side.proofs.table.Table.load.Goals.{After-number}

pub loop-i-preserved : goal.loop-i-preserved
loop-i-preserved c =
    let l = c.loop-i in
    let places = c.args.places.now in (
      omega arith,
      length-set l.self-inside.rows l.i c.row_of.result ∙ l.invariant.1,
      copied_step row_of unused free places c.self.inside.rows l.self-inside.rows l.i c.row_of.result
          (omega (arith, c.told-places, c.requires)) (omega (arith, c.self.invariant.all, c.requires)) c.row_of.ensures l.invariant.2,
    )

shown : (c : After-number) → let a = c.args in Shows (take a.used a.places.now) a.used c.number.new.x c.loop-i.self-inside.rows
shown c =
    let l = c.loop-i in
    let a = c.args in
    let all : l.i ≡ a.used = omega arith in
    numbered_shows a.used c.number.new.x c.requires c.number.ensures (take a.used a.places.now) l.self-inside.rows l.invariant.1
    (rw (l.invariant.2, all) (copied_front row_of a.places.now c.self.inside.rows a.used (omega (arith, c.told-places, c.requires))))

pub invariant_of-self : goal.invariant_of-self
invariant_of-self c = (shown (goal.at.invariant_of-self c).After-number).holds

pub returns : goal.returns
returns c = (shown (goal.at.returns c).After-number).is
