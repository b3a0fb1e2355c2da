-- `side::table::Table::insert` meets its contract: the row of the next place is named at its rank, and filled. Assumes nothing.
use Prim.Native.Nat.{◌-◌}
use mathlib.Core.List.{List}
use mathlib.Core.Path.{ap, ◌∙◌}
use native.Mathlib.Omega.{arith}
use Rattle.basics.specs.Lists.{insert_at}
use Rattle.rules.specs.declared.Resting.{Resting}
use Rattle.side.specs.Table.{hint_of}
use Rattle.side.proofs.rows.LawsShown.{length_is}
use Rattle.side.proofs.shifts.LawsRotated.{raised}
use Rattle.side.proofs.shifts.LawsShifts.{shows_inserted}
use Rattle.side.proofs.table.Table.insert.Goals as goal

pub invariant_of-self : goal.invariant_of-self
invariant_of-self c =
    let t = c.self.inside in
    let a = c.args in
    let n = length_is c.self.inside c.self.view_is in
    rw (raised t.index c.rotate_right.new.self t.held (t.held - a.at) (omega arith) (omega (arith, c.self.invariant.names.long, c.requires.1)) c.rotate_right.ensures.after, c.hint_of-hint.ensures, c.from.ensures, c.row_of.ensures)
    (shows_inserted t.held t.index t.rows c.self.invariant a.at (hint_of a.o.number.0) a.o (omega (arith, c.requires.0)) (omega (arith, c.requires.1)) (omega arith)).holds

pub returns : goal.returns
returns c =
    let t = c.self.inside in
    let a = c.args in
    let n = length_is c.self.inside c.self.view_is in
    rw (raised t.index c.rotate_right.new.self t.held (t.held - a.at) (omega arith) (omega (arith, c.self.invariant.names.long, c.requires.1)) c.rotate_right.ensures.after, c.hint_of-hint.ensures, c.from.ensures, c.row_of.ensures) (
    (shows_inserted t.held t.index t.rows c.self.invariant a.at (hint_of a.o.number.0) a.o (omega (arith, c.requires.0)) (omega (arith, c.requires.1)) (omega arith)).is
    ∙ ap (λ (s : List Resting). insert_at a.at a.o s) c.self.view_is
    )
