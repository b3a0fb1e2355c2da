-- `side::table::Table::remove` meets its contract: the row is named behind those in use. Assumes nothing.
use Prim.Native.Nat.{◌-◌, ◌<◌}
use mathlib.Core.List.{List}
use mathlib.Core.Path.{ap, ◌∙◌}
use native.Mathlib.Omega.{arith}
use Rattle.basics.specs.Lists.{remove_at}
use Rattle.rules.specs.declared.Resting.{Resting}
use Rattle.side.specs.Table.{rotated}
use Rattle.side.proofs.rows.LawsShown.{length_side, length_is}
use Rattle.side.proofs.shifts.LawsRotated.{lowered}
use Rattle.side.proofs.shifts.LawsShifts.{shows_removed}
use Rattle.side.proofs.table.Table.remove.Goals as goal

pub invariant_of-self : goal.invariant_of-self
invariant_of-self c =
    let t = c.self.inside in
    let last = t.held - 1 in
    let at = c.args.at in
    let there : at < t.held = omega (arith, c.requires, length_is t c.self.view_is) in
    rw (lowered t.index c.rotate_left.new.self (last - at) last (omega arith) (omega (arith, c.self.invariant.fits, c.self.told)) c.rotate_left.ensures.after)
    (shows_removed t.held t.index t.rows c.self.invariant at there).holds

pub returns-clause-value : goal.returns-clause-value
returns-clause-value c =
    let t = c.self.inside in
    let last = t.held - 1 in
    let at = c.args.at in
    let there : at < t.held = omega (arith, c.requires, length_is t c.self.view_is) in
    rw (lowered t.index c.rotate_left.new.self (last - at) last (omega arith) (omega (arith, c.self.invariant.fits, c.self.told)) c.rotate_left.ensures.after) (
    (shows_removed t.held t.index t.rows c.self.invariant at there).is ∙ ap (λ (s : List Resting). remove_at at s) c.self.view_is
    )

pub returns-clause-room : goal.returns-clause-room
returns-clause-room c =
    let t = c.self.inside in
    let last = t.held - 1 in
    let at = c.args.at in
    let there : at < t.held = omega (arith, c.requires, length_is t c.self.view_is) in
    let left = length_side last (rotated (last - at) last t.index) t.rows in
    rw (lowered t.index c.rotate_left.new.self (last - at) last (omega arith) (omega (arith, c.self.invariant.fits, c.self.told)) c.rotate_left.ensures.after)
    (omega (arith, left, c.self.invariant.fits))
