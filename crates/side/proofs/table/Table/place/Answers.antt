-- `side::table::Table::place` meets its contract. The loops' invariant: how many orders the new one passes lies between low and low + range.
-- Assumes nothing.
use Prim.Native.Nat.{ℕ, ◌+◌, ◌-◌, ◌*◌, ◌/◌, ◌≤◌}
use mathlib.Core.Path.{◌≡◌, ap, ◌∙◌}
use lib.Dec.{ltb}
use lib.ListN.{length, get_or}
use native.Mathlib.Omega.{arith}
use Rattle.rules.specs.Book.{unused}
use Rattle.std.specs.Int.{from_bool}
use Rattle.side.specs.Table.{level_of}
use Rattle.side.proofs.LawsHalves.{passed, looked, all_looked, Within, quartered, halved}
use Rattle.side.proofs.table.Table.place.Goals as goal
use Rattle.side.proofs.table.Table.place.Goals.{After-is_passed-c, After-is_passed-low, After-len-n}

-- what a look at the i-th order from the worst told: whether it is among those that the new one passes
look : (c : After-len-n) (i r : ℕ)
    → let a = c.args in
    let mine = c.level_of-mine.result in
    1 ≤ i → i ≤ length a.self.now → r ≡ from_bool (ltb mine (level_of a.buying (get_or a.self.now (c.len-n.result - i) unused)))
    → r ≡ from_bool (ltb (i - 1) (passed a.self.now a.buying mine))
look c i r some l e =
    let a = c.args in
    rw c.len-n.ensures.value at e
    ∙ ap from_bool (looked a.self.now a.buying a.o c.requires.ranked c.requires.newest c.level_of-mine.result c.level_of-mine.ensures i some l)

-- what three looks told
narrowed : (c : After-is_passed-c)
    → let l = c.loop-range in
    let a = c.args in
    let quarter = (l.range + 1) / 4 in
    let beaten = c.is_passed-a.result + c.is_passed-b.result + c.is_passed-c.result in
    (beaten ≤ 3)
    × Within c.len-n.result (passed a.self.now a.buying c.level_of-mine.result) (l.low + quarter * beaten) (l.range - 3 * quarter)
narrowed c =
    let l = c.loop-range in
    let a = c.args in
    let quarter = (l.range + 1) / 4 in
    let n = c.len-n.ensures.value in
    let before = c.before.before.before.before.before in
    quartered c.len-n.result (passed a.self.now a.buying c.level_of-mine.result) l.low l.range l.invariant quarter
    c.is_passed-a.result c.is_passed-b.result c.is_passed-c.result (omega arith) (omega arith)
    (look before (l.low + quarter) c.is_passed-a.result (omega arith) (omega arith) c.is_passed-a.ensures)
    (look before (l.low + 2 * quarter) c.is_passed-b.result (omega arith) (omega arith) c.is_passed-b.ensures)
    (look before (l.low + 3 * quarter) c.is_passed-c.result (omega arith) (omega arith) c.is_passed-c.ensures)

-- and one more
stepped : (c : After-is_passed-low)
    → let l = c.loop-range-2 in
    let a = c.args in
    Within c.len-n.result (passed a.self.now a.buying c.level_of-mine.result) (l.low + c.is_passed-low.result) (l.range - 1)
stepped c =
    let l = c.loop-range-2 in
    let a = c.args in
    let n = c.len-n.ensures.value in
    let here : l.low + 1 - 1 ≡ l.low = omega arith in
    halved c.len-n.result (passed a.self.now a.buying c.level_of-mine.result) l.low l.range l.invariant c.is_passed-low.result (omega arith)
    (rw here at (look c.before.before.before.before.before (l.low + 1) c.is_passed-low.result (omega arith) (omega arith) c.is_passed-low.ensures))

pub loop-range-preserved : goal.loop-range-preserved
loop-range-preserved c = (narrowed (goal.at.loop-range-preserved c).After-is_passed-c).1

pub loop-range-2-preserved : goal.loop-range-2-preserved
loop-range-2-preserved c = stepped (goal.at.loop-range-2-preserved c).After-is_passed-low

pub returns : goal.returns
returns c =
    let l = c.loop-range-2 in
    let a = c.args in
    let mine = c.level_of-mine in
    let e : l.low ≡ passed a.self.now a.buying mine.result = omega arith in
    rw (e, c.len-n.ensures.value) (all_looked a.self.now a.buying a.o c.requires.ranked c.requires.newest mine.result mine.ensures)
