-- `command_lines::writer::write_order` meets its contract: the fields are written one after the other, then what is carried and the line
-- feed. Assumes nothing.
use Prim.Native.Nat.{ℕ, ◌≤◌, ◌<◌}
use mathlib.Core.List.{[], ◌∷◌}
use mathlib.Core.Path.{◌≡◌}
use lib.ListN.{length}
use native.Mathlib.Omega.{arith}
use Rattle.rules.specs.declared.Carried.{Carried}
use Rattle.rules.specs.declared.Carried.TheVariants.{Nothing, MaxFloor, Minimum}
use Rattle.rules.specs.CommandLines.{digits_in, order_form, order_form_of, reserve_form, minimum_form}
use Rattle.rules.proofs.LawsWriting.{Wrote, nothing, field, wrote_line}
use Rattle.command_lines.proofs.writer.write_order.Goals as goal
use Rattle.command_lines.proofs.writer.write_order.Goals.{After-write-3, After-write-4, After-write, After-write-2, In-MaxFloor, In-Minimum, Start}

-- ── The room ──

-- an order has the digits of one that carries nothing at least
long : (x : Carried) → digits_in order_form ≤ digits_in (order_form_of x)
long Nothing = omega arith
long (MaxFloor floor) = omega arith
long (Minimum least) = omega arith

as_carried : {x y : Carried} → x ≡ y → (n : ℕ) → digits_in (order_form_of x) < n → digits_in (order_form_of y) < n
as_carried e n l = rw e at l

roomy : (c : Start) → digits_in order_form < length c.args.out.now
roomy c = omega (arith, long c.args.order.carried, c.requires)

-- ── The fields that every order has ──

-- each place after a field, and the one before it
abbrev entry : After-write → Start
entry c = c.before.before.before

abbrev at_side : After-write-2 → After-write
at_side c = c.before.before.before.before

abbrev at_word : After-write-3 → After-write-2
at_word c = c.before.before.before.before

abbrev at_price : After-write-4 → After-write-3
at_price c = c.before.before.before.before

abbrev start : After-write-4 → Start
start c = entry (at_side (at_word (at_price c)))

fields_written : (c : After-write-4) → (let o = (start c).args.order in
    Wrote (start c).args.out.now order_form (o.side ∷ o.word ∷ o.price.0 ∷ o.shares.0 ∷ []) c.write-4.new.out)
fields_written c =
    let o = (start c).args.order in
    let side = field 1 o.side nothing (at_side (at_word (at_price c))).write.ensures in
    let word = field 2 o.word side (at_word (at_price c)).write-2.ensures in
    let price = field 4 o.price.0 word (at_price c).write-3.ensures in
    field 4 o.shares.0 price c.write-4.ensures

reserve_roomy : (c : In-MaxFloor) → digits_in reserve_form < length c.args.out.now
reserve_roomy c = as_carried c.in-MaxFloor.is _ c.requires

minimum_roomy : (c : In-Minimum) → digits_in minimum_form < length c.args.out.now
minimum_roomy c = as_carried c.in-Minimum.is _ c.requires

pub write-requires : goal.write-requires
write-requires c = omega (arith, roomy (goal.at.write-requires c).Start)

pub write-requires-2 : goal.write-requires-2
write-requires-2 c = omega (arith, roomy (entry (goal.at.write-requires-2 c).After-write))

pub write-requires-3 : goal.write-requires-3
write-requires-3 c = omega (arith, roomy (entry (at_side (goal.at.write-requires-3 c).After-write-2)))

pub write-requires-4 : goal.write-requires-4
write-requires-4 c = omega (arith, roomy (entry (at_side (at_word (goal.at.write-requires-4 c).After-write-3))))

-- ── Nothing carried ──

pub bounds-out-22 : goal.bounds-out-22
bounds-out-22 c = omega (arith, roomy (start (goal.at.bounds-out-22 c).After-write-4))

pub returns-in-Nothing : goal.returns-in-Nothing
returns-in-Nothing c =
    let here = (goal.at.returns-in-Nothing c).After-write-4 in
    let none = c.in-Nothing.is in
    rw none (wrote_line (fields_written here) (as_carried none _ (start here).requires))

-- ── A Max Floor ──

pub write-requires-in-MaxFloor : goal.write-requires-in-MaxFloor
write-requires-in-MaxFloor c = omega (arith, reserve_roomy (goal.at.write-requires-in-MaxFloor c).In-MaxFloor)

pub bounds-out-30 : goal.bounds-out-30
bounds-out-30 c = omega (arith, reserve_roomy (goal.at.bounds-out-30 c).In-MaxFloor)

pub returns-in-MaxFloor : goal.returns-in-MaxFloor
returns-in-MaxFloor c =
    let here = (goal.at.returns-in-MaxFloor c).In-MaxFloor in
    let floor = c.in-MaxFloor.floor in
    rw c.in-MaxFloor.is
    (wrote_line (field 4 floor.0 (fields_written (goal.at.returns-in-MaxFloor c).After-write-4) c.write-in-MaxFloor.ensures) (reserve_roomy here))

-- ── A minimum ──

pub write-requires-in-Minimum : goal.write-requires-in-Minimum
write-requires-in-Minimum c = omega (arith, minimum_roomy (goal.at.write-requires-in-Minimum c).In-Minimum)

pub bounds-out-30-in-Minimum : goal.bounds-out-30-in-Minimum
bounds-out-30-in-Minimum c = omega (arith, minimum_roomy (goal.at.bounds-out-30-in-Minimum c).In-Minimum)

pub returns-in-Minimum : goal.returns-in-Minimum
returns-in-Minimum c =
    let here = (goal.at.returns-in-Minimum c).In-Minimum in
    let least = c.in-Minimum.least in
    rw c.in-Minimum.is
    (wrote_line (field 4 least.0 (fields_written (goal.at.returns-in-Minimum c).After-write-4) c.write-in-Minimum.ensures) (minimum_roomy here))
