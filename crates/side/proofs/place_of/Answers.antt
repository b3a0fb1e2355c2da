-- `side::place_of` meets its contract: it looks at a place before it hands it on. Assumes nothing.
use Prim.Native.Nat.{◌+◌, ◌<◌}
use mathlib.Core.Bool.{true, false}
use mathlib.Core.Logic.{⊎_elim}
use mathlib.Core.Path.{◌≡◌}
use lib.Dec.{eqb}
use lib.ListN.{get_or}
use native.Mathlib.Omega.{arith}
use Rattle.std.specs.Prelude.{if◌then◌else◌}
use Rattle.basics.proofs.LawsChoice.{holds_or_not}
use Rattle.side.specs.Table.{places_a_part}
use Rattle.side.proofs.rows.LawsSteps.{steps, step_at}
use Rattle.side.proofs.place_of.Goals as goal

pub loop-i-preserved : goal.loop-i-preserved
loop-i-preserved c =
    let l = c.loop-part in
    let m = c.loop-i in
    let a = c.args in
    let b = get_or a.x.now (l.part + m.i) 0 in
    let h : c.here.result ≡ (if eqb b a.slot then get_or steps m.i 0 else 0) = c.here.ensures in
    let it = rw (step_at m.i (omega arith)) at h in
    let below : c.here.result < places_a_part =
    ⊎_elim
    (λ (t : eqb b a.slot ≡ true). omega (arith, rw t at it))
    (λ (t : eqb b a.slot ≡ false). omega (arith, rw t at it))
    (holds_or_not (eqb b a.slot)) in
    (omega arith, omega (arith, below))
