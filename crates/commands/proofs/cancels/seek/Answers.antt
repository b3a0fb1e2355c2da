-- `commands::cancels::seek` meets its contract: where a hint leads, the order is, and no other of its number. Assumes nothing.
use mathlib.Core.Path.{◌≡◌, refl}
use native.Mathlib.Omega.{arith}
use Rattle.std.specs.Prelude.{Some}
use Rattle.rules.specs.Commands.{is_number}
use Rattle.side.specs.Looking.{rank_of}
use Rattle.commands.proofs.cancels.LawsCancelled.{stopped, ranked, none_ranked, on_second_side, first_once, second_once}
use Rattle.commands.proofs.cancels.seek.Goals as goal

pub follow_hint-requires : goal.follow_hint-requires
follow_hint-requires c = let a = c.args in first_once a.buys.now a.sells.now c.requires

pub follow_hint-requires-2 : goal.follow_hint-requires-2
follow_hint-requires-2 c = let a = c.args in second_once a.buys.now a.sells.now c.requires

pub returns-in-Some-follow_hint : goal.returns-in-Some-follow_hint
returns-in-Some-follow_hint c =
    let a = c.args in
    let found : rank_of a.of a.sells.now ≡ Some c.in-Some-follow_hint.rank = c.follow_hint-2.ensures _ c.in-Some-follow_hint.is in
    let at = ranked a.of a.sells.now c.in-Some-follow_hint.rank found in
    let there = stopped (is_number a.of) a.sells.now (omega (arith, at.0, at.1)) in
    rw (none_ranked a.of a.buys.now (on_second_side a.of a.buys.now a.sells.now c.requires there), found) refl
