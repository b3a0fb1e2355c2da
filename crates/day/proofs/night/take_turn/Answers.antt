-- `day::night::take_turn` meets its contract. Assumes nothing.
use Prim.Native.Nat.{◌-◌}
use mathlib.Core.Bool.{Bool, true, false}
use mathlib.Core.Path.{◌≡◌}
use lib.Dec.{ltb}
use lib.ListN.{length}
use borrow.Author.Tests.{lt-ltb, le-ltb}
use Rattle.std.specs.Prelude.{if◌then◌else◌}
use Rattle.command_lines.specs.Pieces.{part_kept}
use Rattle.rules.specs.Refusals.{least_room}
use Rattle.day.specs.Turns.{turned}
use Rattle.day.proofs.night.LawsTurn.{turn_is}
use Rattle.day.proofs.night.take_turn.Goals as goal
use Rattle.day.proofs.night.take_turn.Goals.{then-is_short, else-is_short}

pub returns : goal.returns
unfolding turned
returns c =
    let a = c.args in
    let f = c.feed-fed in
    let k = c.carry-left in
    let j = c.if-is_short in
    let room = length a.out.now in
    let long : length f.new.out ≡ room = f.auto.out in
    let is_short : Bool = ltb (room - f.result.length) least_room in
    let most : j.most ≡ (if is_short then a.have else part_kept) =
    elim j.branch [
      | then-is_short w ↦ (let t : is_short ≡ true = rw long at (lt-ltb _ _ w.if-is_short.true) in rw t w.most-is)
      | else-is_short w ↦ (let t : is_short ≡ false = rw long at (le-ltb _ _ w.if-is_short.false) in rw t w.most-is)
    ] in
    let (turn, input, left) =
    turn_is room a.book.now a.input.now a.have f.result f.ensures.0 j.most most k.result k.new.input k.ensures.value k.ensures.input_after in
    let (_, book, out, _, printed) = f.ensures in
    (rw long turn, book, input, out, left, printed)
