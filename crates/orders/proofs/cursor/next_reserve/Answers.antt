-- `orders::cursor::next_reserve` meets its contract. Assumes nothing.
use mathlib.Core.Path.{◌≡◌}
use lib.ListN.{get_or}
use native.Mathlib.Omega.{arith}
use Rattle.rules.specs.Book.{unused}
use Rattle.orders.proofs.cursor.LawsAhead.{next_reserve}
use Rattle.orders.proofs.cursor.next_reserve.Goals as goal

pub returns : goal.returns
returns c =
    let a = c.args in
    let p = c.requires in
    let o : c.at-o.result ≡ get_or a.t.now a.c.waits unused = c.at-o.ensures in
    let skipped = c.skip.ensures in
    record {
      list = rw o (next_reserve a.t.now a.c c.skip.result p.ends p.stands p.waits skipped);
      place = omega arith;
      at = omega arith;
      stands = record { within = p.stands.within; behind = skipped.before; waits = skipped.found };
    }
