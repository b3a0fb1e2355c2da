-- `orders::cursor::skip`: what its loop keeps.
use mathlib.Core.Path.{◌≡◌}
use Rattle.orders.specs.Cursor.{waiting}
use Rattle.orders.proofs.cursor.skip.Given as goal

abbrev pub invariant-loop-rank : goal.invariant-loop-rank
invariant-loop-rank l = waiting l.t l.rank l.to ≡ waiting l.t l.from l.to
