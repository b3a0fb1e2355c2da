-- `judge::order_lawful` meets its contract: each call says what the definition says at its place. Assumes nothing.

use Rattle.judge.proofs.order_lawful.Goals as goal

pub returns : goal.returns
returns c = rw (
  c.has-2.ensures,
  c.carries_minimum.ensures,
  c.carries_floor.ensures,
  c.has.ensures,
  c.lawful.ensures,
)
