-- `day::replay::begin` makes a sound book: the fresh one. Assumes nothing.
use Rattle.soundness.proofs.LawsKept.{fresh_sound}
use Rattle.day.proofs.replay.begin.Goals as goal

pub invariant_of-result : goal.invariant_of-result
invariant_of-result c = rw (c.fresh_held.ensures, c.empty.ensures, c.empty-2.ensures) fresh_sound
