-- `tally_day::decimal_in`: what its loop keeps.
use Rattle.tally_day.proofs.LawsDecimal.{Reading}
use Rattle.tally_day.proofs.decimal_in.Given as goal

abbrev pub invariant-loop-c : goal.invariant-loop-c
invariant-loop-c l = Reading l.s l.value l.c-index
