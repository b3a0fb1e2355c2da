-- `digits::get`: what its loop keeps.
use mathlib.Core.Path.{◌≡◌}
use lib.ListN.{drop}
use Rattle.digits.proofs.LawsGather.{word_after}
use Rattle.digits.proofs.get.Given as goal

abbrev pub invariant-loop-c : goal.invariant-loop-c
invariant-loop-c l = word_after l.x (drop l.c-index l.s) ≡ word_after 0x3030303030303030 l.s
