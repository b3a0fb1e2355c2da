-- `digits::get` meets its contract. The loop's invariant: what is left to be read makes the same word. Assumes nothing.
use Prim.Native.Nat.{ℕ, ◌+◌}
use mathlib.Core.Path.{◌≡◌, ap, ◌∙◌}
use mathlib.Core.List.{[], ◌∷◌}
use lib.ListN.{drop, get_or, drop_of_length-le}
use lib.Seq.{drop-cons}
use native.Mathlib.Numerals.{add-one}
use native.Mathlib.Omega.{arith}
use Rattle.digits.specs.Digits.{digit_of}
use Rattle.digits.specs.Words.{each_byte, gather_of}
use Rattle.digits.proofs.LawsGather.{word_after, guess_low, answer_is}
use Rattle.digits.proofs.get.Goals as goal

pub loop-c-preserved : goal.loop-c-preserved
unfolding word_after
loop-c-preserved c =
    let l = c.loop-c in
    let s = c.args.s.now in
    let e : drop l.c-index s ≡ get_or s l.c-index 0 ∷ drop (l.c-index + 1) s = rw (add-one, drop-cons s l.c-index 0 (omega arith)) in
    rw e at l.invariant

pub gather-number-requires : goal.gather-number-requires
gather-number-requires c = rw c.guess-n.ensures (guess_low 8 c.loop-c.x)

pub spell-requires : goal.spell-requires
spell-requires c = rw c.guess-n.ensures (guess_low 8 c.loop-c.x)

pub returns : goal.returns
unfolding word_after
returns c =
    let l = c.loop-c in
    let s = c.args.s.now in
    let e : drop l.c-index s ≡ [] = drop_of_length-le s {i = l.c-index} (omega arith) in
    let read : l.x ≡ word_after 0x3030303030303030 s = rw e at l.invariant in
    let gathered = c.gather-number.ensures ∙ ap (gather_of 8) c.guess-n.ensures in
    let written = c.spell.ensures ∙ ap (each_byte digit_of 8) c.guess-n.ensures in
    c.then_some.ensures
    ∙ answer_is s (omega arith) (λ (i : ℕ). omega (arith, c.type_inv.s i)) l.x read (omega arith) c.gather-number.result c.spell.result gathered written
