-- `command_lines::lines::carry` meets its contract: the bytes that are carried are moved to the front. Assumes nothing.
use Prim.Native.Nat.{ℕ, ◌+◌, ◌-◌, ◌≤◌, ◌<◌, min}
use mathlib.Core.List.{List}
use mathlib.Core.Logic.{⊎_elim}
use mathlib.Core.Path.{◌≡◌, sym, ap, ◌∙◌}
use lib.ListN.{length, take, drop, length-take, length-drop}
use lib.Seq.{take-take, take_all}
use native.Mathlib.Omega.{arith}
use Rattle.std.proofs.lemmas.List.{drop-take}
use Rattle.basics.specs.Bytes.{onto}
use Rattle.basics.proofs.LawsChoice.{lt_or_le}
use Rattle.command_lines.specs.Pieces.{carried}
use Rattle.command_lines.proofs.lines.carry.Goals as goal

-- what is carried is so many bytes from a place on
module _ (a : List ℕ) (from end most n : ℕ) (h : from ≤ end) (l : end ≤ length a) (e : n ≡ min most (end - from)) where
  carried_is : carried a from end most ≡ take n (drop from a)
  carried_is =
      let m = end - from in
      let s : from + m ≡ end = omega arith in
      let front : drop from (take end a) ≡ take m (drop from a) = ap (λ (k : ℕ). drop from (take k a)) (sym s) ∙ drop-take from m a in
      ap (take most) front
      ∙ ⊎_elim
      (λ (g : m < most).
      let k : n ≡ m = omega arith in
      rw k (take_all most (take m (drop from a)) (simp (length-take, length-drop) (omega arith))))
      (λ (g : most ≤ m).
      let k : n ≡ most = omega arith in
      rw k (take-take most m (drop from a) g))
      (lt_or_le m most)

  length_carried : length (carried a from end most) ≡ n
  length_carried = rw carried_is (simp (length-take, length-drop) (omega arith))

pub returns-clause-input_after : goal.returns-clause-input_after
unfolding onto
returns-clause-input_after c =
    let a = c.args in
    let n = c.min-kept.result in
    let few : a.from + n - a.from ≡ n = omega arith in
    let none : 0 + n ≡ n = omega arith in
    let is = carried_is a.input.now a.from a.end a.most n (omega arith) (omega arith) c.min-kept.ensures in
    let long = length_carried a.input.now a.from a.end a.most n (omega arith) (omega arith) c.min-kept.ensures in
    c.copy_within.ensures.after ∙ rw (few, none, long, is)
