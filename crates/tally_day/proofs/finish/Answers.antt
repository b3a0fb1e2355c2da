-- `tally_day::finish` meets its contract: no part, or a line. Assumes nothing.
use mathlib.Core.List.{List, [], ◌∷◌}
use mathlib.Core.Path.{◌≡◌, refl, sym, ◌∙◌}
use Prim.Native.Nat.{ℕ, ◌<◌}
use lib.ListN.{length}
use native.Mathlib.Omega.{arith}
use borrow.Author.Tests.{eqb-true, eqb-false}
use Rattle.kinds.specs.declared.Number.{Number}
use Rattle.command_lines.specs.Pieces.{after_lines, after_part}
use Rattle.rules.specs.Day.{unended_line}
use Rattle.tally.specs.declared.Tally.{Tally}
use Rattle.tally.specs.Tally.{turn}
use Rattle.tally_day.proofs.finish.Goals as goal

module _ (n : Number) (t : Tally) where
  no_part : (part : List ℕ) → length part ≡ 0 → t ≡ after_part (turn n) t part
  unfolding unended_line after_lines
  no_part [] e = refl
  no_part (c ∷ part) e = absurd (omega (arith, e))

  some_part : (part : List ℕ) → 0 < length part → turn n t part ≡ after_part (turn n) t part
  unfolding unended_line after_lines
  some_part [] l = absurd (omega (arith, l))
  some_part (c ∷ part) l = refl

pub returns-then-is_empty : goal.returns-then-is_empty
returns-then-is_empty c =
    let a = c.args in
    no_part a.number a.t a.part.now (eqb-true _ _ (sym c.is_empty.ensures ∙ c.if-is_empty.true))

pub returns : goal.returns
returns c =
    let a = c.args in
    let some = eqb-false (length a.part.now) 0 (sym c.is_empty.ensures ∙ c.if-is_empty.false) in
    c.take_line.ensures ∙ some_part a.number a.t a.part.now (omega (arith, some))
