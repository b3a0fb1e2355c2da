-- `digits::field_at` meets its contract: one law over the width. Assumes nothing.
use Prim.Native.Nat.{◌+◌, ◌*◌, ◌<◌}
use mathlib.Core.Logic.{⊎_elim}
use mathlib.Core.Path.{sym, ◌∙◌}
use lib.ListN.{length}
use native.Mathlib.Omega.{arith}
use Rattle.digits.proofs.LawsDigits.{number_at_short, number_at_whole}
use Rattle.digits.proofs.field_at.Goals as goal

pub returns-in_err-get : goal.returns-in_err-get
returns-in_err-get c =
    let a = c.args in
    let short : length a.s.now < a.at + 2 * a.w = ⊎_elim (λ h. omega arith) (λ h. h) c.in_err-get.ensures.lookup.0 in
    c.from_residual.ensures ∙ sym (number_at_short a.w a.at a.s.now (omega arith) short)

pub returns : goal.returns
returns c =
    let a = c.args in
    let part = c.in_ok-get.ensures.lookup.0 in
    rw part.2 at c.get-2.ensures ∙ sym (number_at_whole a.w a.at a.s.now part.1)
