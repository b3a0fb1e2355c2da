-- `command_lines::lines::first_line` meets its contract: what reads as a command is the first line, and where nothing does, that line is none.
-- Assumes nothing.
use Prim.Native.Nat.{suc, ◌+◌, ◌-◌, ◌<◌}
use mathlib.Core.Path.{◌≡◌, sym, ◌∙◌}
use lib.ListN.{length, get_or, take}
use native.Mathlib.Omega.{arith}
use Rattle.rules.specs.CommandLines.{command_in}
use Rattle.command_lines.specs.Lines.{digits_after}
use Rattle.command_lines.proofs.lines.LawsFirst.{first_command, first_other}
use Rattle.command_lines.proofs.lines.first_line.Goals as goal
use Rattle.std.specs.Prelude.{Some, None}

-- too short for a second byte
pub returns-then-s-lt2 : goal.returns-then-s-lt2
returns-then-s-lt2 c =
    let s = c.args.s.now in
    c.other_line.ensures ∙ first_other s (λ (l : 1 < length s). absurd (omega (arith, l, c.if-s-lt2.true)))

-- too short for the command that the second byte tells
pub returns-then-s-n : goal.returns-then-s-n
returns-then-s-n c =
    let s = c.args.s.now in
    let n : c.digits_after-n.result ≡ digits_after (get_or s 1 0) = c.digits_after-n.ensures in
    c.other_line-then-s-n.ensures ∙ first_other s (λ _ (l : digits_after (get_or s 1 0) < length s). absurd (omega (arith, l, n, c.if-s-n.true)))

-- not the command that the second byte tells
pub returns-in_default : goal.returns-in_default
returns-in_default c =
    let s = c.args.s.now in
    let k = c.digits_after-n.result in
    let n : k ≡ digits_after (get_or s 1 0) = c.digits_after-n.ensures in
    let all : k + 1 - 0 ≡ suc k = omega arith in
    let bad : command_in (take (k + 1 - 0) s) ≡ None = sym c.read_command.ensures ∙ c.in_default.is in
    c.other_line-in_default.ensures ∙ first_other s (λ _ _. rw (all, n) at bad)

-- that command
pub returns : goal.returns
returns c =
    let s = c.args.s.now in
    let k = c.digits_after-n.result in
    let all : k + 1 - 0 ≡ suc k = omega arith in
    let is : command_in (take (k + 1 - 0) s) ≡ Some _ = sym c.read_command.ensures ∙ c.in-Some.is in
    first_command s k _ (omega (arith, c.if-s-n.false)) (rw all at is)
