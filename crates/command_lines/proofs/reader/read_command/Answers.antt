-- `command_lines::reader::read_command` meets its contract: the header's fields, and the line from digit 18 on as the body's. Assumes
-- nothing.
use Prim.Native.Nat.{ℕ, ◌-◌, ◌≤◌}
use mathlib.Core.Path.{◌≡◌, refl}
use lib.ListN.{length, take, drop, length-drop}
use lib.Seq.{take_all}
use native.Mathlib.Omega.{arith}
use Rattle.std.specs.Prelude.{List, Option, Some, None}
use Rattle.digits.specs.Digits.{number_at}
use Rattle.digits.proofs.LawsDigits.{number_at_short}
use Rattle.rules.specs.CommandLines.{none, also, numbers_from, command_in}
use Rattle.command_lines.proofs.reader.LawsKinds.{body_numbered}
use Rattle.command_lines.proofs.reader.read_command.Goals as goal

also_none : (v : Option ℕ) → also v none ≡ none
also_none (Some n) = refl
also_none None = refl

pub returns-then-s-lt-HEADER : goal.returns-then-s-lt-HEADER
unfolding command_in numbers_from
returns-then-s-lt-HEADER c =
    let s = c.args.s.now in
    rw (number_at_short 4 10 s (omega arith) c.if-s-lt-HEADER.true, also_none (number_at 4 2 s), also_none (number_at 1 0 s))

-- the body's reader is handed the line from digit 18 on
rest : (s : List ℕ) → 18 ≤ length s → take (length s - 18) (drop 18 s) ≡ drop 18 s
rest s h = take_all (length s - 18) (drop 18 s) (simp length-drop (omega arith))

pub returns-in_err-kind : goal.returns-in_err-kind
unfolding command_in numbers_from
returns-in_err-kind c = rw (c.from_residual.ensures, ← c.in_err-kind.ensures)

pub returns-in_err-number : goal.returns-in_err-number
unfolding command_in numbers_from
returns-in_err-number c = rw (c.from_residual-in_err-number.ensures, ← c.in_ok-kind.ensures, ← c.in_err-number.ensures)

pub returns-in_err-time : goal.returns-in_err-time
unfolding command_in numbers_from
returns-in_err-time c = rw (c.from_residual-in_err-time.ensures, ← c.in_ok-kind.ensures, ← c.in_ok-number.ensures, ← c.in_err-time.ensures)

pub returns-in_err-numbered : goal.returns-in_err-numbered
unfolding command_in numbers_from
returns-in_err-numbered c =
    let e = body_numbered c.in_ok-kind.kind (drop 18 c.args.s.now) in
    rw (c.from_residual-in_err-numbered.ensures, ← c.in_ok-kind.ensures, ← c.in_ok-number.ensures, ← c.in_ok-time.ensures, e, ← c.in_err-numbered.ensures)

pub returns-in_err-body : goal.returns-in_err-body
unfolding command_in numbers_from
returns-in_err-body c =
    let s = c.args.s.now in
    let e = body_numbered c.in_ok-kind.kind (drop 18 s) in
    let b = rw (rest s (omega arith)) at c.in_err-body.ensures in
    rw (c.from_residual-in_err-body.ensures, ← c.in_ok-kind.ensures, ← c.in_ok-number.ensures, ← c.in_ok-time.ensures, e, ← c.in_ok-numbered.ensures, ← b)

pub returns : goal.returns
unfolding command_in numbers_from
returns c =
    let s = c.args.s.now in
    let e = body_numbered c.in_ok-kind.kind (drop 18 s) in
    let b = rw (rest s (omega arith)) at c.in_ok-body.ensures in
    rw (← c.in_ok-kind.ensures, ← c.in_ok-number.ensures, ← c.in_ok-time.ensures, e, ← c.in_ok-numbered.ensures, ← b)
