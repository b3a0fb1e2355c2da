-- `tally_day::decimal_in` meets its contract. The loop's invariant (`Reading`): the digits so far wrote the value. Assumes nothing.
use Prim.Native.Nat.{◌+◌, ◌-◌, ◌*◌}
use mathlib.Core.Bool.{true, false}
use mathlib.Core.Path.{◌≡◌, sym, ◌∙◌}
use lib.Dec.{eqb, ltb}
use lib.ListN.{length, get_or}
use native.Mathlib.Omega.{arith}
use borrow.Author.Tests.{le-ltb}
use Rattle.tally_day.specs.Decimal.{is_decimal}
use Rattle.tally_day.proofs.LawsDecimal.{OfLength, reading_end, reading_other, reading_digit, reading_large}
use Rattle.tally_day.proofs.decimal_in.Goals as goal
use Rattle.tally_day.proofs.decimal_in.Goals.{At-loop-c, Else-not-is_ascii_digit}

-- neither no digits nor too many
of_length : (c : At-loop-c) → OfLength c.args.s.now
of_length c =
    let some : eqb (length c.args.s.now) 0 ≡ false = sym c.is_empty.ensures ∙ c.if-is_empty.false in
    let few : ltb 10 (length c.args.s.now) ≡ false = le-ltb 10 (length c.args.s.now) c.if-s-gt10.false in
    rw (some, few)

digit : (c : Else-not-is_ascii_digit) → is_decimal (get_or c.args.s.now c.loop-c.c-index 0) ≡ true
digit c = sym c.is_ascii_digit.ensures.value ∙ c.if-not-is_ascii_digit.false

pub returns-then-not-is_ascii_digit : goal.returns-then-not-is_ascii_digit
returns-then-not-is_ascii_digit c =
    let l = c.loop-c in
    reading_other c.args.s.now (of_length (goal.at.returns-then-not-is_ascii_digit c).At-loop-c) l.value l.c-index l.invariant c.loop-c-test.true
    (sym c.is_ascii_digit.ensures.value ∙ c.if-not-is_ascii_digit.true)

pub returns-in_err-checked_mul : goal.returns-in_err-checked_mul
returns-in_err-checked_mul c =
    let l = c.loop-c in
    c.from_residual.ensures
    ∙ reading_large c.args.s.now (of_length (goal.at.returns-in_err-checked_mul c).At-loop-c) l.value l.c-index l.invariant c.loop-c-test.true
    (digit (goal.at.returns-in_err-checked_mul c).Else-not-is_ascii_digit) (omega (arith, c.in_err-checked_mul.ensures))

pub returns-in_err-value : goal.returns-in_err-value
returns-in_err-value c =
    let l = c.loop-c in
    c.from_residual-in_err-value.ensures
    ∙ reading_large c.args.s.now (of_length (goal.at.returns-in_err-value c).At-loop-c) l.value l.c-index l.invariant c.loop-c-test.true
    (digit (goal.at.returns-in_err-value c).Else-not-is_ascii_digit) (omega (arith, c.in_err-value.ensures, c.in_ok-checked_mul.ensures))

pub loop-c-preserved : goal.loop-c-preserved
loop-c-preserved c =
    let l = c.loop-c in
    let more = l.value * 10 + (get_or c.args.s.now l.c-index 0 - 48) in
    let is : c.in_ok-value.value ≡ more = omega (arith, c.in_ok-value.ensures, c.in_ok-checked_mul.ensures) in
    rw is
    (reading_digit c.args.s.now (of_length (goal.at.loop-c-preserved c).At-loop-c) l.value l.c-index l.invariant c.loop-c-test.true
    (digit (goal.at.loop-c-preserved c).Else-not-is_ascii_digit) (omega (arith, c.in_ok-value.ensures, c.in_ok-checked_mul.ensures)))

pub returns : goal.returns
returns c =
    let l = c.loop-c in
    reading_end c.args.s.now (of_length (goal.at.returns c).At-loop-c) l.value l.c-index l.invariant (omega (arith, c.loop-c-test.false))
