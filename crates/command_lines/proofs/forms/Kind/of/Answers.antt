-- `command_lines::forms::Kind::of` meets its contract: the fields of every body have 32 bits, and those of an order fit. Assumes nothing.
use native.Mathlib.Omega.{arith}
use Rattle.rules.specs.CommandLines.{empty, fits}
use Rattle.command_lines.proofs.forms.Kind.of.Goals as goal

pub returns-in-Cancel-clause-fitting : goal.returns-in-Cancel-clause-fitting
returns-in-Cancel-clause-fitting c = rw c.in-Cancel.is (fits 4 c.in-Cancel.number.0 (omega arith) empty)

pub returns-in-Quote-clause-fitting : goal.returns-in-Quote-clause-fitting
returns-in-Quote-clause-fitting c =
    let a = c.in-Quote.away in
    rw c.in-Quote.is (fits 4 a.bid.0 (omega arith) (fits 4 a.offer.0 (omega arith) empty))

pub returns-in-Close-clause-fitting : goal.returns-in-Close-clause-fitting
returns-in-Close-clause-fitting c = rw c.in-Close.is empty
