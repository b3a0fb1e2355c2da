-- `command_lines::reader::read_order` meets its contract: each field fits its type. Assumes nothing.
use mathlib.Core.Path.{sym}
use native.Mathlib.Omega.{arith}
use Rattle.digits.proofs.LawsDigits.{number_at_fits}
use Rattle.command_lines.proofs.reader.read_order.Goals as goal

pub overflow_cast-result : goal.overflow_cast-result
overflow_cast-result c = omega (arith, number_at_fits 1 0 c.in_ok-side.side c.args.s.now (sym c.in_ok-side.ensures))

pub overflow_cast-result-2 : goal.overflow_cast-result-2
overflow_cast-result-2 c = omega (arith, number_at_fits 2 2 c.in_ok-word.word c.args.s.now (sym c.in_ok-word.ensures))
