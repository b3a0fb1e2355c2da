-- `event_lines::reader::read_cancelled` meets its contract: a reason fits its type. Assumes nothing.
use native.Mathlib.Omega.{arith}
use Rattle.event_lines.proofs.reader.LawsEventReader.{field_fits}
use Rattle.event_lines.proofs.reader.read_cancelled.Goals as goal

pub overflow_cast-result : goal.overflow_cast-result
overflow_cast-result c = omega (arith, field_fits 1 18 c.in_ok-reason.reason c.args.s.now c.in_ok-reason.ensures)
