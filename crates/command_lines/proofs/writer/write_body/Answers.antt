-- `command_lines::writer::write_body` meets its contract: an arm for each body. Assumes nothing.
use native.Mathlib.Omega.{arith}
use Rattle.rules.proofs.LawsWriting.{nothing, wrote_line}
use Rattle.command_lines.proofs.writer.write_body.Goals as goal

pub returns-in-Close : goal.returns-in-Close
returns-in-Close c = rw c.in-Close.is (wrote_line nothing (omega arith))
