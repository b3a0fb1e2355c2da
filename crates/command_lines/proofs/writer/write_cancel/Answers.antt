-- `command_lines::writer::write_cancel` meets its contract: the fields are written one after the other, then the line feed. Assumes nothing.
use native.Mathlib.Omega.{arith}
use Rattle.rules.proofs.LawsWriting.{nothing, field, wrote_line}
use Rattle.command_lines.proofs.writer.write_cancel.Goals as goal

pub returns : goal.returns
returns c =
    let a = c.args in
    let number = field 4 a.number.0 nothing c.write.ensures in
    wrote_line number (omega arith)
