-- `command_lines::writer::write_header` meets its contract: the fields are written one after the other. Assumes nothing.
use Rattle.rules.proofs.LawsWriting.{nothing, field, wrote}
use Rattle.command_lines.specs.Forms.{code_of}
use Rattle.command_lines.proofs.writer.write_header.Goals as goal

pub returns : goal.returns
returns c =
    let a = c.args in
    let kind = field 1 (code_of a.kind) nothing (rw c.number.ensures at c.write.ensures) in
    let number = field 4 a.number.0 kind c.write-2.ensures in
    let time = field 4 a.time number c.write-3.ensures in
    wrote time
