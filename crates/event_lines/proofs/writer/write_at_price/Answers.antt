-- `event_lines::writer::write_at_price` meets its contract: the fields are written one after the other, then the line feed. Assumes nothing.
use mathlib.Core.Path.{refl}
use native.Mathlib.Omega.{arith}
use Rattle.rules.proofs.LawsWriting.{nothing, field, wrote_line}
use Rattle.event_lines.specs.Forms.{code_of}
use Rattle.event_lines.proofs.writer.write_at_price.Goals as goal

pub returns : goal.returns
returns c =
    let a = c.args in
    let kind = field 1 (code_of a.kind) nothing (rw c.number.ensures at c.write.ensures) in
    let number = field 4 a.number.0 kind c.write-2.ensures in
    let price = field 4 a.price.0 number c.write-3.ensures in
    let shares = field 4 a.shares.0 price c.write-4.ensures in
    record { value = refl; out_after = wrote_line shares (omega arith) }
