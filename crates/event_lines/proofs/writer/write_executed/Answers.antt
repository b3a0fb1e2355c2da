-- `event_lines::writer::write_executed` meets its contract: the fields are written one after the other, then the line feed. Assumes nothing.
use mathlib.Core.Path.{refl}
use native.Mathlib.Omega.{arith}
use Rattle.rules.specs.EventLines.{event_line}
use Rattle.rules.proofs.LawsWriting.{nothing, field, wrote_line}
use Rattle.event_lines.proofs.writer.write_executed.Goals as goal

pub returns : goal.returns
unfolding event_line
returns c =
    let a = c.args in
    let kind = field 1 17 nothing (rw c.number.ensures at c.write.ensures) in
    let incoming = field 4 a.incoming.0 kind c.write-2.ensures in
    let resting = field 4 a.resting.0 incoming c.write-3.ensures in
    let price = field 4 a.price.0 resting c.write-4.ensures in
    let shares = field 4 a.shares.0 price c.write-5.ensures in
    record { value = refl; out_after = wrote_line shares (omega arith) }
