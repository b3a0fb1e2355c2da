-- `event_lines::writer::write_refusal` meets its contract: the fields are written one after the other, then the line feed. Assumes nothing.
use mathlib.Core.Path.{refl}
use native.Mathlib.Omega.{arith}
use Rattle.rules.specs.EventLines.{refusal_line}
use Rattle.rules.proofs.LawsWriting.{nothing, field, wrote_line}
use Rattle.event_lines.proofs.writer.write_refusal.Goals as goal

pub returns : goal.returns
unfolding refusal_line
returns c =
    let a = c.args in
    let kind = field 1 31 nothing c.write.ensures in
    let refusal = field 1 a.refusal kind c.write-2.ensures in
    record { value = refl; out_after = wrote_line refusal (omega arith) }
