-- `command_lines::writer::write_quote` meets its contract: the fields are written one after the other, then the line feed. Assumes nothing.
use native.Mathlib.Omega.{arith}
use Rattle.rules.proofs.LawsWriting.{nothing, field, wrote_line}
use Rattle.command_lines.proofs.writer.write_quote.Goals as goal

pub returns : goal.returns
returns c =
    let a = c.args in
    let bid = field 4 a.away.bid.0 nothing c.write.ensures in
    let offer = field 4 a.away.offer.0 bid c.write-2.ensures in
    wrote_line offer (omega arith)
