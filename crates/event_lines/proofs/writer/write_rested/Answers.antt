-- `event_lines::writer::write_rested` meets its contract: it is the line of an order at a price, of kind 12. Assumes nothing.
use Rattle.rules.specs.EventLines.{event_line}
use Rattle.event_lines.proofs.writer.write_rested.Goals as goal

pub returns : goal.returns
unfolding event_line
returns c = c.write_at_price.ensures
