-- `event_lines::writer::write_moved` meets its contract: it is the line of an order at a price, of kind 14. Assumes nothing.
use Rattle.rules.specs.EventLines.{event_line}
use Rattle.event_lines.proofs.writer.write_moved.Goals as goal

pub returns : goal.returns
unfolding event_line
returns c = c.write_at_price.ensures
