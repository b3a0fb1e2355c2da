-- Each public contract determines its result and its bytes: any two outcomes that meet it are equal. A contract is read here
-- as the checker reads it from the source (`Post`), not from a copy. Assumes nothing.
use mathlib.Core.Path.{◌≡◌, sym, ◌∙◌}
use Rattle.rules.specs.EventReading.{EventReading}
use Rattle.event_lines.proofs.reader.read_event.Reads as read-event

pub read_event_determined : (κs : _) (a : _) (r r' : EventReading) (s s' : _) → read-event.Post κs a r s → read-event.Post κs a r' s' → r ≡ r'
read_event_determined κs a r r' s s' p q = p ∙ sym q
