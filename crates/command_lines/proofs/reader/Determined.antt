-- Each public contract determines its result and its bytes: any two outcomes that meet it are equal. A contract is read here
-- as the checker reads it from the source (`Post`), not from a copy. Assumes nothing.
use mathlib.Core.Path.{◌≡◌, sym, ◌∙◌}
use Rattle.rules.specs.CommandLines.{Reading}
use Rattle.command_lines.proofs.reader.read_command.Reads as read-command

pub read_command_determined : (κs : _) (a : _) (r r' : Reading) (s s' : _) → read-command.Post κs a r s → read-command.Post κs a r' s' → r ≡ r'
read_command_determined κs a r r' s s' p q = p ∙ sym q
