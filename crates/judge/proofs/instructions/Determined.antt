-- Each public contract determines its result and its bytes: any two outcomes that meet it are equal. A contract is read here
-- as the checker reads it from the source (`Post`), not from a copy. Assumes nothing.
use mathlib.Core.Path.{◌≡◌, sym, ◌∙◌}
use mathlib.Core.Bool.{Bool}
use Rattle.judge.proofs.instructions.has.Reads as has

pub has_determined : (κs : _) (a : _) (r r' : Bool) (s s' : _) → has.Post κs a r s → has.Post κs a r' s' → r ≡ r'
has_determined κs a r r' s s' p q = p ∙ sym q
