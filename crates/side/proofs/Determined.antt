-- The public contract determines its result: any two outcomes that meet it are equal. The contract is read here as the checker reads it
-- from the source (`Post`), not from a copy. Assumes nothing.
use mathlib.Core.Bool.{Bool}
use mathlib.Core.Path.{◌≡◌, sym, ◌∙◌}
use Rattle.side.proofs.ranks_before.Reads as ranks-before

pub ranks_before_determined : (κs : _) (a : _) (r r' : Bool) (s s' : _) → ranks-before.Post κs a r s → ranks-before.Post κs a r' s' → r ≡ r'
ranks_before_determined κs a r r' s s' p q = p ∙ sym q
