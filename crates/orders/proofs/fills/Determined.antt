-- Each public contract determines the side that it leaves: any two outcomes that meet it are equal. A contract is read here as the checker
-- reads it from the source (`Post`), not from a copy. Assumes nothing.
use mathlib.Core.Path.{◌≡◌, sym, ◌∙◌}
use Rattle.orders.proofs.fills.take_off.Reads as take-off

pub take_off_determined : (κs : _) (a : _) (r r' : _) (s s' : _) → take-off.Post κs a r s → take-off.Post κs a r' s' → s.0.now ≡ s'.0.now
take_off_determined κs a r r' s s' p q = p ∙ sym q
