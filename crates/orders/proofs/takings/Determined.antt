-- Each contract that is open to the crates above, or to this one, determines the takings: any two outcomes that meet it are equal. A contract
-- is read here as the checker reads it from the source (`Post`), not from a copy. Assumes nothing.
use mathlib.Core.Path.{◌≡◌, sym, ◌∙◌}
use Rattle.orders.proofs.takings.Takings.new.Reads as New
use Rattle.orders.proofs.takings.Takings.clear.Reads as Clear
use Rattle.orders.proofs.takings.Takings.push.Reads as Push

pub new_determined : (κs : _) (a : _) (r r' : _) (s s' : _) → New.Post κs a r s → New.Post κs a r' s' → r ≡ r'
new_determined κs a r r' s s' p q = p ∙ sym q

pub clear_determined : (κs : _) (a : _) (r r' : _) (s s' : _) → Clear.Post κs a r s → Clear.Post κs a r' s' → s.0.now ≡ s'.0.now
clear_determined κs a r r' s s' p q = p ∙ sym q

pub push_determined : (κs : _) (a : _) (r r' : _) (s s' : _) → Push.Post κs a r s → Push.Post κs a r' s' → s.0.now ≡ s'.0.now
push_determined κs a r r' s s' p q = p ∙ sym q
