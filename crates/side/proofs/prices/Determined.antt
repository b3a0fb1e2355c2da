-- Each public contract determines its result: any two outcomes that meet it are equal. A contract is read here as the checker reads it
-- from the source (`Post`), not from a copy. Assumes nothing.
use mathlib.Core.Bool.{Bool}
use mathlib.Core.Path.{◌≡◌, sym, ◌∙◌}
use Rattle.kinds.specs.declared.HalfCents.{HalfCents}
use Rattle.side.proofs.prices.locking_price.Reads as locking-price
use Rattle.side.proofs.prices.within.Reads as within

pub within_determined : (κs : _) (a : _) (r r' : Bool) (s s' : _) → within.Post κs a r s → within.Post κs a r' s' → r ≡ r'
within_determined κs a r r' s s' p q = p ∙ sym q

pub locking_price_determined : (κs : _) (a : _) (r r' : HalfCents) (s s' : _) → locking-price.Post κs a r s → locking-price.Post κs a r' s' → r ≡ r'
locking_price_determined κs a r r' s s' p q = p ∙ sym q
